use Rattle.std.specs.Prelude.{Option, None, Some, drop}
use Rattle.std.proofs.Common.{◌≡◌, ◌-◌, ℕ, length, take, take_all, length-drop, subst, rules, arith}
use Rattle.regress_engine_search.specs.Prefiltering.{IsNextHit}
use Rattle.regress_engine_search.proofs.PrefilterLemmas.{found-behind}
use Rattle.regress_engine_search.proofs.prefilter.Prefilter.find_behind.Goals as goal

pub returns-in_err-index : goal.returns-in_err-index
returns-in_err-index c =
    let start = c.args.self.now.start.now in
    let text = c.args.text.now in
    let size = length-drop c.args.offset text in
    let rest : take (length text - c.args.offset) (drop c.args.offset text) ≡ drop c.args.offset text = take_all _ _ (omega (arith, size)) in
    let none : IsNextHit start (drop c.args.offset text) 0 None = subst (λ bytes. IsNextHit start bytes 0 None) rest c.in_err-index.ensures.first in
    let same : ◌≡◌ {A = Option ℕ} None c.from_residual.result = search rules in
    subst (IsNextHit start text c.args.offset) same (found-behind start c.requires.anchored c.requires.near text c.args.offset None none)

pub returns : goal.returns
returns c =
    let start = c.args.self.now.start.now in
    let text = c.args.text.now in
    let size = length-drop c.args.offset text in
    let rest : take (length text - c.args.offset) (drop c.args.offset text) ≡ drop c.args.offset text = take_all _ _ (omega (arith, size)) in
    let index = c.in_ok-index.index in
    let some : IsNextHit start (drop c.args.offset text) 0 (Some index) = subst (λ bytes. IsNextHit start bytes 0 (Some index)) rest c.in_ok-index.ensures.first in
    found-behind start c.requires.anchored c.requires.near text c.args.offset (Some index) some
