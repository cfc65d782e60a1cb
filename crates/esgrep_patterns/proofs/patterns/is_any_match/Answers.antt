use Rattle.std.proofs.Common.{◌≡◌, Err, suc, refl, sym, ap, ◌∙◌, arith, add-one, chars, drop, length}
use Rattle.esgrep_patterns.specs.Seeking.{leftmost, IsTooLong}
use Rattle.esgrep_patterns.proofs.HitLemmas.{sought-at, sought-end}
use Rattle.esgrep_patterns.proofs.SeveralLemmas.{any-first, none-first, list-none}
use Rattle.esgrep_patterns.proofs.BoundLemmas.{handed-same, any-too_long}
use Rattle.esgrep_patterns.proofs.patterns.is_any_match.Goals as goal

pub returns-in_err-has_match-clause-given : goal.returns-in_err-has_match-clause-given
returns-in_err-has_match-clause-given c = λ err.
    any-too_long (IsTooLong c.args.steps c.args.text.now) c.args.regexes.now c.loop-regex.regex-index c.regex-item.result c.regex-item.is (omega (arith, c.loop-regex-test.true))
    (c.in_err-has_match.ensures.given (ap Err (handed-same c.from_residual.result _ _ c.from_residual.ensures.1 err)))

pub returns-then-branch-clause-found : goal.returns-then-branch-clause-found
returns-then-branch-clause-found c = λ ss seek.
    let text = c.args.text.now in
    let (s, seeks, next) = sought-at c.args.regexes.now ss c.loop-regex.regex-index c.regex-item.result c.regex-item.is (omega (arith, c.loop-regex-test.true)) seek in
    let found = c.in_ok-has_match.ensures.found s.table s.options s.pattern seeks.0 in
    let some = rw c.if-branch.true at found in (
      λ yes none. any-first text s (drop (suc c.loop-regex.regex-index) ss) (some.0 refl) (ap (λ ss. leftmost (chars text) ss 0) (sym next) ∙ c.loop-regex.invariant ss seek ∙ none),
      λ some. refl,
    )

pub loop-regex-preserved : goal.loop-regex-preserved
loop-regex-preserved c = λ ss seek.
    let text = c.args.text.now in
    let (s, seeks, next) = sought-at c.args.regexes.now ss c.loop-regex.regex-index c.regex-item.result c.regex-item.is (omega (arith, c.loop-regex-test.true)) seek in
    let found = c.in_ok-has_match.ensures.found s.table s.options s.pattern seeks.0 in
    let some = rw c.if-branch.false at found in
    rw add-one (sym (none-first text s (drop (suc c.loop-regex.regex-index) ss) (list-none _ (λ is. let no = some.1 is in cc no))) ∙ ap (λ ss. leftmost (chars text) ss 0) (sym next) ∙ c.loop-regex.invariant ss seek)

pub returns-clause-found : goal.returns-clause-found
returns-clause-found c = λ ss seek.
    let text = c.args.text.now in
    let last : c.loop-regex.regex-index ≡ length c.args.regexes.now = omega (arith, c.loop-regex-test.false, c.loop-regex.auto.regex-index-end) in
    let rest = ap (λ k. drop k ss) last ∙ sought-end c.args.regexes.now ss seek in
    let none = sym (c.loop-regex.invariant ss seek) ∙ ap (λ ss. leftmost (chars text) ss 0) rest in
    (λ yes none. cc yes, λ some. absurd (some none))
