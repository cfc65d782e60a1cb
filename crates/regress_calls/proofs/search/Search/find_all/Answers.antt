use Rattle.std.proofs.Common.{◌≡◌, ◌+◌, length, sym, subst, arith}
use Rattle.std.specs.Arc.{arc_value}
use Rattle.regress.specs.declared.api.Regex.{Regex}
use Rattle.regress.specs.Standing.{names_of_regex}
use Rattle.regress_calls.specs.Texts.{StandsIn}
use Rattle.regress_calls.proofs.search.Search.find_all.Goals as goal

pub returns-in-Ok-clause-found : goal.returns-in-Ok-clause-found
returns-in-Ok-clause-found c = λ t o p stands place begins.
    let regex = arc_value c.args.self.now.regex in
    let stood = subst (λ (x : Regex). StandsIn c.args.text x t o p) (sym c.deref.ensures) stands in
    let long : length c.deref_mut.result.now ≡ length (names_of_regex regex) + 1 = omega (arith, c.deref_mut.ensures.len, c.args.self.now.counted) in
    let shown = c.many_in-scratch.ensures.found t o p stood (length (names_of_regex regex)) long place begins in
    rw c.in-Ok.is at shown

pub returns-in-Ok-clause-before : goal.returns-in-Ok-clause-before
returns-in-Ok-clause-before c = λ t o p stands place begins.
    let regex = arc_value c.args.self.now.regex in
    let stood = subst (λ (x : Regex). StandsIn c.args.text x t o p) (sym c.deref.ensures) stands in
    let long : length c.deref_mut.result.now ≡ length (names_of_regex regex) + 1 = omega (arith, c.deref_mut.ensures.len, c.args.self.now.counted) in
    c.many_in-scratch.ensures.before t o p stood (length (names_of_regex regex)) long place begins

pub returns-in-Err-clause-before : goal.returns-in-Err-clause-before
returns-in-Err-clause-before c = λ t o p stands place begins.
    let regex = arc_value c.args.self.now.regex in
    let stood = subst (λ (x : Regex). StandsIn c.args.text x t o p) (sym c.deref.ensures) stands in
    let long : length c.deref_mut.result.now ≡ length (names_of_regex regex) + 1 = omega (arith, c.deref_mut.ensures.len, c.args.self.now.counted) in
    c.many_in-scratch.ensures.before t o p stood (length (names_of_regex regex)) long place begins
