use Rattle.std.proofs.Common.{◌≡◌, ◌≢◌, ℕ, ◌+◌, ◌==◌, false, List, [], length, ◌∙◌, refl, sym, ap, add-one, arith}
use Rattle.std.proofs.lemmas.Bool.Decides.{nat_tests}
use Rattle.std.proofs.lemmas.Grind.{common_steps}
use Rattle.regress_match.specs.GroupRanges.{range_numbered, numbered}
use Rattle.regress_match.specs.GroupViews.{names_of_match}
use Rattle.regress_match.proofs.RangeLemmas.{first_named-at, first_named-nowhere, named-some}
use Rattle.regress_match.proofs.found.Match.named_group.Goals as goal

-- a text that is not told empty is not
some : (name : List ℕ) → false ≡ (length name == 0) → name ≢ []
some name told e = let none : length name ≡ 0 = ap length e in grind (arith, nat_tests, common_steps)

pub returns-in_err-first_named-clause-value : goal.returns-in_err-first_named-clause-value
returns-in_err-first_named-clause-value c =
    let m = c.args.self.now in
    let nowhere = rw c.deref.ensures.value at c.in_err-first_named.ensures.nowhere in
    c.from_residual.ensures
    ∙ sym (named-some (names_of_match m) m.captures.items c.args.name.now (some c.args.name.now c.if-is_empty.ensures) ∙ first_named-nowhere c.args.name.now (names_of_match m) m.captures.items nowhere)

pub returns-clause-value : goal.returns-clause-value
returns-clause-value c =
    let m = c.args.self.now in
    let k = c.in_ok-first_named.field-0 in
    let there = rw c.deref.ensures.value at c.in_ok-first_named.ensures.there.1 in
    let first = rw c.deref.ensures.value at c.in_ok-first_named.ensures.first in
    let here : range_numbered m (k + 1) ≡ numbered m.captures.items k = rw (add-one k) refl in
    c.group.ensures.value ∙ here
    ∙ sym (named-some (names_of_match m) m.captures.items c.args.name.now (some c.args.name.now c.if-is_empty.ensures) ∙ first_named-at c.args.name.now (names_of_match m) m.captures.items k there first)
