use Rattle.std.specs.Prelude.{chars}
use Rattle.regress_meaning.specs.Matches.{Item}
use Rattle.regress_meaning.specs.Offsets.{of_utf8, told}
use Rattle.regress_meaning.specs.Pattern.{names_of}
use Rattle.std.proofs.Common.{◌≡◌, ℕ, List, Option, None, Some, Result, Ok, Err, IfOk, IfSome, length, subst}
use Rattle.std.specs.Option.{option_transpose}
use Rattle.regress_front_core.specs.declared.error.Error.{Error}
use Rattle.regress_match.specs.Iterating.{GivesFirst}
use Rattle.regress_match.specs.TextRanges.{IsMatchIn, LiesBetween}
use Rattle.regress_match.specs.declared.found.Match.{Match}
use Rattle.regress.specs.Standing.{tree_list}
use Rattle.regress.proofs.ListedLemmas.{pattern-in_text}
use Rattle.regress.proofs.IterationLemmas.{first-given, starts-given}
use Rattle.regress.proofs.api.Regex.find.Goals as goal

pub returns-clause-found_of_tree : goal.returns-clause-found_of_tree
returns-clause-found_of_tree c = λ n t laid.
    let bytes = c.args.text.now in
    let items = tree_list c.args.self.now n t (chars bytes) 0 in
    rw c.transpose.ensures
    (first-given _ _ _ c.next.result (told (of_utf8 bytes)) items c.next.ensures.steps.2.first (c.in_ok-find_iter.ensures.matches_of_tree n t laid))

pub returns-clause-found : goal.returns-clause-found
returns-clause-found c = λ t o p stands.
    rw (pattern-in_text c.args.self.now.compiled.byte_program t o p stands c.args.text.now c.utf8.text 0)
    (returns-clause-found_of_tree c (length (names_of p)) stands.node (stands.well_formed, stands.layout))

pub returns-clause-starts : goal.returns-clause-starts
returns-clause-starts c =
    let bytes = c.args.text.now in
    rw (c.transpose.ensures)
    (starts-given bytes c.utf8.text _ c.in_ok-find_iter.ensures.over _ _ _ c.next.result c.next.ensures.steps.2.first)

-- what a step gave lies in the text
inside-given : (bytes text : List ℕ) → text ≡ bytes → (names : List (List ℕ)) (before after : List Item) (given : Option (Result Match Error))
    → GivesFirst (IsMatchIn text names) before given after → IfOk (option_transpose given) (λ found. IfSome found (λ m. LiesBetween bytes m.range))
inside-given bytes text same names before after None first = tt
inside-given bytes text same names before after (Some (Ok m)) first = subst (λ (t : List ℕ). LiesBetween t m.range) same first.1.0.0
inside-given bytes text same names before after (Some (Err e)) first = tt

pub returns-clause-inside : goal.returns-clause-inside
returns-clause-inside c =
    rw (c.transpose.ensures)
    (inside-given c.args.text.now _ c.in_ok-find_iter.ensures.over _ _ _ c.next.result c.next.ensures.steps.2.first)
