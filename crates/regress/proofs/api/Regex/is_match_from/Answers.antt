use Rattle.std.specs.Str.{chars}
use Rattle.regress_meaning.specs.Offsets.{of_utf8, told}
use Rattle.regress_meaning.specs.Pattern.{names_of}
use Rattle.std.proofs.Common.{length}
use Rattle.regress.specs.Standing.{tree_list}
use Rattle.regress.proofs.ListedLemmas.{pattern-in_text}
use Rattle.regress.proofs.AskingLemmas.{found-some}
use Rattle.regress.proofs.IterationLemmas.{first-given}
use Rattle.regress.proofs.api.Regex.is_match_from.Goals as goal

pub returns-clause-found_of_tree : goal.returns-clause-found_of_tree
returns-clause-found_of_tree c = λ n t laid place begins.
    let text = c.args.text.now in
    let items = tree_list c.args.self.now n t (chars text) place in
    let first = first-given _ _ _ c.next.result (told (of_utf8 text)) items c.next.ensures.steps.2.first (c.in_ok-find_from.ensures.matches_of_tree n t laid place begins) in
    let found = rw (← c.transpose.ensures, c.in_ok-transpose.was) at first in
    rw c.is_some.ensures (found-some (told (of_utf8 text)) items c.in_ok-transpose.field-0 found)

pub returns-clause-found : goal.returns-clause-found
returns-clause-found c = λ t o p stands place begins.
    rw (pattern-in_text c.args.self.now.compiled.byte_program t o p stands c.args.text.now c.utf8.text place)
    (returns-clause-found_of_tree c (length (names_of p)) stands.node (stands.well_formed, stands.layout) place begins)
