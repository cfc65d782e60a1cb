use Rattle.std.specs.Fn.{FnReturnsAt}
use Rattle.std.specs.Str.{chars}
use Rattle.std.proofs.Common.{List, map, length}
use Rattle.regress_meaning.specs.Matches.{Item}
use Rattle.regress_meaning.specs.Offsets.{of_utf8, told}
use Rattle.regress_meaning.specs.Pattern.{names_of}
use Rattle.regress_matched.proofs.ReplacingLemmas.{answered-as, refused-as}
use Rattle.regress_programs.specs.Coming.{coming, searched_names}
use Rattle.regress_programs.proofs.ListedLemmas.{pattern-in_text}
use Rattle.regress.specs.Standing.{names_of_regex, tree_list}
use Rattle.regress.proofs.RefusedLemmas.{memory-turned}
use Rattle.regress.proofs.api.Regex.replace_all_with.Goals as goal

pub returns-clause-replaced_of_tree : goal.returns-clause-replaced_of_tree
returns-clause-replaced_of_tree g c = λ n t laid.
    let regex = c.args.self.now in
    let text = c.args.text.now in
    let ms = c.in_ok-matches.matches in
    answered-as c.replace_all_with.result (FnReturnsAt g.F.Fn c.args.with) text (λ (items : List Item). items)
    (coming ms) (map (told (of_utf8 text)) (tree_list regex n t (chars text) 0)) (searched_names ms) (names_of_regex regex)
    (c.in_ok-matches.ensures.matches_of_tree n t laid) c.in_ok-matches.ensures.named c.replace_all_with.ensures.replaced

pub returns-clause-replaced : goal.returns-clause-replaced
returns-clause-replaced g c = λ t o p stands.
    rw (pattern-in_text c.args.self.now.compiled.byte_program t o p stands c.args.text.now c.utf8.text 0)
    (returns-clause-replaced_of_tree g c (length (names_of p)) stands.node (stands.well_formed, stands.layout))

pub returns-clause-refused_of_tree : goal.returns-clause-refused_of_tree
returns-clause-refused_of_tree g c = λ n t laid.
    let regex = c.args.self.now in
    let text = c.args.text.now in
    let ms = c.in_ok-matches.matches in
    refused-as c.replace_all_with.result (FnReturnsAt g.F.Fn c.args.with) (λ (items : List Item). items) _ _
    (coming ms) (map (told (of_utf8 text)) (tree_list regex n t (chars text) 0)) (searched_names ms) (names_of_regex regex)
    (c.in_ok-matches.ensures.matches_of_tree n t laid) c.in_ok-matches.ensures.named (λ e given. memory-turned g.E.From.from_gives ms e given) c.replace_all_with.ensures.refused

pub returns-clause-refused : goal.returns-clause-refused
returns-clause-refused g c = λ t o p stands.
    rw (pattern-in_text c.args.self.now.compiled.byte_program t o p stands c.args.text.now c.utf8.text 0)
    (returns-clause-refused_of_tree g c (length (names_of p)) stands.node (stands.well_formed, stands.layout))
