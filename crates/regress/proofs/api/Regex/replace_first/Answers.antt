use Rattle.std.specs.Str.{chars}
use Rattle.std.proofs.Common.{take, map, length}
use Rattle.regress_meaning.specs.Offsets.{of_utf8, told}
use Rattle.regress_meaning.specs.Pattern.{names_of}
use Rattle.regress_replacing.specs.Syntax.{replacement_text}
use Rattle.regress_replacing.specs.SyntaxViews.{syntax_of, text_of}
use Rattle.regress_matched.proofs.ReplacingLemmas.{replaced-as}
use Rattle.regress_programs.specs.Coming.{coming, searched_names}
use Rattle.regress_programs.proofs.ListedLemmas.{pattern-in_text}
use Rattle.regress.specs.Standing.{names_of_regex, tree_list}
use Rattle.regress.proofs.RefusedLemmas.{memory-alone}
use Rattle.regress.proofs.api.Regex.replace_first.Goals as goal

pub returns-clause-replaced_of_tree : goal.returns-clause-replaced_of_tree
returns-clause-replaced_of_tree c = λ n t laid.
    let regex = c.args.self.now in
    let text = c.args.text.now in
    let ms = c.in_ok-matches.matches in
    replaced-as c.replace_first.result text (λ names. replacement_text (syntax_of c.args.read.now) names (text_of c.args.read.now) text) (take c.args.limit)
    (coming ms) (map (told (of_utf8 text)) (tree_list regex n t (chars text) 0)) (searched_names ms) (names_of_regex regex)
    (c.in_ok-matches.ensures.matches_of_tree n t laid) c.in_ok-matches.ensures.named c.replace_first.ensures.replaced

pub returns-clause-replaced : goal.returns-clause-replaced
returns-clause-replaced c = λ t o p stands.
    rw (pattern-in_text c.args.self.now.compiled.byte_program t o p stands c.args.text.now c.utf8.text 0)
    (returns-clause-replaced_of_tree c (length (names_of p)) stands.node (stands.well_formed, stands.layout))

pub returns-clause-refused : goal.returns-clause-refused
returns-clause-refused c = memory-alone c.replace_first.result c.in_ok-matches.matches c.replace_first.ensures.refused
