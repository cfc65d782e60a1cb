use Rattle.std.specs.Str.{chars}
use Rattle.std.proofs.Common.{take, map, length, ap}
use Rattle.regress_meaning.specs.Offsets.{of_utf8, told}
use Rattle.regress_meaning.specs.Pattern.{names_of}
use Rattle.regress_replacing.specs.Syntax.{replacement_text}
use Rattle.regress_replacing.specs.SyntaxViews.{syntax_of, text_of}
use Rattle.regress_matched.specs.Giving.{Errs}
use Rattle.regress_matched.proofs.ReplacingLemmas.{replaced-as}
use Rattle.regress_engine_code.specs.Standing as code
use Rattle.regress_engine_code.specs.declared.compiled.CompiledRegex.{CompiledRegex}
use Rattle.regress_engine_input.specs.Views.{utf8}
use Rattle.regress_programs.proofs.ListedLemmas.{pattern-in_text}
use Rattle.regress_bounded.specs.Coming.{search_by, next_from, budget_of, turns_of, coming, searched_names, GivesNext}
use Rattle.regress_bounded.specs.Standing.{byte_program_of, names_within, steps_of, tree_list}
use Rattle.regress_bounded.specs.Stopping.{seen_by}
use Rattle.regress_bounded.proofs.TogetherLemmas.{errs-taken, stops-as}
use Rattle.regress_bounded.proofs.bounded.Bounded.replace_first.Goals as goal

pub returns-clause-replaced_of_tree : goal.returns-clause-replaced_of_tree
returns-clause-replaced_of_tree c = λ n t laid.
    let b = c.args.self.now in
    let text = c.args.text.now in
    let ms = c.in_ok-matches.matches in
    replaced-as c.replace_first.result text (λ names. replacement_text (syntax_of c.args.read.now) names (text_of c.args.read.now) text) (take c.args.limit)
    (coming ms) (map (told (of_utf8 text)) (tree_list b n t (chars text) 0)) (searched_names ms) (names_within b)
    (c.in_ok-matches.ensures.matches_of_tree n t laid) (ap (λ (x : CompiledRegex). code.names_of x) c.in_ok-matches.ensures.program) c.replace_first.ensures.replaced

pub returns-clause-replaced : goal.returns-clause-replaced
returns-clause-replaced c = λ t o p stands.
    rw (pattern-in_text (byte_program_of c.args.self.now) t o p stands c.args.text.now c.utf8.text 0)
    (returns-clause-replaced_of_tree c (length (names_of p)) stands.node (stands.well_formed, stands.layout))

pub returns-clause-stopped : goal.returns-clause-stopped
returns-clause-stopped c =
    let b = c.args.self.now in
    let ms = c.in_ok-matches.matches in
    stops-as c.replace_first.result (Errs GivesNext ms) _ c.replace_first.ensures.refused
    (errs-taken search_by next_from budget_of turns_of (byte_program_of b) (seen_by (byte_program_of b) utf8 c.args.text.now) 0 (steps_of b) ms
    c.in_ok-matches.ensures.program c.in_ok-matches.ensures.over c.in_ok-matches.ensures.begins _ c.in_ok-matches.ensures.turns c.in_ok-matches.ensures.steps)
