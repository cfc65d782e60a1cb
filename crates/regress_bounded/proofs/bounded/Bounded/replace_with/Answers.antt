use Rattle.std.specs.Fn.{FnOnceReturnsAt}
use Rattle.std.specs.Str.{chars}
use Rattle.std.proofs.Common.{take, map, length, ap}
use Rattle.regress_meaning.specs.Offsets.{of_utf8, told}
use Rattle.regress_meaning.specs.Pattern.{names_of}
use Rattle.regress_matched.proofs.ReplacingLemmas.{answered-as, refused-as}
use Rattle.regress_engine_code.specs.Standing as code
use Rattle.regress_engine_code.specs.declared.compiled.CompiledRegex.{CompiledRegex}
use Rattle.regress_engine_input.specs.Views.{utf8}
use Rattle.regress_programs.proofs.ListedLemmas.{pattern-in_text}
use Rattle.regress_bounded.specs.Coming.{search_by, next_from, budget_of, turns_of, coming, searched_names, GivesNext}
use Rattle.regress_bounded.specs.Standing.{byte_program_of, names_within, steps_of, tree_list}
use Rattle.regress_bounded.specs.Stopping.{seen_by}
use Rattle.regress_bounded.proofs.TogetherLemmas.{errs-taken, turned}
use Rattle.regress_bounded.proofs.bounded.Bounded.replace_with.Goals as goal

pub returns-clause-replaced_of_tree : goal.returns-clause-replaced_of_tree
returns-clause-replaced_of_tree g c = λ n t laid.
    let b = c.args.self.now in
    let text = c.args.text.now in
    let ms = c.in_ok-matches.matches in
    answered-as c.replace_with.result (FnOnceReturnsAt g.F.FnOnce c.args.with) text (take 1)
    (coming ms) (map (told (of_utf8 text)) (tree_list b n t (chars text) 0)) (searched_names ms) (names_within b)
    (c.in_ok-matches.ensures.matches_of_tree n t laid) (ap (λ (x : CompiledRegex). code.names_of x) c.in_ok-matches.ensures.program) c.replace_with.ensures.replaced

pub returns-clause-replaced : goal.returns-clause-replaced
returns-clause-replaced g c = λ t o p stands.
    rw (pattern-in_text (byte_program_of c.args.self.now) t o p stands c.args.text.now c.utf8.text 0)
    (returns-clause-replaced_of_tree g c (length (names_of p)) stands.node (stands.well_formed, stands.layout))

pub returns-clause-refused_of_tree : goal.returns-clause-refused_of_tree
returns-clause-refused_of_tree g c = λ n t laid.
    let b = c.args.self.now in
    let text = c.args.text.now in
    let ms = c.in_ok-matches.matches in
    refused-as c.replace_with.result (FnOnceReturnsAt g.F.FnOnce c.args.with) (take 1) _ _
    (coming ms) (map (told (of_utf8 text)) (tree_list b n t (chars text) 0)) (searched_names ms) (names_within b)
    (c.in_ok-matches.ensures.matches_of_tree n t laid) (ap (λ (x : CompiledRegex). code.names_of x) c.in_ok-matches.ensures.program)
    (λ e given. turned GivesNext ms _ g.E.From.from_gives
    (errs-taken search_by next_from budget_of turns_of (byte_program_of b) (seen_by (byte_program_of b) utf8 text) 0 (steps_of b) ms
    c.in_ok-matches.ensures.program c.in_ok-matches.ensures.over c.in_ok-matches.ensures.begins _ c.in_ok-matches.ensures.turns c.in_ok-matches.ensures.steps) e given)
    c.replace_with.ensures.refused

pub returns-clause-refused : goal.returns-clause-refused
returns-clause-refused g c = λ t o p stands.
    rw (pattern-in_text (byte_program_of c.args.self.now) t o p stands c.args.text.now c.utf8.text 0)
    (returns-clause-refused_of_tree g c (length (names_of p)) stands.node (stands.well_formed, stands.layout))
