use Rattle.std.specs.Str.{chars}
use Rattle.std.proofs.Common.{map, length, subst}
use Rattle.regress_meaning.specs.Offsets.{of_utf8, told}
use Rattle.regress_meaning.specs.Pattern.{names_of}
use Rattle.regress_matched.specs.Giving.{Errs}
use Rattle.regress_matched.proofs.SplittingLemmas.{split-made, split-errs}
use Rattle.regress_engine_input.specs.Views.{utf8}
use Rattle.regress_engine_exec.specs.declared.error.SearchError.TheVariants.{TooManySteps}
use Rattle.regress_programs.proofs.ListedLemmas.{pattern-in_text}
use Rattle.regress_bounded.specs.Coming.{search_by, next_from, budget_of, turns_of, coming, GivesNext}
use Rattle.regress_bounded.specs.Standing.{byte_program_of, steps_of, tree_list}
use Rattle.regress_bounded.specs.Stopping.{seen_by}
use Rattle.regress_bounded.proofs.TogetherLemmas.{errs-taken}
use Rattle.regress_bounded.proofs.bounded.Bounded.split.Goals as goal

pub returns-clause-parts_of_tree : goal.returns-clause-parts_of_tree
returns-clause-parts_of_tree c = λ n t laid.
    let text = c.args.text.now in
    split-made coming c.new.result text c.in_ok-matches.matches (map (told (of_utf8 text)) (tree_list c.args.self.now n t (chars text) 0))
    c.new.ensures.over c.new.ensures.begins c.new.ensures.matches (c.in_ok-matches.ensures.matches_of_tree n t laid)

pub returns-clause-parts : goal.returns-clause-parts
returns-clause-parts c = λ t o p stands.
    rw (pattern-in_text (byte_program_of c.args.self.now) t o p stands c.args.text.now c.utf8.text 0)
    (returns-clause-parts_of_tree c (length (names_of p)) stands.node (stands.well_formed, stands.layout))

pub returns-clause-stopped : goal.returns-clause-stopped
returns-clause-stopped c = λ given old new yields step.
    let b = c.args.self.now in
    let ms = c.in_ok-matches.matches in
    errs-taken search_by next_from budget_of turns_of (byte_program_of b) (seen_by (byte_program_of b) utf8 c.args.text.now) 0 (steps_of b) ms
    c.in_ok-matches.ensures.program c.in_ok-matches.ensures.over c.in_ok-matches.ensures.begins _ c.in_ok-matches.ensures.turns c.in_ok-matches.ensures.steps
    (subst (λ x. Errs GivesNext x TooManySteps) c.new.ensures.matches (split-errs GivesNext coming given c.new.result old new TooManySteps yields step))
