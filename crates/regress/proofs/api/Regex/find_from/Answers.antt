use Rattle.std.proofs.Common.{ap, ◌∙◌}
use Rattle.regress_engine_code.specs.Standing.{names_of}
use Rattle.regress.specs.Coming.{search_by, searched, searched_names, coming, next_from, HasEnded}
use Rattle.regress.proofs.IterationLemmas.{searched-along, inside-each, starts-each}
use Rattle.regress.proofs.ListedLemmas.{coming-searched, tree-searchable, searched-rises}
use Rattle.regress.proofs.api.Regex.find_from.Goals as goal

pub returns-clause-matches_of_tree : goal.returns-clause-matches_of_tree
returns-clause-matches_of_tree c = λ n t laid place begins.
    tree-searchable (search_by c.new.result) c.args.self.now.compiled.byte_program c.args.text.now c.new.ensures.over c.utf8.text c.args.start place begins
    (next_from c.new.result) c.new.ensures.begins n t laid

pub returns-clause-matches : goal.returns-clause-matches
returns-clause-matches c = λ t o p stands place begins.
    coming-searched (search_by c.new.result) c.args.self.now.compiled.byte_program c.args.text.now c.new.ensures.over c.utf8.text c.args.start place begins
    (next_from c.new.result) c.new.ensures.begins t o p stands

pub returns-clause-along : goal.returns-clause-along
returns-clause-along c = record { at = λ given now yields. searched-along searched searched_names coming HasEnded c.new.result now given yields ∙ c.new.ensures.over.over }

pub returns-clause-inside : goal.returns-clause-inside
returns-clause-inside c = inside-each searched searched_names coming HasEnded c.new.result c.args.text.now c.new.ensures.over.over

pub returns-clause-starts : goal.returns-clause-starts
returns-clause-starts c = starts-each searched searched_names coming HasEnded c.new.result c.args.text.now c.utf8.text c.new.ensures.over.over

pub returns-clause-rise : goal.returns-clause-rise
returns-clause-rise c =
    let (place, begins) = c.requires in
    searched-rises (search_by c.new.result) c.args.self.now.compiled.byte_program c.args.text.now c.new.ensures.over c.utf8.text c.args.start place begins
    (next_from c.new.result) c.new.ensures.begins

pub returns-clause-named : goal.returns-clause-named
returns-clause-named c = ap names_of c.new.ensures.over.program
