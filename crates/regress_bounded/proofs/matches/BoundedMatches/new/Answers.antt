use Rattle.regress_bounded.specs.Coming.{search_by, next_from, budget_of, turns_of}
use Rattle.regress_bounded.proofs.TogetherLemmas.{counts-along}
use Rattle.regress_bounded.proofs.matches.BoundedMatches.new.Goals as goal

pub returns-clause-counted : goal.returns-clause-counted
returns-clause-counted g c = counts-along search_by next_from budget_of turns_of _
