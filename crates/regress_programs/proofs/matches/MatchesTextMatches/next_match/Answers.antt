use Rattle.regress_match.specs.TextRanges.{IsMatchIn}
use Rattle.regress_programs.specs.Coming.{searched, searched_names, coming}
use Rattle.regress_programs.proofs.StepLemmas.{given-found}
use Rattle.regress_programs.proofs.matches.MatchesTextMatches.next_match.Goals as goal

pub returns-clause-first : goal.returns-clause-first
returns-clause-first c =
    let old = c.args.self.now in
    record {
      over = c.next.ensures.steps.0;
      named = c.next.ensures.steps.1;
      first = given-found (IsMatchIn (searched old) (searched_names old)) (coming old) c.next.result (coming c.next.new.self) c.next.ensures.steps.2.first;
    }
