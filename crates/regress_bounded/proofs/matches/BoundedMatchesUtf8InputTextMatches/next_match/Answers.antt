use Rattle.std.proofs.Common.{ap, refl}
use Rattle.regress_engine_code.specs.Standing.{names_of}
use Rattle.regress_engine_search.specs.Search.{Search}
use Rattle.regress_bounded.specs.Coming.{search_by, coming}
use Rattle.regress_bounded.proofs.StepLemmas.{given-in_text}
use Rattle.regress_bounded.proofs.matches.BoundedMatchesUtf8InputTextMatches.next_match.Goals as goal

pub returns-clause-first : goal.returns-clause-first
returns-clause-first c =
    let s = search_by c.args.self.now in
    record {
      over = ap (λ (x : Search). x.view.units) c.next.ensures.steps.kept;
      named = ap (λ (x : Search). names_of x.compiled) c.next.ensures.steps.kept;
      first = given-in_text s refl c.args.self.now.executor.context.input.utf8 (coming c.args.self.now) c.next.result (coming c.next.new.self) c.next.ensures.steps.first;
    }
