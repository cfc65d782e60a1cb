use Rattle.std.proofs.Common.{length, string_bytes}
use Rattle.std.specs.Fn.{FnReturnsAt}
use Rattle.regress_matched.proofs.ReplacingLemmas.{IsBehind, ErrsOf, WrittenBy, RefusesOf}
use Rattle.regress_matched.proofs.replacing.replace_all_with.Given as goal

abbrev pub invariant-loop-given : goal.invariant-loop-given
invariant-loop-given g l = record {
  behind : IsBehind g.M.TextMatches.searched g.M.TextMatches.names g.M.TextMatches.coming l.text (g.M.TextMatches.names l.initial.matches) l.behind l.matches;
  errs : ErrsOf g.M.TextMatches.gives l.initial.matches l.matches;
  written : WrittenBy (FnReturnsAt g.F.Fn l.with) (g.M.TextMatches.names l.initial.matches) l.text (g.M.TextMatches.coming l.initial.matches) (string_bytes l.written) l.behind (g.M.TextMatches.coming l.matches);
  refuses : RefusesOf (FnReturnsAt g.F.Fn l.with) (g.M.TextMatches.names l.initial.matches) (g.M.TextMatches.coming l.initial.matches) (g.M.TextMatches.coming l.matches);
}

abbrev pub decreases-loop-given : goal.decreases-loop-given
decreases-loop-given g l = length (g.M.TextMatches.coming l.matches)
