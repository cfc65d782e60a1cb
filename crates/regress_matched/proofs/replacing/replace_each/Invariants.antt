use Rattle.std.proofs.Common.{◌≡◌, length, string_bytes}
use Rattle.regress_replacing.specs.Syntax.{replacement_text}
use Rattle.regress_replacing.specs.SyntaxViews.{syntax_of, text_of}
use Rattle.regress_matched.proofs.ReplacingLemmas.{IsBehind, ErrsOf, finished}
use Rattle.regress_matched.proofs.replacing.replace_each.Given as goal

abbrev pub invariant-loop-given : goal.invariant-loop-given
invariant-loop-given g l = record {
  behind : IsBehind g.M.TextMatches.searched g.M.TextMatches.names g.M.TextMatches.coming l.text (g.M.TextMatches.names l.initial.matches) l.behind l.matches;
  errs : ErrsOf g.M.TextMatches.gives l.initial.matches l.matches;
  written : finished l.text (replacement_text (syntax_of l.read) (g.M.TextMatches.names l.initial.matches) (text_of l.read) l.text) (string_bytes l.written) l.behind (g.M.TextMatches.coming l.matches)
      ≡ finished l.text (replacement_text (syntax_of l.read) (g.M.TextMatches.names l.initial.matches) (text_of l.read) l.text) (string_bytes l.initial.written) l.initial.behind (g.M.TextMatches.coming l.initial.matches);
}

abbrev pub decreases-loop-given : goal.decreases-loop-given
decreases-loop-given g l = length (g.M.TextMatches.coming l.matches)
