use Rattle.std.proofs.Common.{◌≡◌, ◌-◌, take, string_bytes}
use Rattle.regress_replacing.specs.Syntax.{replacement_text}
use Rattle.regress_replacing.specs.SyntaxViews.{syntax_of, text_of}
use Rattle.regress_matched.proofs.ReplacingLemmas.{IsBehind, ErrsOf, finished}
use Rattle.regress_matched.proofs.replacing.replace_first.Given as goal

-- what was written, and the items that may still be replaced
abbrev pub invariant-loop : goal.invariant-loop
invariant-loop g l = record {
  behind : IsBehind g.M.TextMatches.searched g.M.TextMatches.names g.M.TextMatches.coming l.text (g.M.TextMatches.names l.initial.matches) l.behind l.matches;
  errs : ErrsOf g.M.TextMatches.gives l.initial.matches l.matches;
  written : finished l.text (replacement_text (syntax_of l.read) (g.M.TextMatches.names l.initial.matches) (text_of l.read) l.text) (string_bytes l.written) l.behind (take (l.limit - l.counter) (g.M.TextMatches.coming l.matches))
      ≡ finished l.text (replacement_text (syntax_of l.read) (g.M.TextMatches.names l.initial.matches) (text_of l.read) l.text) (string_bytes l.initial.written) l.initial.behind (take l.limit (g.M.TextMatches.coming l.initial.matches));
}
