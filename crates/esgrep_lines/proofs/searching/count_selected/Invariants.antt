use Rattle.std.proofs.Common.{◌≡◌, ℕ, ◌+◌, ◌-◌, ◌<◌, ◌≤◌, List, Option, length}
use Rattle.std.specs.Prelude.{All}
use denote.Shadow.{shadow}
use denote.Text.{Utf8}
use Rattle.esgrep_rows.specs.Lines.{byte_of, lines}
use Rattle.esgrep_rows.specs.Found.{Seen}
use Rattle.esgrep_lines.specs.Output.{count_from}
use Rattle.esgrep_lines.specs.GivenUp.{IsBehind, AreGivenUp, TellsBefore}
use Rattle.esgrep_lines.proofs.searching.count_selected.Given as goal

abbrev pub invariant-loop-count : goal.invariant-loop-count
invariant-loop-count g l = record {
  text : shadow (Utf8 l.rest);
  few : l.count ≤ l.most;
  place : l.start + length l.rest ≡ length l.text;
  low : All (λ at. at < l.start) l.given_up.items;
  behind : IsBehind l.options.ending l.text l.start l.rest;
  given : AreGivenUp (g.F.Finder.gives_up l.finder) l.options.ending l.text l.given_up.items;
  counted : (template : Option (List ℕ)) (seen : Seen) → g.F.Finder.finds l.finder template seen.find → TellsBefore seen l.given_up.items l.start
      → l.count + count_from l.options seen (l.most - l.count) l.start (lines (byte_of l.options.ending) l.rest) ≡ count_from l.options seen l.most 0 (lines (byte_of l.options.ending) l.text);
}

abbrev pub decreases-loop-count : goal.decreases-loop-count
decreases-loop-count g l = length l.rest
