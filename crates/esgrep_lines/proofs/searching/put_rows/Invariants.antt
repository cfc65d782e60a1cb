use Rattle.std.proofs.Common.{◌≡◌, ◌+◌, ◌-◌, ◌<◌, ◌≤◌, false, length, vec_len}
use Rattle.std.specs.Prelude.{All}
use denote.Text.{Utf8}
use denote.Shadow.{shadow}
use Rattle.esgrep_rows.specs.Lines.{byte_of, lines, numbered}
use Rattle.esgrep_rows.specs.Found.{Seen}
use Rattle.esgrep_rows.specs.Views.{template_text}
use Rattle.esgrep_rows.specs.Values.{progress_of}
use Rattle.esgrep_lines.specs.Output.{all_rows, count_from}
use Rattle.esgrep_lines.specs.Putting.{has_failed, put_out}
use Rattle.esgrep_lines.specs.GivenUp.{IsBehind, AreGivenUp, TellsBefore}
use Rattle.esgrep_lines.proofs.RowsLemmas.{IsPut}
use Rattle.esgrep_lines.proofs.searching.put_rows.Given as goal

abbrev pub invariant-loop-rest : goal.invariant-loop-rest
invariant-loop-rest g l = record {
  text : shadow (Utf8 l.rest);
  place : l.start + length l.rest ≡ length l.text;
  number : l.number ≤ l.start + 1;
  few : l.count ≤ l.start;
  held : vec_len l.progress.held ≤ l.rows.options.before;
  sound : has_failed l.output ≡ false;
  low : All (λ at. at < l.start) l.given_up.items;
  behind : IsBehind l.rows.options.ending l.text l.start l.rest;
  given : AreGivenUp (g.F.Finder.gives_up l.finder) l.rows.options.ending l.text l.given_up.items;
  put : (seen : Seen) → g.F.Finder.finds l.finder (template_text l.shown) seen.find → TellsBefore seen l.given_up.items l.start
      → IsPut l.rows.options seen l.rows.name.now (put_out g.W.Write.contents l.fn.output) (put_out g.W.Write.contents l.output) (l.rows.options.most - l.count)
      (progress_of l.progress) (numbered l.number l.start (lines (byte_of l.rows.options.ending) l.rest)) (all_rows l.rows.options seen l.rows.name.now l.text);
  counted : (seen : Seen) → g.F.Finder.finds l.finder (template_text l.shown) seen.find → TellsBefore seen l.given_up.items l.start
      → l.count + count_from l.rows.options seen (l.rows.options.most - l.count) l.start (lines (byte_of l.rows.options.ending) l.rest)
      ≡ count_from l.rows.options seen l.rows.options.most 0 (lines (byte_of l.rows.options.ending) l.text);
}

abbrev pub decreases-loop-rest : goal.decreases-loop-rest
decreases-loop-rest g l = length l.rest
