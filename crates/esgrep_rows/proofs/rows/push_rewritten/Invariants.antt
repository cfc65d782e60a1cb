use Rattle.std.proofs.Common.{◌≡◌, drop, string_bytes}
use Rattle.std.specs.Str.{IsCharBoundary}
use Rattle.esgrep_rows.specs.Found.{LieInOrder}
use Rattle.esgrep_rows.specs.Views.{template_text}
use Rattle.esgrep_rows.proofs.RewritingLemmas.{finished}
use Rattle.esgrep_rows.proofs.rows.push_rewritten.Given as goal

abbrev pub invariant-loop-found : goal.invariant-loop-found
invariant-loop-found l = record {
  cut : IsCharBoundary l.text l.behind;
  order : LieInOrder l.text l.behind (drop l.found-index l.founds);
  written : finished (template_text l.shown) l.text (string_bytes l.row) l.behind (drop l.found-index l.founds)
      ≡ finished (template_text l.shown) l.text (string_bytes l.fn.row) 0 l.founds;
}
