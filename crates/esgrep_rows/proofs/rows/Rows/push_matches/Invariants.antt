use Rattle.std.proofs.Common.{◌≡◌, ◌++◌, take, map, string_bytes}
use Rattle.std.specs.Prelude.{flat_map}
use Rattle.esgrep_rows.specs.Lines.{body}
use Rattle.esgrep_rows.specs.Found.{found_of}
use Rattle.esgrep_rows.specs.Rows.{match_row}
use Rattle.esgrep_rows.specs.Views.{template_text}
use Rattle.esgrep_rows.specs.Values.{line_of}
use Rattle.esgrep_rows.proofs.rows.Rows.push_matches.Given as goal

abbrev pub invariant-loop-found : goal.invariant-loop-found
invariant-loop-found l =
    string_bytes l.row ≡ string_bytes l.fn.row
    ++ flat_map (match_row l.self.options l.self.name.now (line_of l.line))
    (map (found_of (template_text l.shown) (body l.self.options.ending l.line.text.now)) (take l.found-index l.founds))
