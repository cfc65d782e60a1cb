use Rattle.std.proofs.Common.{◌≡◌, ◌++◌, ◌&&◌, [], take, map, string_bytes}
use Rattle.std.specs.Prelude.{flat_map, codes, if◌then◌else◌}
use Rattle.esgrep_rows.specs.Rows.{marked, near_row}
use Rattle.esgrep_rows.specs.Values.{line_of}
use Rattle.esgrep_rows.proofs.rows.Rows.push_before.Given as goal

abbrev pub invariant-loop-line : goal.invariant-loop-line
invariant-loop-line l =
    string_bytes l.row ≡ string_bytes l.fn.row
    ++ ((if l.self.options.parts_groups && l.progress.is_begun && l.progress.has_gap then marked l.self.options (codes "--") ++ codes "\n" else [])
    ++ flat_map (near_row l.self.options l.self.name.now) (map line_of (take l.line-index l.progress.held.items)))
