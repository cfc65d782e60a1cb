-- What lines and progress of the code stand for.
use Rattle.std.specs.Prelude.{map}
use Rattle.esgrep_rows.specs.declared.line.Line.{Line}
use Rattle.esgrep_rows.specs.declared.progress.Progress.{Progress}
use Rattle.esgrep_rows.specs.Lines as lines
use Rattle.esgrep_rows.specs.Rows as rows

-- the line that a value is
abbrev pub line_of : Line → lines.Line
line_of l = record { number = l.number; start = l.start; bytes = l.text.now }

-- how far the rows are
abbrev pub progress_of : Progress → rows.Progress
progress_of p = record { behind = p.behind; held = map line_of p.held.items; is_begun = p.is_begun; has_gap = p.has_gap }
