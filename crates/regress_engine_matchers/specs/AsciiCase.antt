-- Case where all characters are ASCII.
use Rattle.std.specs.Prelude.{ℕ, Bool, if◌then◌else◌}
use Rattle.regress_meaning.specs.Table.{Table}
use Rattle.regress_meaning.specs.TableParts.{ascii_lower, ascii_upper}

-- what two ASCII characters have alike where case is ignored: the lower case in Unicode mode, and else the upper case
abbrev pub ascii_canon : Table → Bool → ℕ → ℕ
ascii_canon _ unicode c = if unicode then ascii_lower c else ascii_upper c
