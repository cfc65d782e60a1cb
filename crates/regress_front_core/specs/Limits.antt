-- Limits of sets that stand in a program.
use Rattle.std.specs.Prelude.{ℕ}

-- at most this many members has a set of bytes or of code points that is kept as a list
abbrev pub most_members : ℕ
most_members = 4
