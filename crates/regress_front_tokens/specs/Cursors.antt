-- Where a pattern is read.
use Rattle.std.specs.Prelude.{◌≡◌, ℕ, List, drop}
use Rattle.regress_front_tokens.specs.declared.cursor.Cursor.{Cursor}

-- what is still to be read
abbrev pub unread : Cursor → List ℕ
unread c = drop c.position c.points.now

-- two cursors stand in one text
abbrev pub SameText : Cursor → Cursor → Type 0
SameText c d = d.points.now ≡ c.points.now
