-- Ranges in bytes of a text held as UTF-8.
use Rattle.std.specs.Prelude.{◌≡◌, ℕ, ◌≤◌, List, All, IfSome, IsCharBoundary}
use Rattle.std.specs.Char.{len_utf8}
use Rattle.std.specs.declared.ops.Range.{Range}
use Rattle.regress_meaning.specs.Offsets.{Reading}
use Rattle.regress_match.specs.declared.found.Match.{Match}
use Rattle.regress_match.specs.GroupViews.{names_of_match}

-- a text of these code points, held as bytes of UTF-8
abbrev pub utf8_reading : List ℕ → Reading
utf8_reading points = record { points = points; width = len_utf8 }

-- a range lies in a text between characters
abbrev pub LiesBetween : List ℕ → Range ℕ → Type 0
LiesBetween bytes r = (r.start ≤ r.end) × IsCharBoundary bytes r.start × IsCharBoundary bytes r.end

-- the whole range of a match lies in a text between characters, and so does each range that a group took
abbrev pub LiesInText : List ℕ → Match → Type 0
LiesInText bytes m = LiesBetween bytes m.range × All (λ g. IfSome g (LiesBetween bytes)) m.captures.items

-- a match lies in a text, and its groups have these names
abbrev pub IsMatchIn : List ℕ → List (List ℕ) → Match → Type 0
IsMatchIn bytes names m = LiesInText bytes m × (names_of_match m ≡ names)
