-- Trees that match exactly one character, and trees that match nothing, told by their form.
use Rattle.std.specs.Prelude.{◌≡◌, ℕ, ◌+◌, Bool, true, false, not, ◌&&◌, ◌==◌, List, length, chars}
use Rattle.std.specs.Str.{all_scalars, encode_utf8_all}
use Rattle.regress_meaning.specs.Text.{same_text}
use Rattle.regress_meaning.specs.Table.{code_points, some_below}
use Rattle.regress_front_nodes.specs.Trees.{Tree, char, bytes, byte_set, char_set, any, any_in_line, bracket}
use Rattle.regress_meaning.specs.Meaning.{State, Direction, Forward, Backward}
use Rattle.regress_front_nodes.specs.TreeMeaning.{bracket_has}

-- a bracket matches no code point
abbrev pub bracket_is_empty : Bool → List (ℕ × ℕ) → Bool
bracket_is_empty inverted intervals = not (some_below code_points (bracket_has inverted intervals))

-- the bytes are the UTF-8 of one character
abbrev pub is_one_character : List ℕ → Bool
is_one_character bs = (length (chars bs) == 1) && all_scalars (chars bs) && same_text (encode_utf8_all (chars bs)) bs

-- A set of no character.
abbrev pub always_fails : Tree → Bool
always_fails (byte_set bs) = length bs == 0
always_fails (char_set cs) = length cs == 0
always_fails (bracket inverted intervals) = bracket_is_empty inverted intervals
always_fails _ = false

-- A character, a literal of one character, or a set of at least one.
abbrev pub takes_one : Tree → Bool
takes_one (char c) = true
takes_one any = true
takes_one any_in_line = true
takes_one (bytes bs) = is_one_character bs
takes_one (byte_set bs) = not (always_fails (byte_set bs))
takes_one (char_set cs) = not (always_fails (char_set cs))
takes_one (bracket inverted intervals) = not (always_fails (bracket inverted intervals))
takes_one _ = false

-- the second state is one place further, and its groups are the same
abbrev pub IsOneFurther : Direction → State → State → Type 0
IsOneFurther Forward s t = (t.place ≡ s.place + 1) × (t.groups ≡ s.groups)
IsOneFurther Backward s t = (t.place + 1 ≡ s.place) × (t.groups ≡ s.groups)
