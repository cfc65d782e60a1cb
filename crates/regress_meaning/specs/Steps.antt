-- Steps over an input: from an offset to the offset behind what is taken, or to none.
use Rattle.std.specs.Prelude.{ℕ, zero, suc, ◌+◌, ◌-◌, Bool, false, not, ◌&&◌, ◌||◌, ◌==◌, List, length, Option, Some, None, is_some, if◌then◌else◌, slice_get, slice_range, nat_le, option_map, option_and_then}
use Rattle.regress_meaning.specs.Text.{same_text}
use Rattle.regress_meaning.specs.Meaning.{Direction, Forward, Backward, is_some_and, is_line_end, same, differ}
use Rattle.regress_meaning.specs.Tokens.{is_high, is_low}
use Rattle.regress_meaning.specs.Inputs.{Input, unit_before}

-- the offset behind the code point beside one, where it passes
abbrev pub passed : (ℕ → Bool) → Option (ℕ × ℕ) → Option ℕ
passed test None = None
passed test (Some (c, o)) = if test c then Some o else None

-- the offset, where the test passes
abbrev pub only_if : Bool → ℕ → Option ℕ
only_if b o = if b then Some o else None

-- these bytes or units stand beside an offset: the one behind them
abbrev pub literal : Input → Direction → List ℕ → ℕ → Option ℕ
literal input Forward bs o = if same_text bs (slice_range input.units o (o + length bs)) then Some (o + length bs) else None
literal input Backward bs o =
    if nat_le (length bs) o && same_text bs (slice_range input.units (o - length bs) o) then Some (o - length bs) else None

-- the units from one offset on up to another stand beside a third: the offset behind them
abbrev pub same_units : Input → Direction → ℕ → ℕ → ℕ → Option ℕ
same_units input dir a b o = literal input dir (slice_range input.units a b) o

-- two neighbours are one character
abbrev pub pair_of : Option ℕ → Option ℕ → Bool
pair_of None v = false
pair_of (Some u) None = false
pair_of (Some u) (Some v) = is_high u && is_low v

-- an offset lies inside a pair
abbrev pub splits : List ℕ → ℕ → Bool
splits units o = pair_of (unit_before units o) (slice_get units o)

-- an offset, unless it lies inside a pair
abbrev pub unless_split : List ℕ → Option ℕ → Option ℕ
unless_split units None = None
unless_split units (Some o) = if splits units o then None else Some o

module _ (input : Input) where
  -- the code point beside an offset
  abbrev pub point : Direction → ℕ → Option ℕ
  point dir o = option_map (λ x. x.0) (input.next dir o)

  -- What stands from one offset on up to another stands beside a third, code point by code point, or where case is ignored
  -- by equal canons: the offset behind it. The number bounds how many there are.
  unfoldable pub copied : ℕ → Direction → Bool → ℕ → ℕ → ℕ → Option ℕ
  copied zero dir icase from to o = if from == to then Some o else None
  copied (suc n) dir icase from to o =
      if from == to then Some o
      else option_and_then (λ x. option_and_then (λ y. if same input.table input.unicode icase x.0 y.0 then copied n dir icase x.1 to y.1 else None)
      (input.next dir o)) (input.next dir from)

  -- the same of a group's range, if it has one
  abbrev pub repeated : Direction → Bool → Option (ℕ × ℕ) → ℕ → Option ℕ
  repeated dir icase None o = Some o
  repeated Forward icase (Some (a, b)) o = copied (b - a) Forward icase a b o
  repeated Backward icase (Some (a, b)) o = copied (b - a) Backward icase b a o

  -- a line begins at an offset, or without the flag the text
  abbrev pub begins_line : Bool → ℕ → Bool
  begins_line multiline o = not (is_some (input.next Backward o)) || (multiline && is_some_and (point Backward o) is_line_end)

  -- a line ends at an offset, or without the flag the text
  abbrev pub ends_line : Bool → ℕ → Bool
  ends_line multiline o = not (is_some (input.next Forward o)) || (multiline && is_some_and (point Forward o) is_line_end)

  -- exactly one of the code points beside an offset is a word character
  abbrev pub at_boundary : Bool → ℕ → Bool
  at_boundary folded o = differ input.table folded (point Backward o) (point Forward o)
