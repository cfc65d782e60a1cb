-- The offsets and places of a text that is worked out against the direction in which it is read.
use Rattle.std.specs.Prelude.{◌≡◌, ℕ, suc, ◌-◌, ◌<◌, ◌≤◌, Bool, length, if◌then◌else◌}
use Rattle.regress_meaning.specs.Meaning.{Direction}
use Rattle.regress_engine_input.specs.Views.{View, direction_of, reading_of}
use Rattle.regress_engine_runs.specs.Meets.{IsAtPlace}
use Rattle.regress_engine_runs.specs.Runs.{room}

-- The second offset is that of the place which is left behind next, where a text is worked out against its direction, behind that of the
-- first; or the first is the last one.
pub record IsNextPlace (v : View) (dir : Direction) (o q : ℕ) : Type 0 where
  pub place : IsAtPlace (reading_of v) q
  pub order : room (length v.units) dir o ≤ room (length v.units) dir q
  pub none : (p : ℕ) → IsAtPlace (reading_of v) p → room (length v.units) dir o < room (length v.units) dir p → (room (length v.units) dir o < room (length v.units) dir q)
      × (room (length v.units) dir q ≤ room (length v.units) dir p)

-- the offset that is worked out after so many others
abbrev pub offset_of : (forward : Bool) → (last step : ℕ) → ℕ
offset_of forward last step = if forward then last - step else step

-- one offset is worked out right behind another
abbrev pub IsBehind : View → (forward : Bool) → (o q : ℕ) → Type 0
IsBehind v forward o q = room (length v.units) (direction_of forward) q ≡ suc (room (length v.units) (direction_of forward) o)

-- A place is the next one to come, at an offset or behind it, where a text is worked out against its direction.
pub record IsAwaited (v : View) (dir : Direction) (o awaited : ℕ) : Type 0 where
  pub place : IsAtPlace (reading_of v) awaited
  pub ahead : room (length v.units) dir o ≤ room (length v.units) dir awaited
  pub none : (p : ℕ) → IsAtPlace (reading_of v) p → room (length v.units) dir o ≤ room (length v.units) dir p → room (length v.units) dir awaited ≤ room (length v.units) dir p
