-- What a pattern with a number of steps stands for.
use Rattle.std.specs.Prelude.{◌≡◌, ℕ, Bool, List, Option, Some, false, length}
use Rattle.regress_meaning.specs.Table.{Table}
use Rattle.regress_meaning.specs.Pattern.{Pattern}
use Rattle.regress_meaning.specs.Flags.{Options}
use Rattle.regress_meaning.specs.Matches.{Item}
use Rattle.regress_front.specs.Trees.{Tree}
use Rattle.regress_engine_code.specs.Standing.{names_of, target_of}
use Rattle.regress_engine_input.specs.Views.{Kind}
use Rattle.regress_engine_code.specs.declared.compiled.CompiledRegex.{CompiledRegex}
use Rattle.regress_programs.specs.declared.compiled.Compiled.{Compiled}
use Rattle.regress_programs.specs.declared.slots.Anchored.{Anchored}
use Rattle.regress_engine_exec.specs.Turned.{enough_by, may_turn}
use Rattle.regress_programs.specs.Counting.{Stops}
use Rattle.regress_programs.specs.Tables.{byte_table_of, unit_table_of}
use Rattle.regress_programs.specs.Outcomes.{outcome_of_tree}
use Rattle.regress_programs.specs.Programs.{IsProgramOf, IsLaidOutFrom, items_of_tree}
use Rattle.regress_bounded.specs.declared.bounded.Bounded.{Bounded}
use Rattle.regress_bounded.specs.Stopping.{seen_by}
use Rattle.regress_bounded.specs.Together.{TakesAllAlong}

-- the programs that it searches with
abbrev pub compiled_of : Bounded → Compiled
compiled_of b = b.compiled.now

-- how many steps each call may take, and each iteration
abbrev pub steps_of : Bounded → ℕ
steps_of b = b.steps

-- its program of bytes
abbrev pub byte_program_of : Bounded → CompiledRegex
byte_program_of b = b.compiled.now.byte_program

-- its program of units
abbrev pub unit_program_of : Bounded → CompiledRegex
unit_program_of b = b.compiled.now.unit_program

-- the names of its groups by their numbers, as bytes of UTF-8
abbrev pub names_within : Bounded → List (List ℕ)
names_within b = names_of (byte_program_of b)

-- It stands for the pattern in texts, under this table and these options: its program of bytes is the pattern's.
abbrev pub StandsFor : Bounded → Table → Options → Pattern → Type 0
StandsFor b t o p = IsProgramOf (byte_program_of b) t o p

-- It stands for the pattern in 16-bit units: its program of units is the pattern's.
abbrev pub StandsInUnits : Bounded → Table → Options → Pattern → Type 0
StandsInUnits b t o p = IsProgramOf (unit_program_of b) t o p

-- In texts it goes by this tree of so many groups: its program of bytes is a layout of it.
abbrev pub HasTree : Bounded → ℕ → Tree → Type 0
HasTree b n t = IsLaidOutFrom (target_of (byte_program_of b)) n t

-- In 16-bit units it does: its program of units is a layout of it.
abbrev pub HasTreeInUnits : Bounded → ℕ → Tree → Type 0
HasTreeInUnits b n t = IsLaidOutFrom (target_of (unit_program_of b)) n t

-- the match list of a tree that it goes by in texts, from a place of a text on
abbrev pub tree_list : Bounded → ℕ → Tree → List ℕ → ℕ → List Item
tree_list b n t text place = items_of_tree (target_of (byte_program_of b)) n t text place

-- and of one that it goes by in 16-bit units
abbrev pub tree_list_in_units : Bounded → ℕ → Tree → List ℕ → ℕ → List Item
tree_list_in_units b n t text place = items_of_tree (target_of (unit_program_of b)) n t text place

-- the outcome of a tree that it goes by in texts, at a place of a text
abbrev pub tree_outcome : Bounded → ℕ → Tree → List ℕ → ℕ → Option Item
tree_outcome b n t text place = outcome_of_tree (target_of (byte_program_of b)) n t text place

-- and of one that it goes by in 16-bit units
abbrev pub tree_outcome_in_units : Bounded → ℕ → Tree → List ℕ → ℕ → Option Item
tree_outcome_in_units b n t text place = outcome_of_tree (target_of (unit_program_of b)) n t text place

-- Over bytes of a kind a search stops, or the one run where it is anchored: it may not turn to a table, and the runs take as many steps as it
-- may count, or more.
abbrev pub TakesAllInBytes : Bounded → Anchored → Kind → List ℕ → (at : ℕ) → Type 0
TakesAllInBytes b anchored kind bytes at =
    Stops (byte_table_of (compiled_of b)) anchored (byte_program_of b) (seen_by (byte_program_of b) kind bytes) at (Some (steps_of b))

-- the same over 16-bit units
abbrev pub TakesAllInUnits : Bounded → Anchored → Kind → List ℕ → (at : ℕ) → Type 0
TakesAllInUnits b anchored kind units at =
    Stops (unit_table_of (compiled_of b)) anchored (unit_program_of b) (seen_by (unit_program_of b) kind units) at (Some (steps_of b))

-- so many steps are enough for a text of so many bytes, if its program is linear
abbrev pub enough_in_bytes : Bounded → List ℕ → Option ℕ
enough_in_bytes b bytes = enough_by (byte_table_of (compiled_of b)) (length bytes)

-- and for so many 16-bit units
abbrev pub enough_in_units : Bounded → List ℕ → Option ℕ
enough_in_units b units = enough_by (unit_table_of (compiled_of b)) (length units)

-- in a text of so many bytes it may turn to a table
abbrev pub may_turn_in_bytes : Bounded → List ℕ → Bool
may_turn_in_bytes b bytes = may_turn (byte_table_of (compiled_of b)) (length bytes) (Some (steps_of b))

-- and in so many 16-bit units
abbrev pub may_turn_in_units : Bounded → List ℕ → Bool
may_turn_in_units b units = may_turn (unit_table_of (compiled_of b)) (length units) (Some (steps_of b))

-- Over bytes of a kind an iteration stops: it may not turn to a table, and the searches from an offset on, up to one of them, take together
-- as many steps as it may count, or more.
abbrev pub TakesAllAlongBytes : Bounded → Kind → List ℕ → (start : ℕ) → Type 0
TakesAllAlongBytes b kind bytes start = (may_turn_in_bytes b bytes ≡ false) × TakesAllAlong (byte_program_of b) (seen_by (byte_program_of b) kind bytes) start (steps_of b)

-- the same over 16-bit units
abbrev pub TakesAllAlongUnits : Bounded → Kind → List ℕ → (start : ℕ) → Type 0
TakesAllAlongUnits b kind units start = (may_turn_in_units b units ≡ false) × TakesAllAlong (unit_program_of b) (seen_by (unit_program_of b) kind units) start (steps_of b)
