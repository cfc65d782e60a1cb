-- What a search with a program writes to slots.
use Rattle.std.specs.Prelude.{ℕ, List, Option, All, IfSome, option_map, slice_get}
use Rattle.std.specs.declared.ops.Range.{Range}
use Rattle.regress_meaning.specs.Matches.{Item}
use Rattle.regress_meaning.specs.Offsets.{Reading, told}
use Rattle.regress_front.specs.Trees.{Tree}
use Rattle.regress_match.specs.Views.{ends}
use Rattle.regress_engine_code.specs.declared.compiled.CompiledRegex.{CompiledRegex}
use Rattle.regress_engine_insn.specs.Layout.{Target}
use Rattle.regress_engine_runs.specs.Meets.{AreAtPlaces}
use Rattle.regress_engine_code.specs.Standing.{target_of}
use Rattle.regress_programs.specs.declared.slots.Anchored.{Anchored}
use Rattle.regress_programs.specs.declared.slots.Anchored.TheVariants.{No, Yes}
use Rattle.regress_programs.specs.Outcomes.{outcome_of_tree}
use Rattle.regress_programs.specs.Programs.{items_of_tree}

-- The first match of a tree from a place on, or its outcome there where the search is anchored.
abbrev pub first_item : Anchored → Target → ℕ → Tree → List ℕ → ℕ → Option Item
first_item No target n t text place = slice_get (items_of_tree target n t text place) 0
first_item Yes target n t text place = outcome_of_tree target n t text place

-- That of a program's tree in what is read, told in offsets.
abbrev pub first_told : Anchored → CompiledRegex → Reading → ℕ → Tree → ℕ → Option Item
first_told anchored compiled reading n t place = option_map (told reading) (first_item anchored (target_of compiled) n t reading.points place)

-- Where there is a match, its range has the property, and so has each range in the slots.
abbrev pub HoldsOfSlots : (Range ℕ → Type 0) → Option (Range ℕ) → List (Option (Range ℕ)) → Type 0
HoldsOfSlots P found slots = IfSome found (λ r. P r × All (λ g. IfSome g P) slots)

-- they are at places
abbrev pub SlotsAreAtPlaces : Reading → Option (Range ℕ) → List (Option (Range ℕ)) → Type 0
SlotsAreAtPlaces reading = HoldsOfSlots (λ r. AreAtPlaces reading (ends r))
