-- What a compiled pattern stands for.
use Rattle.std.specs.Prelude.{ℕ, List, [], Option}
use Rattle.std.specs.Arc.{arc_str_bytes}
use Rattle.std.specs.Option.{option_map_or}
use Rattle.regress_meaning.specs.Table.{Table}
use Rattle.regress_meaning.specs.Pattern.{Pattern}
use Rattle.regress_meaning.specs.Flags.{Options}
use Rattle.regress_meaning.specs.Matches.{Item}
use Rattle.regress_front.specs.Trees.{Tree}
use Rattle.regress_engine_insn.specs.Layout.{Target}
use Rattle.regress_engine_code.specs.Standing.{names_of, target_of}
use Rattle.regress.specs.declared.api.Regex.{Regex}
use Rattle.regress_programs.specs.Outcomes.{outcome_of_tree}
use Rattle.regress_programs.specs.Programs.{IsProgramOf, IsLaidOutFrom, items_of_tree}

-- the bytes of the pattern's text; none where it was made of programs
abbrev pub source_of : Regex → List ℕ
source_of r = option_map_or arc_str_bytes r.source []

-- the names of its groups by their numbers, as bytes of UTF-8
abbrev pub names_of_regex : Regex → List (List ℕ)
names_of_regex r = names_of r.compiled.byte_program

-- The compiled pattern stands for the tree in texts, under this table and these options: its program of bytes is the tree's.
abbrev pub StandsFor : Regex → Table → Options → Pattern → Type 0
StandsFor r t o p = IsProgramOf r.compiled.byte_program t o p

-- The compiled pattern stands for the tree in 16-bit units: its program of units is the tree's.
abbrev pub StandsInUnits : Regex → Table → Options → Pattern → Type 0
StandsInUnits r t o p = IsProgramOf r.compiled.unit_program t o p

-- what its program of bytes is made for, with the program
abbrev pub byte_target : Regex → Target
byte_target r = target_of r.compiled.byte_program

-- and its program of units
abbrev pub unit_target : Regex → Target
unit_target r = target_of r.compiled.unit_program

-- In texts it goes by this tree of so many groups: its program of bytes is a layout of it.
abbrev pub HasTree : Regex → ℕ → Tree → Type 0
HasTree r n t = IsLaidOutFrom (byte_target r) n t

-- In 16-bit units it does: its program of units is a layout of it.
abbrev pub HasTreeInUnits : Regex → ℕ → Tree → Type 0
HasTreeInUnits r n t = IsLaidOutFrom (unit_target r) n t

-- The match list of a tree that it goes by in texts, from a place of a text on.
abbrev pub tree_list : Regex → ℕ → Tree → List ℕ → ℕ → List Item
tree_list r n t text place = items_of_tree (byte_target r) n t text place

-- And of one that it goes by in 16-bit units.
abbrev pub tree_list_in_units : Regex → ℕ → Tree → List ℕ → ℕ → List Item
tree_list_in_units r n t text place = items_of_tree (unit_target r) n t text place

-- The outcome of a tree that it goes by in texts, at a place of a text.
abbrev pub tree_outcome : Regex → ℕ → Tree → List ℕ → ℕ → Option Item
tree_outcome r n t text place = outcome_of_tree (byte_target r) n t text place

-- And of one that it goes by in 16-bit units.
abbrev pub tree_outcome_in_units : Regex → ℕ → Tree → List ℕ → ℕ → Option Item
tree_outcome_in_units r n t text place = outcome_of_tree (unit_target r) n t text place
