-- What a program's states stand for, and when a program runs as a tree means.
use Rattle.std.specs.Prelude.{◌≡◌, ℕ, ◌≤◌, List, [], ◌∷◌, length, Option, Some, None, get_or, option_map, replicate}
use Rattle.regress_meaning.specs.Meaning.{State, Forward}
use Rattle.regress_meaning.specs.Offsets.{Reading, offset, offset_range}
use Rattle.regress_meaning.specs.Laws.{IsInside}
use Rattle.regress_meaning.specs.Inputs.{Input, context_of}
use Rattle.regress_front_nodes.specs.Trees.{Tree}
use Rattle.regress_front_nodes.specs.TreeMeaning.{node_outcomes}
use Rattle.regress_engine_insn.specs.Instructions.{Program}
use Rattle.regress_engine_insn.specs.Layout.{Target}
use Rattle.regress_engine_runs.specs.States.{Marks, unset, range_of, Whole, first_state}
use Rattle.regress_engine_runs.specs.Runs.{Runs}

-- A program is made for an input: with its table and its mode.
pub record IsMadeFor (target : Target) (input : Input) : Type 0 where
  pub table : target.table ≡ input.table
  pub unicode : target.unicode ≡ input.unicode

-- An offset is that of a state's place, the marks are those of its groups' ranges, and the state lies in the text.
pub record AreOf (reading : Reading) (s : State) (at : ℕ) (marks : List Marks) : Type 0 where
  pub place : at ≡ offset reading s.place
  pub count : length marks ≡ length s.groups
  pub groups : (k : ℕ) → range_of (get_or marks k unset) ≡ option_map (offset_range reading) (get_or s.groups k None)
  pub inside : IsInside reading.points s

-- a program's state stands for a state of the meaning: by its offset and its marks
abbrev pub StandsFor : Reading → State → Whole → Type 0
StandsFor reading s w = AreOf reading s w.offset w.groups

-- an answer stands for the first of some states, and there is none where there is no state
abbrev pub IsFirst : Reading → List State → Option Whole → Type 0
IsFirst reading [] r = r ≡ None
IsFirst reading (s ∷ ss) r = (w : Whole) × (r ≡ Some w) × StandsFor reading s w

-- A program runs as a tree of n groups: from each place of the text its run ends, and the answer stands for the tree's most
-- preferred outcome there.
abbrev pub RunsAsTree : Program → Input → Reading → ℕ → Tree → Type 0
RunsAsTree program input reading n t = (p : ℕ) → p ≤ length reading.points → (r : Option Whole)
    × Runs program input Forward (first_state program (offset reading p) ∷ []) r
    × IsFirst reading (node_outcomes (context_of reading input) t Forward (record { place = p; groups = replicate n None })) r
