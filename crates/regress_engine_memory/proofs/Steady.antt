-- Over a text each state that a run meets leads only onward.
use Rattle.std.specs.Prelude.{slice_get, slice_set}
use Rattle.std.proofs.Common.{◌≡◌, inl, ℕ, true, List, length, None, refl}
use Rattle.regress_meaning.specs.Meaning.{Direction}
use Rattle.regress_engine_input.specs.Views.{View, AreOfKind, input_of, reading_of}
use Rattle.regress_engine_insn.specs.Instructions.{Instruction, Program, Stands}
use Rattle.regress_engine_insn.specs.Instructions as code
use Rattle.regress_engine_runs.specs.States.{Whole}
use Rattle.regress_engine_runs.specs.Runs.{entered, successors, fields_of}
use Rattle.regress_engine_runs.specs.Meets.{Meets, referred, reads_character, ReadsPlaces}
use Rattle.regress_engine_search.specs.Search.{Suits}
use Rattle.regress_engine_memory.specs.Under.{IsOnward, AreOnward}
use Rattle.regress_engine_memory.specs.Keys.{IsSteady}
use Rattle.regress_engine_memory.proofs.EachState.{each-choices, each-again}
use Rattle.regress_engine_memory.proofs.Taking.{each-moved, each-single}

module _ (v : View) (all : AreOfKind v.kind v.units) (program : Program) (suits : Suits program v) (d : Direction) where
  abbrev On : ℕ → Whole → Type 0
  On o u = IsOnward (length v.units) d o u.offset

  instruction-on : (i : Instruction) (s : Whole) → Stands program s.at i → referred i ≡ None → (reads_character i ≡ true → ReadsPlaces (reading_of v) i s)
      → AreOnward (length v.units) d s.offset (successors program (input_of v) i d s)
  instruction-on (code.jump a) s here calm reads = (inl refl, tt)
  instruction-on (code.alt a) s here calm reads = (inl refl, (inl refl, tt))
  instruction-on (code.begin_group k) s here calm reads = (inl refl, tt)
  instruction-on (code.end_group k) s here calm reads = (inl refl, tt)
  instruction-on (code.reset_group k) s here calm reads = (inl refl, tt)
  instruction-on (code.enter_loop f) s here calm reads = each-choices (On s.offset) f s.at (entered (input_of v) d f s) (inl refl) (inl refl)
  instruction-on (code.loop_again begin) s here calm reads = each-again (On s.offset) (fields_of (slice_get program.instructions begin)) begin s (λ f is. (inl refl, inl refl))
  instruction-on (code.single_loop least most greedy) s here calm reads =
      each-single v all program suits d (On s.offset) s least most greedy here (reads refl).0 (λ q takes. takes.0)
  instruction-on i s here calm reads = each-moved v all program suits d (On s.offset) s i calm (λ q takes. takes.0)

-- Where a run reads at places, each state that it meets leads only onward.
pub steady : (v : View) → AreOfKind v.kind v.units → (program : Program) → Suits program v → (dir : Direction) (ts : List Whole)
    → ((u : Whole) (i : Instruction) → Meets program (input_of v) dir ts u → Stands program u.at i → reads_character i ≡ true → ReadsPlaces (reading_of v) i u)
    → IsSteady program (input_of v) (length v.units) dir ts
steady v all program suits dir ts reads u i met here plain calm d = instruction-on v all program suits d i u here calm (reads u i met here)
