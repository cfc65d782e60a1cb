-- Programs that ask for a word and then for the same once more.
use Rattle.std.specs.Prelude.{◌≡◌, ◌≢◌, ℕ, true, false, List, All, slice_get}
use Rattle.regress_meaning.specs.Meaning.{Forward}
use Rattle.regress_engine_input.specs.Views.{View, input_of, reading_of}
use Rattle.regress_engine_insn.specs.Instructions.{Instruction, Program, Stands}
use Rattle.regress_engine_insn.specs.Instructions as code
use Rattle.regress_engine_runs.specs.States.{Marks}
use Rattle.regress_engine_runs.specs.Meets.{IsAtPlace}
use Rattle.regress_engine_runs.specs.Runs.{one_by_one}
use Rattle.regress_engine_analysis.specs.Planned.{is_class}

-- a class stands at an address
abbrev pub ClassAt : Program → (at : ℕ) → Type 0
ClassAt program at = (i : Instruction) → Stands program at i → is_class i ≡ true

-- Behind its first instruction a program has a group of a class and a greedy loop of one, then the same without the group, and then it refers to the group.
pub record IsRepeating (program : Program) (k word between : ℕ) : Type 0 where
  pub begins : Stands program 1 (code.begin_group k)
  pub first : ClassAt program 2
  pub loop : Stands program 3 (code.single_loop 0 word true)
  pub body : ClassAt program 4
  pub ends : Stands program 5 (code.end_group k)
  pub second : ClassAt program 6
  pub again : Stands program 7 (code.single_loop 0 between true)
  pub other : ClassAt program 8
  pub refers : Stands program 9 (code.back k false)

-- another unit stands ahead of a place than ahead of an offset
abbrev pub Differs : View → (start o : ℕ) → Type 0
Differs v start o = IsAtPlace (reading_of v) o × (slice_get v.units start ≢ slice_get v.units o)

-- one does so at each exit of a loop of a class from an offset on, of at most so many iterations
abbrev pub AllDiffer : Program → View → Instruction → (start most : ℕ) → List Marks → (near : ℕ) → Type 0
AllDiffer program v class start most groups near = All (Differs v start) (one_by_one program (input_of v) most class Forward groups near)
