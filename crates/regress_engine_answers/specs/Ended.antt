-- What is kept of where runs end.
use Rattle.std.specs.Prelude.{◌≡◌, ℕ, suc, ◌+◌, ◌-◌, ◌==◌, Bool, true, false, List, [], length, Option, None, if◌then◌else◌}
use Rattle.regress_meaning.specs.Meaning.{Direction}
use Rattle.regress_engine_input.specs.Views.{View, input_of}
use Rattle.regress_engine_insn.specs.Instructions.{Instruction, Program, Stands}
use Rattle.regress_engine_insn.specs.Instructions as code
use Rattle.regress_engine_runs.specs.Runs.{advance, after_times}
use Rattle.regress_engine_runs.specs.States.{Marks}
use Rattle.regress_engine_linear.specs.Answered.{is_single}
use Rattle.regress_engine_ways.specs.Ways.{end_at, end_beyond, end_near}
use Rattle.regress_engine_answers.specs.AnswerTables.{ends_by, exit_ends_by, told_by}
use Rattle.regress_engine_answers.specs.declared.answers.Answers.{Answers}

module _ (program : Program) (v : View) (dir : Direction) (a : Answers) (at : ℕ) where
  -- where runs end from the exits of a one-character loop behind at least one more character, by what is kept
  abbrev pub single_beyond : (greedy : Bool) → (body : Instruction) → (o : ℕ) → Option ℕ
  single_beyond greedy body o = end_beyond (ends_by a (at + 2)) (exit_ends_by a at) greedy (advance program (input_of v) body dir [] o)

  -- and from the loop
  abbrev pub single_end : (least most : ℕ) → (greedy : Bool) → (body : Instruction) → (o : ℕ) → Option ℕ
  single_end least most greedy body o =
      end_near (ends_by a (at + 2)) (λ q. if q == o then single_beyond greedy body o else exit_ends_by a at q) program (input_of v) dir greedy body (most - least)
      (length v.units) (after_times program (input_of v) least body dir [] o)

-- Of an address and an offset it is kept where runs end, by what was told and kept before; of the rest it stays.
pub record IsEndKept (program : Program) (v : View) (dir : Direction) (groups : List Marks) (at o : ℕ) (old new : Answers) : Type 0 where
  pub ends : (b q : ℕ) → (b ≡ at → q ≡ o → ⊥) → ends_by new b q ≡ ends_by old b q
  pub exit_ends : (b q : ℕ) → (b ≡ at → q ≡ o → ⊥) → exit_ends_by new b q ≡ exit_ends_by old b q
  pub plain : (i : Instruction) → Stands program at i → is_single i ≡ false
      → ends_by new at o ≡ (if told_by old at o then end_at (told_by old) (ends_by old) program (input_of v) dir groups i at o else None)
  pub single : (least most : ℕ) (greedy : Bool) (body : Instruction) → Stands program at (code.single_loop least most greedy) → Stands program (suc at) body
      → (exit_ends_by new at o ≡ single_beyond program v dir old at greedy body o) × (ends_by new at o ≡ single_end program v dir old at least most greedy body o)
