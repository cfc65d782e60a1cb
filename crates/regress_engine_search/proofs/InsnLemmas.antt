-- What each kind of instruction leads to.
use Rattle.std.specs.Prelude.{slice_get, nat_lt}
use Rattle.std.proofs.Common.{◌≡◌, ℕ, zero, suc, ◌+◌, ◌<◌, Bool, true, false, not, [], Option, Some, None, if◌then◌else◌, map, refl, ap, ◌∙◌, subst, arith}
use Rattle.std.proofs.lemmas.Bool.Decides.{nat_tests}
use Rattle.regress_meaning.specs.Meaning.{Direction}
use Rattle.regress_meaning.specs.Inputs.{Input}
use Rattle.regress_front_nodes.specs.TreeMeaning.{direction}
use Rattle.regress_engine_input.specs.Views.{direction_of}
use Rattle.regress_engine_insn.specs.Instructions.{Instruction, Program, Stands}
use Rattle.regress_engine_insn.specs.Instructions as code
use Rattle.regress_engine_insn.specs.InsnViews.{instruction}
use Rattle.regress_engine_insn.specs.declared.insn.Insn.{Insn}
use Rattle.regress_engine_insn.specs.declared.insn.Insn.TheVariants.{EnterLoop}
use Rattle.regress_engine_insn.specs.declared.insn.LoopFields as insn
use Rattle.regress_engine_runs.specs.States.{Whole}
use Rattle.regress_engine_runs.specs.Runs.{successors, is_plain, moved_to, advance, is_idle, choices, fields_of, against, counted}
use Rattle.regress_engine_runs.specs.UndoStack.{at_each}
use Rattle.regress_engine_runs.proofs.RunViews.{one_stands}
use Rattle.regress_engine_search.specs.Ready.{is_simple}

-- the other direction
pub direction_of-against : (b : Bool) → direction_of (not b) ≡ against (direction_of b)
direction_of-against true = refl
direction_of-against false = refl

pub direction_of-direction : (b : Bool) → direction b ≡ direction_of (not b)
direction_of-direction true = refl
direction_of-direction false = refl

-- whether an offset is ahead
pub none-ahead : (n : ℕ) → false ≡ nat_lt 0 n → n ≡ 0
none-ahead zero e = refl
none-ahead (suc n) e = absurd (grind (arith, nat_tests))

pub some-ahead : (n : ℕ) → true ≡ nat_lt 0 n → 0 < n
some-ahead zero e = absurd (grind (arith, nat_tests))
some-ahead (suc n) e = omega arith

-- the instruction, told otherwise
pub stands-as : (program : Program) (at : ℕ) (j x : Insn) → j ≡ x → Stands program at (instruction j) → Stands program at (instruction x)
stands-as program at j x e here = subst (λ y. Stands program at (instruction y)) e here

pub simple-plain : (i : Instruction) → is_simple i ≡ true → is_plain i ≡ true
simple-plain code.goal e = absurd (grind arith)
simple-plain (code.submatch kind first last continuation) e = absurd (grind arith)
simple-plain _ e = refl

module _ (program : Program) (input : Input) where
  -- what changes nothing but the offset
  pub simple-successors : (i : Instruction) (dir : Direction) (s : Whole) → is_simple i ≡ true → successors program input i dir s ≡ moved_to s (advance program input i dir s.groups s.offset)
  simple-successors code.goal dir s e = absurd (grind arith)
  simple-successors (code.jump a) dir s e = absurd (grind arith)
  simple-successors (code.alt a) dir s e = absurd (grind arith)
  simple-successors (code.begin_group k) dir s e = absurd (grind arith)
  simple-successors (code.end_group k) dir s e = absurd (grind arith)
  simple-successors (code.reset_group k) dir s e = absurd (grind arith)
  simple-successors (code.enter_loop f) dir s e = absurd (grind arith)
  simple-successors (code.loop_again begin) dir s e = absurd (grind arith)
  simple-successors (code.single_loop least most greedy) dir s e = absurd (grind arith)
  simple-successors _ dir s e = refl

  -- an iteration ends
  pub again-successors : (dir : Direction) (s : Whole) (begin : ℕ) (f : code.LoopFields) → Stands program begin (code.enter_loop f)
      → successors program input (code.loop_again begin) dir s ≡ (if is_idle f s then [] else choices f begin s)
  again-successors dir s begin f there = ap (λ (x : Option Instruction). elim (fields_of x) [
    | None ↦ []
    | Some f ↦ if is_idle f s then [] else choices f begin s
  ]) there

  -- a one-character loop
  pub single-successors : (dir : Direction) (s : Whole) (least most : ℕ) (greedy : Bool) (i : Instruction) → Stands program (s.at + 1) i
      → successors program input (code.single_loop least most greedy) dir s
      ≡ at_each program input (suc (suc s.at)) s.loops s.groups (counted program input least most greedy i dir s.groups s.offset)
  single-successors dir s least most greedy i here =
      let e : suc s.at ≡ s.at + 1 = omega arith in
      let found : slice_get program.instructions (suc s.at) ≡ Some i = ap (slice_get program.instructions) e ∙ here in
      ap (λ (x : Option Instruction). elim x [ None ↦ [] | Some j ↦ map (λ o. record s { at = suc (suc s.at); offset = o }) (counted program input least most greedy j dir s.groups s.offset) ]) found

  -- where a repetition begins no other instruction stands
  pub no-repetition : (begin : ℕ) (j : Insn) (f : code.LoopFields) → Stands program begin (code.enter_loop f) → Stands program begin (instruction j)
      → ((r : insn.LoopFields) → j ≡ EnterLoop r → ⊥) → ⊥
  no-repetition begin j f here there other = by_kind j (one_stands program input begin (code.enter_loop f) (instruction j) here there) other
    where
      by_kind : (j : Insn) → code.enter_loop f ≡ instruction j → ((r : insn.LoopFields) → j ≡ EnterLoop r → ⊥) → ⊥
      by_kind (EnterLoop r) e other = other r refl
      by_kind _ e other = absurd (grind arith)
