-- Iterations of an instruction that takes one character, one by one.
use Rattle.std.specs.Prelude.{option_and_then}
use Rattle.std.proofs.Common.{◌≡◌, ℕ, zero, suc, ◌-◌, ◌<◌, ◌≤◌, ◌==◌, Bool, true, false, List, [], ◌∷◌, Option, Some, None, if◌then◌else◌, refl, ap, ◌∙◌, arith}
use Rattle.regress_meaning.specs.Meaning.{Direction}
use Rattle.regress_meaning.specs.Inputs.{Input}
use Rattle.regress_engine_insn.specs.Instructions.{Instruction, Program}
use Rattle.regress_engine_runs.specs.States.{Marks}
use Rattle.regress_engine_runs.specs.Runs.{against, gap, back_to, advance, after_times, as_far}

module _ (program : Program) (input : Input) (i : Instruction) (dir : Direction) (groups : List Marks) where
  pub after-goes : (left o q : ℕ) → 0 < left → Some q ≡ advance program input i dir groups o
      → after_times program input (left - 1) i dir groups q ≡ after_times program input left i dir groups o
  unfolding after_times
  after-goes zero o q some e = absurd (omega (arith, some))
  after-goes (suc n) o q some e =
      let same : suc n - 1 ≡ n = omega arith in
      ap (λ m. after_times program input m i dir groups q) same ∙ ap (option_and_then (after_times program input n i dir groups)) e

  pub after-stops : (left o : ℕ) → 0 < left → None ≡ advance program input i dir groups o → None ≡ after_times program input left i dir groups o
  unfolding after_times
  after-stops zero o some e = absurd (omega (arith, some))
  after-stops (suc n) o some e = ap (option_and_then (after_times program input n i dir groups)) e

  pub after-all : (left o : ℕ) → left ≤ 0 → Some o ≡ after_times program input left i dir groups o
  unfolding after_times
  after-all zero o none = refl
  after-all (suc n) o none = absurd (omega (arith, none))

  pub far-goes : (left o q : ℕ) → 0 < left → Some q ≡ advance program input i dir groups o → as_far program input (left - 1) i dir groups q ≡ as_far program input left i dir groups o
  unfolding as_far
  far-goes zero o q some e = absurd (omega (arith, some))
  far-goes (suc n) o q some e =
      let same : suc n - 1 ≡ n = omega arith in
      ap (λ m. as_far program input m i dir groups q) same ∙ ap (λ (x : Option ℕ). elim x [ None ↦ o | Some q ↦ as_far program input n i dir groups q ]) e

  pub far-stops : (left o : ℕ) → 0 < left → None ≡ advance program input i dir groups o → o ≡ as_far program input left i dir groups o
  unfolding as_far
  far-stops zero o some e = absurd (omega (arith, some))
  far-stops (suc n) o some e = ap (λ (x : Option ℕ). elim x [ None ↦ o | Some q ↦ as_far program input n i dir groups q ]) e

  pub far-all : (left o : ℕ) → left ≤ 0 → o ≡ as_far program input left i dir groups o
  unfolding as_far
  far-all zero o none = refl
  far-all (suc n) o none = absurd (omega (arith, none))

-- where nothing stands before it, only the last offset is gone back to
module _ (input : Input) where
  pub back_to-none : (n : ℕ) (dir : Direction) (near far : ℕ) → input.next (against dir) far ≡ None → back_to input n dir near far ≡ far ∷ []
  unfolding back_to
  back_to-none zero dir near far e = refl
  back_to-none (suc n) dir near far e = by_gap (gap dir near far == 0)
    where
      by_gap : (b : Bool) → (if b then far ∷ [] else far ∷ elim (input.next (against dir) far) [ None ↦ [] | Some x ↦ back_to input n dir near x.1 ]) ≡ far ∷ []
      by_gap true = refl
      by_gap false = ap (λ (o : Option (ℕ × ℕ)). far ∷ elim o [ None ↦ [] | Some x ↦ back_to input n dir near x.1 ]) e
