-- What plain instructions lead to.
use Rattle.std.proofs.Common.{◌≡◌, ℕ, ◌+◌, Bool, true, [], ◌∷◌, Some, None, refl, sym, ap, ◌∙◌}
use Rattle.regress_meaning.specs.Meaning.{Direction}
use Rattle.regress_meaning.specs.Inputs.{Input}
use Rattle.regress_engine_insn.specs.Instructions.{Instruction, Program}
use Rattle.regress_engine_insn.specs.InsnViews.{instruction}
use Rattle.regress_engine_insn.specs.declared.insn.Insn.{Insn}
use Rattle.regress_engine_insn.specs.declared.insn.Insn.TheVariants.{Goal, Lookahead, Lookbehind, Atomic}
use Rattle.regress_engine_runs.specs.States.{Whole}
use Rattle.regress_engine_runs.specs.Runs.{advance, is_plain, moved_to, successors}
use Rattle.regress_engine_search.specs.Ready.{is_simple}
use Rattle.regress_engine_search.proofs.InsnLemmas.{simple-successors}
use Rattle.regress_engine_copying.proofs.StateLemmas.{next-is}

module _ (program : Program) (input : Input) (i : Instruction) (dir : Direction) (s : Whole) (simple : is_simple i ≡ true) where
  pub take-none : None ≡ advance program input i dir s.groups s.offset → [] ≡ successors program input i dir s
  take-none e = ap (moved_to s) e ∙ sym (simple-successors program input i dir s simple)

  pub take-some : (o : ℕ) → Some o ≡ advance program input i dir s.groups s.offset → record s { at = s.at + 1; offset = o } ∷ [] ≡ successors program input i dir s
  take-some o e = ap (λ a. record s { at = a; offset = o } ∷ []) (next-is s.at) ∙ ap (moved_to s) e ∙ sym (simple-successors program input i dir s simple)

-- what is no goal, no lookaround and no atomic group is plain
pub others-plain : (j : Insn) → (j ≡ Goal → ⊥) → ((n : Bool) (first last on : ℕ) → j ≡ Lookahead n first last on → ⊥) → ((n : Bool) (first last on : ℕ) → j ≡ Lookbehind n first last on → ⊥)
    → ((first last on : ℕ) → j ≡ Atomic first last on → ⊥) → is_plain (instruction j) ≡ true
others-plain Goal goal ahead behind atomic = absurd (goal refl)
others-plain (Lookahead n first last on) goal ahead behind atomic = absurd (ahead n first last on refl)
others-plain (Lookbehind n first last on) goal ahead behind atomic = absurd (behind n first last on refl)
others-plain (Atomic first last on) goal ahead behind atomic = absurd (atomic first last on refl)
others-plain _ goal ahead behind atomic = refl
