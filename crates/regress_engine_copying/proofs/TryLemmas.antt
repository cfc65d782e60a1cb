-- A run that is tried.
use Rattle.std.proofs.Common.{◌≡◌, ℕ, true, [], ◌∷◌, Option, Some, None, refl, sym, subst}
use Rattle.regress_meaning.specs.Meaning.{Forward}
use Rattle.regress_meaning.specs.Steps.{passed}
use Rattle.regress_engine_input.specs.Views.{View, direction_of, input_of, reading_of}
use Rattle.regress_engine_insn.specs.Instructions.{Program}
use Rattle.regress_engine_runs.specs.States.{Whole, first_state}
use Rattle.regress_engine_runs.specs.Computed.{IsComputed}
use Rattle.regress_engine_runs.specs.UndoStack.{ReadOn, outermost}
use Rattle.regress_engine_search.specs.Tasks.{Leads, IsTried}
use Rattle.regress_engine_search.specs.Answering.{IsAnswer}
use Rattle.regress_engine_search.proofs.TaskLemmas.{leads-then, leads-later, tried-first, tried-fails, tried-on}
use Rattle.regress_engine_copying.specs.Held.{Held, tried}
use Rattle.regress_engine_copying.specs.Tasks.{work_of, task_of}

-- any character passes
pub passed-some : (x : Option (ℕ × ℕ)) (q : ℕ) → Some q ≡ passed (λ c. true) x → (c : ℕ) × (x ≡ Some (c, q))
passed-some None q e = absurd (cc e)
passed-some (Some (c, r)) q e = let same : r ≡ q = cc in (c, (λ i. Some (c, same i)))

pub passed-none : (x : Option (ℕ × ℕ)) → None ≡ passed (λ c. true) x → x ≡ None
passed-none None e = refl
passed-none (Some x) e = absurd (cc e)

module _ (program : Program) (v : View) (start : ℕ) (ends : IsComputed program (input_of v) Forward (first_state program start ∷ [])) where
  -- nothing is tried yet
  pub trying-first : (h : Held) → ReadOn program (input_of v) (reading_of v) Forward (first_state program start ∷ []) (outermost [])
      → h ≡ record { forward = true; entries = tried (first_state program start) ∷ [] } → IsTried program v ends.0.0 ends.0.1 (task_of [] h)
  unfolding work_of
  trying-first h reads is =
      subst (λ x. IsTried program v ends.0.0 ends.0.1 (task_of [] x)) (sym is)
      (tried-on program v ends.0.0 ends.0.1 0 _ _ (leads-later program (input_of v) Forward [] (first_state program start ∷ []) (outermost [])) (tried-first program v start ends reads))

  -- nothing is left to be tried
  pub trying-fails : (h : Held) → IsTried program v ends.0.0 ends.0.1 (task_of [] h) → h.entries ≡ [] → IsAnswer program (input_of v) start None []
  unfolding work_of
  trying-fails h trying empty =
      tried-fails program v start ends _ [] (subst (λ es. IsTried program v ends.0.0 ends.0.1 (record { dir = direction_of h.forward; states = []; work = work_of es })) empty trying)

-- a state was taken off, and a step done
module _ (program : Program) (v : View) (s : Whole) (h j k : Held) where
  pub taken-steps : Leads program (input_of v) 0 (task_of [] h) (task_of (s ∷ []) j) → Leads program (input_of v) 1 (task_of (s ∷ []) j) (task_of [] k)
      → Leads program (input_of v) 1 (task_of [] h) (task_of [] k)
  taken-steps first second = leads-then program (input_of v) 0 1 first second
