-- A run that is tried.
use Rattle.std.specs.Prelude.{replicate, IfSome}
use Rattle.std.proofs.Common.{◌≡◌, ℕ, Bool, true, false, [], ◌∷◌, Option, Some, None, ◌⊎◌, inl, inr, sym, ap, subst}
use Rattle.std.proofs.lemmas.List.{length-replicate}
use Rattle.regress_meaning.specs.Meaning.{Forward}
use Rattle.regress_engine_input.specs.Views.{View, direction_of, input_of}
use Rattle.regress_engine_insn.specs.Instructions.{Program}
use Rattle.regress_engine_runs.specs.States.{Whole, unset, first_state}
use Rattle.regress_engine_runs.specs.Computed.{IsComputed}
use Rattle.regress_engine_runs.specs.UndoStack.{stands_for}
use Rattle.regress_engine_search.specs.Tasks.{Task, Leads, ComesAs, IsTried}
use Rattle.regress_engine_search.specs.Answering.{IsAnswer}
use Rattle.regress_engine_search.proofs.TaskLemmas.{leads-then, tried-first, tried-ends, tried-on, tried-fails}
use Rattle.regress_engine_undo.specs.declared.undo.Spot.{Spot}
use Rattle.regress_engine_undo.specs.Held.{Held}
use Rattle.regress_engine_undo.specs.Sound.{IsSound, IsHeld}
use Rattle.regress_engine_undo.specs.Tasks.{task, state_at}
use Rattle.regress_engine_trying.specs.Trying.{ReadsFrom, Steps, IsTrying, IsWay}

-- what a text shows is what is read, and what is computed of the one is tried of the other
module _ (program : Program) (shown v : View) (shows : shown ≡ v) (start : ℕ) (ends : IsComputed program (input_of shown) Forward (first_state program start ∷ [])) where
  -- nothing is tried yet
  pub trying-first : (h : Held) → ReadsFrom program v start
      → h ≡ record { stack = []; loops = replicate program.loops (0, 0); groups = replicate program.groups unset }
      → IsTrying program v ends.0.0 ends.0.1 (record { at = 0; offset = start; forward = true }) h
  unfolding stands_for IsSound
  trying-first h reads is =
      subst (λ x. IsTrying program x ends.0.0 ends.0.1 (record { at = 0; offset = start; forward = true }) h) shows
      (subst (IsTrying program shown ends.0.0 ends.0.1 (record { at = 0; offset = start; forward = true })) (sym is) (record {
        tried = tried-first program shown start ends (subst (λ x. ReadsFrom program x start) (sym shows) reads);
        held = record { loops = length-replicate program.loops (0, 0); groups = length-replicate program.groups unset; sound = tt };
      }))

  -- the answer is there
  pub trying-ends : (p q : Spot) (h k : Held) → IsTried program v ends.0.0 ends.0.1 (task program (input_of v) true p h) → Steps (record { program = program; view = v }) p h q k None
      → IsAnswer program (input_of v) start (Some q.offset) k.groups
  trying-ends p q h k tried steps =
      subst (λ x. IsAnswer program (input_of x) start (Some q.offset) k.groups) shows
      (tried-ends program shown start ends (task program (input_of shown) true p h) (state_at p h)
      (subst (λ x. IsTried program x ends.0.0 ends.0.1 (task program (input_of x) true p h)) (sym shows) tried)
      (subst (λ x. ComesAs program (input_of x) (task program (input_of x) true p h) (state_at p h)) (sym shows) steps.2)
      q.offset k.groups (ap (λ (x : Spot). x.offset) (sym steps.0)) (sym steps.1))

  -- nothing is left to be tried
  pub trying-fails : (q : Spot) (k : Held) → IsTried program v ends.0.0 ends.0.1 (task program (input_of v) false q k) → k.stack ≡ [] → IsAnswer program (input_of v) start None k.groups
  unfolding stands_for
  trying-fails q k tried empty =
      subst (λ x. IsAnswer program (input_of x) start None k.groups) shows
      (tried-fails program shown start ends (direction_of q.forward) k.groups
      (subst (λ s. IsTried program shown ends.0.0 ends.0.1 (record { dir = direction_of q.forward; states = []; work = stands_for program (input_of shown) (direction_of q.forward) s k.loops k.groups })) empty
      (subst (λ x. IsTried program x ends.0.0 ends.0.1 (task program (input_of x) false q k)) (sym shows) tried)))

-- it may begin where a way from its spot leads
pub trying-way : (program : Program) (v : View) (n : ℕ) (r : Option Whole) (o start first : ℕ) (h : Held) → IsWay program (input_of v) true o start first
    → IsTrying program v n r (record { at = start; offset = o; forward = true }) h → IsTrying program v n r (record { at = first; offset = o; forward = true }) h
trying-way program v n r o start first h ways trying = by_way (ways h)
  where
    spot : ℕ → Spot
    spot at = record { at = at; offset = o; forward = true }

    from : ℕ → Task
    from at = task program (input_of v) true (spot at) h

    by_way : (first ≡ start) ⊎ Leads program (input_of v) 1 (from start) (from first) → IsTrying program v n r (spot first) h
    by_way (inl same) = subst (λ at. IsTrying program v n r (spot at) h) (sym same) trying
    by_way (inr leads) = record { tried = tried-on program v n r 1 (from start) (from first) leads trying.tried; held = trying.held }

-- what a step came to
pub steps-led : (program : Program) (v : View) (p q : Spot) (h k : Held) (o : Option Bool) (going b : Bool) → o ≡ Some going → going ≡ b → Steps (record { program = program; view = v }) p h q k o
    → Leads program (input_of v) 1 (task program (input_of v) true p h) (task program (input_of v) b q k)
steps-led program v p q h k o going b some same steps =
    subst (λ x. Leads program (input_of v) 1 (task program (input_of v) true p h) (task program (input_of v) x q k)) same (subst (λ x. Steps (record { program = program; view = v }) p h q k x) some steps)

pub steps-held : (program : Program) (v : View) (k : Held) (o : Option Bool) (going : Bool) → o ≡ Some going → IfSome o (λ x. IsHeld program v k) → IsHeld program v k
steps-held program v k o going some held = subst (λ x. IfSome x (λ y. IsHeld program v k)) some held

-- and then it was gone back
pub steps-back : (program : Program) (v : View) (p q s : Spot) (h k l : Held) (b c : Bool) → b ≡ c → Leads program (input_of v) 1 (task program (input_of v) true p h) (task program (input_of v) false q k)
    → Leads program (input_of v) 0 (task program (input_of v) false q k) (task program (input_of v) b s l)
    → Leads program (input_of v) 1 (task program (input_of v) true p h) (task program (input_of v) c s l)
steps-back program v p q s h k l b c same first second =
    leads-then program (input_of v) 1 0 first (subst (λ x. Leads program (input_of v) 0 (task program (input_of v) false q k) (task program (input_of v) x s l)) same second)
