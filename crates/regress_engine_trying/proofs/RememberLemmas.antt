-- What is remembered of failures.
use mathlib.Core.HLevel.{Σ_prop_path}
use Rattle.std.specs.Coded.{codes}
use Rattle.std.proofs.Common.{◌≡◌, ℕ, suc, Bool, true, false, List, [], ◌∷◌, Option, Some, None, IfSome, refl, ap, sym, subst, ◌∙◌, length, arith}
use Rattle.std.proofs.Math.Logic.{∥∥₁_elim, ∥∥₁_map}
use Rattle.regress_meaning.specs.Meaning.{Direction}
use Rattle.regress_meaning.specs.Inputs.{Input}
use Rattle.regress_engine_input.specs.Views.{View, AreOfKind, input_of}
use Rattle.regress_engine_insn.specs.Instructions.{Program}
use Rattle.regress_engine_runs.specs.States.{Whole}
use Rattle.regress_engine_runs.specs.Computed.{IsComputed}
use Rattle.regress_engine_runs.specs.UndoStack.{Fails, tried, whole}
use Rattle.regress_engine_runs.proofs.Computed.{computed-runs, runs-computed}
use Rattle.regress_engine_runs.proofs.OneAnswer.{IsComputed-prop}
use Rattle.regress_engine_search.specs.Tasks.{Leads}
use Rattle.regress_engine_search.specs.Search.{Suits}
use Rattle.regress_engine_search.proofs.TaskLemmas.{leads-then, tried-on}
use Rattle.regress_engine_undo.specs.declared.undo.Spot.{Spot}
use Rattle.regress_engine_undo.specs.Held.{Held, pushed}
use Rattle.regress_engine_undo.specs.Sound.{IsHeld, IsSound}
use Rattle.regress_engine_undo.specs.Tasks.{task, state_at}
use Rattle.regress_engine_memory.specs.declared.failures.Failures.{Failures}
use Rattle.regress_engine_memory.specs.Deciding.{is_flow}
use Rattle.regress_engine_memory.specs.Held.{FailsIfFree}
use Rattle.regress_engine_memory.specs.Keys.{Key, Keyed}
use Rattle.regress_engine_memory.specs.Planes.{AreKnown, FailsAsTold, key_in}
use Rattle.regress_engine_memory.specs.Remembered.{keyed_of}
use Rattle.regress_engine_memory.specs.Needs.{are_needs}
use Rattle.regress_engine_memory.specs.TableViews.{needs_of, table_of}
use Rattle.regress_engine_memory.proofs.Deciding.{decides}
use Rattle.regress_engine_memory.proofs.HeldLemmas.{learns-held}
use Rattle.regress_engine_trying.specs.Trying.{World, Steps}
use Rattle.regress_engine_trying.specs.Remembering.{AreOf, Begins, IsUnderWay}

-- what is held stays sound with a record of what is tried
pub tried-held : (program : Program) (v : View) (h : Held) (at o : ℕ) → IsHeld program v h → IsHeld program v (pushed (tried at o) h)
unfolding IsSound
tried-held program v h at o held = record { loops = held.loops; groups = held.groups; sound = held.sound }

module _ (w : World) where
  -- what leads on from what is under way is under way
  pub under-way-on : (steps : ℕ) (a b : Bool) (p q : Spot) (h k : Held)
      → Leads w.program (input_of w.view) steps (task w.program (input_of w.view) a p h) (task w.program (input_of w.view) b q k)
      → IsUnderWay w a p h → IsUnderWay w b q k
  under-way-on steps a b p q h k leads (n, r, tries) =
      (n, r, tried-on w.program w.view n r steps (task w.program (input_of w.view) a p h) (task w.program (input_of w.view) b q k) leads tries)

  -- a state that is tried is stepped on from, after what was recorded
  pub steps-tried : (p q : Spot) (h k l : Held) (left : Option Bool)
      → Leads w.program (input_of w.view) 0 (task w.program (input_of w.view) true p h) (task w.program (input_of w.view) true p k)
      → k.loops ≡ h.loops → k.groups ≡ h.groups → Steps w p k q l left → Steps w p h q l left
  steps-tried p q h k l (Some going) leads loops groups steps = leads-then w.program (input_of w.view) 0 1 leads steps
  steps-tried p q h k l None leads loops groups (same, kept, comes) =
      (same, kept ∙ groups, λ n r come. let x = leads.comes n r come in comes x.0 r x.2 ∙ ap Some (alike loops groups))
    where
      alike : k.loops ≡ h.loops → k.groups ≡ h.groups → state_at p k ≡ state_at p h
      alike same-loops same-groups = ap (λ x. record { at = p.at; offset = p.offset; loops = x; groups = k.groups }) same-loops
          ∙ ap (λ x. record { at = p.at; offset = p.offset; loops = h.loops; groups = x }) same-groups

  -- it is under way where its instruction is still to be done
  pub begun-way : (p q : Spot) (h k : Held) → Begins w p h q k None → IsUnderWay w true p h → IsUnderWay w true q k
  begun-way p q h k (same, loops, groups, leads) tries = subst (λ s. IsUnderWay w true s k) (sym same) (under-way-on 0 true true p p h k leads tries)

  pub begun-steps : (p q r : Spot) (h k l : Held) (left : Option Bool) → Begins w p h q k None → Steps w q k r l left → Steps w p h r l left
  begun-steps p q r h k l left (same, loops, groups, leads) steps = steps-tried p r h k l left leads loops groups (subst (λ s. Steps w s k r l left) same steps)

  -- what is learned of a state whose record is popped is so
  pub learned : (old new : Failures) (p s : Spot) (h : Held) → AreOfKind w.view.kind w.view.units → Suits w.program w.view → AreOf w old → new.table ≡ old.table
      → ((program : Program) → (input : Input) → AreKnown program input old → FailsIfFree program input (keyed_of (table_of old.table)) (length w.view.units) s h.loops → AreKnown program input new)
      → p.forward ≡ s.forward → length h.loops ≡ w.program.loops → IsUnderWay w false p (pushed (tried s.at s.offset) h) → AreOf w new
  learned old new p s h all suits so same grows turned count (n, r, tries) = record {
    tested = subst (λ t. is_flow (table_of t) w.program ≡ true) (sym same) so.tested;
    needed = subst (λ t. are_needs (needs_of t) w.program ≡ true) (sym same) so.needed;
    known = grows w.program (input_of w.view) so.known
        (learns-held w.view all w.program suits (keyed_of (table_of old.table)) (decides (table_of old.table) w.program so.tested) p s h turned count n r tries);
  }

-- ---- what is remembered is kept beside an executor, truncated

bool-set : IsSet Bool
bool-set = hlevel codes

answer-set : IsSet (Option Whole)
answer-set = hlevel codes

module _ (program : Program) (input : Input) where
  -- that a run has no answer is known by its computation, which is one
  abbrev fails-computed : Direction → List Whole → Type 0
  fails-computed dir ss = (c : IsComputed program input dir ss) × (c.0.1 ≡ None)

  fails-computed-prop : (dir : Direction) (ss : List Whole) → IsProp (fails-computed dir ss)
  fails-computed-prop dir ss x y = Σ_prop_path (λ (c : IsComputed program input dir ss). answer-set c.0.1 None) (IsComputed-prop program input dir ss x.0 y.0)

  fails-anyway : (dir : Direction) (ss : List Whole) → ∥ Fails program input dir ss ∥₁ → Fails program input dir ss
  fails-anyway dir ss t =
      let ((a, runs), none) = ∥∥₁_elim t (fails-computed-prop dir ss) (λ x. (((x.0, None), λ f more. runs-computed program input x.1 f more), refl)) in
      (a.0, computed-runs program input (suc a.0) dir ss a.0 None (runs (suc a.0) (omega arith) ∙ ap (λ (r : Option Whole). Some (a.0, r)) none))

  -- so is what is told of a key
  told-anyway : (keyed : Keyed) (further : Bool) (fresh : List ℕ) (k : Key) → ∥ FailsAsTold program input keyed further fresh k ∥₁ → FailsAsTold program input keyed further fresh k
  told-anyway keyed false fresh k t = λ loops groups count has begun. fails-anyway k.dir (whole k.at k.offset loops groups ∷ []) (∥∥₁_map t (λ x. x loops groups count has begun))
  told-anyway keyed true fresh k t = λ i here n marks j o less loops groups count has. fails-anyway _ _ (∥∥₁_map t (λ x. x i here n marks j o less loops groups count has))

-- what is remembered is so, where some proof of it is kept
pub remembers-anyway : (w : World) {B : Type 0} (o : Option B) (of : B → Failures) → ∥ IfSome o (λ b. AreOf w (of b)) ∥₁ → IfSome o (λ b. AreOf w (of b))
remembers-anyway w None of t = tt
remembers-anyway w (Some b) of t = record {
  tested = ∥∥₁_elim t (bool-set (is_flow (table_of (of b).table) w.program) true) (λ x. x.tested);
  needed = ∥∥₁_elim t (bool-set (are_needs (needs_of (of b).table) w.program) true) (λ x. x.needed);
  known = λ k o p here bit. told-anyway w.program (input_of w.view) (keyed_of (table_of (of b).table)) p.further p.fresh.items (key_in (table_of (of b).table) p o) (∥∥₁_map t (λ x. x.known k o p here bit));
}
