-- Where it continues from two ways.
use Rattle.std.proofs.Common.{◌≡◌, ℕ, ◌+◌, Bool, true, ◌⊎◌, inl, inr, refl, sym, subst, arith}
use Rattle.regress_meaning.specs.Inputs.{Input}
use Rattle.regress_engine_input.specs.Views.{direction_of}
use Rattle.regress_engine_insn.specs.Instructions.{Program, Stands}
use Rattle.regress_engine_insn.specs.Instructions as code
use Rattle.regress_engine_search.specs.Tasks.{Task, Leads}
use Rattle.regress_engine_search.proofs.TaskLemmas.{leads-then}
use Rattle.regress_engine_singles.specs.Failing.{IsDead}
use Rattle.regress_engine_undo.specs.declared.undo.Spot.{Spot}
use Rattle.regress_engine_undo.specs.Held.{Held}
use Rattle.regress_engine_undo.specs.Tasks.{task}
use Rattle.regress_engine_undo.proofs.DispatchLemmas.{first-dead, second-dead}
use Rattle.regress_engine_trying.specs.Trying.{IsWay}

module _ (program : Program) (input : Input) (forward : Bool) (o : ℕ) where
  -- what leads on in more steps does so in fewer
  pub leads-fewer : (k l : ℕ) (t u : Task) → Leads program input (k + l) t u → Leads program input k t u
  leads-fewer k l t u leads = record {
    comes = λ n r come. let x = leads.comes n r come in let less = x.1 in (x.0, omega (arith, less), x.2);
    reads = leads.reads;
  }

  abbrev spot : ℕ → Spot
  spot at = record { at = at; offset = o; forward = forward }

  -- one step more
  way-on : (start at next : ℕ) → IsWay program input forward o start at
      → ((h : Held) → Leads program input 1 (task program input true (spot at) h) (task program input true (spot next) h)) → IsWay program input forward o start next
  way-on start at next so on h = by_way (so h)
    where
      from : ℕ → Task
      from a = task program input true (spot a) h

      by_way : (at ≡ start) ⊎ Leads program input 1 (from start) (from at) → (next ≡ start) ⊎ Leads program input 1 (from start) (from next)
      by_way (inl same) = inr (subst (λ a. Leads program input 1 (from a) (from next)) same (on h))
      by_way (inr before) = inr (leads-fewer 1 1 (from start) (from next) (leads-then program input 1 1 before (on h)))

  -- of two ways the first leads nowhere
  pub way-second : (start at second : ℕ) → Stands program at (code.alt second) → IsDead program input (direction_of forward) (at + 1) o → IsWay program input forward o start at → IsWay program input forward o start second
  way-second start at second here dead so = way-on start at second so (λ h. first-dead program input (spot at) h second here dead)

  -- or the second
  pub way-first : (start at second : ℕ) → Stands program at (code.alt second) → IsDead program input (direction_of forward) second o → IsWay program input forward o start at → IsWay program input forward o start (at + 1)
  way-first start at second here dead so = way-on start at (at + 1) so (λ h. second-dead program input (spot at) h second here dead)

  -- none yet
  pub way-here : (start : ℕ) → IsWay program input forward o start start
  way-here start h = inl refl
