-- What searches without a budget err with: refused memory alone.
use Rattle.std.specs.Prelude.{IfErr, IsOkUnless}
use Rattle.std.proofs.Common.{◌≡◌, ◌⊎◌, Result, Ok, Err, inl, inr, subst}
use Rattle.regress_front_core.specs.declared.error.Error.{Error}
use Rattle.regress_front_core.specs.declared.error.Error.TheVariants.{OutOfMemory}
use Rattle.regress_matched.specs.Giving.{Errs}
use Rattle.regress_programs.specs.declared.matches.Matches.{Matches}
use Rattle.regress_programs.specs.Coming.{GivesNext}

pub errs-memory : (ms : Matches) (e : Error) → Errs GivesNext ms e → e ≡ OutOfMemory
errs-memory ms e (given, (old, new, yields, step)) = step.2.first.0

-- a result that errs as they do
pub memory-alone : {T : Type 0} (r : Result T Error) (ms : Matches) → IfErr r (λ e. (e ≡ OutOfMemory) ⊎ Errs GivesNext ms e) → IsOkUnless r OutOfMemory
memory-alone (Ok x) ms refused = tt
memory-alone (Err e) ms (inl memory) = memory
memory-alone (Err e) ms (inr errs) = errs-memory ms e errs

-- an error that was turned into another type
pub memory-turned : {E : Type 0} (turns : Error → E → Type 0) (ms : Matches) (e : E) → (x : Error) × ((x ≡ OutOfMemory) ⊎ Errs GivesNext ms x) × turns x e → turns OutOfMemory e
memory-turned turns ms e (x, inl memory, becomes) = subst (λ y. turns y e) memory becomes
memory-turned turns ms e (x, inr errs, becomes) = subst (λ y. turns y e) (errs-memory ms x errs) becomes
