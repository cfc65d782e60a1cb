-- Where a run comes to.
use Rattle.std.specs.Prelude.{if◌then◌else◌}
use Rattle.std.proofs.Common.{◌≡◌, ℕ, Bool, true, false, Some, None, inr, refl, ap}
use Rattle.regress_meaning.specs.Inputs.{Input}
use Rattle.regress_meaning.specs.Steps.{at_boundary}
use Rattle.regress_engine_insn.specs.Instructions.{Program, Stands}
use Rattle.regress_engine_insn.specs.Instructions as code
use Rattle.regress_engine_leading.specs.Known.{Comes}

-- behind `\b`, where a word begins or ends
pub comes-boundary : (program : Program) (input : Input) (folded : Bool) (o : ℕ) → Stands program 0 (code.boundary false folded) → at_boundary input folded o ≡ true → Comes program input o 1
comes-boundary program input folded o here so = inr (refl, (code.boundary false folded, (here, refl, λ groups. ap (λ (b : Bool). if b then Some o else None) so)))
