-- What a handle holds after its pattern was asked whether it is linear.
use Rattle.std.specs.Prelude.{◌≡◌}
use Rattle.std.proofs.Common.{◌∙◌, refl}
use Rattle.regress.specs.declared.api.Regex.{Regex}
use Rattle.regress_calls.specs.Handles.{Content}
use Rattle.regress_calls.specs.Learning.{HoldsSame, IsSamePattern}

-- a pattern is the same as itself
same-pattern : (r : Regex) → IsSamePattern r r
same-pattern r = record { stands = λ t o p s. s; stands_in_units = λ t o p s. s; named = refl; bytes = refl; units = refl; text = refl }

-- what holds what was held holds the same
pub holds-same : (old new : Content) → new ≡ old → HoldsSame old new
holds-same old new e r holds = (r, e ∙ holds, same-pattern r)
