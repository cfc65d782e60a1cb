-- What a handle holds after it was asked whether its pattern is linear.
use Rattle.std.specs.Prelude.{◌≡◌}
use Rattle.regress_meaning.specs.Flags.{Options}
use Rattle.regress_meaning.specs.Pattern.{Pattern}
use Rattle.regress_meaning.specs.Table.{Table}
use Rattle.regress.specs.declared.api.Regex.{Regex}
use Rattle.regress.specs.Standing.{StandsFor, StandsInUnits, byte_target, unit_target, names_of_regex, source_of}
use Rattle.regress_calls.specs.Handles.{Content, OfPattern}

-- A regex is another but for what is known of its being linear: it stands for what that stands for, has the same groups, and goes by the
-- same programs.
pub record IsSamePattern (r q : Regex) : Type 0 where
  pub stands : (t : Table) (o : Options) (p : Pattern) → StandsFor r t o p → StandsFor q t o p
  pub stands_in_units : (t : Table) (o : Options) (p : Pattern) → StandsInUnits r t o p → StandsInUnits q t o p
  pub named : names_of_regex q ≡ names_of_regex r
  pub bytes : byte_target q ≡ byte_target r
  pub units : unit_target q ≡ unit_target r
  pub text : source_of q ≡ source_of r

-- what holds a regex holds it still, or another that is the same but for that
abbrev pub HoldsSame : Content → Content → Type 0
HoldsSame old new = (r : Regex) → old ≡ OfPattern r → (q : Regex) × (new ≡ OfPattern q) × IsSamePattern r q
