use Rattle.std.proofs.Common.{◌≡◌, ℕ, Option, Some, None, ap, ◌∙◌, arith}
use Rattle.std.specs.Option.{SomeIff, IsSome, unwrap_or}
use Rattle.std.specs.Char.{InScalarRange}
use Rattle.regress_meaning.specs.Table.{canon}
use Rattle.regress_front_tables.specs.TableViews.{table}
use Rattle.regress_engine_matchers.proofs.CaseLemmas.{canon-scalar}
use Rattle.regress_engine_matchers.proofs.properties.UTF8CharPropertiesCharProperties.fold.Goals as goal

unwrap_some : (o : Option ℕ) (P : Type 0) (v d : ℕ) → SomeIff o P v → IsSome o → unwrap_or o d ≡ v
unwrap_some None P v d h some = cc
unwrap_some (Some x) P v d h some = grind arith

pub returns : goal.returns
returns c =
    let fits : InScalarRange c.canon.result = rw (c.canon.ensures, c.from.ensures) (canon-scalar _ c.args.tables.now.lawful c.args.unicode c.args.c c.ranges.c.0) in
    let value = unwrap_some c.from_u32.result _ c.canon.result c.args.c c.from_u32.ensures.value (c.from_u32.ensures.succeeds fits) in
    c.unwrap_or.ensures ∙ value ∙ c.canon.ensures ∙ ap (canon (table c.args.tables.now) c.args.unicode) c.from.ensures
