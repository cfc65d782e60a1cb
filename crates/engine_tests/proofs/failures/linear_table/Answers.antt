use Rattle.std.specs.Prelude.{IfOk, IfSome, map}
use Rattle.std.proofs.Common.{ap, sym, Option, Some, None, Result, Ok, Err}
use Rattle.regress_engine_code.specs.Standing.{program_of}
use Rattle.engine_tests.proofs.failures.linear_table.Goals as goal

pub returns : goal.returns
returns c = if_ok c.of.result (λ table told. told (program_of c.args.program.now) (ap (map _) (sym c.insns.ensures))) c.of.ensures.linear
  where
    if_some : {T : Type 0} {P Q : T → Type 0} (o : Option T) → ((x : T) → P x → Q x) → IfSome o P → IfSome o Q
    if_some None f p = tt
    if_some (Some x) f p = f x p

    if_ok : {T E : Type 0} {P Q : T → Type 0} (r : Result (Option T) E) → ((x : T) → P x → Q x) → IfOk r (λ o. IfSome o P) → IfOk r (λ o. ∥ IfSome o Q ∥₁)
    if_ok (Ok o) f p = ∣ if_some o f p ∣₁
    if_ok (Err e) f p = tt
