use Rattle.std.specs.Prelude.{IfSome, map}
use Rattle.std.proofs.Common.{◌≡◌, Option, Some, ap, subst, sym}
use Rattle.regress_engine_code.specs.Standing.{program_of}
use Rattle.regress_engine_insn.specs.InsnViews.{instruction}
use Rattle.regress_engine_linear.specs.Linear.{IsLinear}
use Rattle.regress_engine_linear.specs.LinearViews.{flow_in, heights_in}
use Rattle.regress_programs.proofs.compiled.linear_table.Goals as goal

pub returns : goal.returns
returns c =
    let program = program_of c.args.program.now in
    let linear = if-some _ c.in-Ok-Some.field-0 c.in-Ok-Some.table c.in-Ok-Some.field-0-is c.in-Ok-Some.ensures.linear program (ap (map instruction) (sym c.insns.ensures)) in
    ∣ subst (λ t. IsLinear (flow_in t) (heights_in t) program) (sym c.in-Ok.ensures.ok) linear ∣₁
  where
    if-some : {T : Type 0} (P : T → Type 0) (x : Option T) (y : T) → x ≡ Some y → IfSome x P → P y
    if-some P x y e known = subst (λ z. IfSome z P) e known
