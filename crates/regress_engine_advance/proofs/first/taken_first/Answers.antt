use Rattle.std.specs.Prelude.{IfSome}
use Rattle.std.proofs.Common.{Option, Some, None}
use Rattle.regress_engine_code.specs.Standing.{program_of}
use Rattle.regress_engine_insn.specs.declared.insn.Insn.TheVariants.{Goal}
use Rattle.regress_engine_search.proofs.InsnLemmas.{stands-as}
use Rattle.regress_engine_advance.proofs.ReadLemmas.{stands-read}
use Rattle.regress_engine_advance.proofs.TakenLemmas.{first-behind}
use Rattle.regress_engine_advance.proofs.first.taken_first.Goals as goal

if_some : {A : Type 0} {P Q : A → Type 0} → ((a : A) → P a → Q a) → (x : Option A) → IfSome x P → IfSome x Q
if_some f None h = tt
if_some f (Some a) h = f a h

pub returns-in-EndCaptureGroup : goal.returns-in-EndCaptureGroup
returns-in-EndCaptureGroup c =
    let program = program_of c.args.program.now in
    let here = stands-read c.insns-insns.result.now c.args.program.now.insns.items c.args.at Goal c.insns-insns.ensures c.if-at-insns.false in
    if_some (λ insn first. first-behind program c.requires c.args.at c.in-EndCaptureGroup.field-0 _ (stands-as program c.args.at _ _ c.in-EndCaptureGroup.is here) first)
    c.taken_at.result c.taken_at.ensures
