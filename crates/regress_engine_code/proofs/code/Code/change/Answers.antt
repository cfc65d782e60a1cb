use Rattle.std.proofs.Common.{ap}
use Rattle.std.proofs.lemmas.List.{map-set}
use Rattle.regress_engine_insn.specs.Instructions.{Instruction}
use Rattle.regress_engine_insn.specs.InsnViews.{instruction}
use Rattle.regress_engine_code.specs.Written.{Written, written}
use Rattle.std.specs.Prelude.{List}
use Rattle.regress_engine_code.proofs.code.Code.change.Goals as goal

pub returns : goal.returns
returns c =
    ap (λ (is : List Instruction). let w : Written = record (written c.args.self.now) { instructions = is } in w)
    (map-set instruction c.args.self.now.insns.items c.args.address c.args.insn)
