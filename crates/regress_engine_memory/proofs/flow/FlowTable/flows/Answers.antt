use Rattle.std.specs.Prelude.{is_some, not, option_and_then, slice_get}
use Rattle.std.proofs.Common.{◌≡◌, ℕ, suc, ◌+◌, ◌&&◌, Bool, true, List, sym, ap, ◌∙◌, arith}
use Rattle.regress_engine_insn.specs.Instructions.{Instruction}
use Rattle.regress_engine_insn.specs.InsnViews.{instruction}
use Rattle.regress_engine_insn.specs.declared.insn.Insn.{Insn}
use Rattle.regress_engine_runs.specs.Meets.{referred}
use Rattle.regress_engine_memory.specs.Deciding.{Table, flows, hands}
use Rattle.regress_engine_memory.specs.TableViews.{table_of}
use Rattle.regress_engine_memory.proofs.flow.FlowTable.flows.Goals as goal

pub returns-then-hands-2 : goal.returns-then-hands-2
returns-then-hands-2 c program are =
    let t : Table = table_of c.args.self.now in
    let at = c.args.at in
    let two : at + 2 ≡ suc (suc at) = omega arith in
    let one : at + 1 ≡ suc at = omega arith in
    let refers : ℕ → Bool = λ a. is_some (option_and_then referred (slice_get program.instructions a)) in
    let first : hands t at (suc (suc at)) ≡ true = ap (hands t at) (sym two) ∙ sym c.hands-in-Loop1CharBody.ensures ∙ c.if-hands-2.true in
    let second : c.refers.result ≡ refers (suc at) =
    c.refers.ensures ∙ ap (λ (is : List Instruction). is_some (option_and_then referred (slice_get is (at + 1)))) (sym are) ∙ ap refers one in
    ap not second ∙ sym (ap (λ b. b && not (refers (suc at))) first) ∙ sym (ap (λ (i : Insn). flows t program at (instruction i)) c.in-Loop1CharBody.is)
