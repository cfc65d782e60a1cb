use Rattle.std.proofs.Common.{ℕ, List, map, chars, ap, ◌∙◌}
use Rattle.std.proofs.lemmas.Result.{IfOk-weaker}
use Rattle.regress_engine_insn.specs.Instructions.{char}
use Rattle.regress_engine_insn.specs.InsnViews.{instruction}
use Rattle.regress_engine_code.proofs.ChunkLemmas.{characters-told}
use Rattle.regress_engine_code.proofs.leaves.in_text_order.Goals as goal

pub returns : goal.returns
returns c =
    rw c.if-not-units.false
    (IfOk-weaker c.characters.result _ _
    (λ insns told. ap (map instruction) told ∙ characters-told (chars c.in-Ok.text.now) ∙ ap (λ (bs : List ℕ). map char (chars bs)) c.in-Ok.ensures.cases.0)
    c.characters.ensures)
