use Rattle.std.proofs.Common.{ℕ, List, ◌++◌, map, chars, ap, ◌∙◌}
use Rattle.std.proofs.lemmas.List.{map-append}
use Rattle.std.proofs.lemmas.Result.{IfOk-weaker}
use Rattle.regress_engine_insn.specs.Instructions.{Instruction, char}
use Rattle.regress_engine_insn.specs.InsnViews.{instruction}
use Rattle.regress_engine_code.proofs.ChunkLemmas.{characters-told}
use Rattle.regress_engine_code.proofs.leaves.push_literal.Goals as goal

pub returns : goal.returns
returns c =
    rw (c.if-backward.false, c.if-not-units.false)
    (IfOk-weaker c.push_characters.result _ _
    (λ _ told. ap (map instruction) told
    ∙ map-append instruction c.args.insns.now.items _
    ∙ ap (λ (xs : List Instruction). map instruction c.args.insns.now.items ++ xs)
    (characters-told (chars c.in-Ok.text.now) ∙ ap (λ (bs : List ℕ). map char (chars bs)) c.in-Ok.ensures.cases.0))
    c.push_characters.ensures)
