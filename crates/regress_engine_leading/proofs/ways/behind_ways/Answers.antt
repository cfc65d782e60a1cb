use Rattle.std.proofs.Common.{◌+◌, sym, subst, ◌∙◌, arith}
use Rattle.regress_engine_code.specs.Standing.{program_of}
use Rattle.regress_engine_insn.specs.Instructions.{Stands}
use Rattle.regress_engine_insn.specs.declared.insn.Insn.TheVariants.{Goal}
use Rattle.regress_engine_search.proofs.InsnLemmas.{stands-as}
use Rattle.regress_engine_advance.proofs.ReadLemmas.{stands-read}
use Rattle.regress_engine_leading.proofs.ExitLemmas.{way-first, way-last}
use Rattle.regress_engine_leading.proofs.ways.behind_ways.Goals as goal

pub ways-preserved : goal.ways-preserved
ways-preserved c = λ v rest.
    let program = program_of c.args.program.now in
    let within = c.if-last-insns.false in
    let insns = c.args.program.now.insns.items in
    let here = stands-read c.insns-insns.result.now insns c.ways.at Goal c.insns-insns.ensures (omega (arith, within)) in
    let one = stands-read c.insns-insns.result.now insns (c.ways.at + 1) Goal c.insns-insns.ensures (omega (arith, within)) in
    let jump = stands-read c.insns-insns.result.now insns (c.ways.at + 2) Goal c.insns-insns.ensures (omega (arith, within)) in
    c.ways.invariant v (way-first program v c.ways.at _ _ (stands-as program c.ways.at _ _ c.in-Alt.is here) _ one (sym c.takes_one.ensures ∙ c.if-not-takes_one.false)
    (subst (Stands program (c.ways.at + 2)) (c.jumps_to.ensures c.if-not-jumps_to.false) jump) rest)

pub returns : goal.returns
returns c = λ v.
    let program = program_of c.args.program.now in
    let here = stands-read c.insns-insns.result.now c.args.program.now.insns.items c.ways.at Goal c.insns-insns.ensures c.if-at-insns.false in
    c.ways.invariant v (way-last program v c.ways.at _ _ here (sym c.takes_one-else-next-together.ensures ∙ c.if-not-takes_one-2.false) (omega (arith, c.if-next-together.false)))
