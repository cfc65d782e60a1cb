use Rattle.std.proofs.Common.{◌≡◌, suc, ◌+◌, ap, ◌∙◌, sym, subst, arith}
use Rattle.regress_engine_insn.specs.Instructions.{Stands}
use Rattle.regress_engine_code.specs.Standing.{program_of}
use Rattle.regress_engine_insn.specs.declared.insn.Insn.TheVariants.{Goal}
use Rattle.regress_engine_runs.specs.Closed.{takes_character}
use Rattle.regress_engine_search.proofs.InsnLemmas.{stands-as}
use Rattle.regress_engine_singles.proofs.FirstByteLemmas.{takes-taking}
use Rattle.regress_engine_advance.proofs.ReadLemmas.{stands-read, stands-one}
use Rattle.regress_engine_advance.proofs.TakenLemmas.{first-here, first-loop}
use Rattle.regress_engine_advance.proofs.first.taken_at.Goals as goal

pub returns-in-Loop1CharBody : goal.returns-in-Loop1CharBody
returns-in-Loop1CharBody c =
    let program = program_of c.args.program.now in
    let insns = c.args.program.now.insns.items in
    let here = stands-as program c.args.at _ _ c.in-Loop1CharBody.is (stands-read c.insns-insns.result.now insns c.args.at Goal c.insns-insns.ensures c.if-at-insns.false) in
    let body = stands-read c.insns-insns.result.now insns (c.args.at + 1) Goal c.insns-insns.ensures c.if-at-insns-2.false in
    let fits = c.requires c.args.at _ here in
    let next : suc c.args.at ≡ c.args.at + 1 = omega arith in
    let same = stands-one program (c.args.at + 1) fits.0 _ (subst (λ a. Stands program a fits.0) next fits.1) body in
    let few = c.if-min_iters-eq0.false in
    first-loop program c.requires c.args.at c.in-Loop1CharBody.min_iters c.in-Loop1CharBody.max_iters c.in-Loop1CharBody.greedy _ here body
    (takes-taking _ (ap takes_character (sym same) ∙ fits.2)) (omega (arith, few))

pub returns-then-takes_some : goal.returns-then-takes_some
returns-then-takes_some c =
    let program = program_of c.args.program.now in
    let here = stands-read c.insns-insns.result.now c.args.program.now.insns.items c.args.at Goal c.insns-insns.ensures c.if-at-insns.false in
    first-here program c.requires c.args.at _ here (c.takes_some.ensures.taking c.if-takes_some.true)
