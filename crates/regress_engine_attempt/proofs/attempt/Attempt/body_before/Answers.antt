use Rattle.std.proofs.Common.{◌≡◌, suc, ◌-◌, ap, ◌∙◌, sym, subst, arith}
use Rattle.regress_engine_insn.specs.Instructions.{Stands}
use Rattle.regress_engine_insn.specs.declared.insn.Insn.TheVariants.{Goal}
use Rattle.regress_engine_code.specs.Standing.{program_of}
use Rattle.regress_engine_runs.specs.Closed.{takes_character}
use Rattle.regress_engine_search.proofs.InsnLemmas.{stands-as}
use Rattle.regress_engine_advance.proofs.ReadLemmas.{stands-read, stands-one}
use Rattle.regress_engine_attempt.proofs.attempt.Attempt.body_before.Goals as goal

pub returns-in-Loop1CharBody : goal.returns-in-Loop1CharBody
returns-in-Loop1CharBody g c =
    let program = program_of c.args.self.now.program.now in
    let insns = c.args.self.now.program.now.insns.items in
    let at = c.args.at in
    let two = c.if-at-lt2.false in
    let within = c.if-at-insns.false in
    let here = stands-as program (at - 2) _ _ c.in-Loop1CharBody.is (stands-read c.insns-insns.result.now insns (at - 2) Goal c.insns-insns.ensures (omega (arith, within, two))) in
    let body = stands-read c.insns-insns.result.now insns (at - 1) Goal c.insns-insns.ensures within in
    let fits = c.requires.suits.closed (at - 2) _ here in
    let next : suc (at - 2) ≡ at - 1 = omega (arith, two) in
    let same = stands-one program (at - 1) fits.0 _ (subst (λ a. Stands program a fits.0) next fits.1) body in
    (body, ap takes_character (sym same) ∙ fits.2, omega (arith, two))
