use Rattle.std.proofs.Common.{◌≡◌, ◌+◌, ◌-◌, suc, subst, refl, arith}
use Rattle.regress_engine_insn.specs.Instructions.{Stands}
use Rattle.regress_engine_code.specs.Standing.{program_of}
use Rattle.regress_engine_search.proofs.InsnLemmas.{stands-as}
use Rattle.regress_engine_copying.proofs.attempt.Attempt.go.Goals as goal

pub mark-requires-clause-there : goal.mark-requires-clause-there
mark-requires-clause-there g c =
    let program = program_of c.args.self.now.program.now in
    let here = stands-as program c.args.state.at _ _ c.in-BeginCaptureGroup.is c.requires.stands in
    let there = c.requires.suits.closed c.args.state.at _ here in
    let same = c.requires.whole.groups in
    omega (arith, there, same)

pub mark-requires-in-EndCaptureGroup-clause-there : goal.mark-requires-in-EndCaptureGroup-clause-there
mark-requires-in-EndCaptureGroup-clause-there g c =
    let program = program_of c.args.self.now.program.now in
    let here = stands-as program c.args.state.at _ _ c.in-EndCaptureGroup.is c.requires.stands in
    let there = c.requires.suits.closed c.args.state.at _ here in
    let same = c.requires.whole.groups in
    omega (arith, there, same)

pub reset-requires-clause-there : goal.reset-requires-clause-there
reset-requires-clause-there g c =
    let program = program_of c.args.self.now.program.now in
    let here = stands-as program c.args.state.at _ _ c.in-ResetCaptureGroup.is c.requires.stands in
    let there = c.requires.suits.closed c.args.state.at _ here in
    let same = c.requires.whole.groups in
    omega (arith, there, same)

pub enter-requires-clause-there : goal.enter-requires-clause-there
enter-requires-clause-there g c =
    let program = program_of c.args.self.now.program.now in
    let here = stands-as program c.args.state.at _ _ c.in-EnterLoop.is c.requires.stands in
    let fits = c.requires.suits.closed c.args.state.at _ here in
    let there = fits.0 in
    let same = c.requires.whole.loops in
    omega (arith, there, same)

pub repeat-requires-clause-order : goal.repeat-requires-clause-order
repeat-requires-clause-order g c =
    let program = program_of c.args.self.now.program.now in
    let here = stands-as program c.args.state.at _ _ c.in-Loop1CharBody.is c.requires.stands in
    (c.requires.suits.closed c.args.state.at _ here).3

pub repeat-requires-clause-body : goal.repeat-requires-clause-body
repeat-requires-clause-body g c =
    let program = program_of c.args.self.now.program.now in
    let here = stands-as program c.args.state.at _ _ c.in-Loop1CharBody.is c.requires.stands in
    let fits = c.requires.suits.closed c.args.state.at _ here in
    let e : suc c.args.state.at ≡ c.args.state.at + 2 - 1 = omega arith in
    let reads = rw c.in-Loop1CharBody.is at c.requires.reads in
    (fits.0, subst (λ a. Stands program a fits.0) e fits.1, fits.2, (reads refl).0, omega arith)
