use Rattle.std.proofs.Common.{◌≡◌, ◌+◌, ◌-◌, suc, Some, refl, subst, arith}
use Rattle.regress_engine_insn.specs.Instructions.{Stands}
use Rattle.regress_engine_code.specs.Standing.{program_of}
use Rattle.regress_engine_input.specs.Views.{direction_of, input_of}
use Rattle.regress_engine_search.proofs.InsnLemmas.{stands-as}
use Rattle.regress_engine_search.proofs.TaskLemmas.{tried-stands, tried-reads}
use Rattle.regress_engine_undo.specs.Held.{held}
use Rattle.regress_engine_undo.specs.Tasks.{state_at}
use Rattle.regress_engine_undo.proofs.DispatchLemmas.{step-on}
use Rattle.regress_engine_trying.specs.Trying.{World}
use Rattle.regress_engine_trying.specs.Remembering.{Drops}
use Rattle.regress_engine_trying.proofs.RememberLemmas.{steps-tried}
use Rattle.regress_engine_attempt.proofs.attempt.Attempt.begin_known.Goals as goal

pub returns-then-branch-clause-leads : goal.returns-then-branch-clause-leads
returns-then-branch-clause-leads g c =
    let w : World = record { program = program_of c.args.self.now.program.now; view = g.Input.InputIndexer.view c.args.self.now.input } in
    subst (Drops w c.args.spot.now (held c.args.memory.now) (held c.surely_fails.new.memory)) c.if-branch.true c.in_ok-surely_fails.ensures.leads

pub instruction-requires : goal.instruction-requires
instruction-requires g c =
    let program = program_of c.args.self.now.program.now in
    let v = g.Input.InputIndexer.view c.args.self.now.input in
    let (n, r, tries) = c.requires.tried in tried-stands program v n r (direction_of c.args.spot.now.forward) (state_at c.args.spot.now (held c.args.memory.now)) _ tries

pub returns-in_default-clause-leads : goal.returns-in_default-clause-leads
returns-in_default-clause-leads g c =
    let w : World = record { program = program_of c.args.self.now.program.now; view = g.Input.InputIndexer.view c.args.self.now.input } in
    (refl, c.in_ok-surely_fails.ensures.loops, c.in_ok-surely_fails.ensures.groups, subst (Drops w c.args.spot.now (held c.args.memory.now) (held c.surely_fails.new.memory)) c.if-branch.false c.in_ok-surely_fails.ensures.leads)

pub repeat_known-requires-clause-order : goal.repeat_known-requires-clause-order
repeat_known-requires-clause-order g c =
    let program = program_of c.args.self.now.program.now in
    let v = g.Input.InputIndexer.view c.args.self.now.input in
    (c.requires.suits.closed c.args.spot.now.at _ (stands-as program c.args.spot.now.at _ _ c.in-Loop1CharBody.is c.instruction.ensures.stands)).3

pub repeat_known-requires-clause-body : goal.repeat_known-requires-clause-body
repeat_known-requires-clause-body g c =
    let program = program_of c.args.self.now.program.now in
    let v = g.Input.InputIndexer.view c.args.self.now.input in
    let p = c.args.spot.now in
    let (n, r, tries) = c.requires.tried in
    let here = stands-as program p.at _ _ c.in-Loop1CharBody.is c.instruction.ensures.stands in
    let fits = c.requires.suits.closed p.at _ here in
    let e : suc p.at ≡ p.at + 2 - 1 = omega arith in
    (fits.0, subst (λ a. Stands program a fits.0) e fits.1, fits.2, (tried-reads program v n r (direction_of p.forward) (state_at p (held c.args.memory.now)) _ tries _ here refl).0, omega arith)

pub returns-clause-leads : goal.returns-clause-leads
returns-clause-leads g c =
    let program = program_of c.args.self.now.program.now in
    let v = g.Input.InputIndexer.view c.args.self.now.input in
    let w : World = record { program = program; view = v } in
    let p = c.args.spot.now in
    let k = held c.surely_fails.new.memory in
    let here = stands-as program p.at _ _ c.in-Loop1CharBody.is c.instruction.ensures.stands in
    steps-tried w p c.repeat_known.new.spot (held c.args.memory.now) k (held c.repeat_known.new.memory) (Some c.in_ok-going.going)
    (subst (Drops w p (held c.args.memory.now) k) c.if-branch.false c.in_ok-surely_fails.ensures.leads) c.in_ok-surely_fails.ensures.loops c.in_ok-surely_fails.ensures.groups
    (step-on program (input_of v) _ p _ k _ _ here refl c.in_ok-going.ensures.leads)
