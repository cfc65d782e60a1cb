use Rattle.std.proofs.Common.{subst, arith}
use Rattle.regress_engine_code.specs.Standing.{program_of}
use Rattle.regress_engine_input.specs.Views.{direction_of}
use Rattle.regress_engine_search.proofs.TaskLemmas.{tried-stands, tried-reads}
use Rattle.regress_engine_undo.specs.Held.{held}
use Rattle.regress_engine_undo.specs.Tasks.{state_at}
use Rattle.regress_engine_trying.specs.Remembering.{Begins}
use Rattle.regress_engine_trying.specs.Trying.{World}
use Rattle.regress_engine_trying.proofs.RememberLemmas.{begun-way, begun-steps}
use Rattle.regress_engine_trying.specs.Passing.{PassesIf}
use Rattle.regress_engine_attempt.proofs.attempt.Attempt.try_step.Goals as goal

pub step-requires-clause-stands : goal.step-requires-clause-stands
step-requires-clause-stands g c =
    let program = program_of c.args.self.now.program.now in
    let v = g.Input.InputIndexer.view c.args.self.now.input in
    let w : World = record { program = program; view = v } in
    let p = c.args.spot.now in
    let q = c.begin.new.spot in
    let h = held c.args.memory.now in
    let k = held c.begin.new.memory in
    let begun = subst (Begins w p h q k) c.in-None.is c.in_ok-going.ensures.leads in
    let under = begun-way w p q h k begun c.requires.tried in
    tried-stands program v under.0 under.1 (direction_of q.forward) (state_at q k) _ under.2

pub step-requires-clause-reads : goal.step-requires-clause-reads
step-requires-clause-reads g c =
    let program = program_of c.args.self.now.program.now in
    let v = g.Input.InputIndexer.view c.args.self.now.input in
    let w : World = record { program = program; view = v } in
    let p = c.args.spot.now in
    let q = c.begin.new.spot in
    let h = held c.args.memory.now in
    let k = held c.begin.new.memory in
    let begun = subst (Begins w p h q k) c.in-None.is c.in_ok-going.ensures.leads in
    let under = begun-way w p q h k begun c.requires.tried in
    tried-reads program v under.0 under.1 (direction_of q.forward) (state_at q k) _ under.2

pub step-requires-clause-later : goal.step-requires-clause-later
step-requires-clause-later g c =
    let program = program_of c.args.self.now.program.now in
    let v = g.Input.InputIndexer.view c.args.self.now.input in
    let w : World = record { program = program; view = v } in
    let p = c.args.spot.now in
    let q = c.begin.new.spot in
    let h = held c.args.memory.now in
    let k = held c.begin.new.memory in
    let begun = subst (Begins w p h q k) c.in-None.is c.in_ok-going.ensures.leads in
    let under = begun-way w p q h k begun c.requires.tried in
    under.2.reads

pub returns-in_ok-left-in-None-clause-leads : goal.returns-in_ok-left-in-None-clause-leads
returns-in_ok-left-in-None-clause-leads g c =
    let program = program_of c.args.self.now.program.now in
    let v = g.Input.InputIndexer.view c.args.self.now.input in
    let w : World = record { program = program; view = v } in
    let p = c.args.spot.now in
    let q = c.begin.new.spot in
    let h = held c.args.memory.now in
    let k = held c.begin.new.memory in
    let begun = subst (Begins w p h q k) c.in-None.is c.in_ok-going.ensures.leads in
    begun-steps w p q c.step.new.spot h k (held c.step.new.memory) c.in_ok-left-in-None.left begun c.in_ok-left-in-None.ensures.leads

pub returns-in-Some-clause-counted : goal.returns-in-Some-clause-counted
returns-in-Some-clause-counted g c =
    subst (λ o. PassesIf (g.Input.InputIndexer.view c.args.self.now.input) o c.args.remembered.now.counts.more c.begin.new.remembered.counts.more) c.in-Some.is c.in_ok-going.ensures.counted

pub returns-in_ok-left-in-None-clause-counted : goal.returns-in_ok-left-in-None-clause-counted
returns-in_ok-left-in-None-clause-counted g c =
    let none = subst (λ o. PassesIf (g.Input.InputIndexer.view c.args.self.now.input) o c.args.remembered.now.counts.more c.begin.new.remembered.counts.more) c.in-None.is c.in_ok-going.ensures.counted in
    let few = c.in_ok-left-in-None.ensures.counted in
    omega (arith, none, few)
