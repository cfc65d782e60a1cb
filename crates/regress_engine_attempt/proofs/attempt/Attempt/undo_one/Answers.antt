use Rattle.std.proofs.Common.{subst}
use Rattle.regress_engine_code.specs.Standing.{program_of}
use Rattle.regress_engine_undo.specs.Held.{held, undo_of}
use Rattle.regress_engine_trying.proofs.CountLemmas.{undoes-none}
use Rattle.regress_engine_trying.specs.Trying.{World}
use Rattle.regress_engine_trying.specs.Remembering.{MayUndo}
use Rattle.regress_engine_trying.specs.Passing.{MayUndoMore}
use Rattle.regress_engine_attempt.proofs.attempt.Attempt.undo_one.Goals as goal

pub returns-in-Some-clause-counted : goal.returns-in-Some-clause-counted
returns-in-Some-clause-counted g c =
    let w : World = record { program = program_of c.args.self.now.program.now; view = g.Input.InputIndexer.view c.args.self.now.input } in
    subst (MayUndoMore w (undo_of c.args.undo) c.args.spot.now (held c.args.memory.now) c.undo_loop.new.spot (held c.undo_loop.new.memory) c.args.remembered.now.counts.more c.undo_loop.new.remembered.counts.more) c.in-Some.is c.in_ok-going.ensures.counted

pub returns-in_ok-going-in-None-clause-counted : goal.returns-in_ok-going-in-None-clause-counted
returns-in_ok-going-in-None-clause-counted g c =
    let w : World = record { program = program_of c.args.self.now.program.now; view = g.Input.InputIndexer.view c.args.self.now.input } in
    let p = c.args.spot.now in
    let h = held c.args.memory.now in
    let q = c.undo_loop.new.spot in
    let k = held c.undo_loop.new.memory in
    let u = undo_of c.args.undo in
    undoes-none w u p q c.undo.new.spot h k (held c.undo.new.memory) c.in_ok-going-in-None.going c.args.remembered.now.counts.more c.undo_loop.new.remembered.counts.more c.undo.new.counts.more
    (subst (MayUndo w u p h q k) c.in-None.is c.in_ok-going.ensures.leads)
    (subst (MayUndoMore w u p h q k c.args.remembered.now.counts.more c.undo_loop.new.remembered.counts.more) c.in-None.is c.in_ok-going.ensures.counted)
    c.in_ok-going-in-None.ensures.counted
