use Rattle.std.proofs.Common.{inl, inr, refl, sym, ap, subst, arith}
use Rattle.regress_engine_code.specs.Standing.{program_of}
use Rattle.regress_engine_undo.specs.Held.{held, undo_of}
use Rattle.regress_engine_undo.proofs.BackLemmas.{held-as, held-take_on}
use Rattle.regress_engine_trying.specs.Trying.{World}
use Rattle.regress_engine_trying.specs.Passing.{UndoesMore}
use Rattle.regress_engine_attempt.proofs.attempt.Attempt.undo_known.Goals as goal

pub returns-in_ok-going-in-GiveBack-clause-counted : goal.returns-in_ok-going-in-GiveBack-clause-counted
returns-in_ok-going-in-GiveBack-clause-counted g c = inl (omega arith)

pub returns-in_ok-going-in-TakeOn-clause-counted : goal.returns-in_ok-going-in-TakeOn-clause-counted
returns-in_ok-going-in-TakeOn-clause-counted g c =
    let w : World = record { program = program_of c.args.self.now.program.now; view = g.Input.InputIndexer.view c.args.self.now.input } in
    subst (λ u. UndoesMore w u c.args.spot.now (held c.args.memory.now) c.take_on_known.new.spot (held c.take_on_known.new.memory) c.in_ok-going-in-TakeOn.going c.args.counts.now.more c.take_on_known.new.counts.more) (sym (ap undo_of c.in-TakeOn.is))
    (elim c.in_ok-going-in-TakeOn.ensures.over [
      | inl none ↦ inl (none refl)
      | inr over ↦ inr (c.in_ok-going-in-TakeOn.ensures.counted, over)
    ])

pub take_on_known-requires-clause-from : goal.take_on_known-requires-clause-from
take_on_known-requires-clause-from g c =
    (held-take_on _ _ (held c.args.memory.now) c.in-TakeOn.at c.in-TakeOn.offset c.in-TakeOn.left (held-as _ _ _ _ _ (ap undo_of c.in-TakeOn.is) c.requires.sound)).0.3
