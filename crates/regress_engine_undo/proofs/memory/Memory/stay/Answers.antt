use Rattle.std.proofs.Common.{true, ap}
use Rattle.regress_engine_insn.specs.InsnViews.{fields}
use Rattle.regress_engine_undo.specs.Held.{held}
use Rattle.regress_engine_undo.proofs.StepLemmas.{past_spot, stay-none, stay-more, loop-sound}
use Rattle.regress_engine_undo.proofs.memory.Memory.stay.Goals as goal

pub returns-then-count-repetition-clause-leads : goal.returns-then-count-repetition-clause-leads
returns-then-count-repetition-clause-leads c =
    stay-none (fields c.args.repetition.now) c.args.begin c.args.spot.now (held c.args.self.now) c.loop_data-count.result.iters (ap (λ x. x.0) c.loop_data-count.ensures)
    c.if-count-repetition.true

pub returns-clause-leads : goal.returns-clause-leads
returns-clause-leads c =
    past_spot _ _ c.args.spot.now _ true _ _ _ c.in_ok-iterate.ensures.spot
    (stay-more (fields c.args.repetition.now) c.args.begin c.args.spot.now (held c.args.self.now) c.loop_data-count.result.iters (ap (λ x. x.0) c.loop_data-count.ensures) _
    c.if-count-repetition.false c.in_ok-iterate.ensures.written)

pub returns-clause-sound : goal.returns-clause-sound
returns-clause-sound c = loop-sound _ _ _ _ c.in_ok-iterate.ensures.written c.requires.there
