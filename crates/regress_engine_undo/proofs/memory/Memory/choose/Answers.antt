use Rattle.std.proofs.Common.{true, ◌+◌, ◌^◌, ◌<◌, ℕ, ap, length, get_or, arith}
use Rattle.regress_engine_insn.specs.Instructions.{LoopFields}
use Rattle.regress_engine_insn.specs.InsnViews.{fields}
use Rattle.regress_engine_undo.specs.Held.{Held, held}
use Rattle.regress_engine_undo.proofs.StepLemmas.{choose-none, choose-out, choose-more, choose-greedy, choose-lazy, at_spot, loop-sound, resume-sound, iterate-sound, sound-then}
use Rattle.regress_engine_undo.proofs.memory.Memory.choose.Goals as goal

pub returns-then-out-clause-leads : goal.returns-then-out-clause-leads
returns-then-out-clause-leads c =
    choose-out (fields c.args.repetition.now) c.args.begin c.args.spot.now (held c.args.self.now) c.loop_data-count.result.iters (ap (λ x. x.0) c.loop_data-count.ensures)
    c.if-count-repetition.true c.if-out.true

pub returns-then-count-repetition-clause-leads : goal.returns-then-count-repetition-clause-leads
returns-then-count-repetition-clause-leads c =
    choose-none (fields c.args.repetition.now) c.args.begin c.args.spot.now (held c.args.self.now) c.loop_data-count.result.iters (ap (λ x. x.0) c.loop_data-count.ensures)
    c.if-count-repetition.true c.if-out.false

pub returns-then-not-out-clause-leads : goal.returns-then-not-out-clause-leads
returns-then-not-out-clause-leads c =
    at_spot _ c.args.spot.now _ true _ _ _ c.in_ok-iterate.ensures.spot
    (choose-more (fields c.args.repetition.now) c.args.begin c.args.spot.now (held c.args.self.now) c.loop_data-count.result.iters (ap (λ x. x.0) c.loop_data-count.ensures) _
    c.if-count-repetition.false c.if-not-out.true c.in_ok-iterate.ensures.written)

pub returns-then-not-out-clause-sound : goal.returns-then-not-out-clause-sound
returns-then-not-out-clause-sound c = loop-sound _ _ _ _ c.in_ok-iterate.ensures.written c.requires.there

pub returns-then-repetition-clause-leads : goal.returns-then-repetition-clause-leads
returns-then-repetition-clause-leads c =
    at_spot _ c.args.spot.now _ true _ _ _ c.in_ok-iterate-2.ensures.spot
    (choose-greedy (fields c.args.repetition.now) c.args.begin c.args.spot.now (held c.args.self.now) c.loop_data-count.result.iters (ap (λ x. x.0) c.loop_data-count.ensures) _ _
    c.if-count-repetition.false c.if-not-out.false c.if-repetition.true c.in_ok-push.ensures c.in_ok-iterate-2.ensures.written)

pub returns-then-repetition-clause-sound : goal.returns-then-repetition-clause-sound
returns-then-repetition-clause-sound c =
    let f : LoopFields = fields c.args.repetition.now in
    let h : Held = held c.args.self.now in
    let same = ap (λ (x : Held). length x.loops) c.in_ok-push.ensures in
    let there = c.requires.there in
    sound-then h _ _ (resume-sound h _ f.exit c.args.spot.now.offset c.in_ok-push.ensures) (loop-sound _ _ _ _ c.in_ok-iterate-2.ensures.written (omega (arith, same, there)))

pub returns-clause-leads : goal.returns-clause-leads
returns-clause-leads c =
    choose-lazy (fields c.args.repetition.now) c.args.begin c.args.spot.now (held c.args.self.now) c.loop_data-count.result.iters (ap (λ x. x.0) c.loop_data-count.ensures) _
    c.if-count-repetition.false c.if-not-out.false c.if-repetition.false c.in_ok-push-2.ensures

pub returns-clause-sound : goal.returns-clause-sound
returns-clause-sound c =
    let h : Held = held c.args.self.now in
    let f : LoopFields = fields c.args.repetition.now in
    let count = ap (λ (x : ℕ × ℕ). x.0) c.loop_data-count.ensures in
    let less = c.if-count-repetition.false in
    let room : (get_or h.loops f.loop_id (0, 0)).0 + 1 < 2 ^ 64 = omega (arith, count, less) in
    iterate-sound h _ f.loop_id c.args.begin c.args.spot.now.offset c.in_ok-push-2.ensures c.requires.there room c.requires.begin
