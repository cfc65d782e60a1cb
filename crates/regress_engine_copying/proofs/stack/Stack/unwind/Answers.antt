use Rattle.std.proofs.Common.{◌≡◌, sym, ap, ◌∙◌, subst}
use Rattle.regress_engine_search.specs.Tasks.{outside_of}
use Rattle.regress_engine_copying.specs.StateOf.{state_of}
use Rattle.regress_engine_copying.specs.Held.{Held, held, entry_of, frame_of, tried, submatched, pushed}
use Rattle.regress_engine_copying.specs.Sound.{AreSound}
use Rattle.regress_engine_copying.specs.Tasks.{work_of}
use Rattle.regress_engine_copying.proofs.LeaveLemmas.{tried-outside, submatch-outside, none-outside}
use Rattle.regress_engine_copying.proofs.SoundLemmas.{tried-sound, submatched-sound}
use Rattle.regress_engine_copying.proofs.stack.Stack.unwind.Goals as goal

pub loop-pending-preserved : goal.loop-pending-preserved
loop-pending-preserved c =
    let k = held c.pop.new.self in
    let s = state_of c.in-Tried.state in
    let same : held c.loop-pending.self ≡ pushed (tried s) k = c.in-Some.ensures ∙ ap (λ p. pushed (entry_of p) k) c.in-Tried.is in
    record {
      outside = c.loop-pending.invariant.outside ∙ ap (λ (h : Held). outside_of (work_of h.entries)) same ∙ tried-outside s k;
      sound = λ program was. (tried-sound program s k (subst (λ (h : Held). AreSound program h.entries) same (c.loop-pending.invariant.sound program was))).0;
    }

pub returns-in-Submatch-clause-outside : goal.returns-in-Submatch-clause-outside
returns-in-Submatch-clause-outside c =
    let k = held c.pop.new.self in
    let s = state_of c.in-Submatch.state in
    let f = frame_of c.in-Submatch.frame s in
    let same : held c.loop-pending.self ≡ pushed (submatched f s) k = c.in-Some.ensures ∙ ap (λ p. pushed (entry_of p) k) c.in-Submatch.is in
    c.loop-pending.invariant.outside ∙ ap (λ (h : Held). outside_of (work_of h.entries)) same ∙ submatch-outside f s k

pub returns-in-Submatch-clause-sound : goal.returns-in-Submatch-clause-sound
returns-in-Submatch-clause-sound c = λ program was.
    let k = held c.pop.new.self in
    let s = state_of c.in-Submatch.state in
    let f = frame_of c.in-Submatch.frame s in
    let same : held c.loop-pending.self ≡ pushed (submatched f s) k = c.in-Some.ensures ∙ ap (λ p. pushed (entry_of p) k) c.in-Submatch.is in
    let found = submatched-sound program f s k (subst (λ (h : Held). AreSound program h.entries) same (c.loop-pending.invariant.sound program was)) in (found.0, (found.1, found.2))

pub returns-clause-outside : goal.returns-clause-outside
returns-clause-outside c = c.loop-pending.invariant.outside ∙ none-outside (held c.loop-pending.self) c.in_default.ensures.1

pub returns-clause-sound : goal.returns-clause-sound
returns-clause-sound c = λ program was.
    (subst (λ (h : Held). AreSound program h.entries) (sym c.in_default.ensures.0) (c.loop-pending.invariant.sound program was), tt)
