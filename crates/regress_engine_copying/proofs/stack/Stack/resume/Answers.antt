use Rattle.std.proofs.Common.{[], ◌∷◌, None, Some, sym, ap, ◌∙◌, subst}
use Rattle.regress_engine_search.specs.Tasks.{Leads}
use Rattle.regress_engine_copying.specs.StateOf.{state_of}
use Rattle.regress_engine_copying.specs.Held.{held, entry_of, frame_of, pushed}
use Rattle.regress_engine_copying.specs.Sound.{StaysSound}
use Rattle.regress_engine_copying.specs.Tasks.{task_of}
use Rattle.regress_engine_copying.proofs.SoundLemmas.{tried-sound, submatched-sound, whole-at}
use Rattle.regress_engine_copying.proofs.TaskLemmas.{tried-leads, negated-leads, positive-leads}
use Rattle.regress_engine_copying.proofs.stack.Stack.resume.Goals as goal

pub returns-in-Tried-clause-leads : goal.returns-in-Tried-clause-leads
returns-in-Tried-clause-leads c = λ program input.
    let h = held c.args.self.now in
    subst (λ e. Leads program input 0 (task_of [] (pushed e h)) (task_of (state_of c.in-Tried.state ∷ []) h)) (sym (ap entry_of c.in-Tried.is))
    (tried-leads program input (state_of c.in-Tried.state) h)

pub returns-in-Tried-clause-sound : goal.returns-in-Tried-clause-sound
returns-in-Tried-clause-sound c =
    let h = held c.args.self.now in
    subst (λ e. StaysSound (pushed e h) (Some (state_of c.in-Tried.state)) h) (sym (ap entry_of c.in-Tried.is))
    (λ program sound. tried-sound program (state_of c.in-Tried.state) h sound)

pub returns-then-not-is_negated-clause-leads : goal.returns-then-not-is_negated-clause-leads
returns-then-not-is_negated-clause-leads c = λ program input.
    let h = held c.args.self.now in
    let f = c.in-Submatch.frame in
    let s = state_of c.in-Submatch.state in
    subst (λ e. Leads program input 0 (task_of [] (pushed e h)) (task_of [] (record h { forward = f.forward }))) (sym (ap entry_of c.in-Submatch.is))
    (positive-leads program input f s h (sym c.is_negated.ensures ∙ c.if-not-is_negated.true))

pub returns-then-not-is_negated-clause-sound : goal.returns-then-not-is_negated-clause-sound
returns-then-not-is_negated-clause-sound c =
    let h = held c.args.self.now in
    let f = c.in-Submatch.frame in
    let s = state_of c.in-Submatch.state in
    subst (λ e. StaysSound (pushed e h) None (record h { forward = f.forward })) (sym (ap entry_of c.in-Submatch.is))
    (λ program sound. ((submatched-sound program (frame_of f s) s h sound).0, tt))

pub returns-else-not-is_negated-clause-leads : goal.returns-else-not-is_negated-clause-leads
returns-else-not-is_negated-clause-leads c = λ program input.
    let h = held c.args.self.now in
    let f = c.in-Submatch.frame in
    let s = state_of c.in-Submatch.state in
    subst (λ e. Leads program input 0 (task_of [] (pushed e h)) (task_of (record s { at = f.continuation } ∷ []) (record h { forward = f.forward }))) (sym (ap entry_of c.in-Submatch.is))
    (negated-leads program input f s h (sym c.is_negated.ensures ∙ c.if-not-is_negated.false))

pub returns-else-not-is_negated-clause-sound : goal.returns-else-not-is_negated-clause-sound
returns-else-not-is_negated-clause-sound c =
    let h = held c.args.self.now in
    let f = c.in-Submatch.frame in
    let s = state_of c.in-Submatch.state in
    subst (λ e. StaysSound (pushed e h) (Some (record s { at = f.continuation })) (record h { forward = f.forward })) (sym (ap entry_of c.in-Submatch.is))
    (λ program sound. let was = submatched-sound program (frame_of f s) s h sound in (was.0, whole-at program s f.continuation was.2))
