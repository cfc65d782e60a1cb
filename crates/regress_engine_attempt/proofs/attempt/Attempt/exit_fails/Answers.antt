use Rattle.std.proofs.Common.{◌≡◌, Bool, true, false, not, map, refl, sym, subst, ◌∙◌}
use Rattle.regress_engine_insn.specs.InsnViews.{instruction}
use Rattle.regress_engine_code.specs.Standing.{program_of}
use Rattle.regress_engine_input.specs.Views.{direction_of, input_of}
use Rattle.regress_engine_search.specs.Ready.{IsReady}
use Rattle.regress_engine_search.specs.StateViews.{marks_of}
use Rattle.regress_engine_advance.proofs.ReadLemmas.{none-is}
use Rattle.regress_engine_advance.proofs.TakenLemmas.{taking-any, taking-ready}
use Rattle.regress_engine_undo.specs.Held.{held}
use Rattle.regress_engine_memory.specs.Held.{FailsWith}
use Rattle.regress_engine_memory.specs.Remembered.{keyed_of}
use Rattle.regress_engine_memory.specs.TableViews.{table_of}
use Rattle.regress_engine_trying.proofs.ExitLemmas.{dead-fails}
use Rattle.regress_engine_attempt.proofs.attempt.Attempt.exit_fails.Goals as goal
use Rattle.regress_engine_attempt.proofs.attempt.Attempt.exit_fails.Goals.{in-Some, in-None}

refuted-not : (b : Bool) → not b ≡ false → b ≡ true
refuted-not true e = refl
refuted-not false e = absurd (cc e)

pub once-requires-clause-ready : goal.once-requires-clause-ready
once-requires-clause-ready g c =
    let program = program_of c.args.self.now.program.now in
    let v = g.Input.InputIndexer.view c.args.self.now.input in
    let i = instruction c.in-Some.insn.now in
    subst (λ gs. IsReady program v i (map marks_of gs) c.args.exit.now.offset) (sym c.deref.ensures.value)
    (taking-ready program v i (held c.args.memory.now).groups c.args.exit.now.offset c.in-Some.ensures.fits c.in-Some.ensures.takes c.requires.sound.groups c.requires.place)

pub returns-then-not-stands : goal.returns-then-not-stands
returns-then-not-stands g c so =
    let program = program_of c.args.self.now.program.now in
    let input = input_of (g.Input.InputIndexer.view c.args.self.now.input) in
    let exit = c.args.exit.now in
    dead-fails program input (keyed_of (table_of c.args.failures.now.table)) exit (held c.args.memory.now).loops
    (elim c.match-taken_first.branch [
      | in-Some w ↦ w.in-Some.ensures.dead input exit.forward exit.offset
          (λ gs. none-is _ (sym w.is_some-stands.ensures ∙ sym w.stands-is ∙ c.if-not-stands.true) ∙ w.once.ensures
          ∙ taking-any program input (instruction w.in-Some.insn.now) (direction_of exit.forward) (map marks_of w.deref.result.now) gs exit.offset w.in-Some.ensures.takes)
      | in-None w ↦ w.is_dead.ensures (refuted-not _ (sym w.stands-is ∙ c.if-not-stands.true))
    ])

pub returns : goal.returns
returns g c so =
    let program = program_of c.args.self.now.program.now in
    let input = input_of (g.Input.InputIndexer.view c.args.self.now.input) in
    subst (FailsWith program input (keyed_of (table_of c.args.failures.now.table)) c.args.exit.now) c.loops.ensures (c.is_known.ensures so program input c.requires.so.known)
