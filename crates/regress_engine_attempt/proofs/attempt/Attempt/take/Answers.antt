use Rattle.std.proofs.Common.{map, sym, ap, ◌∙◌, subst}
use Rattle.regress_engine_insn.specs.InsnViews.{instruction}
use Rattle.regress_engine_code.specs.Standing.{program_of}
use Rattle.regress_engine_input.specs.Views.{direction_of, input_of}
use Rattle.regress_engine_runs.specs.Runs.{advance}
use Rattle.regress_engine_search.specs.StateViews.{marks_of}
use Rattle.regress_engine_search.specs.Ready.{IsReady}
use Rattle.regress_engine_search.proofs.ReadyLemmas.{simple-ready}
use Rattle.regress_engine_undo.specs.Held.{held}
use Rattle.regress_engine_undo.specs.Tasks.{state_at}
use Rattle.regress_engine_undo.proofs.DispatchLemmas.{take-none, take-some}
use Rattle.regress_engine_attempt.proofs.attempt.Attempt.take.Goals as goal

pub advance-requires-clause-ready : goal.advance-requires-clause-ready
advance-requires-clause-ready g c =
    let program = program_of c.args.self.now.program.now in
    let v = g.Input.InputIndexer.view c.args.self.now.input in
    subst (λ gs. IsReady program v (instruction c.args.insn.now) (map marks_of gs) c.args.spot.now.offset) (sym c.deref.ensures.value)
    (simple-ready program v c.requires.suits (instruction c.args.insn.now) (state_at c.args.spot.now (held c.args.memory.now)) c.requires.stands c.requires.simple c.requires.sound.groups c.requires.reads)

pub returns-in_default : goal.returns-in_default
returns-in_default g c =
    let program = program_of c.args.self.now.program.now in
    let input = input_of (g.Input.InputIndexer.view c.args.self.now.input) in
    let i = instruction c.args.insn.now in
    take-none program input i c.args.spot.now (held c.args.memory.now) c.requires.stands c.requires.simple
    (ap (λ gs. advance program input i (direction_of c.args.spot.now.forward) (map marks_of gs) c.args.spot.now.offset) (sym c.deref.ensures.value) ∙ sym c.in_default.ensures)

pub returns : goal.returns
returns g c =
    let program = program_of c.args.self.now.program.now in
    let input = input_of (g.Input.InputIndexer.view c.args.self.now.input) in
    let i = instruction c.args.insn.now in
    take-some program input i c.args.spot.now (held c.args.memory.now) c.in-Some.next c.requires.stands c.requires.simple
    (ap (λ gs. advance program input i (direction_of c.args.spot.now.forward) (map marks_of gs) c.args.spot.now.offset) (sym c.deref.ensures.value) ∙ sym c.in-Some.ensures)
