use Rattle.std.proofs.Common.{map, sym, ap, ◌∙◌, subst}
use Rattle.std.proofs.lemmas.Result.{on_ok_weaker}
use Rattle.regress_engine_insn.specs.InsnViews.{instruction}
use Rattle.regress_engine_code.specs.Standing.{program_of}
use Rattle.regress_engine_input.specs.Views.{direction_of, input_of}
use Rattle.regress_engine_runs.specs.Runs.{advance}
use Rattle.regress_engine_search.specs.StateViews.{marks_of}
use Rattle.regress_engine_search.specs.Ready.{IsReady}
use Rattle.regress_engine_search.proofs.ReadyLemmas.{simple-ready}
use Rattle.regress_engine_copying.specs.StateOf.{state_of}
use Rattle.regress_engine_copying.specs.Held.{held, put}
use Rattle.regress_engine_copying.proofs.PlainLemmas.{take-none, take-some}
use Rattle.regress_engine_copying.proofs.attempt.Attempt.take.Goals as goal

pub advance-requires-clause-ready : goal.advance-requires-clause-ready
advance-requires-clause-ready g c =
    let program = program_of c.args.self.now.program.now in
    let v = g.Input.InputIndexer.view c.args.self.now.input in
    subst (λ gs. IsReady program v (instruction c.args.insn.now) (map marks_of gs) c.args.state.offset) (sym c.deref.ensures.value)
    (simple-ready program v c.requires.suits (instruction c.args.insn.now) (state_of c.args.state) c.requires.stands c.requires.simple c.requires.whole.groups c.requires.reads)

pub returns-in_default : goal.returns-in_default
returns-in_default g c =
    let program = program_of c.args.self.now.program.now in
    let input = input_of (g.Input.InputIndexer.view c.args.self.now.input) in
    let i = instruction c.args.insn.now in
    let dir = direction_of c.args.stack.now.forward in
    ap (λ ss. put ss (held c.args.stack.now)) (take-none program input i dir (state_of c.args.state) c.requires.simple
    (c.in_default.ensures ∙ ap (λ gs. advance program input i dir (map marks_of gs) c.args.state.offset) c.deref.ensures.value))

pub returns : goal.returns
returns g c =
    let program = program_of c.args.self.now.program.now in
    let input = input_of (g.Input.InputIndexer.view c.args.self.now.input) in
    let i = instruction c.args.insn.now in
    let dir = direction_of c.args.stack.now.forward in
    on_ok_weaker c.push.result (λ is. is ∙ ap (λ ss. put ss (held c.args.stack.now)) (take-some program input i dir (state_of c.args.state) c.requires.simple c.in-Some.next
    (c.in-Some.ensures ∙ ap (λ gs. advance program input i dir (map marks_of gs) c.args.state.offset) c.deref.ensures.value))) c.push.ensures
