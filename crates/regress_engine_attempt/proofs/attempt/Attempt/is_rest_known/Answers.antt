use Rattle.std.proofs.Common.{map, inl, inr, sym, ap, ◌∙◌, subst}
use Rattle.regress_engine_insn.specs.InsnViews.{instruction}
use Rattle.regress_engine_code.specs.Standing.{program_of}
use Rattle.regress_engine_input.specs.Views.{direction_of, input_of}
use Rattle.regress_engine_runs.specs.Runs.{advance}
use Rattle.regress_engine_search.specs.StateViews.{marks_of}
use Rattle.regress_engine_search.specs.Ready.{IsReady}
use Rattle.regress_engine_search.proofs.ReadyLemmas.{body-asked}
use Rattle.regress_engine_undo.specs.Held.{held}
use Rattle.regress_engine_memory.specs.Held.{ExitsFailWith}
use Rattle.regress_engine_memory.specs.Remembered.{keyed_of}
use Rattle.regress_engine_memory.specs.TableViews.{table_of}
use Rattle.regress_engine_attempt.proofs.attempt.Attempt.is_rest_known.Goals as goal

pub once-requires-clause-ready : goal.once-requires-clause-ready
once-requires-clause-ready g c =
    let program = program_of c.args.self.now.program.now in
    let v = g.Input.InputIndexer.view c.args.self.now.input in
    let i = instruction c.args.body.now in
    let body = c.requires.body in
    subst (λ gs. IsReady program v i (map marks_of gs) c.args.exit.now.offset) (sym c.deref.ensures.value)
    (body-asked v (g.met.Input.InputIndexer.are_of_kind c.args.self.now.input) program c.requires.suits c.args.exit.now.at c.args.exit.now.offset i (held c.args.memory.now).groups
    (i, body.0, body.1, c.requires.place, body.2) body.0 c.requires.sound.groups)

pub returns-in_default : goal.returns-in_default
returns-in_default g c so =
    let program = program_of c.args.self.now.program.now in
    let input = input_of (g.Input.InputIndexer.view c.args.self.now.input) in
    inl (ap (λ gs. advance program input (instruction c.args.body.now) (direction_of c.args.exit.now.forward) (map marks_of gs) c.args.exit.now.offset) (sym c.deref.ensures.value) ∙ sym c.in_default.ensures)

pub returns : goal.returns
returns g c so =
    let program = program_of c.args.self.now.program.now in
    let input = input_of (g.Input.InputIndexer.view c.args.self.now.input) in
    inr (
      c.in-Some.next,
      ap (λ gs. advance program input (instruction c.args.body.now) (direction_of c.args.exit.now.forward) (map marks_of gs) c.args.exit.now.offset) (sym c.deref.ensures.value) ∙ sym c.in-Some.ensures,
      subst (ExitsFailWith program input (keyed_of (table_of c.args.failures.now.table)) (record c.args.exit.now { offset = c.in-Some.next })) c.loops.ensures
          (c.are_exits_known.ensures so program input c.requires.so.known),
    )
