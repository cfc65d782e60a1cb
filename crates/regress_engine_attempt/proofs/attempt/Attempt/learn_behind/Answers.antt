use Rattle.std.proofs.Common.{map, sym, ap, ◌∙◌, subst}
use Rattle.regress_engine_insn.specs.InsnViews.{instruction}
use Rattle.regress_engine_code.specs.Standing.{program_of}
use Rattle.regress_engine_input.specs.Views.{direction_of, input_of}
use Rattle.regress_engine_runs.specs.Runs.{advance}
use Rattle.regress_engine_search.specs.StateViews.{marks_of}
use Rattle.regress_engine_search.specs.Ready.{IsReady}
use Rattle.regress_engine_search.proofs.ReadyLemmas.{body-asked, body-next}
use Rattle.regress_engine_undo.specs.Held.{held}
use Rattle.regress_engine_attempt.proofs.attempt.Attempt.learn_behind.Goals as goal

pub once-requires-clause-ready : goal.once-requires-clause-ready
once-requires-clause-ready g c =
    let program = program_of c.args.self.now.program.now in
    let v = g.Input.InputIndexer.view c.args.self.now.input in
    let i = instruction c.in-Some.body.now in
    let body = c.in-Some.ensures in
    subst (λ gs. IsReady program v i (map marks_of gs) c.args.far) (sym c.deref.ensures.value)
    (body-asked v (g.met.Input.InputIndexer.are_of_kind c.args.self.now.input) program c.requires.suits c.args.at c.args.far i (held c.args.memory.now).groups
    (i, body.0, body.1, c.requires.place, body.2) body.0 c.requires.sound.groups)

pub learn_back-requires-2-clause-place : goal.learn_back-requires-2-clause-place
learn_back-requires-2-clause-place g c =
    let program = program_of c.args.self.now.program.now in
    let v = g.Input.InputIndexer.view c.args.self.now.input in
    let i = instruction c.in-Some.body.now in
    let body = c.in-Some.ensures in
    (body-next v (g.met.Input.InputIndexer.are_of_kind c.args.self.now.input) program c.requires.suits c.args.at c.args.far c.in-Some-once.next i (direction_of c.args.forward) (held c.args.memory.now).groups
    (i, body.0, body.1, c.requires.place, body.2) body.0
    (ap (λ gs. advance program (input_of v) i (direction_of c.args.forward) (map marks_of gs) c.args.far) (sym c.deref.ensures.value) ∙ sym c.in-Some-once.ensures)).3
