use Rattle.std.proofs.Common.{map, sym, ◌∙◌}
use Rattle.std.proofs.lemmas.List.{length-map}
use Rattle.regress_engine_insn.specs.InsnViews.{instruction}
use Rattle.regress_engine_code.specs.Standing.{program_of}
use Rattle.regress_engine_input.specs.Views.{direction_of, input_of}
use Rattle.regress_engine_search.specs.StateViews.{marks_of}
use Rattle.regress_engine_search.proofs.ReadyLemmas.{body-asked, body-next, body-at}
use Rattle.regress_engine_advance.proofs.times.as_far_slowly.Goals as goal
use Rattle.regress_engine_runs.proofs.Iterations.{far-goes, far-stops, far-all}

pub advance-requires-clause-ready : goal.advance-requires-clause-ready
advance-requires-clause-ready g c =
    let program = program_of c.args.program.now in
    let v = g.Input.InputIndexer.view c.args.input.now in
    let (at, here, body) = c.requires.body in
    body-asked v (g.met.Input.InputIndexer.are_of_kind c.args.input.now) program c.requires.suits at c.loop-left.behind (instruction c.args.insn.now) (map marks_of c.args.groups.now)
    (body-at program v at c.args.offset c.loop-left.behind body c.loop-left.invariant.place) here (length-map c.args.groups.now marks_of ∙ c.requires.groups)

pub returns-in_default-clause-far : goal.returns-in_default-clause-far
returns-in_default-clause-far g c =
    far-stops _ _ _ _ _ c.loop-left.left c.loop-left.behind c.loop-left-test.true c.in_default.ensures ∙ c.loop-left.invariant.rest

pub loop-left-preserved : goal.loop-left-preserved
loop-left-preserved g c =
    let program = program_of c.args.program.now in
    let v = g.Input.InputIndexer.view c.args.input.now in
    let i = instruction c.args.insn.now in
    let (at, here, body) = c.requires.body in
    record {
      rest = far-goes program (input_of v) i (direction_of c.args.forward) (map marks_of c.args.groups.now) c.loop-left.left c.loop-left.behind c.in-Some.next c.loop-left-test.true c.in-Some.ensures ∙ c.loop-left.invariant.rest;
      place = (body-next v (g.met.Input.InputIndexer.are_of_kind c.args.input.now) program c.requires.suits at c.loop-left.behind c.in-Some.next i (direction_of c.args.forward) (map marks_of c.args.groups.now)
          (body-at program v at c.args.offset c.loop-left.behind body c.loop-left.invariant.place) here (sym c.in-Some.ensures)).3;
    }

pub returns-after-loop-left-clause-far : goal.returns-after-loop-left-clause-far
returns-after-loop-left-clause-far g c = far-all _ _ _ _ _ c.loop-left.left c.loop-left.behind c.loop-left-test.false ∙ c.loop-left.invariant.rest
