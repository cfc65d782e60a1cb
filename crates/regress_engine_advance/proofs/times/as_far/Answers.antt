use Rattle.std.proofs.Common.{ℕ, Bool, map, sym, ap, ◌∙◌, subst}
use Rattle.std.proofs.lemmas.List.{length-map}
use Rattle.regress_engine_insn.specs.InsnViews.{instruction}
use Rattle.regress_engine_code.specs.Standing.{program_of}
use Rattle.regress_meaning.specs.Meaning.{Forward as ahead}
use Rattle.regress_engine_input.specs.Views.{direction_of, input_of, reading_of}
use Rattle.regress_engine_runs.specs.Runs.{as_far}
use Rattle.regress_engine_runs.specs.Meets.{IsAtPlace}
use Rattle.regress_engine_search.specs.StateViews.{marks_of}
use Rattle.regress_engine_search.proofs.ReadyLemmas.{body-asked}
use Rattle.regress_engine_search.proofs.PlaceLemmas.{can-read}
use Rattle.regress_engine_advance.proofs.FarLemmas.{far-place}
use Rattle.regress_engine_advance.proofs.times.as_far.Goals as goal

pub as_far_ahead-requires-clause-fits : goal.as_far_ahead-requires-clause-fits
as_far_ahead-requires-clause-fits g c =
    let program = program_of c.args.program.now in
    let v = g.Input.InputIndexer.view c.args.input.now in
    let (at, here, body) = c.requires.body in
    (body-asked v (g.met.Input.InputIndexer.are_of_kind c.args.input.now) program c.requires.suits at c.args.offset (instruction c.args.insn.now) (map marks_of c.args.groups.now) body here
    (length-map c.args.groups.now marks_of ∙ c.requires.groups)).fits

pub as_far_ahead-requires-clause-place : goal.as_far_ahead-requires-clause-place
as_far_ahead-requires-clause-place g c =
    let (at, here, body) = c.requires.body in
    can-read (g.Input.InputIndexer.view c.args.input.now) (g.met.Input.InputIndexer.are_of_kind c.args.input.now) c.args.offset body.3

pub returns-in-Some-clause-far : goal.returns-in-Some-clause-far
returns-in-Some-clause-far g c =
    let gs = map marks_of c.args.groups.now in
    let far : Bool → ℕ = λ b. as_far (program_of c.args.program.now) (input_of (g.Input.InputIndexer.view c.args.input.now)) c.args.times (instruction c.args.insn.now) (direction_of b) gs c.args.offset in
    c.in-Some.ensures gs ∙ ap far (sym c.if-forward.true)

pub returns-in-Some-clause-place : goal.returns-in-Some-clause-place
returns-in-Some-clause-place g c =
    let program = program_of c.args.program.now in
    let v = g.Input.InputIndexer.view c.args.input.now in
    let gs = map marks_of c.args.groups.now in
    let (at, here, body) = c.requires.body in
    subst (IsAtPlace (reading_of v)) (sym (c.in-Some.ensures gs))
    (far-place program v (g.met.Input.InputIndexer.are_of_kind c.args.input.now) c.requires.suits at (instruction c.args.insn.now) here ahead gs c.args.times c.args.offset body)
