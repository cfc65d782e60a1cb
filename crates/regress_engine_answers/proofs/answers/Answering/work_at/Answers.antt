use Rattle.std.specs.Prelude.{map}
use Rattle.std.proofs.Common.{◌&&◌, ◌||◌, ◌==◌, Result, Ok, Err, OnOk, refl, sym, ap, ◌∙◌, subst, arith}
use Rattle.std.proofs.lemmas.List.{length-map}
use Rattle.regress_engine_code.specs.Standing.{program_of}
use Rattle.regress_engine_input.specs.Views.{View, direction_of, input_of}
use Rattle.regress_engine_insn.specs.Instructions.{Program, Stands}
use Rattle.regress_engine_insn.specs.Instructions as code
use Rattle.regress_engine_insn.specs.InsnViews.{instruction}
use Rattle.regress_engine_runs.proofs.RunViews.{one_stands}
use Rattle.regress_engine_search.specs.StateViews.{marks_of}
use Rattle.regress_engine_answers.specs.AnswerTables.{ends_by, exits_by, told_by}
use Rattle.regress_engine_ways.proofs.Ends.{single-value}
use Rattle.regress_engine_linear.proofs.WorkLemmas.{answer-is, body-repeated, body-stands, exits-of, exits-value-is, not-single, numbers-order, ready-there}
use Rattle.regress_engine_answers.proofs.answers.Answering.work_at.Goals as goal

-- what is so where a call succeeds makes another thing so
ok-more : {T E P Q : Type 0} (r : Result T E) → (P → Q) → OnOk r P → OnOk r Q
ok-more (Ok x) more p = more p
ok-more (Err e) more p = tt

pub instruction-body-requires : goal.instruction-body-requires
instruction-body-requires g c =
    let single = c.in-Loop1CharBody in
    body-stands (g.Input.InputIndexer.view c.args.self.now.input) (program_of c.args.self.now.program.now) c.requires.suits c.args.at single.min_iters single.max_iters single.greedy
    (subst (λ x. Stands (program_of c.args.self.now.program.now) c.args.at (instruction x)) single.is c.instruction-insn.ensures.stands)

pub work_out_single-requires-clause-repeated : goal.work_out_single-requires-clause-repeated
work_out_single-requires-clause-repeated g c =
    let single = c.in-Loop1CharBody in
    body-repeated (g.Input.InputIndexer.view c.args.self.now.input) (program_of c.args.self.now.program.now) c.requires.suits c.args.at single.min_iters single.max_iters single.greedy
    (subst (λ x. Stands (program_of c.args.self.now.program.now) c.args.at (instruction x)) single.is c.instruction-insn.ensures.stands)
    (instruction c.instruction-body.result.now) c.instruction-body.ensures.stands

pub work_out_single-requires-clause-place : goal.work_out_single-requires-clause-place
work_out_single-requires-clause-place g c =
    let single = c.in-Loop1CharBody in
    c.requires.place (code.single_loop single.min_iters single.max_iters single.greedy)
    (subst (λ x. Stands (program_of c.args.self.now.program.now) c.args.at (instruction x)) single.is c.instruction-insn.ensures.stands) refl

pub work_out_single-requires-clause-order : goal.work_out_single-requires-clause-order
work_out_single-requires-clause-order g c =
    let single = c.in-Loop1CharBody in
    numbers-order (g.Input.InputIndexer.view c.args.self.now.input) (program_of c.args.self.now.program.now) c.requires.suits c.args.at single.min_iters single.max_iters single.greedy
    (subst (λ x. Stands (program_of c.args.self.now.program.now) c.args.at (instruction x)) single.is c.instruction-insn.ensures.stands)

pub work_out_single-requires-clause-exits : goal.work_out_single-requires-clause-exits
work_out_single-requires-clause-exits g c =
    let single = c.in-Loop1CharBody in
    exits-of (g.Input.InputIndexer.view c.args.self.now.input) (program_of c.args.self.now.program.now) c.requires.suits c.args.at single.min_iters single.max_iters single.greedy
    (subst (λ x. Stands (program_of c.args.self.now.program.now) c.args.at (instruction x)) single.is c.instruction-insn.ensures.stands)
    (told_by c.args.answers.now) (exits_by c.args.answers.now) (direction_of c.args.forward) c.args.offset (instruction c.instruction-body.result.now) c.instruction-body.ensures.stands c.requires.exits

pub work_out-requires-clause-ready : goal.work_out-requires-clause-ready
work_out-requires-clause-ready g c simple =
    let i = instruction c.instruction-insn.result.now in
    let stands = c.instruction-insn.ensures.stands in
    ready-there (g.Input.InputIndexer.view c.args.self.now.input) (program_of c.args.self.now.program.now) c.requires.suits (map marks_of c.args.self.now.groups.now)
    (length-map c.args.self.now.groups.now marks_of ∙ c.requires.groups) c.args.offset c.args.at i (c.requires.place i stands) stands (c.requires.calm c.args.at i stands) simple

pub work_out-requires-clause-within : goal.work_out-requires-clause-within
work_out-requires-clause-within g c =
    let within = c.requires.within in
    let count = c.requires.count in
    omega (arith, within, count)

pub work_out-requires-clause-plain : goal.work_out-requires-clause-plain
work_out-requires-clause-plain g c = not-single c.instruction-insn.result.now c.in_default.not-Loop1CharBody

pub work_out-requires-clause-unreferring : goal.work_out-requires-clause-unreferring
work_out-requires-clause-unreferring g c = c.requires.calm c.args.at (instruction c.instruction-insn.result.now) c.instruction-insn.ensures.stands

pub returns-in-Loop1CharBody-clause-told : goal.returns-in-Loop1CharBody-clause-told
returns-in-Loop1CharBody-clause-told g c =
    let program : Program = program_of c.args.self.now.program.now in
    let v : View = g.Input.InputIndexer.view c.args.self.now.input in
    let single = c.in-Loop1CharBody in
    let here : Stands program c.args.at (code.single_loop single.min_iters single.max_iters single.greedy) =
    subst (λ x. Stands program c.args.at (instruction x)) single.is c.instruction-insn.ensures.stands in
    let old = c.args.answers.now in
    ok-more c.work_out_single.result
    (λ told i stands a o. told single.greedy a o ∙ ap (λ b. told_by old a o || (((a == c.args.at) && (c.args.offset == o)) && b))
    (sym (single-value (told_by old) (ends_by old) program (input_of v) (direction_of c.args.forward) c.args.at c.args.offset single.min_iters single.max_iters
    single.greedy i (one_stands program (input_of v) c.args.at (code.single_loop single.min_iters single.max_iters single.greedy) i here stands)
    ∙ answer-is v program c.requires.suits c.args.at single.min_iters single.max_iters single.greedy here (told_by old) (exits_by old) (direction_of c.args.forward) c.args.offset
    (instruction c.instruction-body.result.now) c.instruction-body.ensures.stands i stands)))
    c.work_out_single.ensures.told

pub returns-in-Loop1CharBody-clause-exits : goal.returns-in-Loop1CharBody-clause-exits
returns-in-Loop1CharBody-clause-exits g c =
    let program : Program = program_of c.args.self.now.program.now in
    let v : View = g.Input.InputIndexer.view c.args.self.now.input in
    let single = c.in-Loop1CharBody in
    let here : Stands program c.args.at (code.single_loop single.min_iters single.max_iters single.greedy) =
    subst (λ x. Stands program c.args.at (instruction x)) single.is c.instruction-insn.ensures.stands in
    let old = c.args.answers.now in
    ok-more c.work_out_single.result
    (λ told i stands a o. told a o ∙ ap (λ b. exits_by old a o || (((a == c.args.at) && (c.args.offset == o)) && b))
    (sym (exits-value-is v program c.requires.suits c.args.at single.min_iters single.max_iters single.greedy here (told_by old) (exits_by old) (direction_of c.args.forward) c.args.offset
    (instruction c.instruction-body.result.now) c.instruction-body.ensures.stands i stands)))
    c.work_out_single.ensures.exits
