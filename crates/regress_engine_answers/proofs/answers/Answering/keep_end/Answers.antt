use Rattle.std.specs.Prelude.{map}
use Rattle.std.proofs.Common.{◌≡◌, ℕ, suc, ◌+◌, ◌==◌, ◌&&◌, ◌⊎◌, Bool, true, false, Option, None, Result, Ok, Err, OnOk, if◌then◌else◌, refl, sym, ap, ◌∙◌, subst, arith}
use Rattle.std.proofs.lemmas.List.{length-map}
use Rattle.regress_engine_code.specs.Standing.{program_of}
use Rattle.regress_engine_input.specs.Views.{View, direction_of, input_of}
use Rattle.regress_engine_insn.specs.Instructions.{Instruction, Program, Stands}
use Rattle.regress_engine_insn.specs.Instructions as code
use Rattle.regress_engine_insn.specs.InsnViews.{instruction}
use Rattle.regress_engine_runs.proofs.RunViews.{one_stands}
use Rattle.regress_engine_search.specs.StateViews.{marks_of}
use Rattle.regress_engine_linear.proofs.WorkLemmas.{body-repeated, body-stands, not-single, numbers-order, ready-there}
use Rattle.regress_engine_answers.proofs.EndKept.{kept-plain, kept-single}
use Rattle.regress_engine_answers.proofs.answers.Answering.keep_end.Goals as goal

-- what is so where a call succeeds makes another thing so
ok-more : {T E P Q : Type 0} (r : Result T E) → (P → Q) → OnOk r P → OnOk r Q
ok-more (Ok x) more p = more p
ok-more (Err e) more p = tt

ok-both : {T E P Q R : Type 0} (r : Result T E) → (P → Q → R) → OnOk r P → OnOk r Q → OnOk r R
ok-both (Ok x) both p q = both p q
ok-both (Err e) both p q = tt

pub instruction-body-requires : goal.instruction-body-requires
instruction-body-requires g c =
    let single = c.in-Loop1CharBody in
    body-stands (g.Input.InputIndexer.view c.args.self.now.input) (program_of c.args.self.now.program.now) c.requires.suits c.args.at single.min_iters single.max_iters single.greedy
    (subst (λ x. Stands (program_of c.args.self.now.program.now) c.args.at (instruction x)) single.is c.instruction-insn.ensures.stands)

pub keep_single_end-requires-clause-repeated : goal.keep_single_end-requires-clause-repeated
keep_single_end-requires-clause-repeated g c =
    let single = c.in-Loop1CharBody in
    body-repeated (g.Input.InputIndexer.view c.args.self.now.input) (program_of c.args.self.now.program.now) c.requires.suits c.args.at single.min_iters single.max_iters single.greedy
    (subst (λ x. Stands (program_of c.args.self.now.program.now) c.args.at (instruction x)) single.is c.instruction-insn.ensures.stands)
    (instruction c.instruction-body.result.now) c.instruction-body.ensures.stands

pub keep_single_end-requires-clause-place : goal.keep_single_end-requires-clause-place
keep_single_end-requires-clause-place g c =
    let single = c.in-Loop1CharBody in
    c.requires.place (code.single_loop single.min_iters single.max_iters single.greedy)
    (subst (λ x. Stands (program_of c.args.self.now.program.now) c.args.at (instruction x)) single.is c.instruction-insn.ensures.stands) refl

pub keep_single_end-requires-clause-order : goal.keep_single_end-requires-clause-order
keep_single_end-requires-clause-order g c =
    let single = c.in-Loop1CharBody in
    numbers-order (g.Input.InputIndexer.view c.args.self.now.input) (program_of c.args.self.now.program.now) c.requires.suits c.args.at single.min_iters single.max_iters single.greedy
    (subst (λ x. Stands (program_of c.args.self.now.program.now) c.args.at (instruction x)) single.is c.instruction-insn.ensures.stands)

pub keep_plain_end-requires-clause-ready : goal.keep_plain_end-requires-clause-ready
keep_plain_end-requires-clause-ready g c simple =
    let i = instruction c.instruction-insn.result.now in
    let stands = c.instruction-insn.ensures.stands in
    ready-there (g.Input.InputIndexer.view c.args.self.now.input) (program_of c.args.self.now.program.now) c.requires.suits (map marks_of c.args.self.now.groups.now)
    (length-map c.args.self.now.groups.now marks_of ∙ c.requires.groups) c.args.offset c.args.at i (c.requires.place i stands) stands (c.requires.calm c.args.at i stands) simple

pub keep_plain_end-requires-clause-plain : goal.keep_plain_end-requires-clause-plain
keep_plain_end-requires-clause-plain g c = not-single c.instruction-insn.result.now c.in_default.not-Loop1CharBody

pub returns-in-Loop1CharBody-clause-kept : goal.returns-in-Loop1CharBody-clause-kept
returns-in-Loop1CharBody-clause-kept g c =
    let program : Program = program_of c.args.self.now.program.now in
    let v : View = g.Input.InputIndexer.view c.args.self.now.input in
    let single = c.in-Loop1CharBody in
    let here : Stands program c.args.at (code.single_loop single.min_iters single.max_iters single.greedy) =
    subst (λ x. Stands program c.args.at (instruction x)) single.is c.instruction-insn.ensures.stands in
    ok-both c.keep_single_end.result
    (λ exits ends. kept-single program v (direction_of c.args.forward) (map marks_of c.args.self.now.groups.now) c.args.at c.args.offset c.args.answers.now c.keep_single_end.new.answers
    single.min_iters single.max_iters single.greedy (instruction c.instruction-body.result.now) here c.instruction-body.ensures.stands exits ends)
    c.keep_single_end.ensures.exit_ends c.keep_single_end.ensures.ends

pub returns-in_default-clause-kept : goal.returns-in_default-clause-kept
returns-in_default-clause-kept g c =
    let program : Program = program_of c.args.self.now.program.now in
    let v : View = g.Input.InputIndexer.view c.args.self.now.input in
    ok-more c.keep_plain_end.result
    (λ ends. kept-plain program v (direction_of c.args.forward) (map marks_of c.args.self.now.groups.now) c.args.at c.args.offset c.args.answers.now c.keep_plain_end.new.answers
    (instruction c.instruction-insn.result.now) c.instruction-insn.ensures.stands (not-single c.instruction-insn.result.now c.in_default.not-Loop1CharBody) c.keep_plain_end.ensures.exit_ends ends)
    c.keep_plain_end.ensures.ends
