use Rattle.std.proofs.Common.{◌+◌, map, sym, ap, ◌∙◌, subst}
use Rattle.regress_engine_code.specs.Standing.{program_of}
use Rattle.regress_engine_input.specs.Views.{direction_of, input_of}
use Rattle.regress_engine_insn.specs.Instructions.{Stands}
use Rattle.regress_engine_insn.specs.InsnViews.{instruction}
use Rattle.regress_engine_runs.specs.Meets.{reads_character}
use Rattle.regress_engine_search.specs.StateViews.{marks_of}
use Rattle.regress_engine_linear.specs.Answered.{is_single}
use Rattle.regress_engine_answers.specs.AnswerTables.{told_by}
use Rattle.regress_engine_ways.specs.Ways.{led, station_at}
use Rattle.regress_engine_ways.proofs.OnWay.{single-led}
use Rattle.regress_engine_ways.proofs.ExitWays.{single-body, single-stands}
use Rattle.regress_engine_linear.proofs.WorkLemmas.{not-single}
use Rattle.regress_engine_walks.proofs.walking.led.Goals as goal

pub instruction-body-requires : goal.instruction-body-requires
instruction-body-requires g c =
    let program = program_of c.args.answering.now.program.now in
    let v = g.Input.InputIndexer.view c.args.answering.now.input in
    single-stands v program c.requires.suits c.args.at c.in-Loop1CharBody.min_iters c.in-Loop1CharBody.max_iters c.in-Loop1CharBody.greedy
    (subst (λ x. Stands program c.args.at (instruction x)) c.in-Loop1CharBody.is c.requires.stands)

pub exit-exit-requires-clause-body : goal.exit-exit-requires-clause-body
exit-exit-requires-clause-body g c =
    let program = program_of c.args.answering.now.program.now in
    let v = g.Input.InputIndexer.view c.args.answering.now.input in
    (single-body v program c.requires.suits c.args.at c.args.offset c.in-Loop1CharBody.min_iters c.in-Loop1CharBody.max_iters c.in-Loop1CharBody.greedy
    (subst (λ x. Stands program c.args.at (instruction x)) c.in-Loop1CharBody.is c.requires.stands)
    (c.requires.place (ap (λ x. reads_character (instruction x)) c.in-Loop1CharBody.is)) (instruction c.instruction-body.result.now) c.instruction-body.ensures.stands).0

pub exit-exit-requires-clause-order : goal.exit-exit-requires-clause-order
exit-exit-requires-clause-order g c =
    let program = program_of c.args.answering.now.program.now in
    let v = g.Input.InputIndexer.view c.args.answering.now.input in
    (single-body v program c.requires.suits c.args.at c.args.offset c.in-Loop1CharBody.min_iters c.in-Loop1CharBody.max_iters c.in-Loop1CharBody.greedy
    (subst (λ x. Stands program c.args.at (instruction x)) c.in-Loop1CharBody.is c.requires.stands)
    (c.requires.place (ap (λ x. reads_character (instruction x)) c.in-Loop1CharBody.is)) (instruction c.instruction-body.result.now) c.instruction-body.ensures.stands).1.1

pub exit-exit-requires-clause-exits : goal.exit-exit-requires-clause-exits
exit-exit-requires-clause-exits g c =
    c.requires.exits (instruction c.instruction-body.result.now) (ap (λ x. is_single (instruction x)) c.in-Loop1CharBody.is) c.instruction-body.ensures.stands

pub led_on-requires-clause-plain : goal.led_on-requires-clause-plain
led_on-requires-clause-plain g c = not-single c.args.insn.now c.in_default.not-Loop1CharBody

pub returns-in-Loop1CharBody : goal.returns-in-Loop1CharBody
returns-in-Loop1CharBody g c =
    let program = program_of c.args.answering.now.program.now in
    let input = input_of (g.Input.InputIndexer.view c.args.answering.now.input) in
    let gs = map marks_of c.args.answering.now.groups.now in
    let told = told_by c.args.answers.now in
    c.station_at.ensures
    ∙ ap (station_at (c.args.at + 2)) c.exit-exit.ensures
    ∙ single-led told program input (direction_of c.args.forward) gs c.args.at c.args.offset c.in-Loop1CharBody.min_iters c.in-Loop1CharBody.max_iters c.in-Loop1CharBody.greedy (instruction c.instruction-body.result.now)
    c.instruction-body.ensures.stands
    ∙ ap (λ x. led told program input (direction_of c.args.forward) gs (instruction x) c.args.at c.args.offset) (sym c.in-Loop1CharBody.is)
