use Rattle.std.proofs.Common.{◌+◌, ◌-◌, [], inl, inr, sym, ap, ◌∙◌}
use Rattle.regress_engine_code.specs.Standing.{program_of}
use Rattle.regress_engine_input.specs.Views.{direction_of, input_of}
use Rattle.regress_engine_insn.specs.InsnViews.{instruction}
use Rattle.regress_engine_runs.specs.Runs.{one_by_one}
use Rattle.regress_engine_ways.proofs.ExitWays.{ones-last, ones-more}
use Rattle.regress_engine_ways.specs.Ways.{preferred, preferred_of}
use Rattle.regress_engine_answers.specs.AnswerTables.{ends_by}
use Rattle.regress_engine_answers.proofs.RowLemmas.{none-preferred, preferred-none, preferred-on}
use Rattle.regress_engine_answers.proofs.answers.Answering.end_among.Goals as goal

pub exits-init : goal.exits-init
exits-init g c =
    let program = program_of c.args.self.now.program.now in
    let input = input_of (g.Input.InputIndexer.view c.args.self.now.input) in
    record {
      same = none-preferred c.args.greedy (preferred_of (ends_by c.args.answers.now (c.args.at + 2)) c.args.greedy
          (one_by_one program input c.args.times (instruction c.args.body.now) (direction_of c.args.forward) [] c.args.offset));
      place = c.requires.place;
    }

pub returns-then-left-eq0 : goal.returns-then-left-eq0
returns-then-left-eq0 g c =
    let program = program_of c.args.self.now.program.now in
    let input = input_of (g.Input.InputIndexer.view c.args.self.now.input) in
    let ends = ends_by c.args.answers.now (c.args.at + 2) in
    c.preferred-end.ensures ∙ ap (preferred c.args.greedy c.exits.found) (c.end.ensures ∙ sym (preferred-none c.args.greedy (ends c.exits.behind))
    ∙ sym (ap (preferred_of ends c.args.greedy) (ones-last program input (instruction c.args.body.now) (direction_of c.args.forward) [] c.exits.left c.exits.behind (inl c.if-left-eq0.true))))
    ∙ c.exits.invariant.same

pub returns-in_default : goal.returns-in_default
returns-in_default g c =
    let program = program_of c.args.self.now.program.now in
    let input = input_of (g.Input.InputIndexer.view c.args.self.now.input) in
    let ends = ends_by c.args.answers.now (c.args.at + 2) in
    c.preferred-end.ensures ∙ ap (preferred c.args.greedy c.exits.found) (c.end.ensures ∙ sym (preferred-none c.args.greedy (ends c.exits.behind))
    ∙ sym (ap (preferred_of ends c.args.greedy) (ones-last program input (instruction c.args.body.now) (direction_of c.args.forward) [] c.exits.left c.exits.behind (inr (sym c.in_default.ensures.next)))))
    ∙ c.exits.invariant.same

pub exits-preserved : goal.exits-preserved
exits-preserved g c =
    let program = program_of c.args.self.now.program.now in
    let input = input_of (g.Input.InputIndexer.view c.args.self.now.input) in
    let ends = ends_by c.args.answers.now (c.args.at + 2) in
    let rest = preferred_of ends c.args.greedy (one_by_one program input (c.exits.left - 1) (instruction c.args.body.now) (direction_of c.args.forward) [] c.in-Some.next) in
    record {
      same = ap (λ x. preferred c.args.greedy x rest) (c.preferred-end.ensures ∙ ap (preferred c.args.greedy c.exits.found) c.end.ensures)
          ∙ sym (preferred-on c.args.greedy c.exits.found (ends c.exits.behind) rest)
          ∙ sym (ap (λ os. preferred c.args.greedy c.exits.found (preferred_of ends c.args.greedy os))
          (ones-more program input (instruction c.args.body.now) (direction_of c.args.forward) [] c.exits.left c.exits.behind c.in-Some.next c.if-left-eq0.false (sym c.in-Some.ensures.next)))
          ∙ c.exits.invariant.same;
      place = c.in-Some.ensures.place;
    }
