use Rattle.std.proofs.Common.{◌++◌, ◌-◌, ◌<◌, arith, map, sym, ap, ◌∙◌}
use Rattle.std.proofs.lemmas.List.{length-map}
use Rattle.regress_engine_insn.specs.InsnViews.{instruction}
use Rattle.regress_engine_code.specs.Standing.{program_of}
use Rattle.regress_engine_input.specs.Views.{direction_of, input_of}
use Rattle.regress_engine_runs.specs.Runs.{one_by_one}
use Rattle.regress_engine_search.specs.StateViews.{marks_of}
use Rattle.regress_engine_search.proofs.ReadyLemmas.{body-asked, body-next, body-at}
use Rattle.regress_engine_copying.proofs.EndLemmas.{ends-full, ends-stop, ends-more, put-last}
use Rattle.regress_engine_copying.proofs.attempt.Attempt.collect.Goals as goal

pub iterations-init : goal.iterations-init
iterations-init g c =
    let program = program_of c.args.self.now.program.now in
    let v = g.Input.InputIndexer.view c.args.self.now.input in
    let (at, here, body) = c.requires.body in
    record {
      rest = ap (λ xs. xs ++ one_by_one program (input_of v) c.args.times (instruction c.args.insn.now) (direction_of c.args.forward) (map marks_of c.args.groups.now) c.args.offset) c.clear.ensures.items;
      place = body.3;
    }

pub returns-then-left-eq0 : goal.returns-then-left-eq0
returns-then-left-eq0 g c =
    let program = program_of c.args.self.now.program.now in
    let v = g.Input.InputIndexer.view c.args.self.now.input in
    c.in_ok-push.ensures.items
    ∙ ap (λ xs. c.iterations.ends.items ++ xs) (sym (ends-full program v (instruction c.args.insn.now) (direction_of c.args.forward) (map marks_of c.args.groups.now) c.iterations.left c.iterations.behind c.if-left-eq0.true))
    ∙ c.iterations.invariant.rest

pub advance-requires-clause-ready : goal.advance-requires-clause-ready
advance-requires-clause-ready g c =
    let program = program_of c.args.self.now.program.now in
    let v = g.Input.InputIndexer.view c.args.self.now.input in
    let (at, here, body) = c.requires.body in
    body-asked v (g.met.Input.InputIndexer.are_of_kind c.args.self.now.input) program c.requires.suits at c.iterations.behind (instruction c.args.insn.now) (map marks_of c.args.groups.now)
    (body-at program v at c.args.offset c.iterations.behind body c.iterations.invariant.place) here (length-map c.args.groups.now marks_of ∙ c.requires.groups)

pub returns-in_default : goal.returns-in_default
returns-in_default g c =
    let program = program_of c.args.self.now.program.now in
    let v = g.Input.InputIndexer.view c.args.self.now.input in
    c.in_ok-push.ensures.items
    ∙ ap (λ xs. c.iterations.ends.items ++ xs) (sym (ends-stop program v (instruction c.args.insn.now) (direction_of c.args.forward) (map marks_of c.args.groups.now) c.iterations.left c.iterations.behind c.in_default.ensures))
    ∙ c.iterations.invariant.rest

pub iterations-preserved : goal.iterations-preserved
iterations-preserved g c =
    let program = program_of c.args.self.now.program.now in
    let v = g.Input.InputIndexer.view c.args.self.now.input in
    let i = instruction c.args.insn.now in
    let dir = direction_of c.args.forward in
    let gs = map marks_of c.args.groups.now in
    let (at, here, body) = c.requires.body in
    let rest = one_by_one program (input_of v) (c.iterations.left - 1) i dir gs c.in-Some.next in
    let some : 0 < c.iterations.left = omega arith in
    record {
      rest = ap (λ xs. xs ++ rest) c.in_ok-push.ensures.items
          ∙ put-last c.iterations.ends.items rest c.iterations.behind _
          (ap (λ xs. c.iterations.ends.items ++ xs) (sym (ends-more program v i dir gs c.iterations.left c.iterations.behind c.in-Some.next some c.in-Some.ensures)) ∙ c.iterations.invariant.rest);
      place = (body-next v (g.met.Input.InputIndexer.are_of_kind c.args.self.now.input) program c.requires.suits at c.iterations.behind c.in-Some.next i dir gs
          (body-at program v at c.args.offset c.iterations.behind body c.iterations.invariant.place) here (sym c.in-Some.ensures)).3;
    }
