use Rattle.std.proofs.Common.{◌+◌, ◌-◌, map, reverse, sym, ap, ◌∙◌}
use Rattle.std.proofs.lemmas.Result.{on_ok_weaker}
use Rattle.regress_engine_insn.specs.InsnViews.{instruction}
use Rattle.regress_engine_code.specs.Standing.{program_of}
use Rattle.regress_engine_input.specs.Views.{direction_of, input_of}
use Rattle.regress_engine_runs.specs.Runs.{after_times, one_by_one}
use Rattle.regress_engine_search.specs.StateViews.{marks_of}
use Rattle.regress_engine_search.proofs.ReadyLemmas.{body-at}
use Rattle.regress_engine_copying.specs.StateOf.{state_of}
use Rattle.regress_engine_copying.specs.Held.{held, put}
use Rattle.regress_engine_copying.proofs.EndLemmas.{ends_at, repeat-few, repeat-greedy, repeat-lazy}
use Rattle.regress_engine_copying.proofs.attempt.Attempt.repeat.Goals as goal

pub returns-in_default : goal.returns-in_default
returns-in_default g c =
    let program = program_of c.args.self.now.program.now in
    let v = g.Input.InputIndexer.view c.args.self.now.input in
    let i = instruction c.instruction-insn.result.now in
    let s = state_of c.args.state.now in
    let dir = direction_of c.args.stack.now.forward in
    ap (λ ss. put ss (held c.args.stack.now))
    (repeat-few program v i s dir c.instruction-insn.ensures.stands c.args.least c.args.most c.args.greedy
    (ap (λ gs. after_times program (input_of v) c.args.least i dir (map marks_of gs) s.offset) (sym c.deref.ensures.value) ∙ sym c.in_default.ensures.behind))

pub returns-then-greedy : goal.returns-then-greedy
returns-then-greedy g c =
    let program = program_of c.args.self.now.program.now in
    let v = g.Input.InputIndexer.view c.args.self.now.input in
    let i = instruction c.instruction-insn.result.now in
    let s = state_of c.args.state.now in
    let dir = direction_of c.args.stack.now.forward in
    let here = c.instruction-insn.ensures.stands in
    on_ok_weaker c.push_each.result (λ is. is ∙ ap (λ ss. put ss (held c.args.stack.now))
    (ap (λ xs. ends_at program v i s dir here c.args.least c.args.most s (reverse xs)) c.as_slice.ensures.value
    ∙ repeat-greedy program v i s dir here c.args.least c.args.most (g.met.Input.InputIndexer.are_of_kind c.args.self.now.input) c.requires.suits c.args.greedy c.in-Some.near c.collect.new.ends.items c.if-greedy.true
    (ap (λ gs. after_times program (input_of v) c.args.least i dir (map marks_of gs) s.offset) (sym c.deref.ensures.value) ∙ sym c.in-Some.ensures.behind)
    (body-at program v (s.at + 2) s.offset c.in-Some.near c.requires.body c.in-Some.ensures.place)
    (c.in_ok-collect.ensures ∙ ap (λ gs. one_by_one program (input_of v) (c.args.most - c.args.least) i dir (map marks_of gs) c.in-Some.near) c.deref-2.ensures.value)))
    c.push_each.ensures

pub returns : goal.returns
returns g c =
    let program = program_of c.args.self.now.program.now in
    let v = g.Input.InputIndexer.view c.args.self.now.input in
    let i = instruction c.instruction-insn.result.now in
    let s = state_of c.args.state.now in
    let dir = direction_of c.args.stack.now.forward in
    let here = c.instruction-insn.ensures.stands in
    on_ok_weaker c.push_each-2.result (λ is. is ∙ ap (λ ss. put ss (held c.args.stack.now))
    (ap (λ xs. ends_at program v i s dir here c.args.least c.args.most s (reverse xs)) (c.as_slice-2.ensures.value ∙ c.reverse.ensures.items)
    ∙ repeat-lazy program v i s dir here c.args.least c.args.most c.args.greedy c.in-Some.near c.collect.new.ends.items c.if-greedy.false
    (ap (λ gs. after_times program (input_of v) c.args.least i dir (map marks_of gs) s.offset) (sym c.deref.ensures.value) ∙ sym c.in-Some.ensures.behind)
    (c.in_ok-collect.ensures ∙ ap (λ gs. one_by_one program (input_of v) (c.args.most - c.args.least) i dir (map marks_of gs) c.in-Some.near) c.deref-2.ensures.value)))
    c.push_each-2.ensures
