use Rattle.std.proofs.Common.{◌≡◌, ◌+◌, ◌-◌, map, sym, ap, ◌∙◌, refl, subst, arith, length}
use Rattle.regress_engine_insn.specs.Instructions.{Stands}
use Rattle.regress_engine_insn.specs.InsnViews.{instruction}
use Rattle.regress_engine_code.specs.Standing.{program_of}
use Rattle.regress_engine_input.specs.Views.{direction_of, input_of}
use Rattle.regress_engine_runs.specs.Runs.{after_times, as_far}
use Rattle.regress_engine_runs.specs.UndoStack.{give_back, take_on}
use Rattle.regress_engine_search.specs.StateViews.{marks_of}
use Rattle.regress_engine_search.proofs.ReadyLemmas.{body-at}
use Rattle.regress_engine_search.proofs.TaskLemmas.{leads-then}
use Rattle.regress_engine_undo.specs.Held.{held, pushed}
use Rattle.regress_engine_undo.proofs.BackLemmas.{give_back-held, take_on-held}
use Rattle.regress_engine_undo.proofs.SingleLemmas.{repeat-few, repeat-greedy, repeat-lazy}
use Rattle.regress_engine_search.proofs.SkipLemmas.{place-lies}
use Rattle.regress_engine_attempt.proofs.attempt.Attempt.repeat_known.Goals as goal

pub returns-in_default-clause-leads : goal.returns-in_default-clause-leads
returns-in_default-clause-leads g c =
    let program = program_of c.args.self.now.program.now in
    let input = input_of (g.Input.InputIndexer.view c.args.self.now.input) in
    let i = instruction c.instruction-insn.result.now in
    repeat-few program input i c.args.spot.now (held c.args.memory.now) c.instruction-insn.ensures.stands c.args.least c.args.most c.args.greedy
    (ap (λ gs. after_times program input c.args.least i (direction_of c.args.spot.now.forward) (map marks_of gs) c.args.spot.now.offset) (sym c.deref.ensures.value) ∙ sym c.in_default.ensures.behind)

pub take_on_known-requires-clause-sound : goal.take_on_known-requires-clause-sound
take_on_known-requires-clause-sound g c =
    let program = program_of c.args.self.now.program.now in
    let v = g.Input.InputIndexer.view c.args.self.now.input in
    take_on-held program v (held c.args.memory.now) _ _ c.in-Some.near _ refl
    (body-at program v (c.args.spot.now.at + 2) c.args.spot.now.offset c.in-Some.near c.requires.body c.in-Some.ensures.place) c.requires.sound

pub returns-then-not-greedy-clause-leads : goal.returns-then-not-greedy-clause-leads
returns-then-not-greedy-clause-leads g c =
    let program = program_of c.args.self.now.program.now in
    let input = input_of (g.Input.InputIndexer.view c.args.self.now.input) in
    let i = instruction c.instruction-insn.result.now in
    let h = held c.args.memory.now in
    leads-then program input 0 0
    (repeat-lazy program input i c.args.spot.now h c.instruction-insn.ensures.stands c.args.least c.args.most c.args.greedy (pushed (take_on (c.args.spot.now.at + 2) c.in-Some.near (c.args.most - c.args.least)) h) c.in-Some.near c.if-not-greedy.true
    (ap (λ gs. after_times program input c.args.least i (direction_of c.args.spot.now.forward) (map marks_of gs) c.args.spot.now.offset) (sym c.deref.ensures.value) ∙ sym c.in-Some.ensures.behind)
    refl)
    c.in_ok-going.ensures.leads

pub far_exit-requires-clause-body : goal.far_exit-requires-clause-body
far_exit-requires-clause-body g c =
    let program = program_of c.args.self.now.program.now in
    let v = g.Input.InputIndexer.view c.args.self.now.input in
    body-at program v (c.args.spot.now.at + 2) c.args.spot.now.offset c.in-Some.near c.requires.body c.in-Some.ensures.place

pub give_back_known-requires-clause-sound : goal.give_back_known-requires-clause-sound
give_back_known-requires-clause-sound g c =
    give_back-held (program_of c.args.self.now.program.now) (g.Input.InputIndexer.view c.args.self.now.input) (held c.args.memory.now) _ _ c.in-Some.near c.in-Some-far_exit.far refl
    c.in-Some-far_exit.ensures.place c.requires.sound

pub returns-in_default-far_exit-clause-leads : goal.returns-in_default-far_exit-clause-leads
returns-in_default-far_exit-clause-leads g c =
    let program = program_of c.args.self.now.program.now in
    let input = input_of (g.Input.InputIndexer.view c.args.self.now.input) in
    let i = instruction c.instruction-insn.result.now in
    let h = held c.args.memory.now in
    let two : c.args.spot.now.at + 1 ≡ c.args.spot.now.at + 2 - 1 = omega arith in
    leads-then program input 0 0
    (repeat-greedy program input i c.args.spot.now h c.instruction-insn.ensures.stands c.args.least c.args.most c.args.greedy (pushed (give_back (c.args.spot.now.at + 2) c.in-Some.near (as_far program input (c.args.most - c.args.least) i (direction_of c.args.spot.now.forward) h.groups c.in-Some.near)) h) c.in-Some.near _ c.if-not-greedy.false
    (ap (λ gs. after_times program input c.args.least i (direction_of c.args.spot.now.forward) (map marks_of gs) c.args.spot.now.offset) (sym c.deref.ensures.value) ∙ sym c.in-Some.ensures.behind)
    refl refl)
    (c.in_default-far_exit.ensures.leads i (subst (λ a. Stands program a i) two c.instruction-insn.ensures.stands) c.args.spot.now refl)

pub returns-clause-leads : goal.returns-clause-leads
returns-clause-leads g c =
    let program = program_of c.args.self.now.program.now in
    let input = input_of (g.Input.InputIndexer.view c.args.self.now.input) in
    let i = instruction c.instruction-insn.result.now in
    let h = held c.args.memory.now in
    let two : c.args.spot.now.at + 1 ≡ c.args.spot.now.at + 2 - 1 = omega arith in
    leads-then program input 0 0
    (leads-then program input 0 0
    (repeat-greedy program input i c.args.spot.now h c.instruction-insn.ensures.stands c.args.least c.args.most c.args.greedy (pushed (give_back (c.args.spot.now.at + 2) c.in-Some.near (as_far program input (c.args.most - c.args.least) i (direction_of c.args.spot.now.forward) h.groups c.in-Some.near)) h) c.in-Some.near _ c.if-not-greedy.false
    (ap (λ gs. after_times program input c.args.least i (direction_of c.args.spot.now.forward) (map marks_of gs) c.args.spot.now.offset) (sym c.deref.ensures.value) ∙ sym c.in-Some.ensures.behind)
    refl refl)
    (c.in-Some-far_exit.ensures.leads i (subst (λ a. Stands program a i) two c.instruction-insn.ensures.stands) c.args.spot.now refl))
    c.in_ok-going-2.ensures.leads

pub take_on_known-requires-clause-from : goal.take_on_known-requires-clause-from
take_on_known-requires-clause-from g c = c.requires.body.3

pub returns-clause-counted : goal.returns-clause-counted
returns-clause-counted g c =
    let v = g.Input.InputIndexer.view c.args.self.now.input in
    let all = g.met.Input.InputIndexer.are_of_kind c.args.self.now.input in
    let most = c.pass-2.ensures.most (length v.units) (place-lies v all c.args.spot.now.offset c.requires.body.3) (place-lies v all c.in-Some-far_exit.far c.in-Some-far_exit.ensures.place) in
    omega (arith, most)
