use Rattle.std.proofs.Common.{◌≡◌, ℕ, true, ◌+◌, ◌-◌, map, sym, ap, ◌∙◌, refl, subst, arith, length}
use Rattle.regress_meaning.specs.Meaning.{Direction, Forward, Backward}
use Rattle.regress_engine_insn.specs.Instructions.{Stands}
use Rattle.regress_engine_runs.specs.Closed.{takes_character}
use Rattle.regress_engine_runs.proofs.RunViews.{one_stands}
use Rattle.regress_engine_insn.specs.InsnViews.{instruction}
use Rattle.regress_engine_code.specs.Standing.{program_of}
use Rattle.regress_engine_input.specs.Views.{direction_of, input_of}
use Rattle.regress_engine_runs.specs.Runs.{after_times, as_far, gap}
use Rattle.regress_engine_runs.specs.UndoStack.{give_back, take_on}
use Rattle.regress_engine_search.specs.StateViews.{marks_of}
use Rattle.regress_engine_search.proofs.PlaceLemmas.{moves}
use Rattle.regress_engine_search.proofs.ReadyLemmas.{body-at}
use Rattle.regress_engine_search.proofs.TaskLemmas.{leads-then}
use Rattle.regress_engine_undo.specs.Held.{held, pushed}
use Rattle.regress_engine_undo.proofs.BackLemmas.{give_back-held, give_back-last, take_on-held}
use Rattle.regress_engine_undo.proofs.GoalLemmas.{give_back-goal}
use Rattle.regress_engine_undo.proofs.SingleLemmas.{repeat-few, repeat-greedy, repeat-lazy, atomic}
use Rattle.regress_engine_search.proofs.SkipLemmas.{place-lies}
use Rattle.regress_engine_attempt.proofs.attempt.Attempt.repeat_ways.Goals as goal
use Rattle.regress_engine_attempt.proofs.attempt.Attempt.repeat_ways.Goals.{then-near-far-via-then-near-far, then-near-far-via-else-near-far+then-is_goal}

-- from an offset to itself there is no gap
no-gap : (dir : Direction) (near far : ℕ) → near ≡ far → gap dir near far ≡ 0
no-gap Forward near far same = omega (arith, same)
no-gap Backward near far same = omega (arith, same)

pub returns-in_default-clause-leads : goal.returns-in_default-clause-leads
returns-in_default-clause-leads g c =
    let program = program_of c.args.self.now.program.now in
    let input = input_of (g.Input.InputIndexer.view c.args.self.now.input) in
    let i = instruction c.instruction-insn.result.now in
    repeat-few program input i c.args.spot.now (held c.args.memory.now) c.instruction-insn.ensures.stands c.args.least c.args.most c.args.greedy
    (ap (λ gs. after_times program input c.args.least i (direction_of c.args.spot.now.forward) (map marks_of gs) c.args.spot.now.offset) (sym c.deref.ensures.value) ∙ sym c.in_default.ensures.behind)

pub give_back-requires-clause-sound : goal.give_back-requires-clause-sound
give_back-requires-clause-sound g c =
    give_back-held (program_of c.args.self.now.program.now) (g.Input.InputIndexer.view c.args.self.now.input) (held c.args.memory.now) _ _ c.in-Some.near c.as_far-far.result refl
    c.as_far-far.ensures.place c.requires.sound

pub returns-then-greedy-clause-leads : goal.returns-then-greedy-clause-leads
returns-then-greedy-clause-leads g c =
    let program = program_of c.args.self.now.program.now in
    let input = input_of (g.Input.InputIndexer.view c.args.self.now.input) in
    let i = instruction c.instruction-insn.result.now in
    let h = held c.args.memory.now in
    leads-then program input 0 0
    (repeat-greedy program input i c.args.spot.now h c.instruction-insn.ensures.stands c.args.least c.args.most c.args.greedy (pushed (give_back (c.args.spot.now.at + 2) c.in-Some.near c.as_far-far.result) h) c.in-Some.near c.as_far-far.result c.if-greedy.true
    (ap (λ gs. after_times program input c.args.least i (direction_of c.args.spot.now.forward) (map marks_of gs) c.args.spot.now.offset) (sym c.deref.ensures.value) ∙ sym c.in-Some.ensures.behind)
    (c.as_far-far.ensures.far ∙ ap (λ gs. as_far program input (c.args.most - c.args.least) i (direction_of c.args.spot.now.forward) (map marks_of gs) c.in-Some.near) c.deref-then-greedy.ensures.value)
    refl)
    c.in_ok-going.ensures.leads

pub take_on-requires-clause-sound : goal.take_on-requires-clause-sound
take_on-requires-clause-sound g c =
    let program = program_of c.args.self.now.program.now in
    let v = g.Input.InputIndexer.view c.args.self.now.input in
    take_on-held program v (held c.args.memory.now) _ _ c.in-Some.near _ refl
    (body-at program v (c.args.spot.now.at + 2) c.args.spot.now.offset c.in-Some.near c.requires.body c.in-Some.ensures.place) c.requires.sound

pub returns-clause-leads : goal.returns-clause-leads
returns-clause-leads g c =
    let program = program_of c.args.self.now.program.now in
    let input = input_of (g.Input.InputIndexer.view c.args.self.now.input) in
    let i = instruction c.instruction-insn.result.now in
    let h = held c.args.memory.now in
    leads-then program input 0 0
    (repeat-lazy program input i c.args.spot.now h c.instruction-insn.ensures.stands c.args.least c.args.most c.args.greedy (pushed (take_on (c.args.spot.now.at + 2) c.in-Some.near (c.args.most - c.args.least)) h) c.in-Some.near c.if-greedy.false
    (ap (λ gs. after_times program input c.args.least i (direction_of c.args.spot.now.forward) (map marks_of gs) c.args.spot.now.offset) (sym c.deref.ensures.value) ∙ sym c.in-Some.ensures.behind)
    refl)
    c.in_ok-going-2.ensures.leads

pub returns-then-is_possessive-clause-leads : goal.returns-then-is_possessive-clause-leads
returns-then-is_possessive-clause-leads g c =
    let program = program_of c.args.self.now.program.now in
    let v = g.Input.InputIndexer.view c.args.self.now.input in
    let p = c.args.spot.now in
    let h = held c.args.memory.now in
    let i = instruction c.instruction-insn.result.now in
    let near = c.in-Some.near in
    let far = c.as_far-far.result in
    let groups = map marks_of c.args.memory.now.groups.items in
    let two : p.at + 1 ≡ p.at + 2 - 1 = omega arith in
    let here : Stands program (p.at + 2 - 1) i = subst (λ a. Stands program a i) two c.instruction-insn.ensures.stands in
    let goes = c.as_far-far.ensures.far ∙ ap (λ gs. as_far program (input_of v) (c.args.most - c.args.least) i (direction_of p.forward) (map marks_of gs) near) c.deref-then-greedy.ensures.value in
    let ahead = goes ∙ ap (λ b. as_far program (input_of v) (c.args.most - c.args.least) i (direction_of b) groups near) c.if-spot.true in
    let body = c.requires.body in
    let before : Stands program (p.at + 1) body.0 = let one : p.at + 2 - 1 ≡ p.at + 1 = omega arith in subst (λ a. Stands program a body.0) one body.1 in
    let takes : takes_character i ≡ true = ap takes_character (sym (one_stands program (input_of v) (p.at + 1) body.0 i before c.instruction-insn.ensures.stands)) ∙ body.2 in
    let spares = c.is_possessive.ensures v (g.met.Input.InputIndexer.are_of_kind c.args.self.now.input) c.requires.suits c.if-is_possessive.true i c.instruction-insn.ensures.stands takes in
    leads-then program (input_of v) 0 0
    (repeat-greedy program (input_of v) i p h c.instruction-insn.ensures.stands c.args.least c.args.most c.args.greedy (pushed (give_back (p.at + 2) near far) h) near far c.if-greedy.true
    (ap (λ gs. after_times program (input_of v) c.args.least i (direction_of p.forward) (map marks_of gs) p.offset) (sym c.deref.ensures.value) ∙ sym c.in-Some.ensures.behind) goes refl)
    (atomic program v (g.met.Input.InputIndexer.are_of_kind c.args.self.now.input) c.requires.suits (p.at + 2) i here spares (c.args.most - c.args.least) near far groups
    (body-at program v (p.at + 2) p.offset near c.requires.body c.in-Some.ensures.place) ahead p h c.if-spot.true)

pub returns-then-is_possessive-clause-counted : goal.returns-then-is_possessive-clause-counted
returns-then-is_possessive-clause-counted g c =
    let v = g.Input.InputIndexer.view c.args.self.now.input in
    let all = g.met.Input.InputIndexer.are_of_kind c.args.self.now.input in
    let most = c.pass-then-greedy.ensures.most (length v.units) (place-lies v all c.args.spot.now.offset c.requires.body.3) (place-lies v all c.as_far-far.result c.as_far-far.ensures.place) in
    omega (arith, most)

pub returns-then-near-far-clause-leads : goal.returns-then-near-far-clause-leads
returns-then-near-far-clause-leads g c =
    let program = program_of c.args.self.now.program.now in
    let v = g.Input.InputIndexer.view c.args.self.now.input in
    let input = input_of v in
    let i = instruction c.instruction-insn.result.now in
    let p = c.args.spot.now in
    let h = held c.args.memory.now in
    let near = c.in-Some.near in
    let far = c.as_far-far.result in
    leads-then program input 0 0
    (repeat-greedy program input i p h c.instruction-insn.ensures.stands c.args.least c.args.most c.args.greedy (pushed (give_back (p.at + 2) near far) h) near far c.if-greedy.true
    (ap (λ gs. after_times program input c.args.least i (direction_of p.forward) (map marks_of gs) p.offset) (sym c.deref.ensures.value) ∙ sym c.in-Some.ensures.behind)
    (c.as_far-far.ensures.far ∙ ap (λ gs. as_far program input (c.args.most - c.args.least) i (direction_of p.forward) (map marks_of gs) near) c.deref-then-greedy.ensures.value)
    refl)
    (elim c.then-near-far.branch [
      | then-near-far-via-then-near-far w ↦ give_back-last program input p h (p.at + 2) near far (no-gap (direction_of p.forward) near far w.if-near-far.true)
      | then-near-far-via-else-near-far+then-is_goal w ↦ give_back-goal program input p h (p.at + 2) near far (moves v) (w.is_goal.ensures w.if-is_goal.true)
    ])

pub returns-then-near-far-clause-counted : goal.returns-then-near-far-clause-counted
returns-then-near-far-clause-counted g c =
    let v = g.Input.InputIndexer.view c.args.self.now.input in
    let all = g.met.Input.InputIndexer.are_of_kind c.args.self.now.input in
    let most = c.pass-then-greedy.ensures.most (length v.units) (place-lies v all c.args.spot.now.offset c.requires.body.3) (place-lies v all c.as_far-far.result c.as_far-far.ensures.place) in
    omega (arith, most)

pub returns-then-greedy-clause-counted : goal.returns-then-greedy-clause-counted
returns-then-greedy-clause-counted g c =
    let v = g.Input.InputIndexer.view c.args.self.now.input in
    let all = g.met.Input.InputIndexer.are_of_kind c.args.self.now.input in
    let most = c.pass-then-greedy.ensures.most (length v.units) (place-lies v all c.args.spot.now.offset c.requires.body.3) (place-lies v all c.as_far-far.result c.as_far-far.ensures.place) in
    omega (arith, most)

pub take_on-requires-clause-from : goal.take_on-requires-clause-from
take_on-requires-clause-from g c = c.requires.body.3
