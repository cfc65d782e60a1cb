use Rattle.std.proofs.Common.{inl, inr, sym, ap, ◌∙◌, subst, map, length, arith}
use Rattle.regress_engine_code.specs.Standing.{program_of}
use Rattle.regress_engine_insn.specs.InsnViews.{instruction}
use Rattle.regress_engine_input.specs.Views.{input_of, direction_of}
use Rattle.regress_engine_runs.specs.Runs.{advance}
use Rattle.regress_engine_search.specs.StateViews.{marks_of}
use Rattle.regress_engine_search.specs.Ready.{IsReady}
use Rattle.regress_engine_search.proofs.ReadyLemmas.{body-asked, body-next}
use Rattle.regress_engine_search.proofs.SkipLemmas.{place-lies}
use Rattle.regress_engine_search.proofs.TaskLemmas.{leads-then}
use Rattle.regress_engine_undo.specs.Held.{held}
use Rattle.regress_engine_undo.proofs.BackLemmas.{take_on-last, take_on-more, held-take_on, take_on-held}
use Rattle.regress_engine_trying.proofs.TakeLemmas.{was, takes-some, takes-none, some-over, none-over, passed-or}
use Rattle.regress_engine_attempt.proofs.attempt.Attempt.take_on.Goals as goal

pub near_way-way-requires-clause-body : goal.near_way-way-requires-clause-body
near_way-way-requires-clause-body g c = (held-take_on _ _ (held c.args.memory.now) c.args.at c.args.offset c.args.left c.requires.sound).0

pub count_over-requires-clause-sound : goal.count_over-requires-clause-sound
count_over-requires-clause-sound g c = (held-take_on _ _ (held c.args.memory.now) c.args.at c.args.offset c.args.left c.requires.sound).1

pub count_over-requires-clause-body : goal.count_over-requires-clause-body
count_over-requires-clause-body g c = (held-take_on _ _ (held c.args.memory.now) c.args.at c.args.offset c.args.left c.requires.sound).0

pub returns-then-not-way-clause-leads : goal.returns-then-not-way-clause-leads
returns-then-not-way-clause-leads g c =
    takes-none (program_of c.args.self.now.program.now) (input_of (g.Input.InputIndexer.view c.args.self.now.input)) c.args.spot.now (held c.args.memory.now) c.args.at c.args.offset c.args.left
    c.near_way-way.result (was _ _ c.if-not-way.true) c.near_way-way.ensures.leads

pub returns-then-not-way-clause-sound : goal.returns-then-not-way-clause-sound
returns-then-not-way-clause-sound g c = (held-take_on _ _ (held c.args.memory.now) c.args.at c.args.offset c.args.left c.requires.sound).1

pub returns-then-not-way-clause-over : goal.returns-then-not-way-clause-over
returns-then-not-way-clause-over g c =
    passed-or c.args.from c.args.offset c.near_way-way.result.offset _ _ c.near_way-way.ensures.over c.pass.ensures.none
    (none-over (program_of c.args.self.now.program.now) (input_of (g.Input.InputIndexer.view c.args.self.now.input)) c.args.spot.now (held c.args.memory.now) c.args.at c.args.offset c.args.left
    c.near_way-way.result (was _ _ c.if-not-way.true))

pub returns-then-not-way-clause-counted : goal.returns-then-not-way-clause-counted
returns-then-not-way-clause-counted g c =
    let v = g.Input.InputIndexer.view c.args.self.now.input in
    let all = g.met.Input.InputIndexer.are_of_kind c.args.self.now.input in
    let most = c.pass.ensures.most (length v.units) (place-lies v all c.args.from c.requires.from) (place-lies v all c.near_way-way.result.offset c.near_way-way.ensures.body.3) in
    omega (arith, most)

pub returns-then-way-eq0-clause-leads : goal.returns-then-way-eq0-clause-leads
returns-then-way-eq0-clause-leads g c =
    let program = program_of c.args.self.now.program.now in
    let input = input_of (g.Input.InputIndexer.view c.args.self.now.input) in
    let way = c.near_way-way.result in
    let body = c.near_way-way.ensures.body in
    leads-then program input 0 0 (takes-some program input c.args.spot.now (held c.args.memory.now) c.args.at c.args.offset c.args.left way (was _ _ c.if-not-way.false) c.near_way-way.ensures.leads)
    (take_on-last program input c.args.spot.now (held c.args.memory.now) c.args.at way.offset way.left body.0 body.1 (inl c.if-way-eq0.true))

pub returns-then-way-eq0-clause-sound : goal.returns-then-way-eq0-clause-sound
returns-then-way-eq0-clause-sound g c = (held-take_on _ _ (held c.args.memory.now) c.args.at c.args.offset c.args.left c.requires.sound).1

pub returns-then-way-eq0-clause-over : goal.returns-then-way-eq0-clause-over
returns-then-way-eq0-clause-over g c =
    let program = program_of c.args.self.now.program.now in
    let input = input_of (g.Input.InputIndexer.view c.args.self.now.input) in
    let way = c.near_way-way.result in
    let body = c.near_way-way.ensures.body in
    passed-or c.args.from c.args.offset way.offset _ _ c.near_way-way.ensures.over c.pass.ensures.none
    (λ over. leads-then program input 1 0 (some-over program input c.args.spot.now (held c.args.memory.now) c.args.at c.args.offset c.args.left way (was _ _ c.if-not-way.false) over)
    (take_on-last program input c.args.spot.now (held c.args.memory.now) c.args.at way.offset way.left body.0 body.1 (inl c.if-way-eq0.true)))

pub returns-then-way-eq0-clause-counted : goal.returns-then-way-eq0-clause-counted
returns-then-way-eq0-clause-counted g c =
    let v = g.Input.InputIndexer.view c.args.self.now.input in
    let all = g.met.Input.InputIndexer.are_of_kind c.args.self.now.input in
    let most = c.pass.ensures.most (length v.units) (place-lies v all c.args.from c.requires.from) (place-lies v all c.near_way-way.result.offset c.near_way-way.ensures.body.3) in
    omega (arith, most)

pub overflow_sub-at : goal.overflow_sub-at
overflow_sub-at g c = let some = c.near_way-way.ensures.body.4 in omega (arith, some)

pub instruction-insn-requires : goal.instruction-insn-requires
instruction-insn-requires g c = (c.near_way-way.ensures.body.0, c.near_way-way.ensures.body.1)

pub once-requires-clause-ready : goal.once-requires-clause-ready
once-requires-clause-ready g c =
    let program = program_of c.args.self.now.program.now in
    let v = g.Input.InputIndexer.view c.args.self.now.input in
    let was = held-take_on _ _ (held c.args.memory.now) c.args.at c.args.offset c.args.left c.requires.sound in
    subst (λ gs. IsReady program v (instruction c.instruction-insn.result.now) (map marks_of gs) c.near_way-way.result.offset) (sym c.deref-2.ensures.value)
    (body-asked v (g.met.Input.InputIndexer.are_of_kind c.args.self.now.input) program c.requires.suits c.args.at c.near_way-way.result.offset (instruction c.instruction-insn.result.now) (held c.args.memory.now).groups
    c.near_way-way.ensures.body c.instruction-insn.ensures.stands was.1.groups)

pub returns-in_default-clause-leads : goal.returns-in_default-clause-leads
returns-in_default-clause-leads g c =
    let program = program_of c.args.self.now.program.now in
    let input = input_of (g.Input.InputIndexer.view c.args.self.now.input) in
    let way = c.near_way-way.result in
    let i = instruction c.instruction-insn.result.now in
    leads-then program input 0 0 (takes-some program input c.args.spot.now (held c.args.memory.now) c.args.at c.args.offset c.args.left way (was _ _ c.if-not-way.false) c.near_way-way.ensures.leads)
    (take_on-last program input c.args.spot.now (held c.args.memory.now) c.args.at way.offset way.left
    i c.instruction-insn.ensures.stands (inr (ap (λ gs. advance program input i (direction_of c.args.spot.now.forward) (map marks_of gs) way.offset) (sym c.deref-2.ensures.value) ∙ sym c.in_default.ensures)))

pub returns-in_default-clause-sound : goal.returns-in_default-clause-sound
returns-in_default-clause-sound g c = (held-take_on _ _ (held c.args.memory.now) c.args.at c.args.offset c.args.left c.requires.sound).1

pub returns-in_default-clause-over : goal.returns-in_default-clause-over
returns-in_default-clause-over g c =
    let program = program_of c.args.self.now.program.now in
    let input = input_of (g.Input.InputIndexer.view c.args.self.now.input) in
    let way = c.near_way-way.result in
    let i = instruction c.instruction-insn.result.now in
    passed-or c.args.from c.args.offset way.offset _ _ c.near_way-way.ensures.over c.pass.ensures.none
    (λ over. leads-then program input 1 0 (some-over program input c.args.spot.now (held c.args.memory.now) c.args.at c.args.offset c.args.left way (was _ _ c.if-not-way.false) over)
    (take_on-last program input c.args.spot.now (held c.args.memory.now) c.args.at way.offset way.left
    i c.instruction-insn.ensures.stands (inr (ap (λ gs. advance program input i (direction_of c.args.spot.now.forward) (map marks_of gs) way.offset) (sym c.deref-2.ensures.value) ∙ sym c.in_default.ensures))))

pub returns-in_default-clause-counted : goal.returns-in_default-clause-counted
returns-in_default-clause-counted g c =
    let v = g.Input.InputIndexer.view c.args.self.now.input in
    let all = g.met.Input.InputIndexer.are_of_kind c.args.self.now.input in
    let most = c.pass.ensures.most (length v.units) (place-lies v all c.args.from c.requires.from) (place-lies v all c.near_way-way.result.offset c.near_way-way.ensures.body.3) in
    omega (arith, most)

pub returns-clause-leads : goal.returns-clause-leads
returns-clause-leads g c =
    let program = program_of c.args.self.now.program.now in
    let input = input_of (g.Input.InputIndexer.view c.args.self.now.input) in
    let way = c.near_way-way.result in
    let i = instruction c.instruction-insn.result.now in
    leads-then program input 0 0 (takes-some program input c.args.spot.now (held c.args.memory.now) c.args.at c.args.offset c.args.left way (was _ _ c.if-not-way.false) c.near_way-way.ensures.leads)
    (take_on-more program input c.args.spot.now (held c.args.memory.now) (held c.push.new.self) c.args.at way.offset way.left c.in-Some.next
    i c.instruction-insn.ensures.stands c.if-way-eq0.false
    (ap (λ gs. advance program input i (direction_of c.args.spot.now.forward) (map marks_of gs) way.offset) (sym c.deref-2.ensures.value) ∙ sym c.in-Some.ensures)
    c.in_ok-push.ensures)

pub returns-clause-over : goal.returns-clause-over
returns-clause-over g c =
    let program = program_of c.args.self.now.program.now in
    let input = input_of (g.Input.InputIndexer.view c.args.self.now.input) in
    let way = c.near_way-way.result in
    let i = instruction c.instruction-insn.result.now in
    passed-or c.args.from c.args.offset way.offset _ _ c.near_way-way.ensures.over c.pass.ensures.none
    (λ over. leads-then program input 1 0 (some-over program input c.args.spot.now (held c.args.memory.now) c.args.at c.args.offset c.args.left way (was _ _ c.if-not-way.false) over)
    (take_on-more program input c.args.spot.now (held c.args.memory.now) (held c.push.new.self) c.args.at way.offset way.left c.in-Some.next
    i c.instruction-insn.ensures.stands c.if-way-eq0.false
    (ap (λ gs. advance program input i (direction_of c.args.spot.now.forward) (map marks_of gs) way.offset) (sym c.deref-2.ensures.value) ∙ sym c.in-Some.ensures)
    c.in_ok-push.ensures))

pub returns-clause-counted : goal.returns-clause-counted
returns-clause-counted g c =
    let v = g.Input.InputIndexer.view c.args.self.now.input in
    let all = g.met.Input.InputIndexer.are_of_kind c.args.self.now.input in
    let most = c.pass.ensures.most (length v.units) (place-lies v all c.args.from c.requires.from) (place-lies v all c.near_way-way.result.offset c.near_way-way.ensures.body.3) in
    omega (arith, most)

pub returns-clause-sound : goal.returns-clause-sound
returns-clause-sound g c =
    let program = program_of c.args.self.now.program.now in
    let v = g.Input.InputIndexer.view c.args.self.now.input in
    let input = input_of v in
    let i = instruction c.instruction-insn.result.now in
    let was = held-take_on _ _ (held c.args.memory.now) c.args.at c.args.offset c.args.left c.requires.sound in
    take_on-held program v (held c.args.memory.now) (held c.push.new.self) c.args.at c.in-Some.next _ c.in_ok-push.ensures
    (body-next v (g.met.Input.InputIndexer.are_of_kind c.args.self.now.input) program c.requires.suits c.args.at c.near_way-way.result.offset c.in-Some.next i (direction_of c.args.spot.now.forward) (held c.args.memory.now).groups
    c.near_way-way.ensures.body c.instruction-insn.ensures.stands
    (ap (λ gs. advance program input i (direction_of c.args.spot.now.forward) (map marks_of gs) c.near_way-way.result.offset) (sym c.deref-2.ensures.value) ∙ sym c.in-Some.ensures))
    was.1
