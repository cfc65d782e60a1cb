use Rattle.std.proofs.Common.{[], length, ◌+◌, ◌<◌, ◌≤◌, map, ◌∙◌, arith}
use Rattle.regress_engine_insn.specs.InsnViews.{fields}
use Rattle.regress_engine_code.specs.Standing.{program_of}
use Rattle.regress_engine_input.specs.Views.{input_of}
use Rattle.regress_engine_search.proofs.PlaceLemmas.{can-read}
use Rattle.regress_engine_search.specs.StateViews.{marks_of}
use Rattle.regress_engine_singles.proofs.LeadingLemmas.{class-fits}
use Rattle.regress_engine_undo.specs.Held.{held}
use Rattle.regress_engine_undo.proofs.TurnLemmas.{turns-not, turned, turns-end, turns-on, turned-sound, ahead-as, loop-there}
use Rattle.regress_engine_search.proofs.SkipLemmas.{place-lies}
use Rattle.regress_engine_trying.proofs.TurnPlaces.{past-place}
use Rattle.regress_engine_attempt.proofs.attempt.Attempt.turn_on.Goals as goal

pub taken_ahead-requires-clause-fits : goal.taken_ahead-requires-clause-fits
taken_ahead-requires-clause-fits g c =
    class-fits (program_of c.args.self.now.program.now) (c.args.spot.now.at + 1) _ c.requires.turn.class (c.requires.suits.closed (c.args.spot.now.at + 1) _ c.requires.turn.first)

pub taken_ahead-requires-clause-place : goal.taken_ahead-requires-clause-place
taken_ahead-requires-clause-place g c =
    can-read (g.Input.InputIndexer.view c.args.self.now.input) (g.met.Input.InputIndexer.are_of_kind c.args.self.now.input) c.args.spot.now.offset c.requires.place

pub returns-in_default-clause-leads : goal.returns-in_default-clause-leads
returns-in_default-clause-leads g c =
    let program = program_of c.args.self.now.program.now in
    let v = g.Input.InputIndexer.view c.args.self.now.input in
    let h = held c.args.memory.now in
    ahead-as program (input_of v) c.args.spot.now h h c.args.second c.args.spot.now.offset c.args.spot.now.forward c.requires.forward c.requires.forward
    (turns-not program v (g.met.Input.InputIndexer.are_of_kind c.args.self.now.input) c.args.spot.now.at c.args.second _ _ _ (fields c.args.turn.now.repetition.now) c.requires.turn c.requires.stands h c.args.spot.now.offset c.in_default.ensures)

pub overflow_add-begun : goal.overflow_add-begun
overflow_add-begun g c =
    let within = (c.in-Some.ensures (map marks_of c.args.memory.now.groups.items)).within in
    let more = c.left-more.ensures.left in let most = c.left-more.ensures.room in let count = c.ranges.count.fits in
    omega (arith, within, more, most, count)

pub begin_more-requires-clause-there : goal.begin_more-requires-clause-there
begin_more-requires-clause-there g c =
    loop-there (program_of c.args.self.now.program.now) (g.Input.InputIndexer.view c.args.self.now.input) c.args.turn.now.begin (fields c.args.turn.now.repetition.now) (held c.args.memory.now) c.requires.suits c.requires.turn.begins c.requires.sound

pub begin_more-requires-clause-count : goal.begin_more-requires-clause-count
begin_more-requires-clause-count g c =
    let within = (c.in-Some.ensures (map marks_of c.args.memory.now.groups.items)).within in
    let more = c.left-more.ensures.left in let most = c.left-more.ensures.room in let count = c.ranges.count.fits in
    omega (arith, within, more, most, count)

pub returns-then-taken-more-clause-leads : goal.returns-then-taken-more-clause-leads
returns-then-taken-more-clause-leads g c =
    let program = program_of c.args.self.now.program.now in
    let v = g.Input.InputIndexer.view c.args.self.now.input in
    let p = c.args.spot.now in
    let h = held c.args.memory.now in let k = held c.begin_more.new.memory in
    let f = fields c.args.turn.now.repetition.now in
    let taken = c.in-Some.taken in
    let told = c.in-Some.ensures h.groups in
    let within = told.within in let more = c.left-more.ensures.left in
    let there = loop-there program v c.args.turn.now.begin f h c.requires.suits c.requires.turn.begins c.requires.sound in
    let room : 0 < taken.before → c.args.count + taken.before ≤ c.args.turn.now.repetition.now.max_iters = λ some. omega (arith, within, more, some) in
    ahead-as program (input_of v) p h k c.args.turn.now.again taken.past c.begin_more.new.spot.forward c.requires.forward (c.in_ok-begin_more.ensures.forward ∙ c.requires.forward)
    (turns-end program v (g.met.Input.InputIndexer.are_of_kind c.args.self.now.input) p.at c.args.second _ _ _ f c.requires.turn c.requires.stands h k c.args.count p.offset taken.before taken.last taken.past c.requires.place there c.requires.entered told.behind told.one room
    (turned program v (g.met.Input.InputIndexer.are_of_kind c.args.self.now.input) p.at c.args.second _ _ _ f c.requires.turn c.requires.stands h k c.args.count p.offset taken.before taken.last there c.requires.entered told.behind c.in_ok-begin_more.ensures.written))

pub returns-then-taken-more-clause-sound : goal.returns-then-taken-more-clause-sound
returns-then-taken-more-clause-sound g c =
    turned-sound (program_of c.args.self.now.program.now) (g.Input.InputIndexer.view c.args.self.now.input) (held c.args.memory.now) (held c.begin_more.new.memory) _ _ _
    (loop-there (program_of c.args.self.now.program.now) (g.Input.InputIndexer.view c.args.self.now.input) c.args.turn.now.begin (fields c.args.turn.now.repetition.now) (held c.args.memory.now) c.requires.suits c.requires.turn.begins c.requires.sound)
    c.in_ok-begin_more.ensures.written c.requires.sound

pub returns-clause-leads : goal.returns-clause-leads
returns-clause-leads g c =
    let program = program_of c.args.self.now.program.now in
    let v = g.Input.InputIndexer.view c.args.self.now.input in
    let p = c.args.spot.now in
    let h = held c.args.memory.now in let k = held c.begin_more.new.memory in
    let f = fields c.args.turn.now.repetition.now in
    let taken = c.in-Some.taken in
    let told = c.in-Some.ensures h.groups in
    let within = told.within in let more = c.left-more.ensures.left in
    let there = loop-there program v c.args.turn.now.begin f h c.requires.suits c.requires.turn.begins c.requires.sound in
    let fewer = c.if-taken-more.false in
    let room : 0 < taken.before → c.args.count + taken.before ≤ c.args.turn.now.repetition.now.max_iters = λ some. omega (arith, within, more, some) in
    ahead-as program (input_of v) p h k c.way_on-spot.result taken.past c.begin_more.new.spot.forward c.requires.forward (c.in_ok-begin_more.ensures.forward ∙ c.requires.forward)
    (turns-on program v (g.met.Input.InputIndexer.are_of_kind c.args.self.now.input) p.at c.args.second _ _ _ f c.requires.turn c.requires.stands h k c.args.count p.offset taken.before taken.last taken.past c.way_on-spot.result c.requires.place there c.requires.entered told.behind told.one room
    (turned program v (g.met.Input.InputIndexer.are_of_kind c.args.self.now.input) p.at c.args.second _ _ _ f c.requires.turn c.requires.stands h k c.args.count p.offset taken.before taken.last there c.requires.entered told.behind c.in_ok-begin_more.ensures.written)
    (λ groups. (c.in-Some.ensures groups).stops (omega (arith, fewer))) c.way_on-spot.ensures)

pub returns-clause-sound : goal.returns-clause-sound
returns-clause-sound g c =
    turned-sound (program_of c.args.self.now.program.now) (g.Input.InputIndexer.view c.args.self.now.input) (held c.args.memory.now) (held c.begin_more.new.memory) _ _ _
    (loop-there (program_of c.args.self.now.program.now) (g.Input.InputIndexer.view c.args.self.now.input) c.args.turn.now.begin (fields c.args.turn.now.repetition.now) (held c.args.memory.now) c.requires.suits c.requires.turn.begins c.requires.sound)
    c.in_ok-begin_more.ensures.written c.requires.sound

pub returns-then-taken-more-clause-counted : goal.returns-then-taken-more-clause-counted
returns-then-taken-more-clause-counted g c =
    let program = program_of c.args.self.now.program.now in
    let v = g.Input.InputIndexer.view c.args.self.now.input in
    let all = g.met.Input.InputIndexer.are_of_kind c.args.self.now.input in
    let taken = c.in-Some.taken in
    let told = c.in-Some.ensures [] in
    let most = c.pass.ensures.most (length v.units) (place-lies v all c.args.spot.now.offset c.requires.place)
    (place-lies v all taken.past (past-place program v all _ c.requires.turn.class taken.before c.args.spot.now.offset taken.last taken.past c.requires.place told.behind told.one)) in
    omega (arith, most)

pub returns-clause-counted : goal.returns-clause-counted
returns-clause-counted g c =
    let program = program_of c.args.self.now.program.now in
    let v = g.Input.InputIndexer.view c.args.self.now.input in
    let all = g.met.Input.InputIndexer.are_of_kind c.args.self.now.input in
    let taken = c.in-Some.taken in
    let told = c.in-Some.ensures [] in
    let most = c.pass.ensures.most (length v.units) (place-lies v all c.args.spot.now.offset c.requires.place)
    (place-lies v all taken.past (past-place program v all _ c.requires.turn.class taken.before c.args.spot.now.offset taken.last taken.past c.requires.place told.behind told.one)) in
    omega (arith, most)
