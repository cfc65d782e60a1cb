use Rattle.std.proofs.Common.{refl, sym, ap, ◌∙◌}
use Rattle.regress_engine_code.specs.Standing.{program_of}
use Rattle.regress_engine_input.specs.Views.{input_of}
use Rattle.regress_engine_search.proofs.InsnLemmas.{direction_of-against, none-ahead, some-ahead}
use Rattle.regress_engine_search.proofs.PlaceLemmas.{can-read, moves, next-place}
use Rattle.regress_engine_search.proofs.TaskLemmas.{leads-then}
use Rattle.regress_engine_undo.specs.Held.{held}
use Rattle.regress_engine_undo.proofs.BackLemmas.{give_back-last, give_back-none, give_back-more, held-give_back, give_back-held}
use Rattle.regress_engine_attempt.proofs.attempt.Attempt.give_back.Goals as goal

pub far_way-requires-clause-place : goal.far_way-requires-clause-place
far_way-requires-clause-place g c = (held-give_back _ _ (held c.args.memory.now) c.args.at c.args.near c.args.far c.requires.sound).0

pub returns-in_default-clause-leads : goal.returns-in_default-clause-leads
returns-in_default-clause-leads g c = c.in_default.ensures.leads c.args.spot.now (held c.args.memory.now) refl

pub returns-in_default-clause-sound : goal.returns-in_default-clause-sound
returns-in_default-clause-sound g c = (held-give_back _ _ (held c.args.memory.now) c.args.at c.args.near c.args.far c.requires.sound).1

pub returns-then-not-is_ahead-clause-leads : goal.returns-then-not-is_ahead-clause-leads
returns-then-not-is_ahead-clause-leads g c =
    let program = program_of c.args.self.now.program.now in
    let input = input_of (g.Input.InputIndexer.view c.args.self.now.input) in
    leads-then program input 0 0 (c.in-Some.ensures.leads c.args.spot.now (held c.args.memory.now) refl)
    (give_back-last program input c.args.spot.now (held c.args.memory.now) c.args.at c.args.near c.in-Some.way (none-ahead _ c.if-not-is_ahead.ensures.gap))

pub returns-then-not-is_ahead-clause-sound : goal.returns-then-not-is_ahead-clause-sound
returns-then-not-is_ahead-clause-sound g c = (held-give_back _ _ (held c.args.memory.now) c.args.at c.args.near c.args.far c.requires.sound).1

pub beside-requires : goal.beside-requires
beside-requires g c =
    can-read (g.Input.InputIndexer.view c.args.self.now.input) (g.met.Input.InputIndexer.are_of_kind c.args.self.now.input) c.in-Some.way c.in-Some.ensures.place

pub returns-in_default-beside-clause-leads : goal.returns-in_default-beside-clause-leads
returns-in_default-beside-clause-leads g c =
    let program = program_of c.args.self.now.program.now in
    let input = input_of (g.Input.InputIndexer.view c.args.self.now.input) in
    leads-then program input 0 0 (c.in-Some.ensures.leads c.args.spot.now (held c.args.memory.now) refl)
    (give_back-none program input c.args.spot.now (held c.args.memory.now) c.args.at c.args.near c.in-Some.way
    (ap (λ d. input.next d c.in-Some.way) (sym (direction_of-against c.args.spot.now.forward)) ∙ sym c.in_default-beside.ensures))

pub returns-in_default-beside-clause-sound : goal.returns-in_default-beside-clause-sound
returns-in_default-beside-clause-sound g c = (held-give_back _ _ (held c.args.memory.now) c.args.at c.args.near c.args.far c.requires.sound).1

pub returns-clause-leads : goal.returns-clause-leads
returns-clause-leads g c =
    let program = program_of c.args.self.now.program.now in
    let v = g.Input.InputIndexer.view c.args.self.now.input in
    let input = input_of v in
    leads-then program input 0 0 (c.in-Some.ensures.leads c.args.spot.now (held c.args.memory.now) refl)
    (give_back-more program input c.args.spot.now (held c.args.memory.now) (held c.push.new.self) c.args.at c.args.near c.in-Some.way _ c.in-Some-beside.next (moves v)
    (some-ahead _ c.if-not-is_ahead.ensures.gap) (ap (λ d. input.next d c.in-Some.way) (sym (direction_of-against c.args.spot.now.forward)) ∙ sym c.in-Some-beside.ensures) c.in_ok-push.ensures)

pub returns-clause-sound : goal.returns-clause-sound
returns-clause-sound g c =
    let v = g.Input.InputIndexer.view c.args.self.now.input in
    let all = g.met.Input.InputIndexer.are_of_kind c.args.self.now.input in
    let was = held-give_back _ v (held c.args.memory.now) c.args.at c.args.near c.args.far c.requires.sound in
    give_back-held _ v (held c.args.memory.now) (held c.push.new.self) c.args.at c.args.near c.in-Some-beside.next c.in_ok-push.ensures
    (next-place v all _ c.in-Some.way _ c.in-Some-beside.next c.in-Some.ensures.place (sym c.in-Some-beside.ensures)) was.1
