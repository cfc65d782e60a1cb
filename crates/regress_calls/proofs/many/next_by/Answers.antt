use Rattle.std.proofs.Common.{◌≡◌, ◌+◌, length, option_map, slice_get, subst, arith}
use Rattle.regress_meaning.specs.Matches.{match_list}
use Rattle.regress_meaning.specs.Offsets.{Reading, Begins, told}
use Rattle.regress_match.specs.Slots.{Fills}
use Rattle.regress_calls.specs.Slotted.{IsInSlots}
use Rattle.regress_calls.specs.Texts.{reading_of_text}
use Rattle.regress_calls.proofs.ManyLemmas.{next-shown}
use Rattle.regress_calls.proofs.SlotLemmas.{fills_slots}
use Rattle.regress_calls.proofs.many.next_by.Goals as goal

pub returns-clause-found : goal.returns-clause-found
returns-clause-found g c = λ t o p stands groups count place begins.
    let r = reading_of_text c.args.text in
    let item = option_map (told r) (slice_get (match_list t o p r.points place) 0) in
    let long : length c.find_into.new.slots ≡ groups + 1 = omega (arith, count, c.find_into.auto.slots) in
    let fills : Fills item c.in_ok-found.found c.args.slots.now c.find_into.new.slots
    = subst (λ (x : Reading). Begins x c.args.start.now place
    → Fills (option_map (told x) (slice_get (match_list t o p x.points place) 0)) c.in_ok-found.found c.args.slots.now c.find_into.new.slots)
    c.requires.over (c.in_ok-found.ensures.found t o p stands place) begins in
    let held : IsInSlots item c.args.slots.now c.in_ok-found.found c.find_into.new.slots = fills_slots item c.args.slots.now c.in_ok-found.found c.find_into.new.slots fills in
    next-shown r t o p groups place c.in_ok-found.found c.args.slots.now c.find_into.new.slots _ _ c.show.result c.start_behind.result
    c.start_behind.ensures.next c.start_behind.ensures.past held (c.show.ensures.shown groups long item c.args.slots.now held)
