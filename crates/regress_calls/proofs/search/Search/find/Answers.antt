use Rattle.std.proofs.Common.{length, drop, option_map, slice_get, sym, subst, arith}
use Rattle.regress_meaning.specs.Matches.{match_list}
use Rattle.regress_meaning.specs.Offsets.{told}
use Rattle.regress.specs.declared.api.Regex.{Regex}
use Rattle.regress_calls.specs.Texts.{StandsIn, reading_of_text}
use Rattle.regress_calls.proofs.SlotLemmas.{written-back}
use Rattle.regress_calls.proofs.search.Search.find.Goals as goal

pub returns-clause-found : goal.returns-clause-found
returns-clause-found c = λ t o p stands place begins.
    let r = reading_of_text c.args.text in
    let item = option_map (told r) (slice_get (match_list t o p r.points place) 0) in
    let held = c.in_ok-found.ensures.found t o p (subst (λ (x : Regex). StandsIn c.args.text x t o p) (sym c.deref.ensures) stands) place begins in
    let back = written-back c.args.self.now.slots.len c.find_into.new.slots (drop (length c.find_into.new.slots) c.args.self.now.slots.items) (omega (arith, c.find_into.auto.slots, c.deref_mut.ensures.len)) in
    c.show.ensures.shown item c.deref_mut.result.now (rw back held)
