use Rattle.std.proofs.Common.{ℕ, ◌<◌, List, length, Some, slice_get, slice_index, ◌≡◌, subst, arith}
use Rattle.std.proofs.lemmas.Option.{slice_get-get_or}
use Rattle.regress_engine_singles.proofs.LeadAheadLemmas.{lead_low}
use Rattle.regress_engine_advance.proofs.leads.unit_lead.Goals as goal

pub returns-then-unit-lt128 : goal.returns-then-unit-lt128
returns-then-unit-lt128 g c =
    let units : List ℕ = c.args.units.now in
    let few = c.if-offset-units.false in
    let here : slice_get units c.args.offset ≡ Some (slice_index units c.args.offset) = slice_get-get_or units c.args.offset 0 (omega (arith, few)) in
    lead_low (g.Input.InputIndexer.view c.args.input.now) c.requires.kind c.args.offset (slice_index units c.args.offset)
    (subst (λ (us : List ℕ). slice_get us c.args.offset ≡ Some (slice_index units c.args.offset)) c.requires.units here) c.if-unit-lt128.true

pub lead_beyond-requires-clause-unit : goal.lead_beyond-requires-clause-unit
lead_beyond-requires-clause-unit g c =
    let units : List ℕ = c.args.units.now in
    let few = c.if-offset-units.false in
    let here : slice_get units c.args.offset ≡ Some (slice_index units c.args.offset) = slice_get-get_or units c.args.offset 0 (omega (arith, few)) in
    subst (λ (us : List ℕ). slice_get us c.args.offset ≡ Some (slice_index units c.args.offset)) c.requires.units here
