use Rattle.std.specs.Prelude.{slice_get}
use Rattle.std.proofs.Common.{◌≡◌, ◌≤◌, ◌<◌, ℕ, true, List, length, sym, subst, arith}
use Rattle.regress_meaning.specs.Meaning.{is_some_and}
use Rattle.regress_front_bytes.specs.Bitmaps.{byte_bitmap_contains}
use Rattle.regress_engine_scanning.specs.Leads.{has_byte_for}
use Rattle.regress_engine_search.proofs.SkipLemmas.{place-lies}
use Rattle.regress_engine_leading.proofs.LeadLemmas.{leads-reach}
use Rattle.regress_engine_leading.proofs.leading.behind_leads.Goals as goal

pub find_lead-requires : goal.find_lead-requires
find_lead-requires g c =
    let v = g.Input.InputIndexer.view c.args.input.now in
    subst (λ (us : List ℕ). c.args.start ≤ length us) (sym c.requires.units) (place-lies v (g.met.Input.InputIndexer.are_of_kind c.args.input.now) c.args.start c.requires.place)

-- up to the first unit at which a match may begin
pub returns-in-Some-find_lead : goal.returns-in-Some-find_lead
returns-in-Some-find_lead g c =
    let v = g.Input.InputIndexer.view c.args.input.now in
    let all = g.met.Input.InputIndexer.are_of_kind c.args.input.now in
    let start : ℕ = c.args.start in
    let at : ℕ = c.in-Some-find_lead.at in
    let stops = byte_bitmap_contains c.with_halves.result in
    let found = c.in-Some-find_lead.ensures.least in
    let inside = c.in-Some-find_lead.ensures.inside in
    leads-reach c.args.program.now v all c.requires.suits c.requires.kind c.in-Some.first.now c.in-Some.ensures stops c.with_halves.ensures start c.requires.place at found.0
    (subst (λ (us : List ℕ). at ≤ length us) c.requires.units (omega (arith, inside)))
    (subst (λ (us : List ℕ). (k : ℕ) → start ≤ k → k < at → ¬ (is_some_and (slice_get us k) (has_byte_for stops) ≡ true)) c.requires.units found.2)

-- or to the end
pub returns-in-None : goal.returns-in-None
returns-in-None g c =
    let v = g.Input.InputIndexer.view c.args.input.now in
    let all = g.met.Input.InputIndexer.are_of_kind c.args.input.now in
    let start : ℕ = c.args.start in
    let at : ℕ = length c.args.units.now in
    let stops = byte_bitmap_contains c.with_halves.result in
    let none = c.in-None.ensures.least in
    leads-reach c.args.program.now v all c.requires.suits c.requires.kind c.in-Some.first.now c.in-Some.ensures stops c.with_halves.ensures start c.requires.place at
    (subst (λ (us : List ℕ). start ≤ length us) (sym c.requires.units) (place-lies v all start c.requires.place))
    (subst (λ (us : List ℕ). at ≤ length us) c.requires.units (omega arith))
    (subst (λ (us : List ℕ). (k : ℕ) → start ≤ k → k < at → ¬ (is_some_and (slice_get us k) (has_byte_for stops) ≡ true)) c.requires.units (λ k low less. none k low))
