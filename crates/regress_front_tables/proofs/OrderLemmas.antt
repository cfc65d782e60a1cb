-- Lists of pairs and of intervals rise exactly where no entry is told as out of order.
use Rattle.std.proofs.Common.{◌≡◌, ℕ, ◌+◌, ◌<◌, Bool, true, false, nat_lt, List, [], ◌∷◌, length, Option, String, Vec, Global, All, map, ap, ◌∙◌, Option, None, Some, IfNone, IfSome, refl, sym, cond, arith}
use Rattle.std.specs.Option.{option_or}
use Rattle.std.proofs.lemmas.Bool.{ltb-true, lt-ltb}
use Rattle.std.proofs.lemmas.List.Elements.{All-nil, All-cons, All-head, All-tail}
use Rattle.regress_meaning.specs.TableParts as meaning
use Rattle.regress_meaning.specs.TableParts.{PairsRise, IntervalsRise, KeepsOrder, KeepsCanonical}
use Rattle.regress_front_tables.specs.declared.tables.parts.TableParts.{TableParts}
use Rattle.regress_front_tables.specs.Parts.{parts_of}
use Rattle.regress_front_tables.specs.Entries.{entry_of}
use Rattle.regress_front_sets.specs.declared.interval.Interval.{Interval}
use Rattle.regress_front_sets.specs.Intervals.{ends_of}
use Rattle.regress_front_tables.specs.Breaking.{first_out_of_order, first_out_of_place, first_some, out_of_order, out_of_place}

-- one pair is in order
pub first_out_of_order-short : (pairs : List (ℕ × ℕ)) → length pairs < 2 → first_out_of_order pairs ≡ None
first_out_of_order-short [] l = refl
first_out_of_order-short (p ∷ []) l = refl
first_out_of_order-short (p ∷ q ∷ pairs) l = absurd (omega arith)

-- one interval is in its place
pub first_out_of_place-short : (intervals : List Interval) → length intervals < 2 → first_out_of_place (ends_of intervals) ≡ None
first_out_of_place-short [] l = refl
first_out_of_place-short (i ∷ []) l = refl
first_out_of_place-short (i ∷ j ∷ intervals) l = absurd (omega arith)

-- where no pair is told, the pairs rise
pub PairsRise-from_none : (pairs : List (ℕ × ℕ)) → first_out_of_order pairs ≡ None → PairsRise pairs
PairsRise-from_none [] e = tt
PairsRise-from_none (p ∷ []) e = tt
PairsRise-from_none (p ∷ q ∷ pairs) e = go (nat_lt p.0 q.0) refl e (PairsRise-from_none (q ∷ pairs))
  where
    go : (b : Bool) → nat_lt p.0 q.0 ≡ b → cond b (first_out_of_order (q ∷ pairs)) (Some q.0) ≡ None
        → (first_out_of_order (q ∷ pairs) ≡ None → PairsRise (q ∷ pairs)) → PairsRise (p ∷ q ∷ pairs)
    go true h e r = (ltb-true _ _ h, r e)
    go false h e r = absurd (cc)

-- of pairs that rise, none is told
pub first_out_of_order-none : (pairs : List (ℕ × ℕ)) → PairsRise pairs → first_out_of_order pairs ≡ None
first_out_of_order-none [] rise = refl
first_out_of_order-none (p ∷ []) rise = refl
first_out_of_order-none (p ∷ q ∷ pairs) rise = rw (lt-ltb p.0 q.0 rise.0) (first_out_of_order-none (q ∷ pairs) rise.1)

-- where no interval is told, the intervals rise
pub IntervalsRise-from_none : (intervals : List Interval) → first_out_of_place (ends_of intervals) ≡ None → IntervalsRise (ends_of intervals)
IntervalsRise-from_none [] e = tt
IntervalsRise-from_none (i ∷ []) e = (i.ordered, i.bounded)
IntervalsRise-from_none (i ∷ j ∷ intervals) e = go (nat_lt (i.last + 1) j.first) refl e (IntervalsRise-from_none (j ∷ intervals))
  where
    go : (b : Bool) → nat_lt (i.last + 1) j.first ≡ b → cond b (first_out_of_place (ends_of (j ∷ intervals))) (Some j.first) ≡ None
        → (first_out_of_place (ends_of (j ∷ intervals)) ≡ None → IntervalsRise (ends_of (j ∷ intervals))) → IntervalsRise (ends_of (i ∷ j ∷ intervals))
    go true h e r = (i.ordered, ltb-true _ _ h, r e)
    go false h e r = absurd (cc)

-- of intervals that rise, none is told
pub first_out_of_place-none : (intervals : List (ℕ × ℕ)) → IntervalsRise intervals → first_out_of_place intervals ≡ None
first_out_of_place-none [] rise = refl
first_out_of_place-none (i ∷ []) rise = refl
first_out_of_place-none (i ∷ j ∷ intervals) rise = rw (lt-ltb (i.1 + 1) j.0 rise.1) (first_out_of_place-none (j ∷ intervals) rise.2)

-- what a search tells is what it found
pub IfSome-from_is : (r o : Option ℕ) → r ≡ o → IfSome r (λ c. o ≡ Some c)
IfSome-from_is None o e = tt
IfSome-from_is (Some c) o e = sym e

-- where the first that is there is none, the other is none
pub option_or-none : (o p : Option ℕ) → option_or o p ≡ None → (o ≡ None) × (p ≡ None)
option_or-none None p e = (refl, e)
option_or-none (Some c) p e = absurd (cc)

-- where the first that is there is none, P holds
pub IfNone-from_is : (r o : Option ℕ) (P : Type 0) → r ≡ o → (o ≡ None → P) → IfNone r P
IfNone-from_is None o P e f = f (sym e)
IfNone-from_is (Some c) o P e f = tt

-- where no pair is told, both maps rise
pub KeepsOrder-from_none : (parts : meaning.TableParts) → out_of_order parts ≡ None → KeepsOrder parts
KeepsOrder-from_none parts e =
    let both = option_or-none (first_out_of_order parts.fold) _ e in
    let last = option_or-none (first_out_of_order parts.upper) None both.1 in
    (PairsRise-from_none parts.fold both.0, PairsRise-from_none parts.upper last.0)

-- where both maps rise, no pair is told
pub out_of_order-none : (parts : meaning.TableParts) → KeepsOrder parts → out_of_order parts ≡ None
out_of_order-none parts kept = rw (first_out_of_order-none parts.fold kept.0, first_out_of_order-none parts.upper kept.1)

-- an entry with a key, and intervals under it
abbrev Property : Type 0
Property = String Global × Vec Interval Global

-- the first interval of a property that is out of place
first_out_of_place-properties : (properties : List Property)
    → first_some (map first_out_of_place (map (λ e. e.1) (map (entry_of (λ v. ends_of v.items)) properties))) ≡ first_some (map (λ e. first_out_of_place (ends_of e.1.items)) properties)
first_out_of_place-properties [] = refl
first_out_of_place-properties (e ∷ properties) = ap (option_or (first_out_of_place (ends_of e.1.items))) (first_out_of_place-properties properties)

-- the first interval that is out of place is searched for in the lists in turn
pub out_of_place-parts : (p : TableParts) → option_or (first_out_of_place (ends_of p.id_start.items))
    (option_or (first_out_of_place (ends_of p.id_continue.items)) (first_some (map (λ e. first_out_of_place (ends_of e.1.items)) p.properties.items)))
    ≡ out_of_place (parts_of p)
out_of_place-parts p = simp (first_out_of_place-properties p.properties.items)

-- where no interval of a property is told, those of each rise
EachRises-from_none : (properties : List Property) → first_some (map (λ e. first_out_of_place (ends_of e.1.items)) properties) ≡ None
    → All (λ e. IntervalsRise e.1) (map (entry_of (λ v. ends_of v.items)) properties)
EachRises-from_none [] none = All-nil (λ e. IntervalsRise e.1)
EachRises-from_none (e ∷ properties) none =
    let both = option_or-none (first_out_of_place (ends_of e.1.items)) _ none in
    All-cons (λ e. IntervalsRise e.1) _ _ (IntervalsRise-from_none e.1.items both.0) (EachRises-from_none properties both.1)

-- of properties whose intervals rise, none is told
first_some-none : (entries : List (List ℕ × List (ℕ × ℕ))) → All (λ e. IntervalsRise e.1) entries
    → first_some (map first_out_of_place (map (λ e. e.1) entries)) ≡ None
first_some-none [] rise = refl
first_some-none (e ∷ entries) rise =
    let P : List ℕ × List (ℕ × ℕ) → Type 0 = λ e. IntervalsRise e.1 in
    rw (first_out_of_place-none e.1 (All-head P e entries rise)) (first_some-none entries (All-tail P e entries rise))

-- where no interval is told, those of each list rise
pub KeepsCanonical-from_none : (p : TableParts) → out_of_place (parts_of p) ≡ None → KeepsCanonical (parts_of p)
KeepsCanonical-from_none p none =
    let start = option_or-none (first_out_of_place (ends_of p.id_start.items)) _ none in
    let continue = option_or-none (first_out_of_place (ends_of p.id_continue.items)) _ start.1 in (
      IntervalsRise-from_none p.id_start.items start.0,
      IntervalsRise-from_none p.id_continue.items continue.0,
      EachRises-from_none p.properties.items (sym (first_out_of_place-properties p.properties.items) ∙ continue.1),
    )

-- where the intervals of each list rise, none is told
pub out_of_place-none : (parts : meaning.TableParts) → KeepsCanonical parts → out_of_place parts ≡ None
out_of_place-none parts kept =
    rw (first_out_of_place-none parts.id_start kept.0, first_out_of_place-none parts.id_continue kept.1) (first_some-none parts.properties kept.2)
