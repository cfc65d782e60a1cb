-- Each match in 16-bit units lies in them.
use Rattle.std.proofs.Common.{◌≡◌, ℕ, ◌+◌, ◌<◌, ◌≤◌, ◌⊎◌, List, [], ◌∷◌, length, Option, Some, Result, Ok, inl, inr, refl, sym, ap, ◌∙◌, subst, arith}
use Rattle.std.proofs.lemmas.Bool.{cases_lt}
use Rattle.std.specs.Iterator.{Yields}
use Rattle.std.specs.declared.ops.Range.{Range}
use Rattle.regress_meaning.specs.Offsets.{Reading, offset, of_ucs2, Begins}
use Rattle.regress_match.specs.declared.found.Match.{Match}
use Rattle.regress_match.specs.Views.{ends, item_of}
use Rattle.regress_front_bytes.proofs.TextLemmas.{offset-le}
use Rattle.regress_match.proofs.TakenLemmas.{of_groups}
use Rattle.regress_engine_input.proofs.UnitTexts.{single_offset}
use Rattle.regress_engine_runs.specs.Meets.{AreAtPlaces}
use Rattle.regress_engine_search.specs.Search.{Search, IsItemAtPlaces, IsMatchOf}
use Rattle.regress_programs.specs.Coming.{HoldsOfEach}
use Rattle.regress_programs.specs.Units.{LiesInUnits, IsMatchInUnits}

-- where each unit is a character a search may begin at any offset
pub begins-anywhere : (units : List ℕ) (at : ℕ) → (place : ℕ) × Begins (of_ucs2 units) at place
begins-anywhere units at = by_room (cases_lt (length units) at)
  where
    by_room : (length units < at) ⊎ (at ≤ length units) → (place : ℕ) × Begins (of_ucs2 units) at place
    by_room (inl past) = (length units + 1, inr (refl, rw (single_offset units (length units) (omega arith)) past))
    by_room (inr room) = (at, inl (room, single_offset units at room))

module _ (reading : Reading) (units : List ℕ) (end : offset reading (length reading.points) ≡ length units) where
  -- a range between places lies in the units
  pub range-in : (r : Range ℕ) → AreAtPlaces reading (ends r) → LiesInUnits reading units r
  range-in r inside =
      let (p, before, start) = inside.0 in
      let (q, room, there) = inside.1 in
      let within = offset-le reading q (length reading.points) room in
      (inside.2, omega (arith, within, there, end), (p, inl (before, sym start)), (q, inl (room, sym there)))

  -- and so does a match between places
  pub match-in : (m : Match) → IsItemAtPlaces reading (item_of m) → IsMatchInUnits reading units m
  match-in m inside = (range-in m.range inside.0, of_groups (AreAtPlaces reading) (LiesInUnits reading units) range-in m.captures.items inside.1)

module _ {S E : Type 0} (search_of : S → Search) (gives : S → Option (Result Match E) → S → Type 0)
    (keeps : (old new : S) (r : Option (Result Match E)) → gives old r new → search_of new ≡ search_of old)
    (finds : (old new : S) (m : Match) → gives old (Some (Ok m)) new → IsMatchOf (search_of old) m) where
  -- steps are of the same search
  pub search_of-along : (ms old : S) (given : List (Result Match E)) → Yields gives ms given old → search_of old ≡ search_of ms
  search_of-along ms old [] same = ap search_of (sym same)
  search_of-along ms old (x ∷ given) (next, step, others) = search_of-along next old given others ∙ keeps ms next (Some x) step

  -- what is said of each match of what is searched for is said of each that steps give
  pub each-match : (Q : Match → Type 0) (ms : S) → ((m : Match) → IsMatchOf (search_of ms) m → Q m) → HoldsOfEach gives Q ms
  each-match Q ms said given old new r m yields step found =
      said m (subst (λ (s : Search). IsMatchOf s m) (search_of-along ms old given yields) (finds old new m (subst (λ x. gives old x new) found step)))
