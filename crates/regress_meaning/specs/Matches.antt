-- The matches of a pattern in a text: at each least place the most preferred outcome ("RegExpBuiltinExec").
use Rattle.std.specs.Prelude.{ℕ, zero, suc, ◌+◌, ◌-◌, ◌==◌, List, [], ◌∷◌, length, Option, Some, None, if◌then◌else◌, replicate}
use Rattle.std.specs.Option.{option_or, option_map_or}
use Rattle.regress_meaning.specs.Table.{Table}
use Rattle.regress_meaning.specs.Pattern.{Pattern, names_of}
use Rattle.regress_meaning.specs.Flags.{Options, is_unicode, first_settings}
use Rattle.regress_meaning.specs.Meaning.{State, Forward, Outcomes, outcomes}

-- A match: its ends, and the range that each group took, if any.
pub record Item : Type 0 where
  pub start : ℕ
  pub end : ℕ
  pub groups : List (Option (ℕ × ℕ))

-- the item that a list of outcomes from a place gives
abbrev pub item_at : ℕ → List State → Option Item
item_at p [] = None
item_at p (s ∷ ss) = Some (record { start = p; end = s.place; groups = s.groups })

-- the first item at the least of the n places from p on that has one
unfoldable pub first_from : (ℕ → Option Item) → ℕ → ℕ → Option Item
first_from attempt zero p = None
first_from attempt (suc n) p = option_or (attempt p) (first_from attempt n (p + 1))

-- where the search goes on after an item ("AdvanceStringIndex")
abbrev pub next_place : Item → ℕ
next_place i = if i.start == i.end then i.start + 1 else i.end

-- the items from p on; n bounds how many there are
unfoldable pub list_from : (ℕ → Option Item) → ℕ → ℕ → List Item
list_from found zero p = []
list_from found (suc n) p = option_map_or (λ i. i ∷ list_from found n (next_place i)) (found p) []

-- the most preferred outcome at a place, with none of n groups set
abbrev pub attempt_by : Outcomes → ℕ → ℕ → Option Item
attempt_by f n q = item_at q (f (record { place = q; groups = replicate n None }))

-- What is found in a text of n code points, by what is attempted at each place.
module _ (attempt : ℕ → Option Item) (n : ℕ) where
  -- the first item from a place on
  abbrev pub first_found : ℕ → Option Item
  first_found q = first_from attempt (n + 1 - q) q

  -- all from a place on; from a place past the end there are none
  abbrev pub all_found : ℕ → List Item
  all_found q = list_from first_found (n + 1 - q) q

module _ (table : Table) (o : Options) (p : Pattern) (text : List ℕ) where
  -- the most preferred outcome at a place, with no group set
  unfoldable pub attempt : ℕ → Option Item
  attempt q =
      attempt_by (outcomes (record { text = text; table = table; unicode = is_unicode o }) p Forward (first_settings o))
      (length (names_of p)) q

  -- the first item from a place on
  unfoldable pub first_match : ℕ → Option Item
  first_match q = first_found attempt (length text) q

  -- The match list from a place on; from a place past the end it is empty.
  unfoldable pub match_list : ℕ → List Item
  match_list q = all_found attempt (length text) q
