-- The match list of a tree goes on from its first match, and there are at most as many matches as places.
use Rattle.std.proofs.Common.{◌≡◌, ℕ, ◌+◌, ◌-◌, ◌<◌, ◌≤◌, List, ◌∷◌, [], length, Option, Some, None, replicate, All, IfSome, refl}
use Rattle.regress_meaning.specs.Meaning.{State, Forward, Context}
use Rattle.regress_meaning.specs.Matches.{Item, item_at, next_place}
use Rattle.regress_meaning.specs.Laws.{IsItemInside, ItemsRise}
use Rattle.regress_meaning.proofs.MatchLaws.{IsFrom, first_found-past, first_found-here, first_found-more, first_found-keeps, first_found-from, first_found-later, all_found-bounded, all_found-ends, all_found-goes, all_found-rise, all_found-keep, attempt_by-from, attempt_by-inside}
use Rattle.regress_front_nodes.specs.Trees.{Tree}
use Rattle.regress_front_nodes.specs.TreeMeaning.{node_outcomes}
use Rattle.regress_front_nodes.specs.NodeMatches.{node_attempt, node_first_match, node_match_list}
use Rattle.regress_front_nodes.proofs.OutcomeLemmas.{Goes-outcomes}

module _ (context : Context) (count : ℕ) (tree : Tree) where
  -- what is attempted at each place, and how many there are
  abbrev attempt : ℕ → Option Item
  attempt = node_attempt context count tree

  abbrev size : ℕ
  size = length context.text

  -- in the text, with as many groups as there are
  abbrev Lies : Item → Type 0
  Lies i = IsItemInside context.text i × (length i.groups ≡ count)

  -- a match starts at its place, and ends ahead of it
  attempt-from : (q : ℕ) → IfSome (node_attempt context count tree q) (IsFrom q)
  unfolding node_attempt
  attempt-from q = attempt_by-from context (node_outcomes context tree Forward) (Goes-outcomes context tree Forward) count q

  -- and lies in the text
  pub attempt-inside : (q : ℕ) → q ≤ size → IfSome (node_attempt context count tree q) Lies
  unfolding node_attempt
  attempt-inside q within = attempt_by-inside context (node_outcomes context tree Forward) (Goes-outcomes context tree Forward) count q within

  -- what a place has, from the outcomes there
  pub attempt-is : (q : ℕ) (gs : List (Option (ℕ × ℕ))) (ts : List State) → gs ≡ replicate count None
      → ts ≡ node_outcomes context tree Forward (record { place = q; groups = gs }) → node_attempt context count tree q ≡ item_at q ts
  unfolding node_attempt
  attempt-is q gs ts unset led = rw (led, unset) refl

  -- the first outcome from a place in the text, with no group set, is a match inside
  pub first-inside : (q : ℕ) (gs : List (Option (ℕ × ℕ))) (t : State) (ts : List State) → q ≤ size → gs ≡ replicate count None
      → (t ∷ ts) ≡ node_outcomes context tree Forward (record { place = q; groups = gs })
      → IsItemInside context.text (record { start = q; end = t.place; groups = t.groups })
  first-inside q gs t ts within unset led =
      let inside = rw (attempt-is q gs (t ∷ ts) unset led) at (attempt-inside q within) in inside.0

  -- the first match from a place on starts there or later, and ends no sooner than it starts
  pub first_match-from : (q : ℕ) → IfSome (node_first_match context count tree q) (IsFrom q)
  unfolding node_first_match
  first_match-from q = first_found-from attempt size attempt-from q

  pub first_match-later : (q : ℕ) (i : Item) → node_first_match context count tree q ≡ Some i → q ≤ i.start
  unfolding node_first_match
  first_match-later q i e = first_found-later attempt size attempt-from q i e

  -- and past the end there is none
  pub first_match_past : (q : ℕ) → size < q → node_first_match context count tree q ≡ None
  unfolding node_first_match
  first_match_past q h = first_found-past attempt size q h

  pub first_match-found : (q : ℕ) (i : Item) → q ≤ size → node_attempt context count tree q ≡ Some i → node_first_match context count tree q ≡ Some i
  unfolding node_first_match
  first_match-found q i within found = first_found-here attempt size q i within found

  pub first_match-more : (q : ℕ) → q ≤ size → node_attempt context count tree q ≡ None
      → node_first_match context count tree q ≡ node_first_match context count tree (q + 1)
  unfolding node_first_match
  first_match-more q within none = first_found-more attempt size q within none

  -- it lies in the text
  pub first_match-inside : (q : ℕ) → IfSome (node_first_match context count tree q) Lies
  unfolding node_first_match
  first_match-inside q = first_found-keeps attempt size Lies attempt-inside q

  pub matches_bounded : (place : ℕ) → length (node_match_list context count tree place) ≤ size + 1 - place
  unfolding node_match_list
  matches_bounded place = all_found-bounded attempt size place

  pub matches_rise : (place : ℕ) → ItemsRise (node_match_list context count tree place)
  unfolding node_match_list
  matches_rise place = all_found-rise attempt size attempt-from place

  pub matches_lie : (place : ℕ) → All Lies (node_match_list context count tree place)
  unfolding node_match_list
  matches_lie place = all_found-keep attempt size Lies attempt-inside place

  pub matches_end : (q : ℕ) → node_first_match context count tree q ≡ None → node_match_list context count tree q ≡ []
  unfolding node_match_list node_first_match
  matches_end q e = all_found-ends attempt size q e

  pub matches_go : (q : ℕ) (i : Item) → node_first_match context count tree q ≡ Some i
      → node_match_list context count tree q ≡ i ∷ node_match_list context count tree (next_place i)
  unfolding node_match_list node_first_match
  matches_go q i e = all_found-goes attempt size attempt-from q i e
