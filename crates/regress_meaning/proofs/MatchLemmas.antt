-- The items of a match list rise and lie in the text, and there are at most as many as places.
use Rattle.std.proofs.Common.{◌≡◌, ℕ, ◌+◌, ◌-◌, ◌≤◌, List, ◌∷◌, [], length, Some, None, All, IfSome}
use Rattle.std.proofs.lemmas.List.Elements.{All-weaker}
use Rattle.regress_meaning.specs.Table.{Table}
use Rattle.regress_meaning.specs.Pattern.{Pattern, names_of}
use Rattle.regress_meaning.specs.Flags.{Options, is_unicode, first_settings}
use Rattle.regress_meaning.specs.Meaning.{Forward, Context, outcomes}
use Rattle.regress_meaning.specs.Matches.{Item, next_place, attempt, first_match, match_list}
use Rattle.regress_meaning.specs.Laws.{IsItemInside, ItemsRise}
use Rattle.regress_meaning.proofs.OutcomeLemmas.{Goes-outcomes}
use Rattle.regress_meaning.proofs.MatchLaws.{IsFrom, all_found-bounded, all_found-rise, all_found-keep, all_found-ends, all_found-goes, first_found-later, attempt_by-from, attempt_by-inside}

module _ (table : Table) (o : Options) (p : Pattern) (text : List ℕ) where
  context : Context
  context = record { text = text; table = table; unicode = is_unicode o }

  -- a match starts at its place, and ends ahead of it
  attempt-from : (q : ℕ) → IfSome (attempt table o p text q) (IsFrom q)
  unfolding attempt context
  attempt-from q = attempt_by-from context (outcomes context p Forward (first_settings o)) (Goes-outcomes context p Forward (first_settings o)) (length (names_of p)) q

  attempt-inside : (q : ℕ) → q ≤ length text → IfSome (attempt table o p text q) (λ i. IsItemInside text i × (length i.groups ≡ length (names_of p)))
  unfolding attempt context
  attempt-inside q within = attempt_by-inside context (outcomes context p Forward (first_settings o)) (Goes-outcomes context p Forward (first_settings o)) (length (names_of p)) q within

  pub matches_bounded : (place : ℕ) → length (match_list table o p text place) ≤ length text + 1 - place
  unfolding match_list first_match
  matches_bounded place = all_found-bounded (attempt table o p text) (length text) place

  pub matches_rise : (place : ℕ) → ItemsRise (match_list table o p text place)
  unfolding match_list first_match
  matches_rise place = all_found-rise (attempt table o p text) (length text) attempt-from place

  -- in the text, with the pattern's groups
  abbrev Lies : Item → Type 0
  Lies i = IsItemInside text i × (length i.groups ≡ length (names_of p))

  each-lies : (place : ℕ) → All Lies (match_list table o p text place)
  unfolding match_list first_match
  each-lies place = all_found-keep (attempt table o p text) (length text) Lies attempt-inside place

  pub matches_lie : (place : ℕ) → All (IsItemInside text) (match_list table o p text place)
  matches_lie place = All-weaker Lies (IsItemInside text) (λ i h. h.0) _ (each-lies place)

  pub matches_counted : (place : ℕ) → All (λ i. length i.groups ≡ length (names_of p)) (match_list table o p text place)
  matches_counted place = All-weaker Lies (λ i. length i.groups ≡ length (names_of p)) (λ i h. h.1) _ (each-lies place)

  pub matches_end : (q : ℕ) → first_match table o p text q ≡ None → match_list table o p text q ≡ []
  unfolding match_list first_match
  matches_end q e = all_found-ends (attempt table o p text) (length text) q e

  pub matches_go : (q : ℕ) (i : Item) → first_match table o p text q ≡ Some i
      → match_list table o p text q ≡ i ∷ match_list table o p text (next_place i)
  unfolding match_list first_match
  matches_go q i e = all_found-goes (attempt table o p text) (length text) attempt-from q i e

  pub first_match-later : (q : ℕ) (i : Item) → first_match table o p text q ≡ Some i → q ≤ i.start
  unfolding first_match
  first_match-later q i e = first_found-later (attempt table o p text) (length text) attempt-from q i e
