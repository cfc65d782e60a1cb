-- What an executor writes to slots is what a tree's match list, or its outcome at a place, has first.
use Rattle.std.specs.Prelude.{option_map, slice_get, IfErr, IfOk, IfSome, nat_le}
use Rattle.std.specs.Bool.{then_some}
use Rattle.std.proofs.Common.{◌≡◌, ℕ, zero, suc, ◌<◌, ◌≤◌, ◌⊎◌, inl, inr, Bool, true, false, List, [], ◌∷◌, map, Option, Some, None, Result, Ok, Err, All, length, refl, sym, ap, ◌∙◌, subst}
use Rattle.std.proofs.lemmas.Bool.{cases_lt, le-leb, lt-leb}
use Rattle.std.proofs.lemmas.List.Elements.{All-nil, All-cons, All-head, All-tail}
use Rattle.std.specs.declared.ops.Range.{Range}
use Rattle.regress_meaning.specs.Meaning.{Context}
use Rattle.regress_meaning.specs.Matches.{Item}
use Rattle.regress_meaning.specs.Offsets.{Reading, Begins, told}
use Rattle.regress_front.specs.NodeMatches.{node_match_list}
use Rattle.regress_front.specs.Trees.{Tree}
use Rattle.regress_match.proofs.TakenLemmas.{of_groups}
use Rattle.regress_match.specs.Iterating.{coming_on}
use Rattle.regress_match.specs.Slots.{Fills, slots_of}
use Rattle.regress_match.specs.declared.found.Match.{Match}
use Rattle.regress_match.specs.Views.{ends, item_of}
use Rattle.regress_engine_input.specs.Views.{AreOfKind, input_of, reading_of}
use Rattle.regress_engine_code.specs.Standing.{program_of, target_of}
use Rattle.regress_engine_runs.specs.Items.{Finds, goes_on, begins_at}
use Rattle.regress_engine_runs.specs.Meets.{AreAtPlaces}
use Rattle.regress_engine_search.specs.Answering.{IsOutcome}
use Rattle.regress_engine_search.specs.Search.{Search, IsMadeOf, IsItemAtPlaces, IsPosition, IsWritten, items_from}
use Rattle.regress_engine_search.proofs.ProducerLemmas.{goes_on-place, items-asked, items-next, items-none, read-starts}
use Rattle.regress_engine_exec.specs.Turned.{NeverOver}
use Rattle.regress_programs.specs.declared.slots.Anchored.{Anchored}
use Rattle.regress_programs.specs.declared.slots.Anchored.TheVariants.{No, Yes}
use Rattle.regress_programs.specs.Programs.{IsLaidOutFrom, items_of_tree}
use Rattle.regress_programs.specs.Filling.{SlotsAreAtPlaces, first_told}
use Rattle.regress_programs.proofs.OutcomeLemmas.{starts-past, outcome-told, tree-past}

-- ---- slots

-- what holds of each group holds of each slot
slots-hold : {A : Type 0} (P : A → Type 0) (n : ℕ) (groups : List (Option A)) → All (λ g. IfSome g P) groups → All (λ g. IfSome g P) (slots_of n groups)
unfolding slots_of
slots-hold P zero groups all = All-nil (λ g. IfSome g P)
slots-hold P (suc n) [] all = All-cons (λ g. IfSome g P) None (slots_of n []) tt (slots-hold P n [] all)
slots-hold P (suc n) (g ∷ groups) all =
    All-cons (λ g. IfSome g P) g (slots_of n groups) (All-head (λ g. IfSome g P) g groups all)
    (slots-hold P n groups (All-tail (λ g. IfSome g P) g groups all))

-- what an item at places fills is at places
module _ (reading : Reading) (found : Option (Range ℕ)) (before after : List (Option (Range ℕ))) where
  places-filled : (i : Option Item) → IfSome i (IsItemAtPlaces reading) → Fills i found before after → SlotsAreAtPlaces reading found after
  places-filled None inside (none, same) = subst (λ r. SlotsAreAtPlaces reading r after) (sym none) tt
  places-filled (Some i) inside (whole, filled) =
      by_range found whole
      (of_groups (AreAtPlaces reading) (λ r. AreAtPlaces reading (ends r)) (λ r places. places) after
      (subst (All (λ g. IfSome g (AreAtPlaces reading))) (sym filled)
      (slots-hold (AreAtPlaces reading) (length before) (Some (i.start, i.end) ∷ i.groups)
      (All-cons (λ g. IfSome g (AreAtPlaces reading)) (Some (i.start, i.end)) i.groups inside.0 inside.1))))
    where
      by_range : (r : Option (Range ℕ)) → option_map ends r ≡ Some (i.start, i.end) → All (λ g. IfSome g (λ r. AreAtPlaces reading (ends r))) after → SlotsAreAtPlaces reading r after
      by_range None whole all = absurd (cc)
      by_range (Some r) whole all = let same : ends r ≡ (i.start, i.end) = cc in (subst (AreAtPlaces reading) (sym same) inside.0, all)

  pub written-places : (IsResult : Option Item → Type 0) → IsWritten IsResult reading found before after → SlotsAreAtPlaces reading found after
  written-places IsResult (i, result, inside, fills) = places-filled i inside fills

  -- what is written is what the result has to be
  pub written-as : (IsResult : Option Item → Type 0) (j : Option Item) → ((i : Option Item) → IfSome i (IsItemAtPlaces reading) → IsResult i → i ≡ j)
      → IsWritten IsResult reading found before after → Fills j found before after
  written-as IsResult j is (i, result, inside, fills) = subst (λ k. Fills k found before after) (is i inside result) fills

-- ---- the first item of a list

first-none : (f : Item → Item) (items : List Item) → map f items ≡ [] → None ≡ option_map f (slice_get items 0)
first-none f [] none = refl
first-none f (i ∷ items) none = absurd (cc)

first-some : (f : Item → Item) (items rest : List Item) (x : Item) → map f items ≡ x ∷ rest → Some x ≡ option_map f (slice_get items 0)
first-some f [] rest x is = absurd (cc)
first-some f (i ∷ items) rest x is = let same : f i ≡ x = cc in ap Some (sym same)

-- where a search begins, if anywhere
module _ (s : Search) (all : AreOfKind s.view.kind s.view.units) (at : ℕ) where
  starts-by : then_some (nat_le at (length s.view.units)) at ≡ begins_at (input_of s.view) at
  starts-by = read-starts s s.view refl all at (length s.view.units) (nat_le at (length s.view.units)) (then_some (nat_le at (length s.view.units)) at) refl refl refl

  pub begun : (p : ℕ) → Some p ≡ begins_at (input_of s.view) at → (p ≡ at) × (at ≤ length s.view.units)
  begun p e = by_order (cases_lt (length s.view.units) at)
    where
      by_order : (length s.view.units < at) ⊎ (at ≤ length s.view.units) → (p ≡ at) × (at ≤ length s.view.units)
      by_order (inl past) = let none = e ∙ sym starts-by ∙ ap (λ (b : Bool). then_some b at) (lt-leb at (length s.view.units) past) in absurd (cc)
      by_order (inr low) =
          let some = e ∙ sym starts-by ∙ ap (λ (b : Bool). then_some b at) (le-leb at (length s.view.units) low) in
          let same : p ≡ at = cc in
          (same, low)

  pub not-begun : None ≡ begins_at (input_of s.view) at → length s.view.units < at
  not-begun e = by_order (cases_lt (length s.view.units) at)
    where
      by_order : (length s.view.units < at) ⊎ (at ≤ length s.view.units) → length s.view.units < at
      by_order (inl past) = past
      by_order (inr low) = let some = e ∙ sym starts-by ∙ ap (λ (b : Bool). then_some b at) (le-leb at (length s.view.units) low) in absurd (cc)

module _ (s : Search) (all : AreOfKind s.view.kind s.view.units) (made : IsMadeOf s.compiled s.view) (at place : ℕ) (begins : Begins (reading_of s.view) at place)
    (n : ℕ) (t : Tree) (laid : IsLaidOutFrom (target_of s.compiled) n t) where
  abbrev reading : Reading
  reading = reading_of s.view

  abbrev items : List Item
  items = items_of_tree (target_of s.compiled) n t reading.points place

  asked : (o : Option ℕ) → o ≡ begins_at (input_of s.view) at → coming_on (items_from s) o ≡ map (told reading) items
  asked o is =
      items-asked s all made n t laid.0 laid.1 at place begins o is
      ∙ ap (λ (x : Context). map (told reading) (node_match_list x n t place))
      (λ j. record { text = reading.points; table = sym made.made.table j; unicode = sym made.made.unicode j })

  -- past the end there is nothing
  pub told-past : (anchored : Anchored) → None ≡ begins_at (input_of s.view) at → first_told anchored s.compiled reading n t place ≡ None
  told-past No none = sym (first-none (told reading) items (sym (asked None none)))
  told-past Yes none =
      ap (option_map (told reading))
      (tree-past (target_of s.compiled) n t reading.points place (starts-past s.view all at place begins (not-begun s all at none)))

  -- what a search from an offset finds is the first match of the tree from its place on
  pub found-told : Some at ≡ begins_at (input_of s.view) at → IsPosition s at → (i : Option Item) → IfSome i (IsItemAtPlaces reading) → Finds (program_of s.compiled) (input_of s.view) at i
      → i ≡ first_told No s.compiled reading n t place
  found-told starts position None inside finds = first-none (told reading) items (sym (asked (Some at) starts) ∙ items-none s at position finds)
  found-told starts position (Some i) inside finds =
      let next = goes_on (program_of s.compiled) (input_of s.view) i in
      first-some (told reading) items _ i (sym (asked (Some at) starts) ∙ items-next s at position i next finds refl (goes_on-place s all i inside next refl))

  -- and what a run from there gives is the tree's outcome
  pub run-told : at ≤ length s.view.units → (i : Option Item) → IfSome i (IsItemAtPlaces reading) → IsOutcome (program_of s.compiled) (input_of s.view) at i
      → i ≡ first_told Yes s.compiled reading n t place
  run-told low i inside outcome = outcome-told s all made at place begins n t laid low i outcome

-- what a run or a search results in is the item that it has to be
pub told-by : {E : Type 0} (P : Item → Type 0) (IsResult : Option Item → Type 0) (j : Option Item) → ((i : Option Item) → IfSome i P → IsResult i → i ≡ j)
    → (r : Result (Option Match) E) → IfOk r (λ found. IsResult (option_map item_of found)) → IfOk r (λ found. IfSome found (λ m. P (item_of m)))
    → IfOk r (λ found. option_map item_of found ≡ j)
told-by P IsResult j is (Ok None) result inside = is None tt result
told-by P IsResult j is (Ok (Some m)) result inside = is (Some (item_of m)) inside result
told-by P IsResult j is (Err e) result inside = tt

-- where a search errs since there would be too many steps, it may not turn to a table, and its budget is the one that it was given
pub stops-as_given : {T E B : Type 0} (r : Result T E) (IsOver : E → Type 0) (turns may : Bool) → turns ≡ may → (made given : B) → (turns ≡ false → made ≡ given)
    → (Counts : B → Type 0) → IfErr r (NeverOver IsOver turns) → IfErr r (λ e. IsOver e → Counts made) → IfErr r (λ e. IsOver e → (may ≡ false) × Counts given)
stops-as_given (Ok x) IsOver turns may same made given kept Counts never stopped = tt
stops-as_given (Err e) IsOver true may same made given kept Counts never stopped = λ over. absurd (never refl over)
stops-as_given (Err e) IsOver false may same made given kept Counts never stopped = λ over. (sym same, subst Counts (kept refl) (stopped over))

-- where all steps were counted, the runs of a search take them all
pub takes-all : {T E : Type 0} (r : Result T E) (IsOver : E → Type 0) (Counts : (at : ℕ) → Option ℕ → Type 0) (from at : ℕ) (after : Option ℕ) → from ≡ at
    → IfErr r (λ e. IsOver e → (after ≡ Some 0) × Counts from after) → IfErr r (λ e. IsOver e → Counts at (Some 0))
takes-all (Ok x) IsOver Counts from at after here stopped = tt
takes-all (Err e) IsOver Counts from at after here stopped = λ over.
    let (none, counts) = stopped over in subst (Counts at) none (subst (λ o. Counts o after) here counts)
