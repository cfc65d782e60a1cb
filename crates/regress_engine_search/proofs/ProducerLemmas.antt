-- The items of a producer: what is found, and what comes behind it.
use Rattle.std.specs.Prelude.{map, option_map, IfSome, nat_le, not}
use Rattle.std.specs.Bool.{then_some}
use Rattle.std.specs.Str.{IsCharBoundary}
use Rattle.std.specs.declared.ops.Range.{Range}
use Rattle.std.proofs.Common.{◌≡◌, ℕ, zero, suc, ◌<◌, ◌≤◌, ◌⊎◌, inl, inr, ◌==◌, Bool, true, false, List, [], ◌∷◌, length, Option, Some, None, if◌then◌else◌, refl, sym, ap, ◌∙◌, subst, arith}
use Rattle.std.proofs.lemmas.Bool.{cases_lt, cond_both, le-leb, lt-leb}
use Rattle.std.proofs.Math.Logic.{∥∥₁_map}
use Rattle.regress_meaning.specs.Meaning.{Forward}
use Rattle.regress_meaning.specs.Inputs.{Input, context_of}
use Rattle.regress_meaning.specs.Matches.{Item}
use Rattle.regress_meaning.specs.Offsets.{offset, told, Begins}
use Rattle.regress_front_nodes.specs.Trees.{Tree}
use Rattle.regress_front_nodes.specs.WellFormed.{IsWellFormed}
use Rattle.regress_front_nodes.specs.NodeMatches.{node_attempt, node_match_list}
use Rattle.regress_match.specs.declared.found.Match.{Match}
use Rattle.regress_match.specs.Views.{ends, item_of}
use Rattle.regress_match.specs.TextRanges.{LiesBetween, LiesInText}
use Rattle.regress_match.specs.Iterating.{coming_on}
use Rattle.regress_front_bytes.proofs.TextLemmas.{offset-le}
use Rattle.regress_match.proofs.TakenLemmas.{of_groups}
use Rattle.regress_engine_input.specs.Views.{View, Kind, are_bytes, AreOfKind, input_of, reading_of, reading_of_kind}
use Rattle.regress_engine_input.proofs.KindLemmas.{tells, tells_bytes}
use Rattle.regress_engine_insn.specs.Instructions.{Program}
use Rattle.regress_engine_code.specs.Standing.{program_of, target_of}
use Rattle.regress_engine_insn.specs.Layout.{IsLayout}
use Rattle.regress_engine_runs.specs.States.{Whole}
use Rattle.regress_engine_runs.specs.Items.{item_of as item_of_answer, Answers, Finds, Lists, over, no_item, next_item, goes_on, begins_at}
use Rattle.regress_engine_runs.specs.Meets.{IsAtPlace, AreAtPlaces}
use Rattle.regress_engine_runs.specs.Stand.{RunsAsTree}
use Rattle.regress_engine_runs.proofs.ItemLemmas.{agrees, one_answer, lists, lists-from_offset}
use Rattle.regress_engine_runs.proofs.WholeTree.{runs_as_tree}
use Rattle.regress_engine_search.specs.Answering.{IsOutcome}
use Rattle.regress_engine_search.specs.Search.{IsMadeOf, IsItemAtPlaces, Search, last_place, place_at, last_place-le, items_from, places_behind, IsPosition}
use Rattle.regress_engine_search.specs.SearchProps.{rises, same_items}
use Rattle.regress_engine_search.proofs.ByteTexts.{place-cut}
use Rattle.regress_engine_search.proofs.PlaceLemmas.{end-is, moves, next-place, units-are}
use Rattle.regress_engine_runs.proofs.FoundItems.{finds-from, goes_on-past}

-- at the offset of a place the last place is that place
last_place-is : (v : View) (n p : ℕ) → n ≤ length (reading_of v).points → p ≤ n → last_place (reading_of v) (offset (reading_of v) p) n ≡ p
unfolding last_place
last_place-is v zero p room low = omega (arith, low)
last_place-is v (suc n) p room low = by_order (cases_lt p (suc n)) (last_place-is v n p)
  where
    by_order : (p < suc n) ⊎ (suc n ≤ p) → (n ≤ length (reading_of v).points → p ≤ n → last_place (reading_of v) (offset (reading_of v) p) n ≡ p)
        → (if nat_le (offset (reading_of v) (suc n)) (offset (reading_of v) p) then suc n else last_place (reading_of v) (offset (reading_of v) p) n) ≡ p
    by_order (inl less) rest =
        ap (λ (b : Bool). if b then suc n else last_place (reading_of v) (offset (reading_of v) p) n)
        (lt-leb (offset (reading_of v) (suc n)) (offset (reading_of v) p) (rises v.kind v.units p (suc n) less room)) ∙ rest (omega (arith, room)) (omega (arith, less))
    by_order (inr more) rest =
        let same : suc n ≡ p = omega (arith, low, more) in
        ap (λ (b : Bool). if b then suc n else last_place (reading_of v) (offset (reading_of v) p) n)
        (le-leb (offset (reading_of v) (suc n)) (offset (reading_of v) p) (offset-le (reading_of v) (suc n) p more)) ∙ same

pub place_at-is : (v : View) (p : ℕ) → p ≤ length (reading_of v).points → place_at (reading_of v) (offset (reading_of v) p) ≡ p
place_at-is v p room = last_place-is v (length (reading_of v).points) p (omega arith) room

-- of two places the later one has fewer behind it
behind-less : (s : Search) (at q : ℕ) → IsPosition s at → IsPosition s q → at < q → places_behind s q < places_behind s at
behind-less s at q (p, room, e) (r, inside, f) less =
    let here : place_at (reading_of s.view) at ≡ p = ap (place_at (reading_of s.view)) e ∙ place_at-is s.view p room in
    let there : place_at (reading_of s.view) q ≡ r = ap (place_at (reading_of s.view)) f ∙ place_at-is s.view r inside in
    let order : p < r = by_order (cases_lt p r) in
    omega (arith, here, there, order, inside)
  where
    by_order : (p < r) ⊎ (r ≤ p) → p < r
    by_order (inl h) = h
    by_order (inr h) = absurd (omega (arith, less, e, f, offset-le (reading_of s.view) r p h))

module _ (s : Search) where
  abbrev program : Program
  program = program_of s.compiled

  abbrev input : Input
  input = input_of s.view

  -- from a position on searches list the items from there on
  pub items-listed : (at : ℕ) → IsPosition s at → ∥ Lists program input (Some at) (items_from s at) ∥₁
  items-listed at (p, room, e) =
      let place : ℕ = place_at (reading_of s.view) at in
      let here : place ≡ p = ap (place_at (reading_of s.view)) e ∙ place_at-is s.view p room in
      let back : offset (reading_of s.view) place ≡ at = ap (offset (reading_of s.view)) here ∙ sym e in
      subst (λ o. ∥ Lists program input (Some o) (items_from s at) ∥₁) back
      (s.searchable.lists place (last_place-le (reading_of s.view) at (length (reading_of s.view).points))).lists

  -- and nothing else
  pub items-are : (at : ℕ) → IsPosition s at → (items : List Item) → ∥ Lists program input (Some at) items ∥₁ → items_from s at ≡ items
  items-are at place items l = same_items program s.view (Some at) (items_from s at) items (items-listed at place) l

  -- none where a search finds none
  pub items-none : (at : ℕ) → IsPosition s at → Finds program input at None → items_from s at ≡ []
  items-none at place finds = items-are at place [] ∣ no_item finds ∣₁

  -- what comes on from where a search goes on behind an item
  coming-listed : (i : Item) (next : Option ℕ) → next ≡ goes_on program input i → IfSome next (IsPosition s)
      → ∥ Lists program input (goes_on program input i) (coming_on (items_from s) next) ∥₁
  coming-listed i None e inside = ∣ subst (λ o. Lists program input o []) e (over) ∣₁
  coming-listed i (Some q) e inside = ∥∥₁_map (items-listed q inside) (λ l. subst (λ o. Lists program input o (items_from s q)) e l)

  -- what a search finds, and then what comes behind it
  pub items-next : (at : ℕ) → IsPosition s at → (i : Item) (next : Option ℕ) → Finds program input at (Some i) → next ≡ goes_on program input i → IfSome next (IsPosition s)
      → items_from s at ≡ i ∷ coming_on (items_from s) next
  items-next at place i next finds e inside =
      items-are at place (i ∷ coming_on (items_from s) next) (∥∥₁_map (coming-listed i next e inside) (λ l. next_item finds l))

  module _ (all : AreOfKind s.view.kind s.view.units) where
    -- a search goes on at a place
    pub goes_on-place : (i : Item) → IsItemAtPlaces (reading_of s.view) i → (next : Option ℕ) → next ≡ goes_on program input i → IfSome next (IsPosition s)
    goes_on-place i inside next e =
        subst (λ o. IfSome o (IsPosition s)) (sym e)
        (cond_both (i.start == i.end) (option_map (λ x. x.1) (input.next Forward i.end)) (Some i.end) (λ o. IfSome o (IsPosition s))
        (λ _. by_next (input.next Forward i.end) refl) (λ _. inside.0.1))
      where
        by_next : (x : Option (ℕ × ℕ)) → input.next Forward i.end ≡ x → IfSome (option_map (λ x. x.1) x) (IsPosition s)
        by_next None f = tt
        by_next (Some x) f = next-place s.view all Forward i.end x.0 x.1 inside.0.1 f

  -- fewer places lie behind where a search goes on
  pub goes_on-nearer : (at : ℕ) → IsPosition s at → (i : Item) → Finds program input at (Some i) → IsItemAtPlaces (reading_of s.view) i
      → (next : Option ℕ) → next ≡ goes_on program input i → IfSome next (IsPosition s) → IfSome next (λ q. places_behind s q < places_behind s at)
  goes_on-nearer at place i finds inside None e there = tt
  goes_on-nearer at place i finds inside (Some q) e there =
      let from : at ≤ i.start = finds-from program input (moves s.view) finds in
      let past = goes_on-past program input (moves s.view) i inside.0.2 q (sym e) in
      behind-less s at q place there (omega (arith, from, past))

  -- a search that starts at an offset begins at a place, if at any
  pub start-place : AreOfKind s.view.kind s.view.units → (at p : ℕ) → Begins (reading_of s.view) at p → (o : Option ℕ) → o ≡ begins_at input at → IfSome o (IsPosition s)
  start-place all at p (inl (room, e)) o f =
      subst (λ x. IfSome x (IsPosition s)) (sym f)
      (cond_both (nat_le at (length input.units)) (Some at) None (λ x. IfSome x (IsPosition s)) (λ _. (p, room, sym e)) (λ _. tt))
  start-place all at p (inr (past, more)) o f =
      let last = end-is s.view all in
      let none : begins_at input at ≡ None = ap (λ (b : Bool). if b then Some at else None) (lt-leb at (length input.units) (omega (arith, more, last))) in
      subst (λ x. IfSome x (IsPosition s)) (sym (f ∙ none)) (tt)

  -- the items are those of each tree that the program is a layout of
  module _ (all : AreOfKind s.view.kind s.view.units) (is_made : IsMadeOf s.compiled s.view) (n : ℕ) (t : Tree) (formed : IsWellFormed n t) (layout : IsLayout (target_of s.compiled) n t) where
    runs : RunsAsTree program input (reading_of s.view) n t
    runs =
        runs_as_tree (target_of s.compiled) input (reading_of s.view) (tells s.view.kind s.view.table s.view.unicode s.view.units all)
        (λ none. tells_bytes s.view.kind s.view.table s.view.unicode s.view.units all (is_made.kind ∙ ap not none)) is_made.made (end-is s.view all) n t formed layout

    abbrev told_from : ℕ → List Item
    told_from p = map (told (reading_of s.view)) (node_match_list (context_of (reading_of s.view) input) n t p)

    pub items-of_tree : (p : ℕ) → p ≤ length (reading_of s.view).points → items_from s (offset (reading_of s.view) p) ≡ told_from p
    items-of_tree p room =
        items-are (offset (reading_of s.view) p) (p, room, refl) (told_from p)
        ∣ lists program input (reading_of s.view) (tells s.view.kind s.view.table s.view.unicode s.view.units all) n t runs p room ∣₁

    pub items-asked : (at p : ℕ) → Begins (reading_of s.view) at p → (o : Option ℕ) → o ≡ begins_at input at → coming_on (items_from s) o ≡ told_from p
    items-asked at p begins o e =
        same_items program s.view (begins_at input at) (coming_on (items_from s) o) (told_from p) (asked o e (start-place all at p begins o e))
        ∣ (lists-from_offset program input (reading_of s.view) (tells s.view.kind s.view.table s.view.unicode s.view.units all) n t runs (end-is s.view all) at p begins (told_from p)).1 refl ∣₁
      where
        asked : (o : Option ℕ) → o ≡ begins_at input at → IfSome o (IsPosition s) → ∥ Lists program input (begins_at input at) (coming_on (items_from s) o) ∥₁
        asked None e inside = ∣ subst (λ x. Lists program input x []) e (over) ∣₁
        asked (Some q) e inside = ∥∥₁_map (items-listed q inside) (λ l. subst (λ x. Lists program input x (items_from s q)) e l)

    -- the outcome of the run at a place is the tree's, told in offsets
    pub outcome-of_tree : (p : ℕ) → p ≤ length (reading_of s.view).points → (i : Option Item) → IsOutcome program input (offset (reading_of s.view) p) i
        → i ≡ option_map (told (reading_of s.view)) (node_attempt (context_of (reading_of s.view) input) n t p)
    outcome-of_tree p room i outcome =
        by_tree (agrees program input (reading_of s.view) (tells s.view.kind s.view.table s.view.unicode s.view.units all) n t runs p room) i outcome
      where
        at : ℕ
        at = offset (reading_of s.view) p

        attempted : Option Item
        attempted = node_attempt (context_of (reading_of s.view) input) n t p

        by_tree : ((attempted ≡ None) × Answers program input at None)
            ⊎ ((j : Item) × (w : Whole) × (attempted ≡ Some j) × Answers program input at (Some w) × (item_of_answer at w ≡ told (reading_of s.view) j))
            → (i : Option Item) → IsOutcome program input at i → i ≡ option_map (told (reading_of s.view)) attempted
        by_tree (inl (none, run)) None outcome = sym (ap (option_map (told (reading_of s.view))) none)
        by_tree (inl (none, run)) (Some x) (w, answers, same) = let e = one_answer program input at (Some w) None answers run in absurd (cc)
        by_tree (inr (j, w, some, run, told_as)) None outcome = let e = one_answer program input at None (Some w) outcome run in absurd (cc)
        by_tree (inr (j, w, some, run, told_as)) (Some x) (u, answers, same) =
            let e = one_answer program input at (Some u) (Some w) answers run in
            let one : u ≡ w = cc in
            ap (λ (y : Item). Some y) (sym same ∙ ap (item_of_answer at) one ∙ told_as) ∙ sym (ap (option_map (told (reading_of s.view))) some)

-- ---- over bytes

module _ (kind : Kind) (bytes : List ℕ) (are : are_bytes kind ≡ true) (all : AreOfKind kind bytes) where
  -- a place lies between characters
  boundary : (o : ℕ) → IsAtPlace (reading_of_kind kind bytes) o → IsCharBoundary bytes o
  boundary o (p, room, e) = subst (IsCharBoundary bytes) (sym e) (place-cut kind bytes are all p room)

  between : (r : Range ℕ) → AreAtPlaces (reading_of_kind kind bytes) (ends r) → LiesBetween bytes r
  between r inside = (inside.2, boundary r.start inside.0, boundary r.end inside.1)

  -- over bytes a match lies in the text, between characters
  pub match-in_bytes : (m : Match) → IsItemAtPlaces (reading_of_kind kind bytes) (item_of m) → LiesInText bytes m
  match-in_bytes m inside = (between m.range inside.0, of_groups (AreAtPlaces (reading_of_kind kind bytes)) (LiesBetween bytes) between m.captures.items inside.1)

-- ---- over an input, which shows what is read

some-where : (b : Bool) (at : ℕ) → then_some b at ≡ (if b then Some at else None)
some-where true at = refl
some-where false at = refl

-- A search from an offset found an item, and goes on from a position that is nearer to the end.
pub record WentOn (s : Search) (at : ℕ) (i : Item) (next : Option ℕ) : Type 0 where
  pub inside : IsItemAtPlaces (reading_of s.view) i
  pub position : IfSome next (IsPosition s)
  pub nearer : IfSome next (λ q. places_behind s q < places_behind s at)
  pub items : items_from s at ≡ i ∷ coming_on (items_from s) next

module _ (s : Search) (v : View) (shows : s.view ≡ v) (all : AreOfKind v.kind v.units) where
  pub shown-kind : AreOfKind s.view.kind s.view.units
  shown-kind = subst (λ w. AreOfKind w.kind w.units) (sym shows) all

  -- a position is a place of what is read
  pub read-place : (at : ℕ) → IsPosition s at → IsAtPlace (reading_of v) at
  read-place at place = subst (λ w. IsAtPlace (reading_of w) at) shows place

  -- where a search finds none, there are no items
  pub read-none : (at : ℕ) → IsPosition s at → Finds (program_of s.compiled) (input_of v) at None → items_from s at ≡ []
  read-none at place finds = items-none s at place (subst (λ w. Finds (program_of s.compiled) (input_of w) at None) (sym shows) finds)

  -- the item is the first, before those from where a search goes on, behind which fewer places lie
  pub goes-on : (at : ℕ) → IsPosition s at → (i : Item) (next : Option ℕ) → Finds (program_of s.compiled) (input_of v) at (Some i) → IsItemAtPlaces (reading_of v) i
      → next ≡ goes_on (program_of s.compiled) (input_of v) i → WentOn s at i next
  goes-on at place i next finds inside goes =
      let shown_finds : Finds (program_of s.compiled) (input_of s.view) at (Some i) = subst (λ w. Finds (program_of s.compiled) (input_of w) at (Some i)) (sym shows) finds in
      let shown_inside : IsItemAtPlaces (reading_of s.view) i = subst (λ w. IsItemAtPlaces (reading_of w) i) (sym shows) inside in
      let shown_goes : next ≡ goes_on (program_of s.compiled) (input_of s.view) i = subst (λ w. next ≡ goes_on (program_of s.compiled) (input_of w) i) (sym shows) goes in
      let position = goes_on-place s shown-kind i shown_inside next shown_goes in
      record {
        inside = shown_inside;
        position = position;
        nearer = goes_on-nearer s at place i shown_finds shown_inside next shown_goes position;
        items = items-next s at place i next shown_finds shown_goes position;
      }

  -- an offset that is no greater than the length is where a search begins
  pub read-starts : (at n : ℕ) (b : Bool) (o : Option ℕ) → n ≡ length v.units → b ≡ nat_le at n → o ≡ then_some b at → o ≡ begins_at (input_of s.view) at
  read-starts at n b o e test is =
      is ∙ some-where b at ∙ ap (λ (c : Bool). if c then Some at else None) (test ∙ ap (nat_le at) (e ∙ ap (λ (w : View). length w.units) (sym shows) ∙ ap length (sym (units-are s.view))))
