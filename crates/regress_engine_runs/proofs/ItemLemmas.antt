-- A search over runs finds the tree's items, told in offsets.
use Rattle.std.specs.Prelude.{slice_get, map, replicate, nat_le, IfSome}
use Rattle.std.proofs.Common.{◌≡◌, ◌⊎◌, inl, inr, ℕ, zero, suc, ◌+◌, ◌-◌, ◌<◌, ◌≤◌, Bool, List, [], ◌∷◌, length, Option, Some, None, get_or, option_map, if◌then◌else◌, refl, sym, ap, ap₂, ◌∙◌, subst, ◌↔◌, arith}
use Rattle.std.proofs.lemmas.Option.{IfSome_then, slice_get_within, slice_get-get_or}
use Rattle.std.proofs.lemmas.Bool.{cases_lt, eq-eqb, le-leb, lt-leb, ne_eqb}
use Rattle.regress_meaning.specs.Meaning.{State, Forward, Context}
use Rattle.regress_meaning.specs.Matches.{Item, item_at, next_place}
use Rattle.regress_meaning.specs.Offsets.{Reading, offset, offset_range, told, Begins}
use Rattle.regress_meaning.specs.Inputs.{Input, Tells, point_told, context_of}
use Rattle.regress_meaning.proofs.MatchLaws.{IsFrom, next_place-past}
use Rattle.regress_front_nodes.specs.Trees.{Tree}
use Rattle.regress_front_nodes.specs.TreeMeaning.{node_outcomes}
use Rattle.regress_front_nodes.specs.NodeMatches.{node_attempt, node_first_match, node_match_list}
use Rattle.regress_front_nodes.proofs.MatchLemmas.{first_match-found, first_match-more, first_match_past, matches_go, matches_end, attempt-is, first_match-from, first_match-inside}
use Rattle.regress_engine_insn.specs.Instructions.{Program}
use Rattle.regress_engine_runs.specs.States.{Marks, unset, range_of, Whole}
use Rattle.regress_engine_runs.specs.Stand.{StandsFor, IsFirst, RunsAsTree}
use Rattle.regress_engine_runs.specs.Items.{item_of, Answers, Finds, found, later, nowhere, goes_on, begins_at, Lists, over, no_item, next_item}
use Rattle.regress_engine_runs.proofs.Computed.{one_run}

-- marks that tell the same ranges, one by one, are the groups told
groups-told : (reading : Reading) (ms : List Marks) (gs : List (Option (ℕ × ℕ))) → length ms ≡ length gs
    → ((k : ℕ) → range_of (get_or ms k unset) ≡ option_map (offset_range reading) (get_or gs k None))
    → map range_of ms ≡ map (option_map (offset_range reading)) gs
groups-told reading [] [] e each = refl
groups-told reading [] (g ∷ gs) e each = absurd (omega (arith, e))
groups-told reading (m ∷ ms) [] e each = absurd (omega (arith, e))
groups-told reading (m ∷ ms) (g ∷ gs) e each =
    ap₂ (λ x (xs : List (Option (ℕ × ℕ))). x ∷ xs) (each 0) (groups-told reading ms gs (omega (arith, e)) (λ k. each (suc k)))

-- the item of an answer is that of the outcome it stands for, told
item-told : (reading : Reading) (p : ℕ) (s : State) (w : Whole) → StandsFor reading s w
    → item_of (offset reading p) w ≡ told reading (record { start = p; end = s.place; groups = s.groups })
item-told reading p s w h =
    let item : ℕ → List (Option (ℕ × ℕ)) → Item = λ e gs. record { start = offset reading p; end = e; groups = gs } in
    ap₂ item h.place (groups-told reading w.groups s.groups h.count h.groups)

module _ (program : Program) (input : Input) (reading : Reading) (tells : Tells reading input) (n : ℕ) (t : Tree) (runs : RunsAsTree program input reading n t) where
  abbrev context : Context
  context = context_of reading input

  abbrev size : ℕ
  size = length reading.points

  abbrev found_from : ℕ → Option Item
  found_from p = option_map (told reading) (node_first_match context n t p)

  -- what stands behind a place
  next-some : (p c : ℕ) → p ≤ size → slice_get reading.points p ≡ Some c → input.next Forward (offset reading p) ≡ Some (c, offset reading (suc p))
  next-some p c room e = tells.next Forward p room ∙ ap (λ (o : Option ℕ). option_map (point_told reading) (option_map (λ c. (c, suc p)) o)) e

  next-none : (p : ℕ) → p ≤ size → slice_get reading.points p ≡ None → input.next Forward (offset reading p) ≡ None
  next-none p room e = tells.next Forward p room ∙ ap (λ (o : Option ℕ). option_map (point_told reading) (option_map (λ c. (c, suc p)) o)) e

  -- What a place has, in the tree and in the run that begins there.
  abbrev pub Agrees : ℕ → Type 0
  Agrees p =
      ((node_attempt context n t p ≡ None) × Answers program input (offset reading p) None)
      ⊎ ((i : Item) × (w : Whole) × (node_attempt context n t p ≡ Some i) × Answers program input (offset reading p) (Some w) × (item_of (offset reading p) w ≡ told reading i))

  pub agrees : (p : ℕ) → p ≤ size → Agrees p
  agrees p room =
      let x = runs p room in
      let s : State = record { place = p; groups = replicate n None } in
      let unset_all : List (Option (ℕ × ℕ)) = replicate n None in
      by_list (node_outcomes context t Forward s) (attempt-is context n t p unset_all (node_outcomes context t Forward s) refl refl) x.0 x.1 x.2
    where
      by_list : (ss : List State) → node_attempt context n t p ≡ item_at p ss → (r : Option Whole) → Answers program input (offset reading p) r
          → IsFirst reading ss r → Agrees p
      by_list [] e r run first = inl (e, subst (Answers program input (offset reading p)) first run)
      by_list (s ∷ ss) e r run (w, same, stands) =
          inr (record { start = p; end = s.place; groups = s.groups }, w, e, subst (Answers program input (offset reading p)) same run, item-told reading p s w stands)

  -- it is found at the place itself
  finds_here : (p : ℕ) (i : Item) (w : Whole) → p ≤ size → node_attempt context n t p ≡ Some i → Answers program input (offset reading p) (Some w)
      → item_of (offset reading p) w ≡ told reading i → Finds program input (offset reading p) (found_from p)
  finds_here p i w room e run same =
      let first : found_from p ≡ Some (told reading i) = ap (option_map (told reading)) (first_match-found context n t p i room e) in
      subst (Finds program input (offset reading p)) (ap (λ (x : Item). Some x) same ∙ sym first) (found run)

  -- a search from a place, with so many places behind it
  finds_from : (k p : ℕ) → p + k ≡ size → Finds program input (offset reading p) (found_from p)
  finds_from zero p e = by_run (agrees p (omega (arith, e)))
    where
      by_next : (o : Option ℕ) → slice_get reading.points p ≡ o → node_attempt context n t p ≡ None → Answers program input (offset reading p) None
          → Finds program input (offset reading p) (found_from p)
      by_next (Some c) g none run = let less : p < size = slice_get_within reading.points p c g in absurd (omega arith)
      by_next None g none run =
          let last : found_from p ≡ None =
          ap (option_map (told reading)) (first_match-more context n t p (omega (arith, e)) none ∙ first_match_past context n t (p + 1) (omega (arith, e))) in
          subst (Finds program input (offset reading p)) (sym last) (nowhere run (next-none p (omega (arith, e)) g))

      by_run : Agrees p → Finds program input (offset reading p) (found_from p)
      by_run (inl (none, run)) = by_next (slice_get reading.points p) refl none run
      by_run (inr (i, w, f, run, same)) = finds_here p i w (omega (arith, e)) f run same
  finds_from (suc k) p e = by_run (agrees p (omega (arith, e))) (finds_from k (suc p) (omega (arith, e)))
    where
      by_run : Agrees p → Finds program input (offset reading (suc p)) (found_from (suc p)) → Finds program input (offset reading p) (found_from p)
      by_run (inl (none, run)) rest =
          let next : p + 1 ≡ suc p = omega arith in
          let more : found_from p ≡ found_from (suc p) =
          ap (option_map (told reading)) (first_match-more context n t p (omega (arith, e)) none ∙ ap (node_first_match context n t) next) in
          subst (Finds program input (offset reading p)) (sym more)
          (later run (next-some p (get_or reading.points p 0) (omega (arith, e)) (slice_get-get_or reading.points p 0 (omega (arith, e)))) rest)
      by_run (inr (i, w, f, run, same)) rest = finds_here p i w (omega (arith, e)) f run same

  -- A search from a place finds the tree's first item from there on, told in offsets.
  pub finds : (p : ℕ) → p ≤ size → Finds program input (offset reading p) (found_from p)
  finds p room = finds_from (size - p) p (omega arith)

  -- the offset of a place, if that lies in the text
  abbrev pub offset_in : ℕ → Option ℕ
  offset_in p = if nat_le p size then Some (offset reading p) else None

  offset_in-in : (p : ℕ) → p ≤ size → offset_in p ≡ Some (offset reading p)
  offset_in-in p room = ap (λ (b : Bool). if b then Some (offset reading p) else None) (le-leb p size room)

  offset_in-past : (p : ℕ) → size < p → offset_in p ≡ None
  offset_in-past p more = ap (λ (b : Bool). if b then Some (offset reading p) else None) (lt-leb p size more)

  -- going on behind an item that takes nothing, or something, as told and as it is
  abbrev on : Item → Bool → Option ℕ
  on i b = if b then option_map (λ (x : ℕ × ℕ). x.1) (input.next Forward (offset reading i.end)) else Some (offset reading i.end)

  abbrev on_place : Item → Bool → ℕ
  on_place i b = if b then i.start + 1 else i.end

  -- going on behind an item told in offsets is going on behind the item
  goes_on-told : (i : Item) → i.start ≤ i.end → i.end ≤ size → goes_on program input (told reading i) ≡ offset_in (next_place i)
  goes_on-told i order room = by_ends (cases_lt i.start i.end)
    where
      by_next : i.start ≡ i.end → (o : Option ℕ) → slice_get reading.points i.end ≡ o
          → option_map (λ (x : ℕ × ℕ). x.1) (input.next Forward (offset reading i.end)) ≡ offset_in (i.start + 1)
      by_next same None e =
          let full : size ≤ i.end = by_room (cases_lt i.end size) in
          ap (option_map (λ (x : ℕ × ℕ). x.1)) (next-none i.end room e) ∙ sym (offset_in-past (i.start + 1) (omega (arith, full, same)))
        where
          by_room : (i.end < size) ⊎ (size ≤ i.end) → size ≤ i.end
          by_room (inl less) = let h = slice_get-get_or reading.points i.end 0 less in absurd (cc)
          by_room (inr full) = full
      by_next same (Some c) e =
          let less : i.end < size = slice_get_within reading.points i.end c e in
          let next : suc i.end ≡ i.start + 1 = omega (arith, same) in
          ap (option_map (λ (x : ℕ × ℕ). x.1)) (next-some i.end c room e) ∙ ap (λ p. Some (offset reading p)) next ∙ sym (offset_in-in (i.start + 1) (omega (arith, same)))

      by_ends : (i.start < i.end) ⊎ (i.end ≤ i.start) → goes_on program input (told reading i) ≡ offset_in (next_place i)
      by_ends (inl less) =
          let h = tells.rise i.start i.end less room in
          ap (on i) (ne_eqb (offset reading i.start) (offset reading i.end) (λ e. absurd (omega (arith, e, h))))
          ∙ sym (offset_in-in i.end room) ∙ ap (λ b. offset_in (on_place i b)) (sym (ne_eqb i.start i.end (λ e. absurd (omega (arith, e)))))
      by_ends (inr no_less) =
          let same : i.start ≡ i.end = omega arith in
          ap (on i) (eq-eqb (offset reading i.start) (offset reading i.end) (ap (offset reading) same))
          ∙ by_next same (slice_get reading.points i.end) refl ∙ ap (λ b. offset_in (on_place i b)) (sym (eq-eqb i.start i.end same))

  -- the items from a place on
  abbrev told_from : ℕ → List Item
  told_from p = map (told reading) (node_match_list context n t p)

  -- behind the text there are none
  lists_past : (p : ℕ) → size < p → Lists program input (offset_in p) (told_from p)
  lists_past p more =
      let empty : told_from p ≡ [] = ap (map (told reading)) (matches_end context n t p (first_match_past context n t p more)) in
      rw (offset_in-past p more, empty) (over)

  -- the first match ends in the text
  first-ends : (p : ℕ) → IfSome (node_first_match context n t p) (λ i. i.end ≤ size)
  first-ends p = IfSome_then (node_first_match context n t p) (first_match-inside context n t p) (λ i h. h.0.range.1)

  lists_from : (k p : ℕ) → size < p + k → Lists program input (offset_in p) (told_from p)
  lists_from zero p more = lists_past p (omega arith)
  lists_from (suc k) p more = by_room (cases_lt size p) (lists_from k)
    where
      by_item : p ≤ size → (o : Option Item) → node_first_match context n t p ≡ o → IfSome o (IsFrom p) → IfSome o (λ i. i.end ≤ size)
          → ((q : ℕ) → size < q + k → Lists program input (offset_in q) (told_from q)) → Lists program input (offset_in p) (told_from p)
      by_item room None e from ends rest =
          let empty : told_from p ≡ [] = ap (map (told reading)) (matches_end context n t p e) in
          let search : Finds program input (offset reading p) None = subst (Finds program input (offset reading p)) (ap (option_map (told reading)) e) (finds p room) in
          rw (offset_in-in p room, empty) (no_item search)
      by_item room (Some i) e from ends rest =
          let first : told_from p ≡ told reading i ∷ told_from (next_place i) = ap (map (told reading)) (matches_go context n t p i e) in
          let search : Finds program input (offset reading p) (Some (told reading i)) = subst (Finds program input (offset reading p)) (ap (option_map (told reading)) e) (finds p room) in
          let farther = (next_place-past i from.end).0 in
          let tail : Lists program input (goes_on program input (told reading i)) (told_from (next_place i)) =
          subst (λ (o : Option ℕ). Lists program input o (told_from (next_place i))) (sym (goes_on-told i from.end ends)) (rest (next_place i) (omega (arith, farther, from.start))) in
          rw (offset_in-in p room, first) (next_item search tail)

      by_room : (size < p) ⊎ (p ≤ size) → ((q : ℕ) → size < q + k → Lists program input (offset_in q) (told_from q)) → Lists program input (offset_in p) (told_from p)
      by_room (inl past) rest = lists_past p past
      by_room (inr room) rest = by_item room (node_first_match context n t p) refl (first_match-from context n t p) (first-ends p) rest

  -- Searches from a place, each going on behind the item before, list the tree's items from there on, told in offsets.
  pub lists : (p : ℕ) → p ≤ size → Lists program input (Some (offset reading p)) (told_from p)
  lists p room = subst (λ (o : Option ℕ). Lists program input o (told_from p)) (offset_in-in p room) (lists_from (size + 1) p (omega arith))

-- What a search finds, and what searches list, is determined.
module _ (program : Program) (input : Input) where
  pub one_answer : (at : ℕ) (r q : Option Whole) → Answers program input at r → Answers program input at q → r ≡ q
  one_answer at r q h k = (one_run program input h.1 k.1).1

  -- how a search may have come to what it found
  abbrev Came : ℕ → Option Item → Type 0
  Came at i =
      ((w : Whole) × Answers program input at (Some w) × (i ≡ Some (item_of at w)))
      ⊎ (Answers program input at None × (((c next : ℕ) × (input.next Forward at ≡ Some (c, next)) × Finds program input next i) ⊎ ((input.next Forward at ≡ None) × (i ≡ None))))

  came : {at : ℕ} {i : Option Item} → Finds program input at i → Came at i
  came (found {w = w} a) = inl (w, a, refl)
  came (later {c = c} {next = next} a e h) = inr (a, inl (c, next, e, h))
  came (nowhere a e) = inr (a, inr (e, refl))

  pub one_find : {at : ℕ} {i j : Option Item} → Finds program input at i → Finds program input at j → i ≡ j
  one_find {at = at} {j = j} (found {w = w} a) k = by_case (came k)
    where
      by_case : Came at j → Some (item_of at w) ≡ j
      by_case (inl (v, b, e)) = let f = one_answer at (Some w) (Some v) a b in let g : w ≡ v = cc in ap (λ x. Some (item_of at x)) g ∙ sym e
      by_case (inr (b, other)) = let f = one_answer at (Some w) None a b in absurd (cc)
  one_find {at = at} {i = i} {j = j} (later {c = c} {next = next} a e h) k = by_case (came k) (λ x. one_find h x)
    where
      by_case : Came at j → (Finds program input next j → i ≡ j) → i ≡ j
      by_case (inl (v, b, g)) rest = let f = one_answer at None (Some v) a b in absurd (cc)
      by_case (inr (b, inl (d, m, g, l))) rest =
          let x : ◌≡◌ {A = Option (ℕ × ℕ)} (Some (d, m)) (Some (c, next)) = sym g ∙ e in
          let z : ◌≡◌ {A = ℕ × ℕ} (d, m) (c, next) = cc in
          let y : m ≡ next = ap (λ (v : ℕ × ℕ). v.1) z in
          rest (subst (λ q. Finds program input q j) y l)
      by_case (inr (b, inr (g, l))) rest = absurd (cc)
  one_find {at = at} {j = j} (nowhere a e) k = by_case (came k)
    where
      by_case : Came at j → None ≡ j
      by_case (inl (v, b, g)) = let f = one_answer at None (Some v) a b in absurd (cc)
      by_case (inr (b, inl (d, m, g, l))) = absurd (cc)
      by_case (inr (b, inr (g, l))) = sym l

  -- how a list of items may have come about
  abbrev Listed : Option ℕ → List Item → Type 0
  Listed None items = items ≡ []
  Listed (Some at) [] = Finds program input at None
  Listed (Some at) (i ∷ items) = Finds program input at (Some i) × Lists program input (goes_on program input i) items

  listed : {o : Option ℕ} {items : List Item} → Lists program input o items → Listed o items
  listed over = refl
  listed (no_item h) = h
  listed (next_item h k) = (h, k)

  pub one_list : {o : Option ℕ} {items others : List Item} → Lists program input o items → Lists program input o others → items ≡ others
  one_list {others = others} over k = sym (listed k)
  one_list {others = others} (no_item {at = at} h) k = by_list others (listed k)
    where
      by_list : (others : List Item) → Listed (Some at) others → [] ≡ others
      by_list [] l = refl
      by_list (j ∷ others) l = let f = one_find h l.0 in absurd (cc)
  one_list {others = others} (next_item {at = at} {i = i} {items = items} h rest) k = by_list others (listed k) (λ ls l. one_list rest l)
    where
      by_list : (others : List Item) → Listed (Some at) others → ((ls : List Item) → Lists program input (goes_on program input i) ls → items ≡ ls) → (i ∷ items) ≡ others
      by_list [] l same = let f = one_find h l in absurd (cc)
      by_list (j ∷ others) l same =
          let f = one_find h l.0 in
          let g : i ≡ j = cc in
          ap₂ (λ x (xs : List Item). x ∷ xs) g (same others (subst (λ x. Lists program input (goes_on program input x) others) (sym g) l.1))

-- Any search from a place finds just that, and searches list just that.
module _ (program : Program) (input : Input) (reading : Reading) (tells : Tells reading input) (n : ℕ) (t : Tree) (runs : RunsAsTree program input reading n t) where
  pub finds-exactly : (p : ℕ) → p ≤ length reading.points → (o : Option Item)
      → Finds program input (offset reading p) o ↔ (o ≡ option_map (told reading) (node_first_match (context_of reading input) n t p))
  finds-exactly p room o =
      let own = finds program input reading tells n t runs p room in
      (λ h. one_find program input h own, λ e. subst (Finds program input (offset reading p)) (sym e) own)

  pub lists-exactly : (p : ℕ) → p ≤ length reading.points → (items : List Item)
      → Lists program input (Some (offset reading p)) items ↔ (items ≡ map (told reading) (node_match_list (context_of reading input) n t p))
  lists-exactly p room items =
      let own = lists program input reading tells n t runs p room in
      (λ h. one_list program input h own, λ e. subst (Lists program input (Some (offset reading p))) (sym e) own)

-- The first match is the head of the match list.
pub first-is-head : (context : Context) (n : ℕ) (t : Tree) (f : Item → Item) (p : ℕ) → slice_get (map f (node_match_list context n t p)) 0 ≡ option_map f (node_first_match context n t p)
first-is-head context n t f p = by_first (node_first_match context n t p) refl
  where
    by_first : (o : Option Item) → node_first_match context n t p ≡ o → slice_get (map f (node_match_list context n t p)) 0 ≡ option_map f o
    by_first None e = ap (λ (l : List Item). slice_get (map f l) 0) (matches_end context n t p e)
    by_first (Some i) e = ap (λ (l : List Item). slice_get (map f l) 0) (matches_go context n t p i e)

-- The same where the search is asked for from an offset, which may lie past the end.
module _ (program : Program) (input : Input) (reading : Reading) (tells : Tells reading input) (n : ℕ) (t : Tree) (runs : RunsAsTree program input reading n t)
    (ended : offset reading (length reading.points) ≡ length input.units) where
  abbrev AreTold : ℕ → Option ℕ → List Item → Type 0
  AreTold p o items = Lists program input o items ↔ (items ≡ map (told reading) (node_match_list (context_of reading input) n t p))

  -- a place's offset is one of the text's
  offset-low : (p : ℕ) → p ≤ length reading.points → offset reading p ≤ length input.units
  offset-low p room = by_place (cases_lt p (length reading.points))
    where
      by_place : (p < length reading.points) ⊎ (length reading.points ≤ p) → offset reading p ≤ length input.units
      by_place (inl less) = let h = tells.rise p (length reading.points) less (omega arith) in omega (arith, h, ended)
      by_place (inr full) = let same : p ≡ length reading.points = omega arith in let h = ap (offset reading) same in omega (arith, h, ended)

  pub lists-from_offset : (at p : ℕ) → Begins reading at p → (items : List Item) → AreTold p (begins_at input at) items
  lists-from_offset at p (inl (room, e)) items =
      let low = offset-low p room in
      let b : begins_at input at ≡ Some (offset reading p) =
      ap (λ (c : Bool). if c then Some at else None) (le-leb at (length input.units) (omega (arith, e, low))) ∙ ap (λ o. Some o) (sym e) in
      subst (λ o. AreTold p o items) (sym b) (lists-exactly program input reading tells n t runs p room items)
  lists-from_offset at p (inr (past, more)) items =
      let b : begins_at input at ≡ None = ap (λ (c : Bool). if c then Some at else None) (lt-leb at (length input.units) (omega (arith, more, ended))) in
      let empty : map (told reading) (node_match_list (context_of reading input) n t p) ≡ [] =
      ap (map (told reading)) (matches_end (context_of reading input) n t p (first_match_past (context_of reading input) n t p (omega (arith, past)))) in
      let none : Lists program input None [] = over in
      subst (λ o. AreTold p o items) (sym b) (subst (λ l. Lists program input None items ↔ (items ≡ l)) (sym empty)
      (λ h. one_list program input h none, λ e. subst (Lists program input None) (sym e) none))

-- A search may skip places whose runs have no answer.
module _ (program : Program) (input : Input) (reading : Reading) (tells : Tells reading input) where
  pub skips : (k p : ℕ) → p + k ≤ length reading.points → ((x : ℕ) → p ≤ x → x < p + k → Answers program input (offset reading x) None)
      → (o : Option Item) → Finds program input (offset reading (p + k)) o → Finds program input (offset reading p) o
  skips zero p room none o h = subst (λ q. Finds program input (offset reading q) o) (omega arith) h
  skips (suc k) p room none o h =
      let e : p + suc k ≡ suc p + k = omega arith in
      let c : ℕ = get_or reading.points p 0 in
      let own : slice_get reading.points p ≡ Some c = slice_get-get_or reading.points p 0 (omega (arith, room)) in
      later (none p (omega arith) (omega arith))
      (tells.next Forward p (omega (arith, room)) ∙ ap (λ (o : Option ℕ). option_map (point_told reading) (option_map (λ c. (c, suc p)) o)) own)
      (skips k (suc p) (omega (arith, room)) (λ x low high. none x (omega (arith, low)) (omega (arith, high))) o (subst (λ q. Finds program input (offset reading q) o) e h))
