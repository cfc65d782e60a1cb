-- Entering a repetition of what takes one character.
use Rattle.std.specs.Prelude.{slice_get, filter}
use Rattle.std.specs.List.{list_all}
use Rattle.std.proofs.Common.{◌≡◌, ◌⊎◌, inl, inr, ℕ, zero, suc, ◌-◌, ◌≤◌, not, Bool, true, false, List, [], ◌∷◌, ◌++◌, length, map, reverse, drop, flat_map, Option, Some, None, if◌then◌else◌, option_map, option_and_then, refl, sym, ap, ◌∙◌, subst, arith}
use Rattle.std.proofs.lemmas.List.{append-nil, drop-map, reverse-append}
use Rattle.std.proofs.lemmas.Option.{slice_get_within}
use Rattle.std.proofs.lemmas.Bool.{ne_eqb}
use Rattle.regress_meaning.specs.Meaning.{State, Direction, Forward, Backward, Context, iterations, moved, step, stepped}
use Rattle.regress_meaning.specs.Offsets.{Reading, offset}
use Rattle.regress_meaning.specs.Laws.{IsAhead}
use Rattle.regress_meaning.specs.Inputs.{Input, Tells, neighbour, point_told, context_of}
use Rattle.regress_meaning.specs.Steps.{passed}
use Rattle.regress_meaning.proofs.StepLaws.{IsAhead-same, IsAhead-then}
use Rattle.regress_front_nodes.specs.Trees.{Tree}
use Rattle.regress_front_nodes.specs.Trees as tree
use Rattle.regress_front_nodes.specs.TreeMeaning.{node_outcomes, direction}
use Rattle.regress_front_nodes.proofs.SequenceLemmas.{in_reading_order-map}
use Rattle.regress_engine_insn.specs.Instructions.{Program, Instruction, Stands}
use Rattle.regress_engine_insn.specs.Instructions as code
use Rattle.regress_engine_insn.specs.Layout.{ProgramPoint, next, Target}
use Rattle.regress_engine_runs.specs.States.{Whole, Marks}
use Rattle.regress_engine_runs.specs.Runs.{advance, after_times, as_far, one_by_one, given_back, counted, successors}
use Rattle.regress_engine_runs.specs.Stand.{StandsFor}
use Rattle.regress_engine_runs.proofs.RunLemmas.{Expands, steps}
use Rattle.regress_engine_runs.proofs.Leading.{Leads, Pairwise, Pairwise-append, Pairwise-weaker, leads_at_once, first_expand}
use Rattle.regress_engine_runs.proofs.Places.{occurs, Arrives, Keeps-all}
use Rattle.regress_engine_runs.proofs.Entering.{Enters, standing}
use Rattle.regress_engine_runs.proofs.Neighbours.{Beside, neighbours, all-one}
use Rattle.regress_engine_runs.proofs.GivingBack.{ahead, HasPlace, offset_ahead, ahead-none, ahead-on, HasPlace-none, HasPlace-here, HasPlace-on, given_back-none, given_back-further}

-- in the order of preference
abbrev preferred : {A : Type 0} → Bool → List A → List A
preferred greedy xs = if greedy then reverse xs else xs

preferred-none : {A : Type 0} (greedy : Bool) (n : ℕ) → let none : List A = [] in preferred greedy (drop n none) ≡ none
preferred-none true zero = refl
preferred-none true (suc n) = refl
preferred-none false zero = refl
preferred-none false (suc n) = refl

preferred-first : {A : Type 0} (greedy : Bool) (x : A) (xs : List A) → (if greedy then preferred greedy xs ++ x ∷ [] else x ∷ preferred greedy xs) ≡ preferred greedy (x ∷ xs)
preferred-first true x xs = sym (reverse-append (x ∷ []) xs)
preferred-first false x xs = refl

preferred-map : {A B : Type 0} (f : A → B) (greedy : Bool) (xs : List A) → preferred greedy (map f xs) ≡ map f (preferred greedy xs)
preferred-map f greedy xs = sym (in_reading_order-map f greedy xs)

map-again : {A B C : Type 0} (g : B → C) (f : A → B) (xs : List A) → map g (map f xs) ≡ map (λ x. g (f x)) xs
map-again g f [] = refl
map-again g f (x ∷ xs) = ap (λ ys. g (f x) ∷ ys) (map-again g f xs)

Pairwise-drop : (R : State → Whole → Type 0) (n : ℕ) (ss : List State) (ws : List Whole) → Pairwise R ss ws → Pairwise R (drop n ss) (drop n ws)
Pairwise-drop R zero ss ws h = h
Pairwise-drop R (suc n) [] [] h = h
Pairwise-drop R (suc n) [] (w ∷ ws) h = absurd h
Pairwise-drop R (suc n) (s ∷ ss) [] h = absurd h
Pairwise-drop R (suc n) (s ∷ ss) (w ∷ ws) h = Pairwise-drop R n ss ws h.1

Pairwise-reverse : (R : State → Whole → Type 0) (ss : List State) (ws : List Whole) → Pairwise R ss ws → Pairwise R (reverse ss) (reverse ws)
Pairwise-reverse R [] [] h = h
Pairwise-reverse R [] (w ∷ ws) h = absurd h
Pairwise-reverse R (s ∷ ss) [] h = absurd h
Pairwise-reverse R (s ∷ ss) (w ∷ ws) h =
    subst (λ us. Pairwise R us (reverse (w ∷ ws))) (sym (reverse-append (s ∷ []) ss))
    (subst (Pairwise R (reverse ss ++ s ∷ [])) (sym (reverse-append (w ∷ []) ws)) (Pairwise-append R (reverse ss) (reverse ws) (s ∷ []) (w ∷ []) (Pairwise-reverse R ss ws h.1) (h.0, tt)))

Pairwise-preferred : (R : State → Whole → Type 0) (greedy : Bool) (ss : List State) (ws : List Whole) → Pairwise R ss ws → Pairwise R (preferred greedy ss) (preferred greedy ws)
Pairwise-preferred R true ss ws h = Pairwise-reverse R ss ws h
Pairwise-preferred R false ss ws h = h

Pairwise-map : (R Q : State → Whole → Type 0) (f : Whole → Whole) → ((s : State) (w : Whole) → R s w → Q s (f w)) → (ss : List State) (ws : List Whole) → Pairwise R ss ws → Pairwise Q ss (map f ws)
Pairwise-map R Q f on [] [] h = h
Pairwise-map R Q f on [] (w ∷ ws) h = absurd h
Pairwise-map R Q f on (s ∷ ss) [] h = absurd h
Pairwise-map R Q f on (s ∷ ss) (w ∷ ws) h = (on s w h.0, Pairwise-map R Q f on ss ws h.1)

module _ (context : Context) (dir : Direction) (test : ℕ → Bool) where
  -- the state behind the code point, where that passes
  abbrev passes : State → Option (ℕ × ℕ) → Option State
  passes s None = None
  passes s (Some (c, q)) = if test c then Some (record s { place = q }) else None

  abbrev next_state : State → Option State
  next_state s = passes s (neighbour context.text dir s.place)

  -- the states after one, two and so on
  states_taken : ℕ → State → List State
  states_taken zero s = []
  states_taken (suc n) s = elim (next_state s) [ None ↦ [] | Some t ↦ t ∷ states_taken n t ]

  abbrev as_list : Option State → List State
  as_list None = []
  as_list (Some t) = t ∷ []

  -- a step is to the next state, which is another and inside
  abbrev Next : State → Option State → Type 0
  Next s None = Unit {0}
  Next s (Some t) = (moved s t ≡ true) × (t.place ≤ length context.text) × IsAhead dir s.place t.place

  one_step : (s : State) → s.place ≤ length context.text → (step context dir 1 (list_all test) s ≡ as_list (next_state s)) × Next s (next_state s)
  unfolding step
  one_step s room = by_place (neighbours context dir s.place room)
    where
      by_place : Beside context dir s.place → (step context dir 1 (list_all test) s ≡ as_list (next_state s)) × Next s (next_state s)
      by_place (inl (none, none')) =
          (ap (stepped (list_all test) s) none' ∙ ap (λ o. as_list (passes s o)) (sym none), subst (λ o. Next s (passes s o)) (sym none) tt)
      by_place (inr (c, q, one, one', inside, ahead, apart)) = (
        ap (stepped (list_all test) s) one' ∙ ap (λ b. if b then record s { place = q } ∷ [] else []) (all-one test c) ∙ by_test (test c) ∙ ap (λ o. as_list (passes s o)) (sym one),
        subst (λ o. Next s (passes s o)) (sym one) (told (test c)),
      )
        where
          by_test : (b : Bool) → (if b then record s { place = q } ∷ [] else []) ≡ as_list (if b then Some (record s { place = q }) else None)
          by_test true = refl
          by_test false = refl

          told : (b : Bool) → Next s (if b then Some (record s { place = q }) else None)
          told true = (ap not (ne_eqb s.place q (λ e. apart (sym e))), inside, ahead)
          told false = tt

  -- a state, if any, and those after it
  abbrev with_more : ℕ → Option State → List State
  with_more n o = elim o [ None ↦ [] | Some t ↦ t ∷ states_taken n t ]

  -- where one more is needed
  needed : (go : State → List State) (greedy : Bool) (left need : ℕ) (s : State) (o : Option State) → Next s o
      → ((t : State) → t.place ≤ length context.text → go t ≡ preferred greedy (drop need (t ∷ states_taken left t)))
      → flat_map go (as_list o) ≡ preferred greedy (drop need (with_more left o))
  needed go greedy left need s None k rest = sym (preferred-none greedy need)
  needed go greedy left need s (Some t) k rest = append-nil (go t) ∙ rest t k.1

  -- where none is needed
  free : (go : State → List State) (greedy : Bool) (left : ℕ) (s : State) (o : Option State) → Next s o
      → ((t : State) → t.place ≤ length context.text → go t ≡ preferred greedy (t ∷ states_taken left t))
      → (if greedy then flat_map go (filter (moved s) (as_list o)) ++ s ∷ [] else s ∷ flat_map go (filter (moved s) (as_list o)))
      ≡ preferred greedy (s ∷ with_more left o)
  free go true left s None k rest = refl
  free go false left s None k rest = refl
  free go greedy left s (Some t) k rest =
      let kept : filter (moved s) (t ∷ []) ≡ t ∷ [] = ap (λ b. if b then t ∷ [] else []) k.0 in
      let there : flat_map go (filter (moved s) (t ∷ [])) ≡ preferred greedy (t ∷ states_taken left t) = ap (flat_map go) kept ∙ append-nil (go t) ∙ rest t k.1 in
      ap (λ xs. if greedy then xs ++ s ∷ [] else s ∷ xs) there ∙ preferred-first greedy s (t ∷ states_taken left t)

  -- each repetition of one step leads along the states, the most preferred number first
  along : (f : State → List State) → ((s : State) → s.place ≤ length context.text → f s ≡ step context dir 1 (list_all test) s) → (greedy : Bool) (left need : ℕ) → need ≤ left
      → (s : State) → s.place ≤ length context.text → iterations f greedy left need s ≡ preferred greedy (drop need (s ∷ states_taken left s))
  unfolding iterations states_taken
  along f steps greedy zero zero few s room = alone greedy
    where
      alone : (g : Bool) → s ∷ [] ≡ preferred g (s ∷ [])
      alone true = refl
      alone false = refl
  along f steps greedy zero (suc need) few s room = absurd (omega arith)
  along f steps greedy (suc left) (suc need) few s room =
      let step-is = one_step s room in
      ap (flat_map (iterations f greedy left need)) (steps s room ∙ step-is.0)
      ∙ needed (iterations f greedy left need) greedy left need s (next_state s) step-is.1 (λ t inside. along f steps greedy left need (omega arith) t inside)
  along f steps greedy (suc left) zero few s room =
      let step-is = one_step s room in
      let go : State → List State = iterations f greedy left zero in
      ap (λ us. if greedy then flat_map go (filter (moved s) us) ++ s ∷ [] else s ∷ flat_map go (filter (moved s) us)) (steps s room ∙ step-is.0)
      ∙ free go greedy left s (next_state s) step-is.1 (λ t inside. along f steps greedy left zero (omega arith) t inside)

-- the state at another offset
abbrev at_offset : Whole → ℕ → Whole
at_offset w o = record w { offset = o }

module _ (program : Program) (input : Input) (i : Instruction) (dir : Direction) where
  -- the states behind one iteration of an instruction, behind two and so on, at most so many
  unfoldable taken : ℕ → Whole → List Whole
  taken zero s = []
  taken (suc n) s = elim (advance program input i dir s.groups s.offset) [ None ↦ [] | Some o ↦ at_offset s o ∷ taken n (at_offset s o) ]

  -- the first state and they are at the offsets one by one
  taken-offsets : (n : ℕ) (w : Whole) → w ∷ taken n w ≡ map (at_offset w) (one_by_one program input n i dir w.groups w.offset)
  unfolding taken one_by_one
  taken-offsets zero w = refl
  taken-offsets (suc n) w = ap (λ ws. w ∷ ws) (by_next (advance program input i dir w.groups w.offset) (λ o. taken-offsets n (at_offset w o)))
    where
      by_next : (o : Option ℕ) → ((q : ℕ) → at_offset w q ∷ taken n (at_offset w q) ≡ map (at_offset (at_offset w q)) (one_by_one program input n i dir w.groups q))
          → elim o [ None ↦ [] | Some q ↦ at_offset w q ∷ taken n (at_offset w q) ]
          ≡ map (at_offset w) (elim o [ None ↦ [] | Some q ↦ one_by_one program input n i dir w.groups q ])
      by_next None rest = refl
      by_next (Some q) rest = rest q

  -- behind the least number come those from there on, one by one
  from_least : (least most : ℕ) (groups : List Marks) (o : ℕ) → least ≤ most → drop least (one_by_one program input most i dir groups o)
      ≡ elim (after_times program input least i dir groups o) [ None ↦ [] | Some near ↦ one_by_one program input (most - least) i dir groups near ]
  unfolding one_by_one after_times
  from_least zero most groups o few = let e : most - 0 ≡ most = omega arith in ap (λ n. one_by_one program input n i dir groups o) (sym e)
  from_least (suc least) zero groups o few = absurd (omega arith)
  from_least (suc least) (suc most) groups o few =
      by_next (advance program input i dir groups o) (λ q. from_least least most groups q (omega arith))
      ∙ ap (λ n. elim (option_and_then (after_times program input least i dir groups) (advance program input i dir groups o)) [ None ↦ [] | Some near ↦ one_by_one program input n i dir groups near ]) same
    where
      same : most - least ≡ suc most - suc least
      same = omega arith

      drop-none : (n : ℕ) → let none : List ℕ = [] in drop n none ≡ none
      drop-none zero = refl
      drop-none (suc n) = refl

      those : Option ℕ → List ℕ
      those x = elim x [ None ↦ [] | Some q ↦ one_by_one program input most i dir groups q ]

      by_next : (x : Option ℕ) → ((q : ℕ) → drop least (one_by_one program input most i dir groups q)
          ≡ elim (after_times program input least i dir groups q) [ None ↦ [] | Some near ↦ one_by_one program input (most - least) i dir groups near ])
          → drop least (those x)
          ≡ elim (option_and_then (after_times program input least i dir groups) x) [ None ↦ [] | Some near ↦ one_by_one program input (most - least) i dir groups near ]
      by_next None rest = drop-none least
      by_next (Some q) rest = rest q

module _ (target : Target) (input : Input) (reading : Reading) (tells : Tells reading input) where
  abbrev context : Context
  context = context_of reading input

  -- a state that was taken stands for one, ahead of the first, and has kept all
  record IsTaken (dir : Direction) (place : ℕ) (old_loops : List (ℕ × ℕ)) (old : List Marks) (u : State) (v : Whole) : Type 0 where
    stands : StandsFor reading u v
    loops : v.loops ≡ old_loops
    groups : v.groups ≡ old
    ahead : IsAhead dir place u.place

  taken-on : (dir : Direction) (p q : ℕ) (loops : List (ℕ × ℕ)) (marks : List Marks) → IsAhead dir p q → (us : List State) (vs : List Whole)
      → Pairwise (IsTaken dir q loops marks) us vs → Pairwise (IsTaken dir p loops marks) us vs
  taken-on dir p q loops marks ahead us vs h =
      Pairwise-weaker (IsTaken dir q loops marks) (IsTaken dir p loops marks)
      (λ u v k. record { stands = k.stands; loops = k.loops; groups = k.groups; ahead = IsAhead-then dir p q u.place ahead k.ahead }) us vs h

  -- one more, by what stands beside
  takes_next : (dir : Direction) (i : Instruction) (test : ℕ → Bool) (n : ℕ) (s : State) (w : Whole) → StandsFor reading s w → (x : Option (ℕ × ℕ))
      → Next context dir test s (passes context dir test s x)
      → ((u : State) (v : Whole) → StandsFor reading u v → Pairwise (IsTaken dir u.place v.loops v.groups) (states_taken context dir test n u) (taken target.program input i dir n v))
      → Pairwise (IsTaken dir s.place w.loops w.groups) (with_more context dir test n (passes context dir test s x))
      (elim (passed test (option_map (point_told reading) x)) [ None ↦ [] | Some o ↦ at_offset w o ∷ taken target.program input i dir n (at_offset w o) ])
  takes_next dir i test n s w stands None k rest = tt
  takes_next dir i test n s w stands (Some (c, q)) k rest = by_test (test c) k
    where
      by_test : (b : Bool) → Next context dir test s (if b then Some (record s { place = q }) else None)
          → Pairwise (IsTaken dir s.place w.loops w.groups) (with_more context dir test n (if b then Some (record s { place = q }) else None))
          (elim (if b then Some (offset reading q) else None) [ None ↦ [] | Some o ↦ at_offset w o ∷ taken target.program input i dir n (at_offset w o) ])
      by_test true k =
          let t : State = record s { place = q } in
          let v : Whole = record w { offset = offset reading q } in
          let on : StandsFor reading t v = record { place = refl; count = stands.count; groups = stands.groups; inside = record { place = k.1; groups = stands.inside.groups } } in (
            record { stands = on; loops = refl; groups = refl; ahead = k.2 },
            taken-on dir s.place q w.loops w.groups k.2 (states_taken context dir test n t) (taken target.program input i dir n v) (rest t v on),
          )
      by_test false k = tt

  -- the states taken are those of the instruction
  takes : (dir : Direction) (i : Instruction) (test : ℕ → Bool) → ((groups : List Marks) (p : ℕ) → p ≤ length reading.points
      → advance target.program input i dir groups (offset reading p) ≡ passed test (input.next dir (offset reading p)))
      → (n : ℕ) (s : State) (w : Whole) → StandsFor reading s w
      → Pairwise (IsTaken dir s.place w.loops w.groups) (states_taken context dir test n s) (taken target.program input i dir n w)
  unfolding states_taken taken
  takes dir i test does zero s w stands = tt
  takes dir i test does (suc n) s w stands =
      let told : advance target.program input i dir w.groups w.offset ≡ passed test (option_map (point_told reading) (neighbour reading.points dir s.place)) =
      ap (advance target.program input i dir w.groups) stands.place ∙ does w.groups s.place stands.inside.place ∙ ap (passed test) (tells.next dir s.place stands.inside.place) in
      subst (λ (o : Option ℕ). Pairwise (IsTaken dir s.place w.loops w.groups) (with_more context dir test n (next_state context dir test s))
      (elim o [ None ↦ [] | Some o ↦ at_offset w o ∷ taken target.program input i dir n (at_offset w o) ])) (sym told)
      (takes_next dir i test n s w stands (neighbour reading.points dir s.place) (one_step context dir test s stands.inside.place).1 (takes dir i test does n))

  -- an instruction that takes one character goes one place further
  one_further : (dir : Direction) (i : Instruction) (test : ℕ → Bool) (groups : List Marks) (p : ℕ) → p ≤ length reading.points
      → advance target.program input i dir groups (offset reading p) ≡ passed test (input.next dir (offset reading p))
      → (advance target.program input i dir groups (offset reading p) ≡ None)
      ⊎ ((advance target.program input i dir groups (offset reading p) ≡ Some (offset_ahead input reading tells dir p 1)) × HasPlace input reading tells dir p 1)
  one_further dir i test groups p room does = by_direction dir (does ∙ ap (passed test) (tells.next dir p room))
    where
      Goes : Direction → Option ℕ → Type 0
      Goes d o = (o ≡ None) ⊎ ((o ≡ Some (offset_ahead input reading tells d p 1)) × HasPlace input reading tells d p 1)

      by_test : (d : Direction) (b : Bool) (q : ℕ) → q ≡ ahead d p 1 → HasPlace input reading tells d p 1 → Goes d (if b then Some (offset reading q) else None)
      by_test d true q e fits = inr (ap (λ x. Some (offset reading x)) e, fits)
      by_test d false q e fits = inl refl

      forth : (o : Option ℕ) → slice_get reading.points p ≡ o → Goes Forward (passed test (option_map (point_told reading) (option_map (λ c. (c, suc p)) o)))
      forth None e = inl refl
      forth (Some c) e = let inside = slice_get_within reading.points p c e in by_test Forward (test c) (suc p) (omega arith) (omega (arith, inside))

      back : (k : ℕ) → p ≡ suc k → (o : Option ℕ) → Goes Backward (passed test (option_map (point_told reading) (option_map (λ c. (c, k)) o)))
      back k same None = inl refl
      back k same (Some c) = by_test Backward (test c) k (omega (arith, same)) (omega (arith, same), room)

      by_place : (k : ℕ) → p ≡ k → Goes Backward (passed test (option_map (point_told reading) (neighbour reading.points Backward k)))
      by_place zero same = inl refl
      by_place (suc k) same = back k same (slice_get reading.points k)

      told : (d : Direction) → Goes d (passed test (option_map (point_told reading) (neighbour reading.points d p)))
      told Forward = forth (slice_get reading.points p) refl
      told Backward = by_place p refl

      by_direction : (d : Direction) → {x : Option ℕ} → x ≡ passed test (option_map (point_told reading) (neighbour reading.points d p)) → Goes d x
      by_direction d e = subst (Goes d) (sym e) (told d)

  module _ (dir : Direction) (i : Instruction) (test : ℕ → Bool) (groups : List Marks) (does : (p : ℕ) → p ≤ length reading.points
      → advance target.program input i dir groups (offset reading p) ≡ passed test (input.next dir (offset reading p))) where
    abbrev go : ℕ → Option ℕ
    go o = advance target.program input i dir groups o

    -- behind so many iterations from a place there is a place
    place_after : (n p : ℕ) → p ≤ length reading.points → (near : ℕ) → after_times target.program input n i dir groups (offset reading p) ≡ Some near
        → (q : ℕ) × (near ≡ offset reading q) × (q ≤ length reading.points)
    unfolding after_times
    place_after zero p room near e = (p, let f : offset reading p ≡ near = cc in sym f, room)
    place_after (suc n) p room near e = by_step (one_further dir i test groups p room (does p room)) (place_after n)
      where
        by_step : (go (offset reading p) ≡ None) ⊎ ((go (offset reading p) ≡ Some (offset_ahead input reading tells dir p 1)) × HasPlace input reading tells dir p 1)
            → ((q : ℕ) → q ≤ length reading.points → (near : ℕ) → after_times target.program input n i dir groups (offset reading q) ≡ Some near
            → (q : ℕ) × (near ≡ offset reading q) × (q ≤ length reading.points))
            → (q : ℕ) × (near ≡ offset reading q) × (q ≤ length reading.points)
        by_step (inl none) rest = let f = ap (option_and_then (after_times target.program input n i dir groups)) none in absurd (grind arith)
        by_step (inr (one, fits)) rest =
            rest (ahead dir p 1) (HasPlace-here input reading tells dir p 1 fits) near
            (sym (ap (option_and_then (after_times target.program input n i dir groups)) one) ∙ e)

    -- as far as it goes from a place there is a place, and all between are given back from there
    far_and_back : (n p : ℕ) → p ≤ length reading.points → (k : ℕ) × HasPlace input reading tells dir p k
        × (as_far target.program input n i dir groups (offset reading p) ≡ offset_ahead input reading tells dir p k)
        × (given_back input dir (offset reading p) (offset_ahead input reading tells dir p k) ≡ reverse (one_by_one target.program input n i dir groups (offset reading p)))
    unfolding as_far one_by_one
    far_and_back zero p room =
        (0, HasPlace-none input reading tells dir p room, ap (offset reading) (sym (ahead-none input reading tells dir p)), given_back-none input reading tells dir p)
    far_and_back (suc n) p room = by_step (one_further dir i test groups p room (does p room)) (far_and_back n)
      where
        o : ℕ
        o = offset reading p

        Found : Option ℕ → Type 0
        Found x = (k : ℕ) × HasPlace input reading tells dir p k
            × (elim x [ None ↦ o | Some q ↦ as_far target.program input n i dir groups q ] ≡ offset_ahead input reading tells dir p k)
            × (given_back input dir o (offset_ahead input reading tells dir p k) ≡ reverse (o ∷ elim x [ None ↦ [] | Some q ↦ one_by_one target.program input n i dir groups q ]))

        by_step : (go o ≡ None) ⊎ ((go o ≡ Some (offset_ahead input reading tells dir p 1)) × HasPlace input reading tells dir p 1)
            → ((q : ℕ) → q ≤ length reading.points → (k : ℕ) × HasPlace input reading tells dir q k
            × (as_far target.program input n i dir groups (offset reading q) ≡ offset_ahead input reading tells dir q k)
            × (given_back input dir (offset reading q) (offset_ahead input reading tells dir q k) ≡ reverse (one_by_one target.program input n i dir groups (offset reading q))))
            → Found (go o)
        by_step (inl none) rest =
            subst Found (sym none)
            (0, HasPlace-none input reading tells dir p room, ap (offset reading) (sym (ahead-none input reading tells dir p)), given_back-none input reading tells dir p)
        by_step (inr (one, fits)) rest =
            let p1 : ℕ = ahead dir p 1 in
            let (k, more, far, back) = rest p1 (HasPlace-here input reading tells dir p 1 fits) in
            let on : offset reading (ahead dir p1 k) ≡ offset_ahead input reading tells dir p (suc k) = ap (offset reading) (ahead-on input reading tells dir p k) in
            let whole : HasPlace input reading tells dir p (suc k) = HasPlace-on input reading tells dir p k fits more in
            let xs : List ℕ = one_by_one target.program input n i dir groups (offset reading p1) in
            subst Found (sym one) (
              suc k,
              whole,
              far ∙ on,
              given_back-further input reading tells dir k p whole
                  ∙ ap (λ x. given_back input dir (offset reading p1) x ++ o ∷ []) (sym on)
                  ∙ ap (λ ys. ys ++ o ∷ []) back ∙ sym (reverse-append (o ∷ []) xs),
            )

    -- The offsets from the least number of iterations to the most, in the order of preference.
    counted-is : (least most : ℕ) (greedy : Bool) (p : ℕ) → least ≤ most → p ≤ length reading.points
        → counted target.program input least most greedy i dir groups (offset reading p)
        ≡ preferred greedy (drop least (one_by_one target.program input most i dir groups (offset reading p)))
    counted-is least most greedy p order room =
        by_near greedy (after_times target.program input least i dir groups (offset reading p)) (place_after least p room)
        ∙ ap (preferred greedy) (sym (from_least target.program input i dir least most groups (offset reading p) order))
      where
        by_near : (g : Bool) (x : Option ℕ) → ((near : ℕ) → x ≡ Some near → (q : ℕ) × (near ≡ offset reading q) × (q ≤ length reading.points))
            → elim x [ None ↦ [] | Some near ↦ if g then given_back input dir near (as_far target.program input (most - least) i dir groups near) else one_by_one target.program input (most - least) i dir groups near ]
            ≡ preferred g (elim x [ None ↦ [] | Some near ↦ one_by_one target.program input (most - least) i dir groups near ])
        by_near true None place = refl
        by_near false None place = refl
        by_near false (Some near) place = refl
        by_near true (Some near) place =
            let (q, e, inside) = place near refl in
            let (k, fits, far, back) = far_and_back (most - least) q inside in
            subst (λ x. given_back input dir x (as_far target.program input (most - least) i dir groups x) ≡ reverse (one_by_one target.program input (most - least) i dir groups x)) (sym e)
            (ap (given_back input dir (offset reading q)) far ∙ back)

  pub repeating_one : (b : Bool) (a : Tree) (i : Instruction) (test : ℕ → Bool) (least most : ℕ) (greedy : Bool) (p : ProgramPoint) → least ≤ most
      → Stands target.program p.address (code.single_loop least most greedy) → Stands target.program (suc p.address) i
      → ((groups : List Marks) (place : ℕ) → place ≤ length reading.points
      → advance target.program input i (direction b) groups (offset reading place) ≡ passed test (input.next (direction b) (offset reading place)))
      → ((s : State) → s.place ≤ length reading.points → node_outcomes context a (direction b) s ≡ step context (direction b) 1 (list_all test) s)
      → Enters target input reading b (tree.single_loop a least most greedy) p (next (next p))
  unfolding node_outcomes
  repeating_one b a i test least most greedy p order here body does means s w at stands may =
      let dir : Direction = direction b in
      let gone : ℕ → ℕ = λ k. occurs k a in
      let R : State → Whole → Type 0 = IsTaken dir s.place w.loops w.groups in
      let Q : State → Whole → Type 0 = Arrives reading dir (suc (suc p.address)) gone p.loops p.loops s.place w in
      let us : List State = drop least (s ∷ states_taken context dir test most s) in
      let vs : List Whole = drop least (w ∷ taken target.program input i dir most w) in
      let first : R s w = record { stands = stands; loops = refl; groups = refl; ahead = IsAhead-same dir s.place } in
      let all : Pairwise R us vs = Pairwise-drop R least (s ∷ states_taken context dir test most s) (w ∷ taken target.program input i dir most w) (first, takes dir i test does most s w stands) in
      let os : List ℕ = drop least (one_by_one target.program input most i dir w.groups w.offset) in
      let behind : Whole → Whole = λ (t : Whole). record t { at = suc (suc w.at) } in
      let out : Pairwise Q (preferred greedy us) (map behind (preferred greedy vs)) =
      Pairwise-map R Q behind (λ u v k. record {
        at = omega (arith, at);
        stands = k.stands;
        keeps = Keeps-all gone p.loops p.loops w v k.loops k.groups;
        ahead = k.ahead;
      }) (preferred greedy us) (preferred greedy vs) (Pairwise-preferred R greedy us vs all) in
      let same : iterations (node_outcomes context a dir) greedy most least s ≡ preferred greedy us =
      along context dir test (node_outcomes context a dir) means greedy most least order s stands.inside.place in
      let found : slice_get target.program.instructions (suc w.at) ≡ Some i = ap (λ x. slice_get target.program.instructions (suc x)) at ∙ body in
      let goes : Expands target.program input reading dir (w ∷ []) (successors target.program input (code.single_loop least most greedy) dir w) =
      steps target.program input reading (code.single_loop least most greedy) w (standing target input reading w at here) refl (λ e. ((s.place, stands.inside.place, stands.place), tt)) in
      let ws : List Whole = map (λ o. record w { at = suc (suc w.at); offset = o }) (counted target.program input least most greedy i dir w.groups w.offset) in
      let made : map behind (preferred greedy vs) ≡ ws =
      ap (λ xs. map behind (preferred greedy (drop least xs))) (taken-offsets target.program input i dir most w)
      ∙ ap (λ xs. map behind (preferred greedy xs)) (drop-map (at_offset w) least (one_by_one target.program input most i dir w.groups w.offset))
      ∙ ap (map behind) (preferred-map (at_offset w) greedy os)
      ∙ map-again behind (at_offset w) (preferred greedy os)
      ∙ ap (map (λ o. record w { at = suc (suc w.at); offset = o }))
      (ap (λ x. preferred greedy (drop least (one_by_one target.program input most i dir w.groups x))) stands.place
      ∙ sym (counted-is dir i test w.groups (λ q inside. does w.groups q inside) least most greedy s.place order stands.inside.place)
      ∙ ap (counted target.program input least most greedy i dir w.groups) (sym stands.place)) in
      let go : Expands target.program input reading dir (w ∷ []) ws =
      subst (λ (o : Option Instruction). Expands target.program input reading dir (w ∷ []) (elim o [ None ↦ [] | Some i ↦ map (λ o. record w { at = suc (suc w.at); offset = o }) (counted target.program input least most greedy i dir w.groups w.offset) ])) found goes in
      subst (Leads target.program input reading dir Q (w ∷ [])) (sym same)
      (first_expand target.program input reading Q (w ∷ []) ws (preferred greedy us) go (leads_at_once target.program input reading Q (preferred greedy us) ws (subst (Pairwise Q (preferred greedy us)) made out)))
