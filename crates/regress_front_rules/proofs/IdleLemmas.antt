-- What never takes a character: repeated, it leads where it does once, or nowhere else than the state itself.
use Rattle.std.proofs.Common.{◌≡◌, ℕ, zero, suc, ◌-◌, ◌≤◌, Bool, true, false, not, ◌==◌, List, [], ◌∷◌, ◌++◌, length, Option, Some, None, nat_le, filter, if◌then◌else◌, All, slice_get, subst, refl, sym, ap, ◌∙◌, arith, eqb-true}
use Rattle.std.specs.List.{flat_map}
use Rattle.std.proofs.lemmas.Bool.{false≢true, and_parts, leb-true}
use Rattle.std.proofs.lemmas.Bool.Decides.{nat_tests}
use Rattle.std.proofs.lemmas.List.Elements.{All-nil, All-cons, All-take, All-head, All-tail, All-append, All-weaker, All-filter}
use Rattle.regress_meaning.specs.Meaning.{State, Direction, Outcomes, Context, beside, stepped, step, same_all, repeat_group, moved, iterations, looked, keep_if}
use Rattle.regress_meaning.proofs.StepLaws.{All-flat_map}
use Rattle.regress_front_nodes.specs.Trees.{Tree, empty, goal, char, bytes, byte_set, char_set, cat, no_part, alt, any, any_in_line, line_start, line_end, boundary, capture, back, bracket, string_set, submatch, lookaround, atomic, loop, single_loop}
use Rattle.regress_front_nodes.specs.TreeMeaning.{direction, alternatives, node_outcomes}
use Rattle.regress_front_nodes.specs.Alike.{same_state, distinct, AreAlike}
use Rattle.regress_front_nodes.specs.WellFormed.{group_ids, AreLawful, goals}
use Rattle.regress_front_nodes.proofs.DistinctLemmas.{same_state-self}
use Rattle.regress_front_rules.specs.NormalForm.{is_idle, has_no_group}
use Rattle.regress_front_rules.specs.Rules.{once}
use Rattle.regress_front_rules.proofs.LoopLemmas.{loop-plain}

-- no number in an empty list
pub none-of : (ids : List ℕ) → (length ids == 0) ≡ true → ids ≡ []
none-of [] h = refl
none-of (k ∷ ids) h = absurd (let e = eqb-true (suc (length ids)) 0 h in omega (arith, e))

no-first : (xs ys : List ℕ) → xs ++ ys ≡ [] → xs ≡ []
no-first [] ys h = refl
no-first (x ∷ xs) ys h = absurd (cc)

no-second : (xs ys : List ℕ) → xs ++ ys ≡ [] → ys ≡ []
no-second [] ys h = h
no-second (x ∷ xs) ys h = absurd (cc)

none-joined : (xs ys : List ℕ) → xs ≡ [] → ys ≡ [] → xs ++ ys ≡ []
none-joined xs ys h k = rw (h, k) refl

-- it has no groups
pub idle-groups : (t : Tree) → is_idle t ≡ true → group_ids t ≡ []
idle-groups (cat a b) h = let both = and_parts (is_idle a) (is_idle b) h in none-joined (group_ids a) (group_ids b) (idle-groups a both.0) (idle-groups b both.1)
idle-groups (alt a b) h = let both = and_parts (is_idle a) (is_idle b) h in none-joined (group_ids a) (group_ids b) (idle-groups a both.0) (idle-groups b both.1)
idle-groups (submatch (lookaround negated backward) first last a) h = none-of (group_ids a) (and_parts (has_no_group a) (goals a == 0) h).0
idle-groups (submatch atomic first last a) h = idle-groups a h
idle-groups (loop a first last least most greedy) h = idle-groups a h
idle-groups (capture k name a) h = absurd (false≢true h)
idle-groups (single_loop a least most greedy) h = absurd (false≢true h)
idle-groups _ h = refl

-- ---- outcomes that are related to the state from which they come

module _ (R : State → State → Type 0) (same : (s : State) → R s s) (on : (s t u : State) → R s t → R t u → R s u) where
  abbrev Goes : Outcomes → Type 0
  Goes f = (s : State) → All (R s) (f s)

  goes-stays : (s : State) → All (R s) (s ∷ [])
  goes-stays s = All-cons (R s) s [] (same s) (All-nil (R s))

  goes-after : (f : Outcomes) → Goes f → (s : State) (ts : List State) → All (R s) ts → All (R s) (flat_map f ts)
  goes-after f goes s = All-flat_map (R s) (R s) f (λ t l. All-weaker (R t) (R s) (λ u m. on s t u l m) (f t) (goes t))

  goes-keep_if : (b : Bool) (s : State) → All (R s) (keep_if b s)
  goes-keep_if true s = goes-stays s
  goes-keep_if false s = All-nil (R s)

  goes-iterations : (body : Outcomes) → Goes body → (greedy : Bool) (left need : ℕ) → Goes (iterations body greedy left need)
  unfolding iterations
  goes-iterations body goes greedy zero need s = goes-stays s
  goes-iterations body goes true (suc left) zero s =
      All-append (R s) _ (s ∷ []) (goes-after (iterations body true left zero) (goes-iterations body goes true left zero) s _ (All-filter (moved s) (R s) (body s) (goes s))) (goes-stays s)
  goes-iterations body goes false (suc left) zero s =
      All-cons (R s) s _ (same s) (goes-after (iterations body false left zero) (goes-iterations body goes false left zero) s _ (All-filter (moved s) (R s) (body s) (goes s)))
  goes-iterations body goes greedy (suc left) (suc need) s = goes-after (iterations body greedy left need) (goes-iterations body goes greedy left need) s (body s) (goes s)

-- the groups are the same
abbrev SameGroups : State → State → Type 0
SameGroups s t = t.groups ≡ s.groups

-- the state is the same
abbrev SameState : State → State → Type 0
SameState s t = t ≡ s

module _ (w : Context) where
  -- without groups inside none is changed
  abbrev KeepsGroups : Outcomes → Type 0
  KeepsGroups = Goes SameGroups (λ s. refl) (λ s t u h k. k ∙ h)

  stepped-keeps : (test : List ℕ → Bool) (s : State) (o : Option (List ℕ × ℕ)) → All (SameGroups s) (stepped test s o)
  stepped-keeps test s None = All-nil (SameGroups s)
  stepped-keeps test s (Some (cs, p)) = by_test (test cs)
    where
      by_test : (b : Bool) → All (SameGroups s) (if b then record s { place = p } ∷ [] else [])
      by_test true = All-cons (SameGroups s) (record s { place = p }) [] refl (All-nil (SameGroups s))
      by_test false = All-nil (SameGroups s)

  step-keeps : (dir : Direction) (k : ℕ) (test : List ℕ → Bool) → KeepsGroups (step w dir k test)
  unfolding step
  step-keeps dir k test s = stepped-keeps test s (beside w dir k s.place)

  repeat-keeps : (dir : Direction) (icase : Bool) (o : Option (Option (ℕ × ℕ))) → KeepsGroups (repeat_group w dir icase o)
  unfolding repeat_group
  repeat-keeps dir icase None s = goes-stays SameGroups (λ s. refl) (λ s t u h k. k ∙ h) s
  repeat-keeps dir icase (Some None) s = goes-stays SameGroups (λ s. refl) (λ s t u h k. k ∙ h) s
  repeat-keeps dir icase (Some (Some (a, b))) s = step-keeps dir (b - a) _ s

  strings-keep : (dir : Direction) (icase : Bool) (strings : List (List ℕ)) → KeepsGroups (alternatives w dir icase strings)
  strings-keep dir icase [] s = All-nil (SameGroups s)
  strings-keep dir icase (cs ∷ strings) s = All-append (SameGroups s) _ _ (step-keeps dir (length cs) (same_all w.table w.unicode icase cs) s) (strings-keep dir icase strings s)

  looked-keeps : (negated : Bool) (s : State) (ts : List State) → All (SameGroups s) ts → All (SameState s) (looked negated s ts)
  looked-keeps true s [] h = All-cons (SameState s) s [] refl (All-nil (SameState s))
  looked-keeps true s (t ∷ ts) h = All-nil (SameState s)
  looked-keeps false s [] h = All-nil (SameState s)
  looked-keeps false s (t ∷ ts) h =
      All-cons (SameState s) (record s { groups = t.groups }) [] (λ i. record { place = s.place; groups = All-head (SameGroups s) t ts h i }) (All-nil (SameState s))

  groups-kept : (t : Tree) (dir : Direction) (n : ℕ) → AreLawful n t → group_ids t ≡ [] → KeepsGroups (node_outcomes w t dir)
  unfolding node_outcomes
  groups-kept empty dir n l h s = goes-stays SameGroups (λ s. refl) (λ s t u h k. k ∙ h) s
  groups-kept goal dir n l h s = goes-stays SameGroups (λ s. refl) (λ s t u h k. k ∙ h) s
  groups-kept (char c) dir n l h s = step-keeps dir 1 _ s
  groups-kept (bytes bs) dir n l h s = step-keeps dir _ _ s
  groups-kept (byte_set bs) dir n l h s = step-keeps dir 1 _ s
  groups-kept (char_set cs) dir n l h s = step-keeps dir 1 _ s
  groups-kept (cat a b) dir n l h s =
      goes-after SameGroups (λ s. refl) (λ s t u h k. k ∙ h) (node_outcomes w b dir) (groups-kept b dir n l.1 (no-second (group_ids a) (group_ids b) h)) s (node_outcomes w a dir s)
      (groups-kept a dir n l.0 (no-first (group_ids a) (group_ids b) h) s)
  groups-kept no_part dir n l h s = goes-stays SameGroups (λ s. refl) (λ s t u h k. k ∙ h) s
  groups-kept (alt a b) dir n l h s =
      All-append (SameGroups s) _ _ (groups-kept a dir n l.0 (no-first (group_ids a) (group_ids b) h) s) (groups-kept b dir n l.1 (no-second (group_ids a) (group_ids b) h) s)
  groups-kept any dir n l h s = step-keeps dir 1 _ s
  groups-kept any_in_line dir n l h s = step-keeps dir 1 _ s
  groups-kept (line_start multiline) dir n l h s = goes-keep_if SameGroups (λ s. refl) (λ s t u h k. k ∙ h) _ s
  groups-kept (line_end multiline) dir n l h s = goes-keep_if SameGroups (λ s. refl) (λ s t u h k. k ∙ h) _ s
  groups-kept (boundary inverted folded) dir n l h s = goes-keep_if SameGroups (λ s. refl) (λ s t u h k. k ∙ h) _ s
  groups-kept (capture k name a) dir n l h s = absurd (cc)
  groups-kept (back k icase) dir n l h s = repeat-keeps dir icase (slice_get s.groups (k - 1)) s
  groups-kept (bracket inverted intervals) dir n l h s = step-keeps dir 1 _ s
  groups-kept (string_set strings icase) dir n l h s = strings-keep dir icase strings s
  groups-kept (submatch atomic first last a) dir n l h s = All-take (SameGroups s) 1 (node_outcomes w a dir s) (groups-kept a dir n l.1 h s)
  groups-kept (submatch (lookaround negated backward) first last a) dir n l h s =
      All-weaker (SameState s) (SameGroups s) (λ t e i. (e i).groups) (looked negated s (node_outcomes w a (direction backward) s))
      (looked-keeps negated s (node_outcomes w a (direction backward) s) (groups-kept a (direction backward) n l.1 h s))
  groups-kept (loop a first last least most greedy) dir n l h s =
      subst (All (SameGroups s)) (sym (loop-plain w a first last least most greedy dir h l.0 s))
      (goes-iterations SameGroups (λ s. refl) (λ s t u h k. k ∙ h) (node_outcomes w a dir) (groups-kept a dir n l.2 h) greedy most least s)
  groups-kept (single_loop a least most greedy) dir n l h s =
      goes-iterations SameGroups (λ s. refl) (λ s t u h k. k ∙ h) (node_outcomes w a dir) (groups-kept a dir n l.2 h) greedy most least s

  -- what never takes a character leads to the state itself, if anywhere
  abbrev StaysPut : Outcomes → Type 0
  StaysPut = Goes SameState (λ s. refl) (λ s t u h k. k ∙ h)

  stays-put : (t : Tree) (dir : Direction) (n : ℕ) → AreLawful n t → is_idle t ≡ true → StaysPut (node_outcomes w t dir)
  unfolding node_outcomes
  stays-put empty dir n l h s = goes-stays SameState (λ s. refl) (λ s t u h k. k ∙ h) s
  stays-put no_part dir n l h s = goes-stays SameState (λ s. refl) (λ s t u h k. k ∙ h) s
  stays-put (line_start multiline) dir n l h s = goes-keep_if SameState (λ s. refl) (λ s t u h k. k ∙ h) _ s
  stays-put (line_end multiline) dir n l h s = goes-keep_if SameState (λ s. refl) (λ s t u h k. k ∙ h) _ s
  stays-put (boundary inverted folded) dir n l h s = goes-keep_if SameState (λ s. refl) (λ s t u h k. k ∙ h) _ s
  stays-put (cat a b) dir n l h s =
      let both = and_parts (is_idle a) (is_idle b) h in
      goes-after SameState (λ s. refl) (λ s t u h k. k ∙ h) (node_outcomes w b dir) (stays-put b dir n l.1 both.1) s (node_outcomes w a dir s) (stays-put a dir n l.0 both.0 s)
  stays-put (alt a b) dir n l h s =
      let both = and_parts (is_idle a) (is_idle b) h in
      All-append (SameState s) _ _ (stays-put a dir n l.0 both.0 s) (stays-put b dir n l.1 both.1 s)
  stays-put (submatch atomic first last a) dir n l h s = All-take (SameState s) 1 (node_outcomes w a dir s) (stays-put a dir n l.1 h s)
  stays-put (submatch (lookaround negated backward) first last a) dir n l h s =
      looked-keeps negated s (node_outcomes w a (direction backward) s) (groups-kept a (direction backward) n l.1 (none-of (group_ids a) (and_parts (has_no_group a) (goals a == 0) h).0) s)
  stays-put (loop a first last least most greedy) dir n l h s =
      subst (All (SameState s)) (sym (loop-plain w a first last least most greedy dir (idle-groups a h) l.0 s))
      (goes-iterations SameState (λ s. refl) (λ s t u h k. k ∙ h) (node_outcomes w a dir) (stays-put a dir n l.2 h) greedy most least s)
  stays-put _ dir n l h s = absurd (false≢true h)

  -- ---- repeats of one state

  abbrev some : List State → Bool
  some [] = false
  some (t ∷ ts) = true

  repeats : (s : State) (ts : List State) → All (SameState s) ts → distinct ts ≡ (if some ts then s ∷ [] else [])
  unfolding distinct
  repeats s [] h = refl
  repeats s (t ∷ ts) h =
      let first : t ≡ s = All-head (SameState s) t ts h in
      let rest = repeats s ts (All-tail (SameState s) t ts h) in
      rw (first, rest) (by_test (some ts))
    where
      by_test : (b : Bool) → s ∷ filter (λ u. not (same_state s u)) (if b then s ∷ [] else []) ≡ s ∷ []
      by_test true = rw (same_state-self s) refl
      by_test false = refl

  -- ---- iterations of what stays put

  module _ (f : Outcomes) (put : StaysPut f) where
    same-place : (p : ℕ) → (p == p) ≡ true
    same-place p = grind (arith, nat_tests)

    none-moved : (s : State) (ts : List State) → All (SameState s) ts → filter (moved s) ts ≡ []
    none-moved s [] h = refl
    none-moved s (t ∷ ts) h =
        let first : t ≡ s = All-head (SameState s) t ts h in
        let rest = none-moved s ts (All-tail (SameState s) t ts h) in
        rw (first, same-place s.place) rest

    -- where it may be left out
    idle-zero : (greedy : Bool) (most : ℕ) (s : State) → iterations f greedy most zero s ≡ s ∷ []
    unfolding iterations
    idle-zero greedy zero s = refl
    idle-zero true (suc most) s = rw (none-moved s (f s) (put s)) refl
    idle-zero false (suc most) s = rw (none-moved s (f s) (put s)) refl

    some-append : (ts us : List State) → some ts ≡ true → some (ts ++ us) ≡ true
    some-append [] us h = absurd (false≢true h)
    some-append (t ∷ ts) us h = refl

    -- the iterations lead somewhere where it does
    goes-on : (greedy : Bool) (least most : ℕ) → least ≤ most → (s : State) (t : State) (ts : List State) → f s ≡ t ∷ ts → some (iterations f greedy most least s) ≡ true
    unfolding iterations
    goes-on greedy zero most fits s t ts e = ap some (idle-zero greedy most s)
    goes-on greedy (suc least) zero fits s t ts e = absurd (omega arith)
    goes-on greedy (suc least) (suc most) fits s t ts e =
        let first : t ≡ s = All-head (SameState s) t ts (subst (All (SameState s)) e (put s)) in
        let more : some (iterations f greedy most least t) ≡ true = subst (λ r. some (iterations f greedy most least r) ≡ true) (sym first) (goes-on greedy least most (omega arith) s t ts e) in
        ap (λ rs. some (flat_map (iterations f greedy most least) rs)) e ∙ some-append (iterations f greedy most least t) (flat_map (iterations f greedy most least) ts) more

    same-some : (greedy : Bool) (least most : ℕ) → 1 ≤ least → least ≤ most → (s : State) → some (iterations f greedy most least s) ≡ some (f s)
    unfolding iterations
    same-some greedy least most has fits s = by_list (f s) refl
      where
        nowhere : (least most : ℕ) → 1 ≤ least → least ≤ most → f s ≡ [] → iterations f greedy most least s ≡ []
        nowhere zero most has fits e = absurd (omega arith)
        nowhere (suc least) zero has fits e = absurd (omega arith)
        nowhere (suc least) (suc most) has fits e = ap (flat_map (iterations f greedy most least)) e

        by_list : (ts : List State) → f s ≡ ts → some (iterations f greedy most least s) ≡ some ts
        by_list [] e = ap some (nowhere least most has fits e)
        by_list (t ∷ ts) e = goes-on greedy least most fits s t ts e

    -- where it has to come it comes once
    idle-some : (greedy : Bool) (least most : ℕ) → 1 ≤ least → least ≤ most → (s : State) → AreAlike (iterations f greedy most least s) (f s)
    idle-some greedy least most has fits s =
        repeats s (iterations f greedy most least s) (goes-iterations SameState (λ s. refl) (λ s t u h k. k ∙ h) f put greedy most least s)
        ∙ ap (λ b. if b then s ∷ [] else []) (same-some greedy least most has fits s)
        ∙ sym (repeats s (f s) (put s))

  -- a loop over what never takes a character is alike that once, or nothing
  pub idle-alike : (a : Tree) (first last least most : ℕ) (greedy : Bool) (dir : Direction) (n : ℕ) → is_idle a ≡ true → AreLawful n (loop a first last least most greedy) → (s : State)
      → AreAlike (node_outcomes w (loop a first last least most greedy) dir s) (node_outcomes w (once a least) dir s)
  unfolding node_outcomes
  idle-alike a first last least most greedy dir n e l s = ap distinct (loop-plain w a first last least most greedy dir (idle-groups a e) l.0 s) ∙ by_test (nat_le 1 least) refl
    where
      put : StaysPut (node_outcomes w a dir)
      put = stays-put a dir n l.2 e

      by_test : (b : Bool) → nat_le 1 least ≡ b → AreAlike (iterations (node_outcomes w a dir) greedy most least s) (node_outcomes w (if b then a else empty) dir s)
      by_test true k = idle-some (node_outcomes w a dir) put greedy least most (leb-true 1 least k) l.1 s
      by_test false k =
          let none : least ≡ 0 = grind (arith, nat_tests) in
          rw none (ap distinct (idle-zero (node_outcomes w a dir) put greedy most s))

  entered-never : (f : State → List State) (greedy : Bool) (s : State) → iterations f greedy zero zero s ≡ s ∷ []
  unfolding iterations
  entered-never f greedy s = refl

  -- a loop that is never entered is alike nothing
  pub skipped-alike : (a : Tree) (first last least most : ℕ) (greedy : Bool) (dir : Direction) (n : ℕ) → most ≡ 0 → has_no_group a ≡ true → AreLawful n (loop a first last least most greedy) → (s : State)
      → AreAlike (node_outcomes w (loop a first last least most greedy) dir s) (node_outcomes w empty dir s)
  unfolding node_outcomes
  skipped-alike a first last least most greedy dir n e h l s =
      let none : least ≡ 0 = omega (arith, e, l.1) in
      ap distinct (loop-plain w a first last least most greedy dir (none-of (group_ids a) h) l.0 s) ∙ rw (e, none) (ap distinct (entered-never (node_outcomes w a dir) greedy s))
