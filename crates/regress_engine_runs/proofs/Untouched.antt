-- Groups that do not occur in a tree are in each of its outcomes as they were.
use Rattle.std.specs.Prelude.{slice_get, min, max}
use Rattle.std.specs.List.{flat_map}
use Rattle.std.proofs.Common.{◌≡◌, ℕ, zero, suc, ◌+◌, ◌-◌, ◌==◌, Bool, true, false, List, [], ◌∷◌, length, All, Option, Some, None, if◌then◌else◌, get_or, filter, refl, sym, ap, ap₂, ◌∙◌, arith, get_or-set_other}
use Rattle.std.proofs.lemmas.Bool.{cond_both}
use Rattle.std.proofs.lemmas.Bool.Decides.{nat_tests}
use Rattle.std.proofs.lemmas.List.Elements.{All-nil, All-cons, All-append, All-weaker, All-filter, All-head, All-tail, All-map, All-take}
use Rattle.regress_meaning.specs.Meaning.{State, Direction, Outcomes, Context, step, stepped, beside, same_all, keep_if, repeat_group, iterations, moved, cleared, clear_from, captured, looked}
use Rattle.regress_meaning.proofs.StepLaws.{All-flat_map}
use Rattle.regress_front_nodes.specs.Trees.{Tree, Submatch, lookaround, atomic}
use Rattle.regress_front_nodes.specs.Trees as tree
use Rattle.regress_front_nodes.specs.TreeMeaning.{submatch_direction, submatched, alternatives, node_outcomes}
use Rattle.regress_front_nodes.specs.WellFormed.{AreLawful, AreNumbered, group_ids}
use Rattle.regress_engine_runs.proofs.Places.{occurs}
use Rattle.regress_engine_runs.proofs.Looks.{is_within, inside_one}

-- what holds of each of some, and something else that does
pub All-both : {X : Type 0} (P Q : X → Type 0) (xs : List X) → All P xs → All Q xs → All (λ x. P x × Q x) xs
All-both P Q [] h k = All-nil (λ x. P x × Q x)
All-both P Q (x ∷ xs) h k =
    All-cons (λ y. P y × Q y) x xs (All-head P x xs h, All-head Q x xs k) (All-both P Q xs (All-tail P x xs h) (All-tail Q x xs k))

none-both : (b : Bool) → let none : Option (ℕ × ℕ) = None in none ≡ (if b then none else none)
none-both true = refl
none-both false = refl

pub get_or-clear : (i first last : ℕ) (gs : List (Option (ℕ × ℕ))) (k : ℕ)
    → get_or (clear_from i first last gs) k None ≡ (if is_within first last (i + k) then None else get_or gs k None)
get_or-clear i first last [] k = none-both (is_within first last (i + k))
get_or-clear i first last (g ∷ gs) zero =
    let e : i + 0 ≡ i = omega arith in ap (λ j. if is_within first last j then None else g) (sym e)
get_or-clear i first last (g ∷ gs) (suc k) =
    let e : i + suc k ≡ (i + 1) + k = omega arith in
    get_or-clear (i + 1) first last gs k ∙ ap (λ j. if is_within first last j then None else get_or gs k None) (sym e)

-- where groups are the same outside of some, they are the same without those
pub clear-same : (i first last : ℕ) (gs hs : List (Option (ℕ × ℕ))) → length gs ≡ length hs
    → ((k : ℕ) → is_within first last (i + k) ≡ false → get_or gs k None ≡ get_or hs k None) → clear_from i first last gs ≡ clear_from i first last hs
clear-same i first last [] [] size same = refl
clear-same i first last [] (h ∷ hs) size same = absurd (omega (arith, size))
clear-same i first last (g ∷ gs) [] size same = absurd (omega (arith, size))
clear-same i first last (g ∷ gs) (h ∷ hs) size same =
    ap₂ (λ x xs. x ∷ xs) (by_test (is_within first last i) refl)
    (clear-same (i + 1) first last gs hs (omega (arith, size)) (λ k t. let f : i + suc k ≡ (i + 1) + k = omega arith in same (suc k) (ap (is_within first last) f ∙ t)))
  where
    by_test : (b : Bool) → is_within first last i ≡ b → (if is_within first last i then None else g) ≡ (if is_within first last i then None else h)
    by_test true t = ap (λ (b : Bool). if b then None else g) t ∙ sym (ap (λ (b : Bool). if b then None else h) t)
    by_test false t =
        let f : i + 0 ≡ i = omega arith in
        ap (λ (b : Bool). if b then None else g) t ∙ same 0 (ap (is_within first last) f ∙ t) ∙ sym (ap (λ (b : Bool). if b then None else h) t)

module _ (context : Context) (Outside : ℕ → Type 0) where
  -- the groups outside are as they were
  abbrev pub AsBefore : State → State → Type 0
  AsBefore s u = (k : ℕ) → Outside k → get_or u.groups k None ≡ get_or s.groups k None

  -- so they are in all outcomes
  abbrev pub Spares : Outcomes → Type 0
  Spares f = (s : State) → All (AsBefore s) (f s)

  none : (s : State) → All (AsBefore s) []
  none s = All-nil (AsBefore s)

  one : (s u : State) → AsBefore s u → All (AsBefore s) (u ∷ [])
  one s u same = All-cons (AsBefore s) u [] same (none s)

  on : (s t : State) (us : List State) → AsBefore s t → All (AsBefore t) us → All (AsBefore s) us
  on s t us same = All-weaker (AsBefore t) (AsBefore s) (λ u after. λ k o. after k o ∙ same k o) us

  follow : (f : Outcomes) → Spares f → (s : State) (ts : List State) → All (AsBefore s) ts → All (AsBefore s) (flat_map f ts)
  follow f spares s = All-flat_map (AsBefore s) (AsBefore s) f (λ t same. on s t (f t) same (spares t))

  spares-step : (dir : Direction) (n : ℕ) (test : List ℕ → Bool) → Spares (step context dir n test)
  unfolding step
  spares-step dir n test s = by_place (beside context dir n s.place)
    where
      by_place : (o : Option (List ℕ × ℕ)) → All (AsBefore s) (stepped test s o)
      by_place None = none s
      by_place (Some (cs, p)) =
          let t : State = record s { place = p } in
          cond_both (test cs) (t ∷ []) [] (All (AsBefore s)) (λ e. one s t (λ k o. refl)) (λ e. none s)

  spares-keep_if : (b : Bool) → Spares (keep_if b)
  spares-keep_if true s = one s s (λ k o. refl)
  spares-keep_if false s = none s

  spares-repeat_group : (dir : Direction) (icase : Bool) (o : Option (Option (ℕ × ℕ))) → Spares (repeat_group context dir icase o)
  unfolding repeat_group
  spares-repeat_group dir icase None s = one s s (λ k o. refl)
  spares-repeat_group dir icase (Some None) s = one s s (λ k o. refl)
  spares-repeat_group dir icase (Some (Some (a, b))) s = spares-step dir (b - a) _ s

  spares-alternatives : (dir : Direction) (icase : Bool) (strings : List (List ℕ)) → Spares (alternatives context dir icase strings)
  spares-alternatives dir icase [] s = none s
  spares-alternatives dir icase (cs ∷ strings) s =
      All-append (AsBefore s) (step context dir (length cs) (same_all context.table context.unicode icase cs) s) (alternatives context dir icase strings s)
      (spares-step dir (length cs) _ s) (spares-alternatives dir icase strings s)

  spares-iterations : (body : Outcomes) → Spares body → (greedy : Bool) (left need : ℕ) → Spares (iterations body greedy left need)
  unfolding iterations
  spares-iterations body spares greedy zero need s = one s s (λ k o. refl)
  spares-iterations body spares greedy (suc left) zero s =
      let more : All (AsBefore s) (flat_map (iterations body greedy left zero) (filter (moved s) (body s))) =
      follow (iterations body greedy left zero) (spares-iterations body spares greedy left zero) s _ (All-filter (moved s) (AsBefore s) (body s) (spares s)) in
      cond_both greedy _ _ (All (AsBefore s)) (λ e. All-append (AsBefore s) _ (s ∷ []) more (one s s (λ k o. refl))) (λ e. All-cons (AsBefore s) s _ (λ k o. refl) more)
  spares-iterations body spares greedy (suc left) (suc need) s =
      follow (iterations body greedy left need) (spares-iterations body spares greedy left need) s (body s) (spares s)

  spares-looked : (negated : Bool) (s : State) (ts : List State) → All (AsBefore s) ts → All (AsBefore s) (looked negated s ts)
  spares-looked true s [] h = one s s (λ k o. refl)
  spares-looked true s (t ∷ ts) h = none s
  spares-looked false s [] h = none s
  spares-looked false s (t ∷ ts) h = one s (record s { groups = t.groups }) (All-head (AsBefore s) t ts h)

  spares-submatched : (kind : Submatch) (s : State) (ts : List State) → All (AsBefore s) ts → All (AsBefore s) (submatched kind s ts)
  spares-submatched (lookaround negated backward) s ts h = spares-looked negated s ts h
  spares-submatched atomic s ts h = All-take (AsBefore s) 1 ts h

  -- the groups that are cleared are none of them
  as-cleared : (first last : ℕ) (s : State) → ((k : ℕ) → Outside k → is_within first last k ≡ false) → AsBefore s (cleared first last s)
  as-cleared first last s out k o =
      let e : 0 + k ≡ k = omega arith in
      get_or-clear 0 first last s.groups k ∙ ap (λ j. if is_within first last j then None else get_or s.groups k None) e ∙ ap (λ (b : Bool). if b then None else get_or s.groups k None) (out k o)

  -- the groups of a repetition are those that occur in it
  is-outside : (first last : ℕ) (a : Tree) → AreNumbered first last (group_ids a) → ((k : ℕ) → Outside k → occurs k a ≡ 0) → (k : ℕ) → Outside k → is_within first last k ≡ false
  is-outside first last a numbered absent k o = by_test (is_within first last k) refl
    where
      by_test : (b : Bool) → is_within first last k ≡ b → is_within first last k ≡ false
      by_test false e = e
      by_test true e = let one = inside_one first last a numbered k e in let none = absent k o in absurd (omega (arith, one, none))

  pub spares-outcomes : (n : ℕ) (t : Tree) → AreLawful n t → ((k : ℕ) → Outside k → occurs k t ≡ 0) → (dir : Direction) → Spares (node_outcomes context t dir)
  unfolding node_outcomes
  spares-outcomes n tree.empty lawful absent dir s = one s s (λ k o. refl)
  spares-outcomes n tree.goal lawful absent dir s = one s s (λ k o. refl)
  spares-outcomes n (tree.char c) lawful absent dir s = spares-step dir 1 _ s
  spares-outcomes n (tree.bytes bs) lawful absent dir s = spares-step dir _ _ s
  spares-outcomes n (tree.byte_set bs) lawful absent dir s = spares-step dir 1 _ s
  spares-outcomes n (tree.char_set cs) lawful absent dir s = spares-step dir 1 _ s
  spares-outcomes n (tree.cat a b) lawful absent dir s =
      follow (node_outcomes context b dir) (spares-outcomes n b lawful.1 (λ k o. let none = absent k o in omega (arith, none)) dir) s (node_outcomes context a dir s) (spares-outcomes n a lawful.0 (λ k o. let none = absent k o in omega (arith, none)) dir s)
  spares-outcomes n tree.no_part lawful absent dir s = one s s (λ k o. refl)
  spares-outcomes n (tree.alt a b) lawful absent dir s =
      All-append (AsBefore s) (node_outcomes context a dir s) (node_outcomes context b dir s)
      (spares-outcomes n a lawful.0 (λ k o. let none = absent k o in omega (arith, none)) dir s) (spares-outcomes n b lawful.1 (λ k o. let none = absent k o in omega (arith, none)) dir s)
  spares-outcomes n tree.any lawful absent dir s = spares-step dir 1 _ s
  spares-outcomes n tree.any_in_line lawful absent dir s = spares-step dir 1 _ s
  spares-outcomes n (tree.line_start multiline) lawful absent dir s = spares-keep_if _ s
  spares-outcomes n (tree.line_end multiline) lawful absent dir s = spares-keep_if _ s
  spares-outcomes n (tree.boundary inverted folded) lawful absent dir s = spares-keep_if _ s
  spares-outcomes n (tree.capture j name a) lawful absent dir s =
      All-map (AsBefore s) (captured j s.place) (node_outcomes context a dir s)
      (All-weaker (AsBefore s) (λ u. AsBefore s (captured j s.place u)) (λ u same. λ k o. other u k o ∙ same k o) (node_outcomes context a dir s)
      (spares-outcomes n a lawful.1 (λ k o. let none = absent k o in omega (arith, none)) dir s))
    where
      is-other : (k : ℕ) → Outside k → (b : Bool) → (j == k) ≡ b → k ≡ j → ⊥
      is-other k o true t e =
          let one : (if◌then◌else◌ {A = ℕ} (j == k) 1 0) ≡ 1 = ap (λ (b : Bool). if◌then◌else◌ {A = ℕ} b 1 0) t in let none = absent k o in absurd (omega (arith, one, none))
      is-other k o false t e = absurd (grind (arith, nat_tests, e, t))

      other : (u : State) → AsBefore u (captured j s.place u)
      other u k o = get_or-set_other u.groups j k (Some (min s.place u.place, max s.place u.place)) None (is-other k o (j == k) refl)
  spares-outcomes n (tree.back j icase) lawful absent dir s = spares-repeat_group dir icase (slice_get s.groups (j - 1)) s
  spares-outcomes n (tree.bracket inverted intervals) lawful absent dir s = spares-step dir 1 _ s
  spares-outcomes n (tree.string_set strings icase) lawful absent dir s = spares-alternatives dir icase strings s
  spares-outcomes n (tree.submatch kind first last a) lawful absent dir s =
      spares-submatched kind s (node_outcomes context a (submatch_direction kind dir) s) (spares-outcomes n a lawful.1 absent (submatch_direction kind dir) s)
  spares-outcomes n (tree.loop a first last least most greedy) lawful absent dir s =
      spares-iterations (λ t. node_outcomes context a dir (cleared first last t))
      (λ t. on t (cleared first last t) (node_outcomes context a dir (cleared first last t)) (as-cleared first last t (is-outside first last a lawful.0 absent))
      (spares-outcomes n a lawful.2 absent dir (cleared first last t))) greedy most least s
  spares-outcomes n (tree.single_loop a least most greedy) lawful absent dir s =
      spares-iterations (node_outcomes context a dir) (spares-outcomes n a lawful.2 absent dir) greedy most least s
