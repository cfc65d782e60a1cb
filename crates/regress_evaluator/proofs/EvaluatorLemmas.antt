-- What trees lead to, in the form in which the evaluator's loops take it.
use Rattle.std.proofs.Common.{◌≡◌, ℕ, zero, suc, Bool, true, Option, Some, None, ◌+◌, ◌<◌, ◌≤◌, List, [], ◌∷◌, ◌++◌, length, map, option_map, replicate, take, drop, get_or, slice_set, refl, sym, ap, ◌∙◌, arith}
use Rattle.std.specs.List.{flat_map}
use Rattle.std.proofs.lemmas.List.{append-nil, drop_more, take_more, map_push, take_more_set, take_all, drop_all, length-drop, drop-set-lt}
use Rattle.std.proofs.lemmas.List.Concat.{flat_map-append}
use Rattle.regress_meaning.specs.Meaning.{State, Direction, Context, beside, step}
use Rattle.regress_front_nodes.specs.Trees.{Tree, cat, no_part, cat_of, tree}
use Rattle.regress_front_nodes.specs.TreeMeaning.{node_outcomes}
use Rattle.regress_front_nodes.specs.declared.node.Node.{Node}
use Rattle.regress_evaluator.specs.declared.state.State as evaluator
use Rattle.regress_evaluator.specs.PlaceViews.{ends}
use Rattle.regress_evaluator.specs.StateViews.{state_of}

-- no group is set
pub map-replicate : (n : ℕ) → map (option_map ends) (replicate n None) ≡ replicate n None
map-replicate zero = refl
map-replicate (suc n) = ap (λ (gs : List (Option (ℕ × ℕ))). None ∷ gs) (map-replicate n)

module _ (context : Context) (dir : Direction) where
  -- behind the last part all stays
  pub flat_map-no_part : (ss : List State) → flat_map (node_outcomes context no_part dir) ss ≡ ss
  unfolding node_outcomes
  flat_map-no_part [] = refl
  flat_map-no_part (s ∷ ss) = ap (λ ts. s ∷ ts) (flat_map-no_part ss)

  -- the other parts go on from all that the first leads to
  flat_map-cat : (a b : Tree) (ss : List State)
      → flat_map (node_outcomes context (cat a b) dir) ss ≡ flat_map (node_outcomes context b dir) (flat_map (node_outcomes context a dir) ss)
  unfolding node_outcomes
  flat_map-cat a b [] = refl
  flat_map-cat a b (s ∷ ss) =
      ap (λ ts. flat_map (node_outcomes context b dir) (node_outcomes context a dir s) ++ ts) (flat_map-cat a b ss)
      ∙ sym (flat_map-append (node_outcomes context b dir) (node_outcomes context a dir s) (flat_map (node_outcomes context a dir) ss))

  -- one part less
  pub parts_more : (ss : List State) (parts : List Node) (i : ℕ) (part : Node) → i < length parts → part ≡ get_or parts i part
      → flat_map (node_outcomes context (cat_of (map tree (drop (i + 1) parts))) dir) (flat_map (node_outcomes context (tree part) dir) ss)
      ≡ flat_map (node_outcomes context (cat_of (map tree (drop i parts))) dir) ss
  parts_more ss parts i part within read =
      sym (flat_map-cat (tree part) (cat_of (map tree (drop (i + 1) parts))) ss)
      ∙ ap (λ (ns : List Node). flat_map (node_outcomes context (cat_of (map tree ns)) dir) ss)
      (sym (drop_more parts i part within ∙ ap (λ (n : Node). n ∷ drop (i + 1) parts) (sym read)))

-- one state more is changed
pub changed_more : (f : State → State) (xs ys : List evaluator.State) (i : ℕ) (d new : evaluator.State) → i < length xs
    → state_of new ≡ f (state_of (get_or xs i d))
    → map state_of (take i xs) ≡ map f (map state_of (take i ys)) → drop i xs ≡ drop i ys
    → (map state_of (take (i + 1) (slice_set xs i new)) ≡ map f (map state_of (take (i + 1) ys)))
    × (drop (i + 1) (slice_set xs i new) ≡ drop (i + 1) ys)
changed_more f xs ys i d new within set_so front back =
    let within' : i < length ys = omega (arith, length-drop i xs, length-drop i ys, ap length back) in
    let both : (get_or xs i d ∷ drop (i + 1) xs) ≡ (get_or ys i d ∷ drop (i + 1) ys) = cc (drop_more xs i d within, drop_more ys i d within', back) in
    let there : get_or ys i d ≡ get_or xs i d = cc in
    let behind : drop (i + 1) xs ≡ drop (i + 1) ys = cc in (
      rw (
        take_more_set xs i new within,
        map_push state_of (take i xs) new,
        take_more ys i d within',
        map_push state_of (take i ys) (get_or ys i d),
        map_push f (map state_of (take i ys)) (state_of (get_or ys i d)),
        there,
        front,
        set_so,
      ) refl,
      drop-set-lt (i + 1) xs i new (omega arith) ∙ behind,
    )

-- all states are changed
pub changed_all : (f : State → State) (xs ys : List evaluator.State) (i n : ℕ) → length xs ≤ i → length xs ≡ length ys → n ≡ length ys
    → map state_of (take i xs) ≡ map f (map state_of (take i ys))
    → map state_of (take n (xs ++ drop (length xs) ys)) ≡ map f (map state_of ys)
changed_all f xs ys i n past same counted front =
    rw (drop_all (length xs) ys (omega arith), append-nil xs, take_all n xs (omega arith))
    (rw (take_all i xs past, take_all i ys (omega arith)) at front)

-- characters beside a place that pass are stepped over
pub step-passed : (context : Context) (dir : Direction) (k : ℕ) (test : List ℕ → Bool) (s : State) (cs : List ℕ) (p : ℕ)
    → Some (cs, p) ≡ beside context dir k s.place → test cs ≡ true → step context dir k test s ≡ record s { place = p } ∷ []
unfolding step
step-passed context dir k test s cs p found passed = rw (← found, passed) refl
