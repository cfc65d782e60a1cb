-- Parts one after another as one node.
use Rattle.std.proofs.Common.{◌≡◌, ◌<◌, ◌≤◌, Bool, true, false, List, [], ◌∷◌, ◌++◌, length, map, Option, Some, None, IsSome, refl, sym, ap, ◌∙◌, arith, rules, length-append}
use Rattle.std.specs.List.{flat_map}
use Rattle.std.specs.Option.{option_to_list, unwrap_or}
use Rattle.std.proofs.lemmas.List.{append-nil}
use Rattle.regress_meaning.specs.Meaning.{State, Direction, Context}
use Rattle.regress_front_nodes.specs.declared.node.Node.{Node}
use Rattle.regress_front_nodes.specs.declared.node.Node.TheVariants as N
use Rattle.regress_front_nodes.specs.Trees.{Tree, tree, cat_of}
use Rattle.regress_front_nodes.specs.TreeMeaning.{node_outcomes}
use Rattle.regress_front_nodes.specs.Forms.{cat_made, in_reading_order}
use Rattle.regress_front_nodes.proofs.StepLemmas.{flat_map-again, flat_map-self}
use Rattle.regress_front_nodes.proofs.TreeLaws.{tree-Empty}
use Rattle.regress_front_nodes.proofs.NodeLemmas.{map-reverse}

pub cat_made-many : (ts : List Tree) → 1 < length ts → cat_of ts ≡ cat_made ts
cat_made-many [] h = absurd (omega arith)
cat_made-many (t ∷ []) h = absurd (omega arith)
cat_made-many (t ∷ u ∷ ts) h = refl

-- the last of at most one part, or the empty text
pub cat_made-few : (xs rest : List Node) (o : Option Node) → xs ≡ rest ++ option_to_list o → length xs ≤ 1 → (0 < length xs → IsSome o)
    → tree (unwrap_or o N.Empty) ≡ cat_made (map tree xs)
cat_made-few [] [] None e h some = tree-Empty
cat_made-few [] rest (Some x) e h some = absurd (omega (arith, ap length e, length-append rest (x ∷ [])))
cat_made-few [] (y ∷ rest) None e h some = absurd cc
cat_made-few (x ∷ xs) rest None e h some = absurd (let s = some (omega arith) in search rules)
cat_made-few (x ∷ []) [] (Some y) e h some = let same : y ≡ x = cc in ap tree same
cat_made-few (x ∷ []) (z ∷ rest) (Some y) e h some = absurd (omega (arith, ap length e, length-append rest (y ∷ [])))
cat_made-few (x ∷ w ∷ xs) rest (Some y) e h some = absurd (omega arith)

pub in_reading_order-map : {A B : Type 0} (f : A → B) (b : Bool) (xs : List A) → map f (in_reading_order b xs) ≡ in_reading_order b (map f xs)
in_reading_order-map f true xs = map-reverse f xs
in_reading_order-map f false xs = refl

-- the parts in the order of reading
pub ordered : (b : Bool) (xs ys : List Node) → ys ≡ in_reading_order b xs → cat_made (in_reading_order b (map tree xs)) ≡ cat_made (map tree ys)
ordered b xs ys e = ap cat_made (sym (ap (map tree) e ∙ in_reading_order-map tree b xs))

-- what parts match, one after another

module _ (w : Context) where
  pub made-outcomes : (ts : List Tree) (dir : Direction) (s : State) → node_outcomes w (cat_made ts) dir s ≡ node_outcomes w (cat_of ts) dir s
  unfolding node_outcomes
  made-outcomes [] dir s = refl
  made-outcomes (t ∷ []) dir s = sym (flat_map-self (node_outcomes w t dir s))
  made-outcomes (t ∷ u ∷ ts) dir s = refl

  pub cat_of-append : (ts us : List Tree) (dir : Direction) (s : State) → node_outcomes w (cat_of (ts ++ us)) dir s ≡ flat_map (node_outcomes w (cat_of us) dir) (node_outcomes w (cat_of ts) dir s)
  unfolding node_outcomes
  cat_of-append [] us dir s = sym (append-nil (node_outcomes w (cat_of us) dir s))
  cat_of-append (t ∷ ts) us dir s =
      (λ i. flat_map (λ r. cat_of-append ts us dir r i) (node_outcomes w t dir s))
      ∙ sym (flat_map-again (node_outcomes w (cat_of us) dir) (node_outcomes w (cat_of ts) dir) (node_outcomes w t dir s))
