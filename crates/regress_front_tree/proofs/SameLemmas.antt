-- Trees with the same groups, names and loops: parts one after another, put together in several ways, and arms.
use Rattle.std.proofs.Common.{◌≡◌, ℕ, ◌+◌, List, [], ◌∷◌, ◌++◌, refl, sym, ap, ap₂, ◌∙◌, arith}
use Rattle.std.specs.Option.{option_or}
use Rattle.std.proofs.lemmas.List.{append_assoc, append-nil}
use Rattle.regress_front_nodes.specs.Trees.{Tree, cat, no_part, alt, cat_of}
use Rattle.regress_front_nodes.specs.WellFormed.{HoldsNoSingleLoop, group_ids, goals, AreLawful}
use Rattle.regress_front_nodes.specs.Sizes.{loops}
use Rattle.regress_front_nodes.specs.WellFormed.{name_by_number}
use Rattle.regress_front_nodes.specs.Forms.{cat_made}
use Rattle.regress_front_nodes.proofs.OptionLemmas.{option_or-none, option_or-again}
use Rattle.regress_front_tree.specs.Lowering.{HasArms, one_arm, two_halves}

-- Trees with the same groups, names and loops, both lawful or neither.
pub record Same (t u : Tree) : Type 0 where
  pub ids : group_ids u ≡ group_ids t
  pub goals : goals u ≡ goals t
  pub loops : loops u ≡ loops t
  pub named : (i : ℕ) → name_by_number i u ≡ name_by_number i t
  pub lawful : (n : ℕ) → AreLawful n t → AreLawful n u
  pub lawful_back : (n : ℕ) → AreLawful n u → AreLawful n t
  pub plain : HoldsNoSingleLoop t → HoldsNoSingleLoop u
  pub plain_back : HoldsNoSingleLoop u → HoldsNoSingleLoop t

same-refl : (t : Tree) → Same t t
same-refl t = record {
  ids = refl;
  goals = refl;
  loops = refl;
  named = λ i. refl;
  lawful = λ n h. h;
  lawful_back = λ n h. h;
  plain = λ h. h;
  plain_back = λ h. h;
}

same-sym : {t u : Tree} → Same t u → Same u t
same-sym s = record {
  ids = sym s.ids;
  goals = sym s.goals;
  loops = sym s.loops;
  named = λ i. sym (s.named i);
  lawful = s.lawful_back;
  lawful_back = s.lawful;
  plain = s.plain_back;
  plain_back = s.plain;
}

same-trans : {t u v : Tree} → Same t u → Same u v → Same t v
same-trans a b = record {
  ids = b.ids ∙ a.ids;
  goals = b.goals ∙ a.goals;
  loops = b.loops ∙ a.loops;
  named = λ i. b.named i ∙ a.named i;
  lawful = λ n h. b.lawful n (a.lawful n h);
  lawful_back = λ n h. a.lawful_back n (b.lawful_back n h);
  plain = λ h. b.plain (a.plain h);
  plain_back = λ h. a.plain_back (b.plain_back h);
}

same-cat : {t u v w : Tree} → Same t u → Same v w → Same (cat t v) (cat u w)
same-cat a b = record {
  ids = ap₂ (λ xs ys. xs ++ ys) a.ids b.ids;
  goals = ap₂ (λ x y. x + y) a.goals b.goals;
  loops = ap₂ (λ x y. x + y) a.loops b.loops;
  named = λ i. ap₂ option_or (a.named i) (b.named i);
  lawful = λ n h. (a.lawful n h.0, b.lawful n h.1);
  lawful_back = λ n h. (a.lawful_back n h.0, b.lawful_back n h.1);
  plain = λ h. (a.plain h.0, b.plain h.1);
  plain_back = λ h. (a.plain_back h.0, b.plain_back h.1);
}

same-alt : {t u v w : Tree} → Same t u → Same v w → Same (cat t v) (alt u w)
same-alt a b =
    let s = same-cat a b in
    record {
      ids = s.ids;
      goals = s.goals;
      loops = s.loops;
      named = s.named;
      lawful = s.lawful;
      lawful_back = s.lawful_back;
      plain = s.plain;
      plain_back = s.plain_back;
    }

-- one part is itself
same-one : (t : Tree) → Same (cat t no_part) t
same-one t = record {
  ids = sym (append-nil (group_ids t));
  goals = omega arith;
  loops = omega arith;
  named = λ i. sym (option_or-none (name_by_number i t));
  lawful = λ n h. h.0;
  lawful_back = λ n h. (h, tt);
  plain = λ h. h.0;
  plain_back = λ h. (h, tt);
}

-- the parts of two are the parts of one
pub same-join : (ts us : List Tree) → Same (cat (cat_of ts) (cat_of us)) (cat_of (ts ++ us))
same-join [] us = record {
  ids = refl;
  goals = omega arith;
  loops = omega arith;
  named = λ i. refl;
  lawful = λ n h. h.1;
  lawful_back = λ n h. (tt, h);
  plain = λ h. h.1;
  plain_back = λ h. (tt, h);
}
same-join (t ∷ ts) us =
    let rest = same-join ts us in
    record {
      ids = ap (λ xs. group_ids t ++ xs) rest.ids
          ∙ sym (append_assoc (group_ids t) (group_ids (cat_of ts)) (group_ids (cat_of us)));
      goals = omega (arith, rest.goals);
      loops = omega (arith, rest.loops);
      named = λ i. ap (option_or (name_by_number i t)) (rest.named i)
          ∙ option_or-again (name_by_number i t) (name_by_number i (cat_of ts)) (name_by_number i (cat_of us));
      lawful = λ n h. (h.0.0, rest.lawful n (h.0.1, h.1));
      lawful_back = λ n h. let k = rest.lawful_back n h.1 in ((h.0, k.0), k.1);
      plain = λ h. (h.0.0, rest.plain (h.0.1, h.1));
      plain_back = λ h. let k = rest.plain_back h.1 in ((h.0, k.0), k.1);
    }

pub same-push : (ts : List Tree) (t : Tree) → Same (cat (cat_of ts) t) (cat_of (ts ++ t ∷ []))
same-push ts t = same-trans (same-cat (same-refl (cat_of ts)) (same-sym (same-one t))) (same-join ts (t ∷ []))

pub same-made : (ts : List Tree) → Same (cat_of ts) (cat_made ts)
same-made [] = record {
  ids = refl;
  goals = refl;
  loops = refl;
  named = λ i. refl;
  lawful = λ n h. h;
  lawful_back = λ n h. h;
  plain = λ h. h;
  plain_back = λ h. h;
}
same-made (t ∷ []) = same-one t
same-made (t ∷ u ∷ ts) = same-refl (cat_of (t ∷ u ∷ ts))

pub same-arms : {ts : List Tree} {t : Tree} → HasArms ts t → Same (cat_of ts) t
same-arms (one_arm {t}) = same-one t
same-arms (two_halves {ts} {us} h k) = same-trans (same-sym (same-join ts us)) (same-alt (same-arms h) (same-arms k))
