-- Which classes may hold strings, by their form.
use Rattle.std.proofs.Common.{◌≡◌, ℕ, Bool, true, false, not, ◌&&◌, ◌||◌, ◌==◌, List, [], ◌∷◌, length, map, fold, refl, ap, ◌∙◌}
use Rattle.std.specs.Global.{Vec}
use Rattle.std.specs.List.{list_any, list_all}
use Rattle.regress_meaning.specs.Class.{Class, intersection, difference, may_hold_strings}
use Rattle.regress_front_tokens.specs.declared.syntax.Class.{Class as ClassValue}
use Rattle.regress_front_tokens.specs.Trees.{class_view, union_of}

-- the value's class may
abbrev pub holds_strings : ClassValue → Bool
holds_strings c = may_hold_strings (class_view c)

pub strings-hold : (ss : List (Vec ℕ)) → list_any (λ (s : List ℕ). not (length s == 1)) (map (λ s. s.items) ss) ≡ list_any (λ s. not (length s.items == 1)) ss
strings-hold [] = refl
strings-hold (s ∷ ss) = ap (λ b. not (length s.items == 1) || b) (strings-hold ss)

pub union_of-holds : (members : List ClassValue) → may_hold_strings (union_of (map class_view members)) ≡ list_any holds_strings members
union_of-holds [] = refl
union_of-holds (c ∷ cs) = ap (λ b. holds_strings c || b) (union_of-holds cs)

and-assoc : (a b c : Bool) → ((a && b) && c) ≡ (a && (b && c))
and-assoc true b c = refl
and-assoc false b c = refl

and-true : (a : Bool) → a ≡ (a && true)
and-true true = refl
and-true false = refl

pub intersection-holds : (first : Class) (others : List ClassValue) → may_hold_strings (fold intersection first (map class_view others)) ≡ (may_hold_strings first && list_all holds_strings others)
intersection-holds first [] = and-true (may_hold_strings first)
intersection-holds first (c ∷ cs) = intersection-holds (intersection first (class_view c)) cs ∙ and-assoc (may_hold_strings first) (holds_strings c) (list_all holds_strings cs)

pub difference-holds : (first : Class) (others : List ClassValue) → may_hold_strings (fold difference first (map class_view others)) ≡ may_hold_strings first
difference-holds first [] = refl
difference-holds first (c ∷ cs) = difference-holds (difference first (class_view c)) cs
