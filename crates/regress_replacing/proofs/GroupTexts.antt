-- The text of a group of a match.
use Rattle.std.proofs.Common.{◌≡◌, ℕ, zero, suc, Bool, true, false, Bor, List, [], ◌∷◌, map, Option, Some, None, option_map, unwrap_or, if◌then◌else◌, refl, sym, ap, ◌∙◌}
use Rattle.std.specs.Option.{option_copied}
use Rattle.std.specs.declared.ops.Range.{Range}
use Rattle.regress_meaning.specs.Text.{same_text}
use Rattle.regress_match.specs.declared.found.Match.{Match}
use Rattle.regress_match.specs.Views.{ends, item_of}
use Rattle.regress_match.specs.GroupRanges.{numbered, first_named, named, range_numbered, range_named, part_of}
use Rattle.regress_match.specs.GroupViews.{groups_of, names_of_match}
use Rattle.regress_replacing.specs.Replacing.{range_of_number, part_at}

-- what a group took, told otherwise
pub numbered-map : {A B : Type 0} (f : A → B) (groups : List (Option A)) (n : ℕ) → numbered (map (option_map f) groups) n ≡ option_map f (numbered groups n)
numbered-map f [] n = refl
numbered-map f (g ∷ groups) zero = refl
numbered-map f (g ∷ groups) (suc n) = numbered-map f groups n

first_named-map : {A B : Type 0} (f : A → B) (name : List ℕ) (names : List (List ℕ)) (groups : List (Option A))
    → first_named name names (map (option_map f) groups) ≡ option_map f (first_named name names groups)
first_named-map f name [] groups = refl
first_named-map f name (n ∷ names) [] = refl
first_named-map {A} {B} f name (n ∷ names) (g ∷ groups) = go (same_text n name) (first_named-map f name names groups)
  where
    go : (b : Bool) → first_named name names (map (option_map f) groups) ≡ option_map f (first_named name names groups)
        → (if b then option_map f g else first_named name names (map (option_map f) groups)) ≡ option_map f (if b then g else first_named name names groups)
    go true e = refl
    go false e = e

-- the range of a group of a match is that of its item
pub number-range : (m : Match) (n : ℕ) → option_map ends (range_numbered m n) ≡ range_of_number (item_of m) n
number-range m n = sym (numbered-map ends (groups_of m) n)

pub name-range : (m : Match) (name : List ℕ) → option_map ends (range_named m name) ≡ named (names_of_match m) (item_of m).groups name
name-range m [] = refl
name-range m (c ∷ name) = sym (first_named-map ends (c ∷ name) (names_of_match m) m.captures.items)

-- the text of a group, and none without a range
pub text_or_none : (text : List ℕ) (result none : Bor (List ℕ)) (part : Option (Bor (List ℕ))) (range : Option (Range ℕ))
    → result ≡ unwrap_or part none → none.now ≡ [] → option_copied part ≡ option_map (part_of text) range → result.now ≡ part_at text (option_map ends range)
text_or_none text result none None None is empty same = ap (λ (b : Bor (List ℕ)). b.now) is ∙ empty
text_or_none text result none None (Some r) is empty same = absurd (cc)
text_or_none text result none (Some p) None is empty same = absurd (cc)
text_or_none text result none (Some p) (Some r) is empty same = let e : p.now ≡ part_of text r = cc in ap (λ (b : Bor (List ℕ)). b.now) is ∙ e
