-- Numbers in order, and the patterns whose groups have them.
use Rattle.std.specs.Prelude.{if◌then◌else◌, nat_le, nat_lt, cond}
use Rattle.std.proofs.Common.{◌≡◌, ℕ, zero, suc, ◌+◌, ◌≤◌, ◌&&◌, ◌==◌, List, [], ◌∷◌, ◌++◌, length, Option, Some, None, refl, sym, ap, ap₂, ◌∙◌, arith, length-append}
use Rattle.std.proofs.lemmas.Bool.Decides.{nat_tests}
use Rattle.std.proofs.lemmas.List.{append-nil}
use Rattle.regress_meaning.specs.Text.{count_up}
use Rattle.regress_meaning.specs.Pattern as meaning
use Rattle.regress_meaning.specs.Pattern.{Pattern, names_of}
use Rattle.regress_meaning.specs.Numbering.{group_numbers, FitsGroups}
use Rattle.regress_meaning.specs.Limits.{quantifiers, most_groups}
use Rattle.regress_front_tokens.specs.Trees.{sequence_of, choice_of}
use Rattle.regress_front_nodes.specs.WellFormed.{AreNumbered}
use Rattle.regress_front_nodes.proofs.CountLemmas.{times, count-cons}

-- numbers in order

has-first : (i a m : ℕ)
    → cond (a == i) 1 0 + (if nat_le (suc a) i && nat_lt i (suc a + m) then 1 else 0) ≡ (if nat_le a i && nat_lt i (a + suc m) then 1 else 0)
has-first i a m = grind (arith, nat_tests)

count_up-has : (i a m : ℕ) → times i (count_up a m) ≡ (if nat_le a i && nat_lt i (a + m) then 1 else 0)
count_up-has i a zero = grind (arith, nat_tests)
count_up-has i a (suc m) =
    let rest = count_up-has i (suc a) m in
    count-cons i a (count_up (suc a) m) ∙ ap (λ x. cond (a == i) 1 0 + x) rest ∙ has-first i a m

pub numbered-from : {a b : ℕ} (m : ℕ) {ids numbers : List ℕ} → ((i : ℕ) → times i ids ≡ times i numbers) → numbers ≡ count_up a m
    → b ≡ a + m → AreNumbered a b ids
numbered-from {a = a} {b = b} m same e f = record {
  order = omega arith;
  once = λ i. same i ∙ ap (times i) e ∙ count_up-has i a m ∙ ap (λ c. if nat_le a i && nat_lt i c then 1 else 0) (sym f);
}

-- a front of numbers in order, and the rest
count_up-split : (k : ℕ) (xs ys : List ℕ) (m : ℕ) → xs ++ ys ≡ count_up k (length xs + m)
    → (xs ≡ count_up k (length xs)) × (ys ≡ count_up (k + length xs) m)
count_up-split k [] ys m e = (refl, e ∙ ap₂ count_up (omega arith) (omega arith))
count_up-split k (x ∷ xs) ys m e =
    let f : suc (length xs) + m ≡ suc (length xs + m) = omega arith in
    let g : x ∷ (xs ++ ys) ≡ k ∷ count_up (suc k) (length xs + m) = e ∙ ap (count_up k) f in
    let first : x ≡ k = cc in
    let rest : xs ++ ys ≡ count_up (suc k) (length xs + m) = cc in
    let h = count_up-split (suc k) xs ys m rest in
    (ap₂ (λ y zs. y ∷ zs) first h.0, h.1 ∙ ap (λ a. count_up a m) (omega arith))

-- a pattern has a number for each name
numbers-count : (p : Pattern) → length (group_numbers p) ≡ length (names_of p)
numbers-count (meaning.sequence p q) =
    let numbers = length-append (group_numbers p) (group_numbers q) in
    let names = length-append (names_of p) (names_of q) in
    omega (arith, numbers, names, numbers-count p, numbers-count q)
numbers-count (meaning.choice p q) =
    let numbers = length-append (group_numbers p) (group_numbers q) in
    let names = length-append (names_of p) (names_of q) in
    omega (arith, numbers, names, numbers-count p, numbers-count q)
numbers-count (meaning.capture k None p) = ap suc (numbers-count p)
numbers-count (meaning.capture k (Some name) p) = ap suc (numbers-count p)
numbers-count (meaning.grouped p) = numbers-count p
numbers-count (meaning.atomic p) = numbers-count p
numbers-count (meaning.modified on off p) = numbers-count p
numbers-count (meaning.repeated p first last least most greedy) = numbers-count p
numbers-count (meaning.look negated backward p) = numbers-count p
numbers-count _ = refl

-- A pattern's groups are numbered on from k, and what refers to groups fits n of them.
pub record IsNumberedFrom (n k : ℕ) (p : Pattern) : Type 0 where
  pub in_order : group_numbers p ≡ count_up k (length (names_of p))
  pub fitting : FitsGroups n p
  pub few : k + length (names_of p) ≤ most_groups

pub sequence-numbered : {n k : ℕ} {p q : Pattern} → IsNumberedFrom n k (meaning.sequence p q)
    → IsNumberedFrom n k p × IsNumberedFrom n (k + length (names_of p)) q
sequence-numbered {k = k} {p = p} {q = q} h =
    let few : k + length (names_of p ++ names_of q) ≤ most_groups = h.few in
    let e : length (names_of p ++ names_of q) ≡ length (group_numbers p) + length (names_of q) =
    length-append (names_of p) (names_of q) ∙ ap (λ m. m + length (names_of q)) (sym (numbers-count p)) in
    let parts = count_up-split k (group_numbers p) (group_numbers q) (length (names_of q)) (h.in_order ∙ ap (count_up k) e) in (
      record {
        in_order = parts.0 ∙ ap (count_up k) (numbers-count p);
        fitting = h.fitting.0;
        few = omega (arith, few, e, numbers-count p);
      },
      record {
        in_order = parts.1 ∙ ap (λ m. count_up (k + m) (length (names_of q))) (numbers-count p);
        fitting = h.fitting.1;
        few = omega (arith, few, e, numbers-count p);
      },
    )

-- a group has the next number, and its contents go on behind it
pub capture-numbered : {n k : ℕ} (j : ℕ) (name : Option (List ℕ)) (p : Pattern) → IsNumberedFrom n k (meaning.capture j name p)
    → (j ≡ k) × IsNumberedFrom n (suc k) p
capture-numbered {n = n} {k = k} j name p h = by_name name h
  where
    by_parts : j ∷ group_numbers p ≡ k ∷ count_up (suc k) (length (names_of p)) → FitsGroups n p
        → suc k + length (names_of p) ≤ most_groups → (j ≡ k) × IsNumberedFrom n (suc k) p
    by_parts e fitting few =
        let first : j ≡ k = cc in
        let rest : group_numbers p ≡ count_up (suc k) (length (names_of p)) = cc in
        (first, record { in_order = rest; fitting = fitting; few = few })

    by_name : (o : Option (List ℕ)) → IsNumberedFrom n k (meaning.capture j o p)
        → (j ≡ k) × IsNumberedFrom n (suc k) p
    by_name None h = by_parts h.in_order h.fitting (omega (arith, h.few))
    by_name (Some name) h = by_parts h.in_order h.fitting (omega (arith, h.few))

-- alternatives are numbered as if they stood one after another

pub choice-names : (ps : List Pattern) → names_of (sequence_of ps) ≡ names_of (choice_of ps)
choice-names [] = refl
choice-names (p ∷ []) = append-nil (names_of p)
choice-names (p ∷ q ∷ ps) = ap (λ ns. names_of p ++ ns) (choice-names (q ∷ ps))

pub choice-numbers : (ps : List Pattern) → group_numbers (sequence_of ps) ≡ group_numbers (choice_of ps)
choice-numbers [] = refl
choice-numbers (p ∷ []) = append-nil (group_numbers p)
choice-numbers (p ∷ q ∷ ps) = ap (λ ns. group_numbers p ++ ns) (choice-numbers (q ∷ ps))

pub choice-quantifiers : (ps : List Pattern) → quantifiers (sequence_of ps) ≡ quantifiers (choice_of ps)
choice-quantifiers [] = refl
choice-quantifiers (p ∷ []) = omega arith
choice-quantifiers (p ∷ q ∷ ps) = ap (λ m. quantifiers p + m) (choice-quantifiers (q ∷ ps))

choice-fitting : (n : ℕ) (ps : List Pattern) → FitsGroups n (choice_of ps) → FitsGroups n (sequence_of ps)
choice-fitting n [] h = h
choice-fitting n (p ∷ []) h = (h, tt)
choice-fitting n (p ∷ q ∷ ps) h = (h.0, choice-fitting n (q ∷ ps) h.1)

pub choice-numbered : {n k : ℕ} (ps : List Pattern) → IsNumberedFrom n k (choice_of ps) → IsNumberedFrom n k (sequence_of ps)
choice-numbered {n = n} {k = k} ps h = record {
  in_order = choice-numbers ps ∙ h.in_order ∙ ap (λ ns. count_up k (length ns)) (sym (choice-names ps));
  fitting = choice-fitting n ps h.fitting;
  few = omega (arith, h.few, ap length (choice-names ps));
}
