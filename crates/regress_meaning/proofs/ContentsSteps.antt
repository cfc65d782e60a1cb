-- The functions that read a class with `v` go step by step, whatever the bound on how deep their calls go, if that is enough.
use Rattle.std.proofs.Common.{◌≡◌, ℕ, suc, zero, ◌+◌, ◌*◌, ◌<◌, ◌≤◌, Bool, true, false, not, ◌&&◌, ◌==◌, nat_le, List, [], ◌∷◌, length, drop, Option, Some, None, option_and_then, option_map, refl, sym, ap, ◌∙◌, le_refl, arith, length-drop}
use Rattle.regress_meaning.specs.Text.{◌∈◌, is_at}
use Rattle.regress_meaning.specs.Class.{Class, intersection, difference}
use Rattle.regress_meaning.specs.Tokens.{Mode}
use Rattle.regress_meaning.specs.Laws.{ContentsBySteps}
use Rattle.regress_meaning.specs.ReadingClass.{closes_class, two_at, opens_strings, SetItem, one_point, any_class, item_class, read_set_character, read_set_string, read_set_strings, inner_item, read_range, union_from, read_operand, read_contents, read_union, read_intersection, read_difference, set_string_at, set_strings_at, operand_at, contents_at, union_at, intersection_at, difference_at}
use Rattle.regress_meaning.proofs.Inversion.{Gives, gives-some, gives-guard, gives-then}
use Rattle.regress_meaning.proofs.Shorter.{SetCharacter-shorter, SetString-shorter, Operand-shorter}
use Rattle.regress_meaning.proofs.ReadSteps.{gives-test, gives-itself}
use Rattle.regress_meaning.proofs.ReadContents.{ItemFits, read_set_character-gives, read_set_string-gives, read_operand-gives, strings_front}
use Rattle.regress_meaning.proofs.FlatClasses.{read_set_atom-flat, read_members-flat}

-- Two answers are the same where their parts are.

test_agree : {A : Type 0} (b : Bool) {x y z w : A} → (b ≡ true → x ≡ z) → (b ≡ false → y ≡ w)
    → ◌≡◌ {A = A} (elim b [ true ↦ x | false ↦ y ]) (elim b [ true ↦ z | false ↦ w ])
test_agree true h k = h refl
test_agree false h k = k refl

pub then_agree : {A B : Type 0} (f g : A → Option B) (o : Option A) → ((a : A) → o ≡ Some a → f a ≡ g a) → option_and_then f o ≡ option_and_then g o
then_agree f g None same = refl
then_agree f g (Some a) same = same a refl

-- the first was read alike, and what follows
both_agree : {A B : Type 0} (f g : A → Option B) {o p : Option A} → o ≡ p → ((a : A) → o ≡ Some a → f a ≡ g a) → option_and_then f o ≡ option_and_then g p
both_agree f g {o = o} e same = then_agree f g o same ∙ ap (option_and_then g) e

-- What is read leaves less of the text.

front-below : (test : ℕ → Bool) (t : List ℕ) → is_at test t ≡ true → length (drop 1 t) < length t
front-below test [] h = cc
front-below test (c ∷ t) h = omega arith

ItemFits-shorter : (m : Mode) (t : List ℕ) (i : SetItem) (r : List ℕ) → ItemFits m t i r → length r < length t
ItemFits-shorter m t (one_point c) r h = SetCharacter-shorter m h
ItemFits-shorter m t (any_class s) r h = Operand-shorter m h

character-shorter : (m : Mode) (t : List ℕ) {x : ℕ × List ℕ} → read_set_character m t ≡ Some x → length x.1 < length t
character-shorter m t e = SetCharacter-shorter m ((read_set_character-gives m t).holds e)

string-shorter : (m : Mode) (n : ℕ) (t : List ℕ) {x : List ℕ × List ℕ} → read_set_string m n t ≡ Some x → length x.1 ≤ length t
string-shorter m n t e = SetString-shorter m ((read_set_string-gives m n t).holds e)

operand-shorter : (m : Mode) (n : ℕ) (t : List ℕ) {x : SetItem × List ℕ} → read_operand m n t ≡ Some x → length x.1 < length t
operand-shorter m n t {x} e = ItemFits-shorter m t x.0 x.1 ((read_operand-gives m n t).holds e)

range-below : (m : Mode) (i : SetItem) (t : List ℕ) → Gives (λ x. length x.1 ≤ length t) (read_range m i t)
unfolding read_range
range-below m (one_point c) t = gives-test (is_at (λ c. c == 0x2D) t)
    (λ _. gives-then _ _ (gives-itself (read_set_character m (drop 1 t)))
    (λ x h. gives-guard (nat_le c x.0) (λ _. gives-some (omega (arith, character-shorter m (drop 1 t) h, length-drop 1 t)))))
    (λ _. gives-some (le_refl (length t)))
range-below m (any_class s) t = gives-guard (not (is_at (λ c. c == 0x2D) t)) (λ _. gives-some (le_refl (length t)))

range-shorter : (m : Mode) (i : SetItem) (t : List ℕ) {x : Class × List ℕ} → read_range m i t ≡ Some x → length x.1 ≤ length t
range-shorter m i t e = (range-below m i t).holds e

-- Bounds that are enough give the same.

string-steady : (m : Mode) (n k : ℕ) (t : List ℕ) → length t < n → length t < k → read_set_string m n t ≡ read_set_string m k t
unfolding read_set_string
string-steady m zero k t a b = absurd (omega arith)
string-steady m (suc n) zero t a b = absurd (omega arith)
string-steady m (suc n) (suc k) t a b = test_agree (is_at (λ c. c ∈ "|}") t) (λ _. refl)
    (λ _. then_agree _ _ (read_set_character m t) (λ x e. let less = character-shorter m t e in
    ap (option_map _) (string-steady m n k x.1 (omega arith) (omega arith))))

strings-steady : (m : Mode) (n k : ℕ) (t : List ℕ) → suc (length t) < n → suc (length t) < k → read_set_strings m n t ≡ read_set_strings m k t
unfolding read_set_strings
strings-steady m zero k t a b = absurd (omega arith)
strings-steady m (suc n) zero t a b = absurd (omega arith)
strings-steady m (suc n) (suc k) t a b = both_agree _ _ (string-steady m n k t (omega arith) (omega arith))
    (λ x e. let less = string-shorter m n t e in test_agree (is_at (λ c. c == 0x7D) x.1) (λ _. refl)
    (λ _. test_agree (is_at (λ c. c == 0x7C) x.1)
    (λ bar. let further = front-below _ x.1 bar in ap (option_map _) (strings-steady m n k (drop 1 x.1) (omega arith) (omega arith))) (λ _. refl)))

-- behind an item a union goes on alike
union_from-agree : (m : Mode) (f g : List ℕ → Option (Class × List ℕ)) (i : SetItem) (u : List ℕ)
    → ((v : List ℕ) → length v ≤ length u → f v ≡ g v) → union_from m f i u ≡ union_from m g i u
union_from-agree m f g i u same = then_agree _ _ (read_range m i u) (λ x e. ap (option_map _) (same x.1 (range-shorter m i u e)))

module _ (m : Mode) where
  mutual
    unfolding read_operand

    operand-steady : (n k : ℕ) (t : List ℕ) → 2 * length t < n → 2 * length t < k → read_operand m n t ≡ read_operand m k t
    operand-steady zero k t a b = absurd (omega arith)
    operand-steady (suc n) zero t a b = absurd (omega arith)
    operand-steady (suc n) (suc k) t a b = test_agree (is_at (λ c. c == 0x5B) t)
        (λ bracket. let less = front-below _ t bracket in test_agree (is_at (λ c. c == 0x5E) (drop 1 t))
        (λ _. let inside : length (drop 2 t) < length t = omega (arith, length-drop 2 t) in
        ap (inner_item true) (contents-steady n k (drop 2 t) (omega arith) (omega arith)))
        (λ _. ap (inner_item false) (contents-steady n k (drop 1 t) (omega arith) (omega arith))))
        (λ _. test_agree (opens_strings t)
        (λ opens. let whole = ap length (strings_front t opens) in
        ap (option_map _) (strings-steady m n k (drop 3 t) (omega arith) (omega arith)))
        (λ _. refl))

    contents-steady : (n k : ℕ) (t : List ℕ) → 2 * length t + 1 < n → 2 * length t + 1 < k → read_contents m n t ≡ read_contents m k t
    contents-steady zero k t a b = absurd (omega arith)
    contents-steady (suc n) zero t a b = absurd (omega arith)
    contents-steady (suc n) (suc k) t a b = test_agree (closes_class t) (λ _. refl)
        (λ _. both_agree _ _ (operand-steady n k t (omega arith) (omega arith)) (λ x e. let less = operand-shorter m n t e in
        test_agree (two_at 0x26 0x26 x.1) (λ _. intersection-steady n k (item_class x.0) x.1 (omega arith) (omega arith))
        (λ _. test_agree (two_at 0x2D 0x2D x.1) (λ _. difference-steady n k (item_class x.0) x.1 (omega arith) (omega arith))
        (λ _. union_from-agree m (λ v. read_union m n v) (λ v. read_union m k v) x.0 x.1 (λ v no_more. union-steady n k v (omega arith) (omega arith))))))

    union-steady : (n k : ℕ) (t : List ℕ) → 2 * length t + 1 < n → 2 * length t + 1 < k → read_union m n t ≡ read_union m k t
    union-steady zero k t a b = absurd (omega arith)
    union-steady (suc n) zero t a b = absurd (omega arith)
    union-steady (suc n) (suc k) t a b = test_agree (closes_class t) (λ _. refl)
        (λ _. both_agree _ _ (operand-steady n k t (omega arith) (omega arith)) (λ x e. let less = operand-shorter m n t e in
        union_from-agree m (λ v. read_union m n v) (λ v. read_union m k v) x.0 x.1 (λ v no_more. union-steady n k v (omega arith) (omega arith))))

    intersection-steady : (n k : ℕ) (a : Class) (t : List ℕ) → 2 * length t + 1 < n → 2 * length t + 1 < k → read_intersection m n a t ≡ read_intersection m k a t
    intersection-steady zero k a t p q = absurd (omega arith)
    intersection-steady (suc n) zero a t p q = absurd (omega arith)
    intersection-steady (suc n) (suc k) a t p q = let behind = length-drop 2 t in
        test_agree (two_at 0x26 0x26 t && not (is_at (λ c. c == 0x26) (drop 2 t)))
        (λ _. both_agree _ _ (operand-steady n k (drop 2 t) (omega arith) (omega arith)) (λ x e. let less = operand-shorter m n (drop 2 t) e in
        test_agree (closes_class x.1) (λ _. refl) (λ _. intersection-steady n k (intersection a (item_class x.0)) x.1 (omega arith) (omega arith))))
        (λ _. refl)

    difference-steady : (n k : ℕ) (a : Class) (t : List ℕ) → 2 * length t + 1 < n → 2 * length t + 1 < k → read_difference m n a t ≡ read_difference m k a t
    difference-steady zero k a t p q = absurd (omega arith)
    difference-steady (suc n) zero a t p q = absurd (omega arith)
    difference-steady (suc n) (suc k) a t p q = let behind = length-drop 2 t in
        test_agree (two_at 0x2D 0x2D t)
        (λ _. both_agree _ _ (operand-steady n k (drop 2 t) (omega arith) (omega arith)) (λ x e. let less = operand-shorter m n (drop 2 t) e in
        test_agree (closes_class x.1) (λ _. refl) (λ _. difference-steady n k (difference a (item_class x.0)) x.1 (omega arith) (omega arith))))
        (λ _. refl)

  operand-enough : (n : ℕ) (t : List ℕ) → 2 * length t < n → read_operand m n t ≡ operand_at m t
  unfolding operand_at
  operand-enough n t room = operand-steady n (2 * length t + 1) t room (omega arith)

  contents-enough : (n : ℕ) (t : List ℕ) → 2 * length t + 1 < n → read_contents m n t ≡ contents_at m t
  unfolding contents_at
  contents-enough n t room = contents-steady n (2 * length t + 2) t room (omega arith)

  union-enough : (n : ℕ) (t : List ℕ) → 2 * length t + 1 < n → read_union m n t ≡ union_at m t
  unfolding union_at
  union-enough n t room = union-steady n (2 * length t + 2) t room (omega arith)

  intersection-enough : (n : ℕ) (a : Class) (t : List ℕ) → 2 * length t + 1 < n → read_intersection m n a t ≡ intersection_at m a t
  unfolding intersection_at
  intersection-enough n a t room = intersection-steady n (2 * length t + 2) a t room (omega arith)

  difference-enough : (n : ℕ) (a : Class) (t : List ℕ) → 2 * length t + 1 < n → read_difference m n a t ≡ difference_at m a t
  unfolding difference_at
  difference-enough n a t room = difference-steady n (2 * length t + 2) a t room (omega arith)

  string-enough : (n : ℕ) (t : List ℕ) → length t < n → read_set_string m n t ≡ set_string_at m t
  unfolding set_string_at
  string-enough n t room = string-steady m n (suc (length t)) t room (omega arith)

  strings-enough : (n : ℕ) (t : List ℕ) → suc (length t) < n → read_set_strings m n t ≡ set_strings_at m t
  unfolding set_strings_at
  strings-enough n t room = strings-steady m n (length t + 2) t room (omega arith)

  -- so each is what one step of it says
  pub contents_by_steps : (t : List ℕ) → ContentsBySteps m t
  unfolding read_operand read_set_string read_set_strings
  contents_by_steps t =
      let n = 2 * length t in
      let behind = length-drop 2 t in
      record {
        string_step = sym (string-enough (suc (length t)) t (omega arith)) ∙ test_agree (is_at (λ c. c ∈ "|}") t) (λ _. refl)
            (λ _. then_agree _ _ (read_set_character m t) (λ x e. let less = character-shorter m t e in
            ap (option_map _) (string-enough (length t) x.1 (omega arith))));
        strings_step = sym (strings-enough (suc (suc (length t))) t (omega arith)) ∙ both_agree _ _ (string-enough (suc (length t)) t (omega arith))
            (λ x e. let less = string-shorter m (suc (length t)) t e in test_agree (is_at (λ c. c == 0x7D) x.1) (λ _. refl)
            (λ _. test_agree (is_at (λ c. c == 0x7C) x.1)
            (λ bar. let further = front-below _ x.1 bar in ap (option_map _) (strings-enough (suc (length t)) (drop 1 x.1) (omega arith))) (λ _. refl)));
        operand_step = sym (operand-enough (suc n) t (omega arith)) ∙ test_agree (is_at (λ c. c == 0x5B) t)
            (λ bracket. let less = front-below _ t bracket in test_agree (is_at (λ c. c == 0x5E) (drop 1 t))
            (λ _. let inside : length (drop 2 t) < length t = omega (arith, behind) in
            ap (inner_item true) (contents-enough n (drop 2 t) (omega arith)))
            (λ _. ap (inner_item false) (contents-enough n (drop 1 t) (omega arith))))
            (λ _. test_agree (opens_strings t)
            (λ opens. let whole = ap length (strings_front t opens) in
            ap (option_map _) (strings-enough n (drop 3 t) (omega arith)))
            (λ _. refl));
        contents_step = sym (contents-enough (suc (suc n)) t (omega arith)) ∙ test_agree (closes_class t) (λ _. refl)
            (λ _. both_agree _ _ (operand-enough (suc n) t (omega arith)) (λ x e. let less = operand-shorter m (suc n) t e in
            test_agree (two_at 0x26 0x26 x.1) (λ _. intersection-enough (suc n) (item_class x.0) x.1 (omega arith))
            (λ _. test_agree (two_at 0x2D 0x2D x.1) (λ _. difference-enough (suc n) (item_class x.0) x.1 (omega arith))
            (λ _. union_from-agree m (λ v. read_union m (suc n) v) (λ v. union_at m v) x.0 x.1 (λ v no_more. union-enough (suc n) v (omega arith))))));
        union_step = sym (union-enough (suc (suc n)) t (omega arith)) ∙ test_agree (closes_class t) (λ _. refl)
            (λ _. both_agree _ _ (operand-enough (suc n) t (omega arith)) (λ x e. let less = operand-shorter m (suc n) t e in
            union_from-agree m (λ v. read_union m (suc n) v) (λ v. union_at m v) x.0 x.1 (λ v no_more. union-enough (suc n) v (omega arith))));
        intersection_step = λ a. sym (intersection-enough (suc (suc n)) a t (omega arith)) ∙ test_agree (two_at 0x26 0x26 t && not (is_at (λ c. c == 0x26) (drop 2 t)))
            (λ _. both_agree _ _ (operand-enough (suc n) (drop 2 t) (omega (arith, behind))) (λ x e. let less = operand-shorter m (suc n) (drop 2 t) e in
            test_agree (closes_class x.1) (λ _. refl) (λ _. intersection-enough (suc n) (intersection a (item_class x.0)) x.1 (omega (arith, behind)))))
            (λ _. refl);
        difference_step = λ a. sym (difference-enough (suc (suc n)) a t (omega arith)) ∙ test_agree (two_at 0x2D 0x2D t)
            (λ _. both_agree _ _ (operand-enough (suc n) (drop 2 t) (omega (arith, behind))) (λ x e. let less = operand-shorter m (suc n) (drop 2 t) e in
            test_agree (closes_class x.1) (λ _. refl) (λ _. difference-enough (suc n) (difference a (item_class x.0)) x.1 (omega (arith, behind)))))
            (λ _. refl);
        character_less = λ c r e. character-shorter m t e;
        string_less = λ s r e. let no_more = string-shorter m (suc (length t)) t (string-enough (suc (length t)) t (omega arith) ∙ e) in omega arith;
        operand_less = λ i r e. operand-shorter m (suc n) t (operand-enough (suc n) t (omega arith) ∙ e);
        range_less = λ i s r e. let no_more = range-shorter m i t e in omega arith;
        atom_flat = λ i r e. (read_set_atom-flat m t).holds e;
        members_flat = λ k s r e. (read_members-flat m k t).holds e;
      }
