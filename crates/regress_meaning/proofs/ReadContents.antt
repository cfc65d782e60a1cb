-- The functions that read a class with `v`, behind its opening bracket, and that what they read fits the grammar.
use Rattle.std.proofs.Common.{◌≡◌, ℕ, suc, zero, Bool, true, false, not, ◌&&◌, ◌==◌, nat_le, List, [], ◌∷◌, drop, Option, Some, sym, ap, eqb-true, ◌∙◌, subst}
use Rattle.std.proofs.lemmas.Bool.{and_parts, and_from, not-true, leb-true}
use Rattle.regress_meaning.specs.Text.{◌∈◌, is_at}
use Rattle.regress_meaning.specs.Class.{Class, no_string, strings, union, intersection, difference, nested, may_hold_strings}
use Rattle.regress_meaning.specs.Tokens.{Mode, Escape, point, set, groups, escape_at}
use Rattle.regress_meaning.specs.Grammar.{reserved_pair, SetCharacter, bare, backspace, punctuator, of_escape, SetString, no_more, and_then, SetStrings, last_string, more_strings, Operand, one_character, of_class, of_strings, inner, inner_negated, Contents, of_union, of_intersection, of_difference, Union, union_end, union_range, union_operand, Intersection, last_and, more_and, Difference, last_minus, more_minus}
use Rattle.regress_meaning.specs.ReadingClass.{closes_class, two_at, is_set_syntax, is_set_mark, opens_strings, SetItem, one_point, any_class, item_class, item_of, only_character, read_set_escape, read_set_atom, read_set_character, read_set_string, read_set_strings, behind_bracket, inner_item, read_range, union_from, read_operand, read_contents, read_union, read_intersection, read_difference}
use Rattle.regress_meaning.proofs.Inversion.{Gives, gives-none, gives-some, gives-weaker, gives-guard, gives-map, gives-then}
use Rattle.regress_meaning.proofs.ReadSteps.{gives-test, gives-itself, front, two_front}

-- What is read fits the grammar.

-- the item stands there in the grammar
abbrev pub ItemFits : Mode → List ℕ → SetItem → List ℕ → Type 0
ItemFits m t (one_point c) r = SetCharacter m t c r
ItemFits m t (any_class s) r = Operand m t s r

item-operand : (m : Mode) (t : List ℕ) (i : SetItem) {r : List ℕ} → ItemFits m t i r → Operand m t (item_class i) r
item-operand m t (one_point c) h = one_character h
item-operand m t (any_class s) h = h

item_of-gives : (m : Mode) (t : List ℕ) {r : List ℕ} (e : Escape) → escape_at m t ≡ Some (e, r) → Gives (λ x. ItemFits m (0x5C ∷ t) x.0 x.1) (item_of e r)
item_of-gives m t (point c) h = gives-some (of_escape h)
item_of-gives m t (set s) h = gives-some (of_class h)
item_of-gives m t (groups ks) h = gives-none

only_character-gives : (m : Mode) {t : List ℕ} (i : SetItem) (r : List ℕ) → ItemFits m t i r → Gives (λ x. SetCharacter m t x.0 x.1) (only_character i r)
only_character-gives m (one_point c) r h = gives-some h
only_character-gives m (any_class s) r h = gives-none

read_set_escape-gives : (m : Mode) (t : List ℕ) → Gives (λ x. ItemFits m (0x5C ∷ t) x.0 x.1) (read_set_escape m t)
unfolding read_set_escape
read_set_escape-gives m [] = gives-none
read_set_escape-gives m (c ∷ t) = gives-test (c == 0x62)
    (λ b. rw (eqb-true c 0x62 b) (gives-some backspace))
    (λ _. gives-test (is_set_mark c) (λ h. gives-some (punctuator h))
    (λ _. gives-then _ _ (gives-itself (escape_at m (c ∷ t))) (λ x h. item_of-gives m (c ∷ t) x.0 h)))

pub read_set_atom-gives : (m : Mode) (t : List ℕ) → Gives (λ x. ItemFits m t x.0 x.1) (read_set_atom m t)
unfolding read_set_atom
read_set_atom-gives m [] = gives-none
read_set_atom-gives m (c ∷ t) = gives-test (c == 0x5C)
    (λ b. rw (eqb-true c 0x5C b) (read_set_escape-gives m t))
    (λ _. gives-guard (not (is_set_syntax c) && not (reserved_pair (c ∷ t)))
    (λ h. let parts = and_parts _ _ h in gives-some (bare (not-true _ parts.0) (not-true _ parts.1))))

pub read_set_character-gives : (m : Mode) (t : List ℕ) → Gives (λ x. SetCharacter m t x.0 x.1) (read_set_character m t)
unfolding read_set_character
read_set_character-gives m t = gives-then _ _ (read_set_atom-gives m t) (λ x h. only_character-gives m x.0 x.1 h)

pub read_set_string-gives : (m : Mode) (n : ℕ) (t : List ℕ) → Gives (λ x. SetString m t x.0 x.1) (read_set_string m n t)
unfolding read_set_string
read_set_string-gives m zero t = gives-none
read_set_string-gives m (suc n) t = gives-test (is_at (λ c. c ∈ "|}") t)
    (λ ends. gives-some (no_more ends))
    (λ _. gives-then _ _ (read_set_character-gives m t) (λ x h. gives-map _ _ (read_set_string-gives m n x.1) (λ y k. and_then h k)))

pub read_set_strings-gives : (m : Mode) (n : ℕ) (t : List ℕ) → Gives (λ x. SetStrings m t x.0 x.1) (read_set_strings m n t)
unfolding read_set_strings
read_set_strings-gives m zero t = gives-none
read_set_strings-gives m (suc n) t = gives-then _ _ (read_set_string-gives m n t) (λ x h. gives-test (is_at (λ c. c == 0x7D) x.1)
    (λ ends. gives-some (last_string (subst (SetString m t x.0) (front 0x7D x.1 ends) h)))
    (λ _. gives-test (is_at (λ c. c == 0x7C) x.1)
    (λ bar. gives-map _ _ (read_set_strings-gives m n (drop 1 x.1)) (λ y k. more_strings (subst (SetString m t x.0) (front 0x7C x.1 bar) h) k))
    (λ _. gives-none)))

pub behind_bracket-gives : (m : Mode) (t : List ℕ) {o : Option (Class × List ℕ)} → Gives (λ x. Contents m t x.0 x.1) o
    → Gives (λ x. Contents m t x.0 (0x5D ∷ x.1)) (behind_bracket o)
behind_bracket-gives m t h = gives-then _ _ h (λ x k. gives-guard (closes_class x.1)
    (λ closes. gives-some (subst (Contents m t x.0) (front 0x5D x.1 closes) k)))

inner_item-gives : (m : Mode) (t : List ℕ) (negated : Bool) {o : Option (Class × List ℕ)} {P : SetItem × List ℕ → Type 0}
    → Gives (λ x. Contents m t x.0 x.1) o
    → ((s : Class) (r : List ℕ) → Contents m t s (0x5D ∷ r) → (negated && may_hold_strings s) ≡ false → P (any_class (nested negated s), r))
    → Gives P (inner_item negated o)
inner_item-gives m t negated h g = gives-then _ _ (behind_bracket-gives m t h)
    (λ x k. gives-guard (not (negated && may_hold_strings x.0)) (λ e. gives-some (g x.0 x.1 k (not-true _ e))))

Union-closing : (m : Mode) (t : List ℕ) → closes_class t ≡ true → Union m t no_string t
Union-closing m t h = subst (λ t. Union m t no_string t) (sym (front 0x5D t h)) union_end

-- what was read goes with each union behind it
read_range-gives : (m : Mode) {t : List ℕ} (i : SetItem) (u : List ℕ) → ItemFits m t i u
    → Gives (λ x. (s : Class) (r : List ℕ) → Union m x.1 s r → Union m t (union x.0 s) r) (read_range m i u)
unfolding read_range
read_range-gives m {t} (one_point c) u h = gives-test (is_at (λ c. c == 0x2D) u)
    (λ dash. gives-then _ _ (read_set_character-gives m (drop 1 u)) (λ x k. gives-guard (nat_le c x.0)
    (λ ordered. gives-some (λ s r l. union_range (subst (SetCharacter m t c) (front 0x2D u dash) h) k (leb-true c x.0 ordered) l))))
    (λ none. gives-some (λ s r l. union_operand (one_character h) none l))
read_range-gives m (any_class a) u h = gives-guard (not (is_at (λ c. c == 0x2D) u))
    (λ none. gives-some (λ s r l. union_operand h (not-true _ none) l))

union_from-gives : (m : Mode) {t : List ℕ} (i : SetItem) (u : List ℕ) (rest : List ℕ → Option (Class × List ℕ))
    → ((v : List ℕ) → Gives (λ x. Union m v x.0 x.1) (rest v)) → ItemFits m t i u → Gives (λ x. Union m t x.0 x.1) (union_from m rest i u)
union_from-gives m i u rest g h = gives-then _ _ (read_range-gives m i u h) (λ x k. gives-map _ _ (g x.1) (λ y l. k y.0 y.1 l))

pub strings_front : (t : List ℕ) → opens_strings t ≡ true → t ≡ 0x5C ∷ 0x71 ∷ 0x7B ∷ drop 3 t
strings_front [] h = cc
strings_front (c ∷ t) h =
    let parts = and_parts (c == 0x5C) _ h in
    ap (λ d. d ∷ t) (eqb-true c 0x5C parts.0) ∙ ap (λ u. 0x5C ∷ u) (two_front 0x71 0x7B t parts.1)

closing_and : (m : Mode) {a b : Class} {t r : List ℕ} → is_at (λ c. c == 0x26) t ≡ false → Operand m t b r → closes_class r ≡ true
    → Intersection m a (0x26 ∷ 0x26 ∷ t) (intersection a b) r
closing_and m {a} {b} {t} {r} none h closes =
    let e = front 0x5D r closes in subst (Intersection m a (0x26 ∷ 0x26 ∷ t) (intersection a b)) (sym e) (last_and none (subst (Operand m t b) e h))

closing_minus : (m : Mode) {a b : Class} {t r : List ℕ} → Operand m t b r → closes_class r ≡ true → Difference m a (0x2D ∷ 0x2D ∷ t) (difference a b) r
closing_minus m {a} {b} {t} {r} h closes =
    let e = front 0x5D r closes in subst (Difference m a (0x2D ∷ 0x2D ∷ t) (difference a b)) (sym e) (last_minus (subst (Operand m t b) e h))

mutual
  unfolding read_operand

  pub read_operand-gives : (m : Mode) (n : ℕ) (t : List ℕ) → Gives (λ x. ItemFits m t x.0 x.1) (read_operand m n t)
  read_operand-gives m zero t = gives-none
  read_operand-gives m (suc n) t = gives-test (is_at (λ c. c == 0x5B) t)
      (λ bracket. gives-test (is_at (λ c. c == 0x5E) (drop 1 t))
      (λ caret. inner_item-gives m (drop 2 t) true (read_contents-gives m n (drop 2 t))
      (λ s r h e. subst (λ t. Operand m t (nested true s) r) (sym (two_front 0x5B 0x5E t (and_from _ _ bracket caret))) (inner_negated h e)))
      (λ none. inner_item-gives m (drop 1 t) false (read_contents-gives m n (drop 1 t))
      (λ s r h e. subst (λ t. Operand m t (nested false s) r) (sym (front 0x5B t bracket)) (inner none h))))
      (λ _. gives-test (opens_strings t)
      (λ opens. gives-map _ _ (read_set_strings-gives m n (drop 3 t))
      (λ x h. subst (λ t. Operand m t (strings x.0) x.1) (sym (strings_front t opens)) (of_strings h)))
      (λ _. read_set_atom-gives m t))

  pub read_contents-gives : (m : Mode) (n : ℕ) (t : List ℕ) → Gives (λ x. Contents m t x.0 x.1) (read_contents m n t)
  read_contents-gives m zero t = gives-none
  read_contents-gives m (suc n) t = gives-test (closes_class t)
      (λ closes. gives-some (of_union (Union-closing m t closes)))
      (λ _. gives-then _ _ (read_operand-gives m n t) (λ x h. gives-test (two_at 0x26 0x26 x.1)
      (λ _. gives-weaker (λ y k. of_intersection (item-operand m t x.0 h) k) (read_intersection-gives m n (item_class x.0) x.1))
      (λ _. gives-test (two_at 0x2D 0x2D x.1)
      (λ _. gives-weaker (λ y k. of_difference (item-operand m t x.0 h) k) (read_difference-gives m n (item_class x.0) x.1))
      (λ _. gives-weaker (λ y k. of_union k) (union_from-gives m x.0 x.1 (λ v. read_union m n v) (λ v. read_union-gives m n v) h)))))

  read_union-gives : (m : Mode) (n : ℕ) (t : List ℕ) → Gives (λ x. Union m t x.0 x.1) (read_union m n t)
  read_union-gives m zero t = gives-none
  read_union-gives m (suc n) t = gives-test (closes_class t)
      (λ closes. gives-some (Union-closing m t closes))
      (λ _. gives-then _ _ (read_operand-gives m n t) (λ x h. union_from-gives m x.0 x.1 (λ v. read_union m n v) (λ v. read_union-gives m n v) h))

  read_intersection-gives : (m : Mode) (n : ℕ) (a : Class) (t : List ℕ) → Gives (λ x. Intersection m a t x.0 x.1) (read_intersection m n a t)
  read_intersection-gives m zero a t = gives-none
  read_intersection-gives m (suc n) a t = gives-test (two_at 0x26 0x26 t && not (is_at (λ c. c == 0x26) (drop 2 t)))
      (λ both. let parts = and_parts (two_at 0x26 0x26 t) _ both in let none = not-true _ parts.1 in let here = two_front 0x26 0x26 t parts.0 in
      gives-then _ _ (read_operand-gives m n (drop 2 t)) (λ x h. let k = item-operand m (drop 2 t) x.0 h in gives-test (closes_class x.1)
      (λ closes. gives-some (subst (λ t. Intersection m a t (intersection a (item_class x.0)) x.1) (sym here) (closing_and m none k closes)))
      (λ _. gives-weaker (λ y l. subst (λ t. Intersection m a t y.0 y.1) (sym here) (more_and none k l))
      (read_intersection-gives m n (intersection a (item_class x.0)) x.1))))
      (λ _. gives-none)

  read_difference-gives : (m : Mode) (n : ℕ) (a : Class) (t : List ℕ) → Gives (λ x. Difference m a t x.0 x.1) (read_difference m n a t)
  read_difference-gives m zero a t = gives-none
  read_difference-gives m (suc n) a t = gives-test (two_at 0x2D 0x2D t)
      (λ both. let here = two_front 0x2D 0x2D t both in
      gives-then _ _ (read_operand-gives m n (drop 2 t)) (λ x h. let k = item-operand m (drop 2 t) x.0 h in gives-test (closes_class x.1)
      (λ closes. gives-some (subst (λ t. Difference m a t (difference a (item_class x.0)) x.1) (sym here) (closing_minus m k closes)))
      (λ _. gives-weaker (λ y l. subst (λ t. Difference m a t y.0 y.1) (sym here) (more_minus k l))
      (read_difference-gives m n (difference a (item_class x.0)) x.1))))
      (λ _. gives-none)
