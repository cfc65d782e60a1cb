-- What the grammar spells as a class with `v`, the functions read, in Unicode mode.
use Rattle.std.proofs.Common.{◌≡◌, ℕ, suc, zero, ◌+◌, ◌*◌, ◌<◌, ◌≤◌, Bool, true, false, not, ◌||◌, ◌==◌, List, [], ◌∷◌, length, Option, Some, None, refl, sym, ap, eqb-true, ◌∙◌, subst, arith, rules}
use Rattle.std.proofs.lemmas.Bool.{and_from, and_left, or_parts, or_from, not_from_false, not_from_true, le-leb}
use lib.Chars.{codes}
use Rattle.regress_meaning.specs.Text.{holds, ◌∈◌, is_at}
use Rattle.regress_meaning.specs.Class.{Class, range, strings, union, intersection, difference, nested}
use Rattle.regress_meaning.specs.Tokens.{Mode, Escape, point, set, guard, escape_at}
use Rattle.regress_meaning.specs.Grammar.{reserved_pair, SetCharacter, bare, backspace, punctuator, of_escape, SetString, no_more, and_then, SetStrings, last_string, more_strings, Operand, one_character, of_class, of_strings, inner, inner_negated, Contents, of_union, of_intersection, of_difference, Union, union_end, union_range, union_operand, Intersection, last_and, more_and, Difference, last_minus, more_minus}
use Rattle.regress_meaning.specs.ReadingClass.{closes_class, two_at, is_set_syntax, is_set_mark, opens_strings, SetItem, one_point, any_class, item_class, item_of, read_set_escape, read_set_atom, read_set_character, read_set_string, read_set_strings, read_range, union_from, read_operand, read_contents, read_union, read_intersection, read_difference}
use Rattle.regress_meaning.proofs.Shorter.{SetCharacter-shorter, SetString-shorter, Operand-shorter}
use Rattle.regress_meaning.proofs.ReadSteps.{on_true, on_false, on_some, on_map, on_guard, told_apart}

-- P holds of each
abbrev Each : (ℕ → Type 0) → List ℕ → Type 0
Each P [] = Unit {0}
Each P (c ∷ cs) = P c × Each P cs

-- what holds of each of some code points holds of one that is among them
holds-each : (P : ℕ → Type 0) (cs : List ℕ) → Each P cs → (c : ℕ) → holds cs c ≡ true → P c
holds-each P [] each c h = cc
holds-each P (d ∷ cs) each c h = go (d == c) refl h (λ k. holds-each P cs each.1 c k)
  where
    go : (b : Bool) → (d == c) ≡ b → (b || holds cs c) ≡ true → (holds cs c ≡ true → P c) → P c
    go true e h later = subst P (eqb-true d c e) each.0
    go false e h later = later h

-- The marks that a class with `v` reads behind a backslash in its own way, and `q`.
abbrev is_no_escape : ℕ → Bool
is_no_escape c = c ∈ "bq&-!#%,:;<=>@`~"

-- in Unicode mode they are no escapes
no_escape : (m : Mode) (t : List ℕ) → m.unicode ≡ true → (c : ℕ) → is_no_escape c ≡ true → escape_at m (c ∷ t) ≡ None
unfolding escape_at
no_escape m t h = holds-each (λ c. escape_at m (c ∷ t) ≡ None) (codes "bq&-!#%,:;<=>@`~")
    (s _, (s _, (s _, (s _, (s _, (s _, (s _, (s _, (s _, (s _, (s _, (s _, (s _, (s _, (s _, (s _, tt))))))))))))))))
  where
    s : (c : ℕ) → guard {A = Escape × List ℕ} (not m.unicode || false) (Some (point c, t)) ≡ None
    s c = rw h

module _ (m : Mode) (unicode : m.unicode ≡ true) where
  escape_front : (c : ℕ) (t : List ℕ) {x : Escape × List ℕ} → escape_at m (c ∷ t) ≡ Some x → is_no_escape c ≡ false
  escape_front c t {x} h = go (is_no_escape c) refl
    where
      go : (b : Bool) → is_no_escape c ≡ b → is_no_escape c ≡ false
      go true e = let none = no_escape m t unicode c e in absurd (cc)
      go false e = e

  read_set_escape-complete : (t : List ℕ) {e : Escape} {r : List ℕ} → escape_at m t ≡ Some (e, r) → read_set_escape m t ≡ item_of e r
  unfolding read_set_escape escape_at
  read_set_escape-complete [] h = cc
  read_set_escape-complete (c ∷ t) h =
      let f = escape_front c t h in
      let b : (c == 0x62) ≡ false = told_apart is_no_escape c 0x62 f refl in
      let marks : is_set_mark c ≡ false = (or_parts (0x71 == c) (is_set_mark c) (or_parts (0x62 == c) _ f).1).1 in
      on_false _ b (on_false _ marks (on_some (λ x. item_of x.0 x.1) h refl))

  read_set_atom-one_point : {t r : List ℕ} {c : ℕ} → SetCharacter m t c r → read_set_atom m t ≡ Some (one_point c, r)
  unfolding read_set_atom read_set_escape
  read_set_atom-one_point (bare {c = c} h k) =
      on_false _ (told_apart is_set_syntax c 0x5C h refl) (on_guard _ (and_from _ _ (not_from_false _ h) (not_from_false _ k)))
  read_set_atom-one_point backspace = refl
  read_set_atom-one_point (punctuator {c = c} h) =
      on_false _ (told_apart (λ c. not (is_set_mark c)) c 0x62 (not_from_true _ h) refl) (on_true _ h refl)
  read_set_atom-one_point (of_escape {t = t} h) = read_set_escape-complete t h

  read_set_atom-class : (t : List ℕ) {r : List ℕ} {s : Class} → escape_at m t ≡ Some (set s, r) → read_set_atom m (0x5C ∷ t) ≡ Some (any_class s, r)
  unfolding read_set_atom
  read_set_atom-class t h = read_set_escape-complete t h

  read_set_character-complete : {t r : List ℕ} {c : ℕ} → SetCharacter m t c r → read_set_character m t ≡ Some (c, r)
  unfolding read_set_character
  read_set_character-complete h = on_some _ (read_set_atom-one_point h) refl

  -- what a code point of a class does not begin with
  SetCharacter-front : (test : ℕ → Bool) → ((c : ℕ) → is_set_syntax c ≡ false → test c ≡ false) → test 0x5C ≡ false
      → {t r : List ℕ} {c : ℕ} → SetCharacter m t c r → is_at test t ≡ false
  SetCharacter-front test fails none (bare {c = c} h k) = fails c h
  SetCharacter-front test fails none backspace = none
  SetCharacter-front test fails none (punctuator h) = none
  SetCharacter-front test fails none (of_escape h) = none

  SetCharacter-not_at : (k : ℕ) → is_set_syntax k ≡ true → (0x5C == k) ≡ false
      → {t r : List ℕ} {c : ℕ} → SetCharacter m t c r → is_at (λ c. c == k) t ≡ false
  SetCharacter-not_at k held none h = SetCharacter-front (λ c. c == k) (λ c e. told_apart is_set_syntax c k e held) none h

  SetCharacter-goes_on : {t r : List ℕ} {c : ℕ} → SetCharacter m t c r → is_at (λ c. c ∈ "|}") t ≡ false
  SetCharacter-goes_on h = SetCharacter-front (λ c. c ∈ "|}")
      (λ c e. let bar = told_apart is_set_syntax c 0x7C e refl in let brace = told_apart is_set_syntax c 0x7D e refl in search (rules, or_from)) refl h

  read_set_string-complete : (n : ℕ) {t r cs : List ℕ} → length t < n → SetString m t cs r → read_set_string m n t ≡ Some (cs, r)
  unfolding read_set_string
  read_set_string-complete zero room h = absurd (omega arith)
  read_set_string-complete (suc n) room (no_more h) = on_true _ h refl
  read_set_string-complete (suc n) room (and_then h k) =
      on_false _ (SetCharacter-goes_on h) (on_some _ (read_set_character-complete h)
      (on_map _ (read_set_string-complete n (omega (arith, SetCharacter-shorter m h)) k)))

  read_set_strings-complete : (n : ℕ) {t r : List ℕ} {ss : List (List ℕ)} → suc (length t) < n → SetStrings m t ss r → read_set_strings m n t ≡ Some (ss, r)
  unfolding read_set_strings
  read_set_strings-complete zero room h = absurd (omega arith)
  read_set_strings-complete (suc n) room (last_string h) = on_some _ (read_set_string-complete n (omega arith) h) refl
  read_set_strings-complete (suc n) room (more_strings h k) =
      on_some _ (read_set_string-complete n (omega arith) h) (on_map _ (read_set_strings-complete n (omega (arith, SetString-shorter m h)) k))

  escape-no_strings : (t : List ℕ) {x : Escape × List ℕ} → escape_at m t ≡ Some x → two_at 0x71 0x7B t ≡ false
  escape-no_strings [] h = refl
  escape-no_strings (c ∷ t) h = and_left _ _ (told_apart is_no_escape c 0x71 (escape_front c t h) refl)

  SetCharacter-no_strings : {t r : List ℕ} {c : ℕ} → SetCharacter m t c r → opens_strings t ≡ false
  SetCharacter-no_strings (bare {c = c} h k) = and_left _ _ (told_apart is_set_syntax c 0x5C h refl)
  SetCharacter-no_strings backspace = refl
  SetCharacter-no_strings (punctuator {c = c} h) = and_left _ _ (told_apart (λ c. not (is_set_mark c)) c 0x71 (not_from_true _ h) refl)
  SetCharacter-no_strings (of_escape {t = t} h) = escape-no_strings t h

  -- two marks of an intersection begin no operand
  SetCharacter-no_pair : {t r : List ℕ} {c : ℕ} → SetCharacter m t c r → two_at 0x26 0x26 t ≡ false
  SetCharacter-no_pair (bare {c = c} {r = r} h k) = go (c == 0x26) refl
    where
      go : (b : Bool) → (c == 0x26) ≡ b → two_at 0x26 0x26 (c ∷ r) ≡ false
      go true e =
          let same = eqb-true c 0x26 e in
          let pair : reserved_pair (0x26 ∷ r) ≡ false = subst (λ d. reserved_pair (d ∷ r) ≡ false) same k in
          subst (λ d. two_at 0x26 0x26 (d ∷ r) ≡ false) (sym same) pair
      go false e = and_left _ _ e
  SetCharacter-no_pair backspace = refl
  SetCharacter-no_pair (punctuator h) = refl
  SetCharacter-no_pair (of_escape h) = refl

  Operand-opens : {t r : List ℕ} {s : Class} → Operand m t s r → closes_class t ≡ false
  Operand-opens (one_character h) = SetCharacter-not_at 0x5D refl refl h
  Operand-opens (of_class h) = refl
  Operand-opens (of_strings h) = refl
  Operand-opens (inner n h) = refl
  Operand-opens (inner_negated h n) = refl

  Operand-no_pair : {t r : List ℕ} {s : Class} → Operand m t s r → two_at 0x26 0x26 t ≡ false
  Operand-no_pair (one_character h) = SetCharacter-no_pair h
  Operand-no_pair (of_class h) = refl
  Operand-no_pair (of_strings h) = refl
  Operand-no_pair (inner n h) = refl
  Operand-no_pair (inner_negated h n) = refl

  Union-no_pair : {t r : List ℕ} {s : Class} → Union m t s r → two_at 0x26 0x26 t ≡ false
  Union-no_pair union_end = refl
  Union-no_pair (union_range h k le l) = SetCharacter-no_pair h
  Union-no_pair (union_operand h n k) = Operand-no_pair h

  Intersection-pair : {a s : Class} {t r : List ℕ} → Intersection m a t s r → two_at 0x26 0x26 t ≡ true
  Intersection-pair (last_and n h) = refl
  Intersection-pair (more_and n h k) = refl

  Intersection-opens : {a s : Class} {t r : List ℕ} → Intersection m a t s r → closes_class t ≡ false
  Intersection-opens (last_and n h) = refl
  Intersection-opens (more_and n h k) = refl

  Difference-pair : {a s : Class} {t r : List ℕ} → Difference m a t s r → (two_at 0x26 0x26 t ≡ false) × (two_at 0x2D 0x2D t ≡ true)
  Difference-pair (last_minus h) = (refl, refl)
  Difference-pair (more_minus h k) = (refl, refl)

  Difference-opens : {a s : Class} {t r : List ℕ} → Difference m a t s r → closes_class t ≡ false
  Difference-opens (last_minus h) = refl
  Difference-opens (more_minus h k) = refl

  read_operand-one_point : (n : ℕ) {t r : List ℕ} {c : ℕ} → SetCharacter m t c r → read_operand m (suc n) t ≡ Some (one_point c, r)
  unfolding read_operand
  read_operand-one_point n h = on_false _ (SetCharacter-not_at 0x5B refl refl h) (on_false _ (SetCharacter-no_strings h) (read_set_atom-one_point h))

  union_from-range : (rest : List ℕ → Option (Class × List ℕ)) {u v r : List ℕ} {a b : ℕ} {s : Class}
      → SetCharacter m u b v → a ≤ b → rest v ≡ Some (s, r) → union_from m rest (one_point a) (0x2D ∷ u) ≡ Some (union (range a b) s, r)
  unfolding read_range
  union_from-range rest {a = a} {b = b} h le e = on_some _ (on_some _ (read_set_character-complete h) (on_guard _ (le-leb a b le))) (on_map _ e)

  read_range-none : (i : SetItem) {u : List ℕ} → is_at (λ c. c == 0x2D) u ≡ false → read_range m i u ≡ Some (item_class i, u)
  unfolding read_range
  read_range-none (one_point c) none = on_false _ none refl
  read_range-none (any_class s) none = on_guard _ (not_from_false _ none)

  union_from-item : (rest : List ℕ → Option (Class × List ℕ)) (i : SetItem) {u r : List ℕ} {a s : Class}
      → is_at (λ c. c == 0x2D) u ≡ false → item_class i ≡ a → rest u ≡ Some (s, r) → union_from m rest i u ≡ Some (union a s, r)
  union_from-item rest i {r = r} {s = s} none same e = on_some _ (read_range-none i none) (on_map _ e) ∙ ap (λ a. Some (union a s, r)) same

  mutual
    unfolding read_operand

    read_operand-complete : (n : ℕ) {t r : List ℕ} {s : Class} → 2 * length t < n → Operand m t s r
        → (i : SetItem) × (read_operand m n t ≡ Some (i, r)) × (item_class i ≡ s)
    read_operand-complete zero room h = absurd (omega arith)
    read_operand-complete (suc n) room (one_character {c = c} h) = (one_point c, read_operand-one_point n h, refl)
    read_operand-complete (suc n) room (of_class {t = t} {s = s} h) = (any_class s, on_false _ (escape-no_strings t h) (read_set_atom-class t h), refl)
    read_operand-complete (suc n) room (of_strings {ss = ss} h) = (any_class (strings ss), on_map _ (read_set_strings-complete n (omega arith) h), refl)
    read_operand-complete (suc n) room (inner {s = s} none h) =
        (any_class (nested false s), on_false _ none (on_some _ (on_some _ (read_contents-complete n (omega arith) h) refl) refl), refl)
    read_operand-complete (suc n) room (inner_negated {s = s} h none) =
        (any_class (nested true s), on_some _ (on_some _ (read_contents-complete n (omega arith) h) refl) (on_guard _ (not_from_false _ none)), refl)

    pub read_contents-complete : (n : ℕ) {t r : List ℕ} {s : Class} → 2 * length t + 1 < n → Contents m t s r → read_contents m n t ≡ Some (s, r)
    read_contents-complete zero room h = absurd (omega arith)
    read_contents-complete (suc n) room (of_union union_end) = refl
    read_contents-complete (suc zero) room (of_union (union_range h k le l)) = absurd (omega arith)
    read_contents-complete (suc (suc n)) room (of_union (union_range h k le l)) =
        on_false _ (SetCharacter-not_at 0x5D refl refl h) (on_some _ (read_operand-one_point n h) (on_false _ (SetCharacter-not_at 0x2D refl refl k)
        (union_from-range (λ v. read_union m (suc n) v) k le
        (read_union-complete (suc n) (omega (arith, SetCharacter-shorter m h, SetCharacter-shorter m k)) l))))
    read_contents-complete (suc n) room (of_union (union_operand h none k)) =
        let f = read_operand-complete n (omega arith) h in
        on_false _ (Operand-opens h) (on_some _ f.1 (on_false _ (Union-no_pair k) (on_false _ (and_left _ _ none)
        (union_from-item (λ v. read_union m n v) f.0 none f.2 (read_union-complete n (omega (arith, Operand-shorter m h)) k)))))
    read_contents-complete (suc n) room (of_intersection {u = u} h k) =
        let f = read_operand-complete n (omega arith) h in
        on_false _ (Operand-opens h) (on_some _ f.1 (on_true _ (Intersection-pair k)
        (ap (λ a. read_intersection m n a u) f.2 ∙ read_intersection-complete n (omega (arith, Operand-shorter m h)) k)))
    read_contents-complete (suc n) room (of_difference {u = u} h k) =
        let f = read_operand-complete n (omega arith) h in
        let pair = Difference-pair k in
        on_false _ (Operand-opens h) (on_some _ f.1 (on_false _ pair.0 (on_true _ pair.1
        (ap (λ a. read_difference m n a u) f.2 ∙ read_difference-complete n (omega (arith, Operand-shorter m h)) k))))

    read_union-complete : (n : ℕ) {t r : List ℕ} {s : Class} → 2 * length t + 1 < n → Union m t s r → read_union m n t ≡ Some (s, r)
    read_union-complete zero room h = absurd (omega arith)
    read_union-complete (suc n) room union_end = refl
    read_union-complete (suc zero) room (union_range h k le l) = absurd (omega arith)
    read_union-complete (suc (suc n)) room (union_range h k le l) =
        on_false _ (SetCharacter-not_at 0x5D refl refl h) (on_some _ (read_operand-one_point n h)
        (union_from-range (λ v. read_union m (suc n) v) k le
        (read_union-complete (suc n) (omega (arith, SetCharacter-shorter m h, SetCharacter-shorter m k)) l)))
    read_union-complete (suc n) room (union_operand h none k) =
        let f = read_operand-complete n (omega arith) h in
        on_false _ (Operand-opens h) (on_some _ f.1
        (union_from-item (λ v. read_union m n v) f.0 none f.2 (read_union-complete n (omega (arith, Operand-shorter m h)) k)))

    read_intersection-complete : (n : ℕ) {t r : List ℕ} {a s : Class} → 2 * length t + 1 < n → Intersection m a t s r → read_intersection m n a t ≡ Some (s, r)
    read_intersection-complete zero room h = absurd (omega arith)
    read_intersection-complete (suc n) room (last_and {r = r} {a = a} none h) =
        let f = read_operand-complete n (omega arith) h in
        on_true _ (not_from_false _ none) (on_some _ f.1 (ap (λ b. Some (intersection a b, 0x5D ∷ r)) f.2))
    read_intersection-complete (suc n) room (more_and {u = u} {a = a} none h k) =
        let f = read_operand-complete n (omega arith) h in
        on_true _ (not_from_false _ none) (on_some _ f.1 (on_false _ (Intersection-opens k)
        (ap (λ b. read_intersection m n (intersection a b) u) f.2 ∙ read_intersection-complete n (omega (arith, Operand-shorter m h)) k)))

    read_difference-complete : (n : ℕ) {t r : List ℕ} {a s : Class} → 2 * length t + 1 < n → Difference m a t s r → read_difference m n a t ≡ Some (s, r)
    read_difference-complete zero room h = absurd (omega arith)
    read_difference-complete (suc n) room (last_minus {r = r} {a = a} h) =
        let f = read_operand-complete n (omega arith) h in
        on_some _ f.1 (ap (λ b. Some (difference a b, 0x5D ∷ r)) f.2)
    read_difference-complete (suc n) room (more_minus {u = u} {a = a} h k) =
        let f = read_operand-complete n (omega arith) h in
        on_some _ f.1 (on_false _ (Difference-opens k)
        (ap (λ b. read_difference m n (difference a b) u) f.2 ∙ read_difference-complete n (omega (arith, Operand-shorter m h)) k))
