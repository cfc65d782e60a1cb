-- How a class with `v` is read: its code points and the strings of `\q{..}`.
use Rattle.std.proofs.Common.{◌≡◌, ℕ, ◌<◌, Bool, true, false, not, ◌&&◌, ◌==◌, nat_eq, nat_le, slice_get, List, [], ◌∷◌, ◌++◌, length, drop, Option, Some, None, option_map, option_and_then, Err, refl, sym, ap, ◌∙◌, arith, eqb-true}
use Rattle.std.proofs.lemmas.List.{append_assoc}
use lib.Chars.{codes}
use Rattle.regress_meaning.specs.Text.{◌∈◌, is_at}
use Rattle.regress_meaning.specs.Class.{range}
use Rattle.regress_meaning.specs.Tokens.{Mode, guard, escape_at}
use Rattle.regress_meaning.specs.Grammar.{reserved_pair}
use Rattle.regress_meaning.specs.Laws.{ContentsBySteps}
use Rattle.regress_meaning.specs.ReadingClass.{is_set_syntax, is_set_mark, SetItem, one_point, any_class, item_class, item_of, read_set_escape, read_set_atom, read_set_character, read_range, set_string_at, set_strings_at}
use Rattle.std.specs.Option.{option_eq, ok_or}
use Rattle.regress_front_core.specs.declared.error.Error.{Error}
use Rattle.regress_front_tokens.specs.Readings.{IsRead}
use Rattle.regress_front_classes.specs.Classes.{only_point, mark_at}
use Rattle.regress_meaning.proofs.ReadSteps.{on_true, on_false, on_some, on_none, on_guard, off_guard}

-- escapes

pub set_escape-backspace : (m : Mode) (t : List ℕ) → is_at (λ c. c == 0x62) t ≡ true → read_set_escape m t ≡ Some (one_point 8, drop 1 t)
unfolding read_set_escape
set_escape-backspace m [] h = cc
set_escape-backspace m (c ∷ t) h = on_true _ h refl

pub set_escape-mark : (m : Mode) (t : List ℕ) (c : ℕ) (r : List ℕ) → is_at (λ c. c == 0x62) t ≡ false → mark_at (codes "&-!#%,:;<=>@`~") t ≡ Some (c, r) → read_set_escape m t ≡ Some (one_point c, r)
unfolding read_set_escape
set_escape-mark m [] c r h k = cc
set_escape-mark m (d ∷ t) c r h k = on_false _ h (go (is_set_mark d) k)
  where
    go : (b : Bool) → guard {A = ℕ × List ℕ} b (Some (d, t)) ≡ Some (c, r)
        → ◌≡◌ {A = Option (SetItem × List ℕ)} (elim b [ true ↦ Some (one_point d, t) | false ↦ option_and_then (λ (e, s). item_of e s) (escape_at m (d ∷ t)) ]) (Some (one_point c, r))
    go true e = let same : ◌≡◌ {A = ℕ × List ℕ} (d, t) (c, r) = cc in ap (λ (x : ℕ × List ℕ). Some (one_point x.0, x.1)) same
    go false e = cc

pub set_escape-other : (m : Mode) (t : List ℕ) → is_at (λ c. c == 0x62) t ≡ false → mark_at (codes "&-!#%,:;<=>@`~") t ≡ None
    → read_set_escape m t ≡ option_and_then (λ (e, r). item_of e r) (escape_at m t)
unfolding read_set_escape escape_at
set_escape-other m [] h k = refl
set_escape-other m (c ∷ t) h k = on_false _ h (go (is_set_mark c) k)
  where
    go : (b : Bool) → guard {A = ℕ × List ℕ} b (Some (c, t)) ≡ None
        → ◌≡◌ {A = Option (SetItem × List ℕ)} (elim b [ true ↦ Some (one_point c, t) | false ↦ option_and_then (λ (e, s). item_of e s) (escape_at m (c ∷ t)) ]) (option_and_then (λ (e, s). item_of e s) (escape_at m (c ∷ t)))
    go true e = cc
    go false e = refl

-- one code point, or the class of an escape

pub set_atom-escape : (m : Mode) (t : List ℕ) → is_at (λ c. c == 0x5C) t ≡ true → read_set_atom m t ≡ read_set_escape m (drop 1 t)
unfolding read_set_atom
set_atom-escape m [] h = cc
set_atom-escape m (c ∷ t) h = on_true _ h refl

or-left : (a b : Bool) → a ≡ true → (not a && not b) ≡ false
or-left a b e = rw e refl

or-right : (a b : Bool) → b ≡ true → (not a && not b) ≡ false
or-right true b e = refl
or-right false b e = rw e refl

pub set_atom-syntax : (m : Mode) (t : List ℕ) → is_at (λ c. c == 0x5C) t ≡ false → is_at is_set_syntax t ≡ true → read_set_atom m t ≡ None
unfolding read_set_atom
set_atom-syntax m [] h k = refl
set_atom-syntax m (c ∷ t) h k = on_false _ h (off_guard _ (or-left (is_set_syntax c) (reserved_pair (c ∷ t)) k))

pub set_atom-pair : (m : Mode) (t : List ℕ) → is_at (λ c. c == 0x5C) t ≡ false → reserved_pair t ≡ true → read_set_atom m t ≡ None
unfolding read_set_atom
set_atom-pair m [] h k = refl
set_atom-pair m (c ∷ t) h k = on_false _ h (off_guard _ (or-right (is_set_syntax c) (reserved_pair (c ∷ t)) k))

pub set_atom-end : (m : Mode) (t : List ℕ) → t ≡ [] → read_set_atom m t ≡ None
unfolding read_set_atom
set_atom-end m t e = rw e refl

neither : (a b : Bool) → a ≡ false → b ≡ false → (not a && not b) ≡ true
neither a b e h = rw (e, h) refl

pub set_atom-itself : (m : Mode) (t : List ℕ) (c : ℕ) (r : List ℕ) → is_at (λ c. c == 0x5C) t ≡ false → is_at is_set_syntax t ≡ false → reserved_pair t ≡ false → t ≡ c ∷ r
    → read_set_atom m t ≡ Some (one_point c, r)
unfolding read_set_atom
set_atom-itself m t c r h k l e =
    let no_backslash = ap (is_at (λ d. d == 0x5C)) (sym e) ∙ h in
    let no_syntax = ap (is_at is_set_syntax) (sym e) ∙ k in
    let no_pair = ap reserved_pair (sym e) ∙ l in
    ap (read_set_atom m) e ∙ on_false _ no_backslash (on_guard _ (neither (is_set_syntax c) (reserved_pair (c ∷ r)) no_syntax no_pair))

-- a mark and the same once more
pub pair-is : (t : List ℕ) → is_at (λ c. c ∈ "&!#$%*+,.:;<=>?@^`~") t ≡ true → option_eq nat_eq (slice_get t 1) (slice_get t 0) ≡ reserved_pair t
pair-is [] h = cc
pair-is (c ∷ []) h = rw h refl
pair-is (c ∷ d ∷ t) h = rw h refl

-- one code point

pub set_character-is : (m : Mode) (t : List ℕ) (i : SetItem) (r : List ℕ) → read_set_atom m t ≡ Some (i, r) → read_set_character m t ≡ option_map (λ c. (c, r)) (only_point i)
unfolding read_set_character
set_character-is m t (one_point c) r e = on_some _ e refl
set_character-is m t (any_class s) r e = on_some _ e refl

pub set_character-none : (m : Mode) (t : List ℕ) → read_set_atom m t ≡ None → read_set_character m t ≡ None
unfolding read_set_character
set_character-none m t e = on_none _ e

-- what was answered for an item, if it is one
pub set_character-answer : (m : Mode) (t : List ℕ) (i : SetItem) (r : List ℕ) → read_set_atom m t ≡ Some (i, r) → (found : Option ℕ) → found ≡ only_point i → (f : Error) (is_syntax : read_set_character m t ≡ None → IsRead {A = ℕ} (λ c. c) (read_set_character m) t (Err f) r)
    → IsRead (λ c. c) (read_set_character m) t (ok_or found f) r
set_character-answer m t i r e None k f g = g (set_character-is m t i r e ∙ ap (option_map (λ (c : ℕ). (c, r))) (sym k))
set_character-answer m t i r e (Some c) k f g = set_character-is m t i r e ∙ ap (option_map (λ (c : ℕ). (c, r))) (sym k)

-- behind an item, its range or itself

pub set_range-alone : (m : Mode) (i : SetItem) (t : List ℕ) → is_at (λ c. c == 0x2D) t ≡ false → read_range m i t ≡ Some (item_class i, t)
unfolding read_range
set_range-alone m (one_point c) t h = on_false _ h refl
set_range-alone m (any_class s) t h = ap (λ b. guard (not b) (Some (s, t))) h

pub set_range-class : (m : Mode) (i : SetItem) (t : List ℕ) → is_at (λ c. c == 0x2D) t ≡ true → only_point i ≡ None → read_range m i t ≡ None
unfolding read_range
set_range-class m (one_point c) t h k = cc
set_range-class m (any_class s) t h k = ap (λ b. guard (not b) (Some (s, t))) h

range-point : (m : Mode) (i : SetItem) (t : List ℕ) (first : ℕ) → is_at (λ c. c == 0x2D) t ≡ true → only_point i ≡ Some first
    → read_range m i t ≡ option_and_then (λ (last, r). guard (nat_le first last) (Some (range first last, r))) (read_set_character m (drop 1 t))
unfolding read_range
range-point m (one_point c) t first h k = let same : c ≡ first = cc in rw same (on_true _ h refl)
range-point m (any_class s) t first h k = cc

pub set_range-no_last : (m : Mode) (i : SetItem) (t : List ℕ) (first : ℕ) → is_at (λ c. c == 0x2D) t ≡ true → only_point i ≡ Some first → read_set_character m (drop 1 t) ≡ None → read_range m i t ≡ None
set_range-no_last m i t first h k e = range-point m i t first h k ∙ on_none _ e

pub set_range-last : (m : Mode) (i : SetItem) (t : List ℕ) (first last : ℕ) (r : List ℕ) → is_at (λ c. c == 0x2D) t ≡ true → only_point i ≡ Some first → read_set_character m (drop 1 t) ≡ Some (last, r)
    → read_range m i t ≡ guard (nat_le first last) (Some (range first last, r))
set_range-last m i t first last r h k e = range-point m i t first h k ∙ on_some _ e refl

-- strings

-- what was read so far before what was read behind it
abbrev pub after : {A : Type 0} → List A → List A × List ℕ → List A × List ℕ
after xs p = (xs ++ p.0, p.1)

-- one more before what was read behind it
abbrev pub with_one : {A : Type 0} → A → List A × List ℕ → List A × List ℕ
with_one x p = (x ∷ p.0, p.1)

-- one more was read
pub after-more : {A : Type 0} (xs : List A) (x : A) (o : Option (List A × List ℕ)) → option_map (after xs) (option_map (with_one x) o) ≡ option_map (after (xs ++ x ∷ [])) o
after-more xs x None = refl
after-more xs x (Some p) = ap (λ ys. Some (ys, p.1)) (sym (append_assoc xs (x ∷ []) p.0))

module _ (m : Mode) (t : List ℕ) (steps : ContentsBySteps m t) where
  pub strings-more : (cs u : List ℕ) → set_string_at m t ≡ Some (cs, u) → is_at (λ c. c == 0x7D) u ≡ false → is_at (λ c. c == 0x7C) u ≡ true
      → set_strings_at m t ≡ option_map (with_one cs) (set_strings_at m (drop 1 u))
  strings-more cs u e h k = steps.strings_step ∙ on_some _ e (on_false _ h (on_true _ k refl))

pub bar-less : (t : List ℕ) → is_at (λ c. c == 0x7C) t ≡ true → length (drop 1 t) < length t
bar-less [] h = cc
bar-less (c ∷ t) h = omega arith

-- a string ends at `|` or `}`
pub bar-no_brace : (t : List ℕ) → is_at (λ c. c == 0x7C) t ≡ true → is_at (λ c. c == 0x7D) t ≡ false
bar-no_brace [] h = refl
bar-no_brace (c ∷ t) h = rw (eqb-true c 0x7C h) refl
