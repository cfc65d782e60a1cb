-- What an opening parenthesis begins, by what stands behind it.
use Rattle.std.specs.Prelude.{if◌then◌else◌}
use Rattle.std.proofs.Common.{◌≡◌, ℕ, ◌≤◌, Bool, true, false, not, ◌&&◌, ◌||◌, ◌==◌, List, [], ◌∷◌, ◌++◌, length, drop, Some, None, Result, Err, refl, sym, ap, subst, codes, append-nil, length-append, length-drop, arith}
use Rattle.std.specs.List.{list_any}
use Rattle.std.proofs.lemmas.List.Folds.{list_any-append}
use Rattle.std.proofs.lemmas.Bool.{or_parts, eq-eqb, eqb-true}
use Rattle.regress_meaning.specs.Text.{holds, ◌∈◌, is_at, span, span_up_to}
use Rattle.regress_meaning.specs.Tokens.{Mode, Reads, name_at}
use Rattle.regress_meaning.specs.Grammar.{is_flag, all_differ}
use Rattle.regress_meaning.specs.Reading as meaning
use Rattle.regress_meaning.specs.Reading.{of_letters, modifiers_at, angle_opening, question_opening, parenthesis_opening}
use Rattle.regress_front_core.specs.declared.error.Error.{Error}
use Rattle.regress_front_core.specs.declared.error.Error.TheVariants.{Syntax, TooDeep, TooManyGroups, TooManyLoops, TooLarge, OutOfMemory}
use Rattle.regress_front_syntax.specs.declared.group.Opening.{Opening}
use Rattle.regress_front_tokens.specs.Readings.{IsRead}
use Rattle.regress_front_syntax.specs.Openings.{switched_off, IsOpening}
use Rattle.regress_front_tokens.proofs.SpanLemmas.{span-joined}

module _ (m : Mode) (t : List ℕ) where
  pub angle-look : is_at (λ c. c ∈ "=!") t ≡ true → angle_opening m t ≡ meaning.lookbehind (is_at (λ c. c == 0x21) t) (drop 1 t)
  unfolding angle_opening
  angle-look h = rw h refl

  pub angle-name : (name r : List ℕ) → is_at (λ c. c ∈ "=!") t ≡ false → name_at m.table t ≡ Some (name, r) → angle_opening m t ≡ meaning.named_group name r
  unfolding angle_opening
  angle-name name r h e = rw (h, e) refl

  pub angle-none : is_at (λ c. c ∈ "=!") t ≡ false → name_at m.table t ≡ None → angle_opening m t ≡ meaning.no_term
  unfolding angle_opening
  angle-none h e = rw (h, e) refl

  pub question-look : is_at (λ c. c ∈ "=!") t ≡ true → question_opening m t ≡ meaning.lookahead (is_at (λ c. c == 0x21) t) (drop 1 t)
  unfolding question_opening
  question-look h = rw h refl

  pub question-colon : is_at (λ c. c ∈ "=!") t ≡ false → is_at (λ c. c == 0x3A) t ≡ true → question_opening m t ≡ meaning.uncaptured (drop 1 t)
  unfolding question_opening
  question-colon h k = rw (h, k) refl

  pub question-atomic : is_at (λ c. c ∈ "=!") t ≡ false → is_at (λ c. c == 0x3A) t ≡ false → is_at (λ c. c == 0x3E) t ≡ true → question_opening m t ≡ meaning.atomic_group (drop 1 t)
  unfolding question_opening
  question-atomic h k a = rw (h, k, a) refl

  module _ (h : is_at (λ c. c ∈ "=!") t ≡ false) (k : is_at (λ c. c == 0x3A) t ≡ false) (a : is_at (λ c. c == 0x3E) t ≡ false) where
    pub question-angle : is_at (λ c. c == 0x3C) t ≡ true → question_opening m t ≡ angle_opening m (drop 1 t)
    unfolding question_opening
    question-angle l = rw (h, k, a, l) refl

    pub question-modifiers : is_at (λ c. c == 0x3C) t ≡ false → question_opening m t ≡ modifiers_at t
    unfolding question_opening
    question-modifiers l = rw (h, k, a, l) refl

  pub parenthesis-question : is_at (λ c. c == 0x3F) t ≡ true → parenthesis_opening m t ≡ question_opening m (drop 1 t)
  unfolding parenthesis_opening
  parenthesis-question h = rw h refl

  pub parenthesis-group : is_at (λ c. c == 0x3F) t ≡ false → parenthesis_opening m t ≡ meaning.group t
  unfolding parenthesis_opening
  parenthesis-group h = rw h refl

-- the letters before the dash and behind it, as one list
module _ (t on r off s : List ℕ) (first : span is_flag t ≡ (on, r)) (second : switched_off r ≡ (off, s)) where
  pub modifiers-letters : modifiers_at t ≡ of_letters (on ++ off) on off s
  unfolding modifiers_at
  modifiers-letters = rw first (go (is_at (λ c. c == 0x2D) r) second)
    where
      go : (b : Bool) → (if b then span is_flag (drop 1 r) else ([], r)) ≡ (off, s)
          → (if b then of_letters (on ++ (span is_flag (drop 1 r)).0) on (span is_flag (drop 1 r)).0 (span is_flag (drop 1 r)).1 else of_letters on on [] r) ≡ of_letters (on ++ off) on off s
      go true e = rw e refl
      go false e = let none : off ≡ [] = ap (λ (p : List ℕ × List ℕ). p.0) (sym e) in let rest : s ≡ r = ap (λ (p : List ℕ × List ℕ). p.1) (sym e) in rw (none, rest, append-nil) refl

  -- they leave no more than the text
  pub modifiers-less : length s ≤ length t
  modifiers-less = omega (arith, ap length (span-joined is_flag t on r first), length-append on r, less (is_at (λ c. c == 0x2D) r) second)
    where
      less : (b : Bool) → (if b then span is_flag (drop 1 r) else ([], r)) ≡ (off, s) → length s ≤ length r
      less true e = omega (arith, ap length (span-joined is_flag (drop 1 r) off s e), length-append off s, length-drop 1 r)
      less false e = omega (arith, ap length (ap (λ (p : List ℕ × List ℕ). p.1) e))

-- letters that are modifiers, and the colon behind them
pub letters-read : (letters on off r : List ℕ) → (length letters == 0) ≡ false → all_differ letters ≡ true → is_at (λ c. c == 0x3A) r ≡ true → of_letters letters on off r ≡ meaning.modifiers on off (drop 1 r)
letters-read letters on off r some differ colon = rw (some, differ, colon) refl

pub letters-empty : (on off r : List ℕ) → (length on == 0) ≡ true → (length off == 0) ≡ true → of_letters (on ++ off) on off r ≡ meaning.no_term
letters-empty on off r no_on no_off =
    let first = eqb-true (length on) 0 no_on in
    let second = eqb-true (length off) 0 no_off in
    let none : length (on ++ off) ≡ 0 = omega (arith, length-append on off) in
    rw none refl

-- a list that is longer than another that is not empty
not_empty : (n m : ℕ) → m ≤ n → (m == 0) ≡ false → (n == 0) ≡ false
not_empty n m le some = go (n == 0) refl
  where
    go : (b : Bool) → (n == 0) ≡ b → (n == 0) ≡ false
    go false e = e
    go true e = let zero = eqb-true n 0 e in let least : m ≡ 0 = omega arith in let wrong : (m == 0) ≡ true = rw least refl in cc

pub not_empty-front : (on off : List ℕ) → (length on == 0) ≡ false → (length (on ++ off) == 0) ≡ false
not_empty-front on off = not_empty (length (on ++ off)) (length on) (omega (arith, length-append on off))

pub not_empty-rear : (on off : List ℕ) → (length off == 0) ≡ false → (length (on ++ off) == 0) ≡ false
not_empty-rear on off = not_empty (length (on ++ off)) (length off) (omega (arith, length-append on off))

pub letters-alike : (letters on off r : List ℕ) → all_differ letters ≡ false → of_letters letters on off r ≡ meaning.no_term
letters-alike letters on off r alike = go (not (length letters == 0)) (all_differ letters) (is_at (λ c. c == 0x3A) r) alike
  where
    go : (x y z : Bool) → y ≡ false → (if x && y && z then meaning.modifiers on off (drop 1 r) else meaning.no_term) ≡ meaning.no_term
    go true true z h = absurd (cc)
    go true false z h = refl
    go false y z h = refl

pub letters-no_colon : (letters on off r : List ℕ) → is_at (λ c. c == 0x3A) r ≡ false → of_letters letters on off r ≡ meaning.no_term
letters-no_colon letters on off r colon = go (not (length letters == 0)) (all_differ letters) (is_at (λ c. c == 0x3A) r) colon
  where
    go : (x y z : Bool) → z ≡ false → (if x && y && z then meaning.modifiers on off (drop 1 r) else meaning.no_term) ≡ meaning.no_term
    go true true true k = absurd (cc)
    go true true false k = refl
    go true false z k = refl
    go false y z k = refl

-- no modifiers begin with another code point
pub modifiers-none : (t : List ℕ) → is_at (λ c. c ∈ "ims-") t ≡ false → modifiers_at t ≡ meaning.no_term
unfolding modifiers_at span
modifiers-none [] h = refl
modifiers-none (c ∷ t) h =
    let (i, behind) = or_parts (0x69 == c) (holds (codes "ms-") c) h in
    let (m, behind_m) = or_parts (0x6D == c) (holds (codes "s-") c) behind in
    let (s, behind_s) = or_parts (0x73 == c) (holds (codes "-") c) behind_m in
    let (dash, none) = or_parts (0x2D == c) false behind_s in
    rw (i, m, s, differ c 0x2D dash) refl
  where
    differ : (a b : ℕ) → (b == a) ≡ false → (a == b) ≡ false
    differ a b h = go (a == b) refl
      where
        go : (t : Bool) → (a == b) ≡ t → (a == b) ≡ false
        go false e = e
        go true e = let same = eq-eqb b a (sym (eqb-true a b e)) in cc

-- no letter stands twice in two lists where none does in each and they share none
pub all_differ-append : (xs ys : List ℕ) → all_differ (xs ++ ys) ≡ ((all_differ xs && all_differ ys) && not (list_any (λ x. holds ys x) xs))
all_differ-append [] ys = yes (all_differ ys)
  where
    yes : (b : Bool) → b ≡ (b && true)
    yes true = refl
    yes false = refl
all_differ-append (x ∷ xs) ys =
    let whole : (not (holds (xs ++ ys) x) && all_differ (xs ++ ys)) ≡ (((not (holds xs x) && all_differ xs) && all_differ ys) && not (holds ys x || list_any (λ x. holds ys x) xs)) =
    rw (list_any-append (λ d. d == x) xs ys, all_differ-append xs ys) (go (holds xs x) (holds ys x) (all_differ xs) (all_differ ys) (list_any (λ x. holds ys x) xs)) in
    whole
  where
    go : (p q a b s : Bool) → (not (p || q) && ((a && b) && not s)) ≡ (((not p && a) && b) && not (q || s))
    go true q a b s = refl
    go false true true true s = refl
    go false true true false s = refl
    go false true false b s = refl
    go false false true true s = refl
    go false false true false s = refl
    go false false false b s = refl

-- without a dash nothing is switched off
pub switched_off-none : (t ds r : List ℕ) → is_at (λ c. c == 0x2D) t ≡ false → span_up_to 0 is_flag t ≡ (ds, r) → switched_off t ≡ (ds, r)
unfolding span_up_to
switched_off-none t ds r h e = rw h e

-- what stops a part stops the opening
pub opening-stopped : {A B : Type 0} (view : A → B) (reads : Reads B) (t r s : List ℕ) (read : meaning.Opening) (e : Error) → (reads t ≡ None → read ≡ meaning.no_term) → IsRead view reads t (Err e) r → IsOpening read (Err e) s
opening-stopped view reads t r s read (Syntax message) f h = f h
opening-stopped view reads t r s read OutOfMemory f h = h
opening-stopped view reads t r s read TooDeep f h = h
opening-stopped view reads t r s read TooManyGroups f h = h
opening-stopped view reads t r s read TooManyLoops f h = h
opening-stopped view reads t r s read TooLarge f h = h

-- what is read there is read here
pub opening-there : (here there : meaning.Opening) (result : Result Opening Error) (r : List ℕ) → here ≡ there → IsOpening there result r → IsOpening here result r
opening-there here there result r e h = subst (λ o. IsOpening o result r) (sym e) h
