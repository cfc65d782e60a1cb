-- A word read from a text is read alike where `)` follows the text.
use Rattle.std.proofs.Common.{◌≡◌, ℕ, zero, suc, ◌≤◌, Bool, true, false, not, ◌&&◌, ◌||◌, ◌==◌, nat_lt, nat_le, List, [], ◌∷◌, ◌++◌, length, drop, Option, Some, None, is_some, cond, if◌then◌else◌, option_and_then, option_map, refl, sym, ap, arith, length-append, not-suc-le-zero, le_of_suc-le-suc}
use Rattle.std.proofs.lemmas.Bool.{false≢true, and_right, and_parts}
use Rattle.std.specs.Option.{option_or}
use Rattle.regress_meaning.specs.Text.{between, is_at, span, span_up_to}
use Rattle.regress_meaning.specs.Tokens.{Reads, guard, is_octal, is_hex, decimal_at, braced_end, bounds_at, hex_at, low_half, pair_at, braces_at, unicode_escape, octal_at, name_point, begins_name, continues_name, name_rest, name_at, key_at, Mode, property_of, property_at, numbers_from, named_reference, octal_or_digit, decimal_escape, point, set, control, class_letter, control_letter, identity, escape_at, class_escape_at}
use Rattle.regress_meaning.specs.Table.{Table}
use Rattle.regress_meaning.specs.Class.{is_digit, is_letter, is_ascii_word}

-- a function of what a test chooses
pub cond_apply : {A B : Type 0} (f : A → B) (b : Bool) (x y : A) → f (cond b x y) ≡ cond b (f x) (f y)
cond_apply f true x y = refl
cond_apply f false x y = refl

module _ (w : List ℕ) where
  -- the text with `)` behind it, and then w
  abbrev pub closed : List ℕ → List ℕ
  closed t = t ++ 0x29 ∷ w

  -- The second word is the first, read where `)` and w follow. `both`: so it is also where the first is no word.
  pub data More {A : Type 0} : (both : Bool) → Option (A × List ℕ) → Option (A × List ℕ) → Type 0 where
    no_word : {both : Bool} → More both None None
    a_word : {both : Bool} {x : A} {r : List ℕ} → More both (Some (x, r)) (Some (x, closed r))
    new_word : {o : Option (A × List ℕ)} → More false None o

  -- `More` goes through what words are made of.
  if_more : {A : Type 0} {both : Bool} {o p o' p' : Option (A × List ℕ)} (b : Bool) → More both o o' → More both p p' →
      More both (if b then o else p) (if b then o' else p')
  if_more true e f = e
  if_more false e f = f

  or_more : {A : Type 0} {both : Bool} {o p o' p' : Option (A × List ℕ)} → More true o o' → More both p p' →
      More both (option_or o p) (option_or o' p')
  or_more no_word f = f
  or_more a_word f = a_word

  then_more : {A B : Type 0} {both : Bool} {o o' : Option (A × List ℕ)} (f f' : A × List ℕ → Option (B × List ℕ)) →
      More both o o' → ((x : A) (r : List ℕ) → More both (f (x, r)) (f' (x, closed r))) → More both (option_and_then f o) (option_and_then f' o')
  then_more f f' no_word h = no_word
  then_more f f' (a_word {x = x} {r = r}) h = h x r
  then_more f f' new_word h = new_word

  map_more : {A B : Type 0} {both : Bool} {o o' : Option (A × List ℕ)} (f : A → B) → More both o o' →
      More both (option_map (λ (x, r). (f x, r)) o) (option_map (λ (x, r). (f x, r)) o')
  map_more f no_word = no_word
  map_more f a_word = a_word
  map_more f new_word = new_word

  -- what a table of letters gives
  look_up_more : {A B : Type 0} {both : Bool} (f : A → B) (o : Option A) (t : List ℕ) →
      More both (option_map (λ x. (f x, t)) o) (option_map (λ x. (f x, closed t)) o)
  look_up_more f None t = no_word
  look_up_more f (Some x) t = a_word

  -- a word that was read is read again
  pub at_word : {A : Type 0} {both : Bool} {o o' : Option (A × List ℕ)} {x : A} {r : List ℕ} → More both o o' →
      o ≡ Some (x, r) → o' ≡ Some (x, closed r)
  at_word no_word e = cc
  at_word a_word e = ap (option_map (λ (x, r). (x, closed r))) e
  at_word new_word e = cc

  -- no new word is read
  pub at_none : {A : Type 0} {o o' : Option (A × List ℕ)} → More true o o' → o ≡ None → o' ≡ None
  at_none no_word e = refl
  at_none a_word e = cc

  -- a test that `)` does not pass
  pub is_at_more : (test : ℕ → Bool) → test 0x29 ≡ false → (t : List ℕ) → is_at test (closed t) ≡ is_at test t
  is_at_more test e [] = e
  is_at_more test e (c ∷ t) = refl

  -- a mark that ends a word
  mark_more : {A : Type 0} {both : Bool} {o o' : Option (A × List ℕ)} (test : ℕ → Bool) (x : A) (t : List ℕ) →
      test 0x29 ≡ false → More both o o' →
      More both (if is_at test t then Some (x, drop 1 t) else o) (if is_at test (closed t) then Some (x, drop 1 (closed t)) else o')
  mark_more test x [] e h = rw e h
  mark_more test x (c ∷ t) e h = if_more (test c) a_word h

  -- the front of a text as it is, and the rest with `)` behind it
  abbrev pub closed_rest : List ℕ × List ℕ → List ℕ × List ℕ
  closed_rest parts = (parts.0, closed parts.1)

  -- a mark that a test has asked for
  end_more : {A : Type 0} {both : Bool} (b b' : Bool) (test : ℕ → Bool) (x : A) (t : List ℕ) →
      (b ≡ true → is_at test t ≡ true) → b' ≡ b →
      More both (if b then Some (x, drop 1 t) else None) (if b' then Some (x, drop 1 (closed t)) else None)
  end_more true b' test x [] h e = absurd (false≢true (h refl))
  end_more false b' test x t h e = rw e no_word
  end_more true b' test x (c ∷ t) h e = rw e a_word

  -- a test that fails
  never_more : {A : Type 0} {both : Bool} (b : Bool) (o o' : Option (A × List ℕ)) → b ≡ false →
      More both (if b then o else None) (if b then o' else None)
  never_more b o o' e = rw e no_word

  -- a front of such a test, and the rest
  pub span_more : (test : ℕ → Bool) → test 0x29 ≡ false → (t : List ℕ) → span test (closed t) ≡ closed_rest (span test t)
  unfolding span
  span_more test e [] = rw e
  span_more test e (c ∷ t) = rw (span_more test e t) (sym (cond_apply closed_rest (test c) (c ∷ (span test t).0, (span test t).1) ([], c ∷ t)))

  span_up_to_more : (n : ℕ) (test : ℕ → Bool) → test 0x29 ≡ false → (t : List ℕ) → span_up_to n test (closed t) ≡ closed_rest (span_up_to n test t)
  unfolding span_up_to
  span_up_to_more zero test e t = refl
  span_up_to_more (suc n) test e [] = rw e
  span_up_to_more (suc n) test e (c ∷ t) =
      rw (span_up_to_more n test e t) (sym (cond_apply closed_rest (test c) (c ∷ (span_up_to n test t).0, (span_up_to n test t).1) ([], c ∷ t)))

  -- numbers
  decimal_more : {both : Bool} (t : List ℕ) → More both (decimal_at t) (decimal_at (closed t))
  unfolding decimal_at
  decimal_more t = rw (span_more is_digit refl t) (if_more _ a_word no_word)

  hex_more : {both : Bool} (n : ℕ) (t : List ℕ) → More both (hex_at n t) (hex_at n (closed t))
  unfolding hex_at
  hex_more n t = rw (span_up_to_more n is_hex refl t) (if_more _ a_word no_word)

  octal_more : {both : Bool} (t : List ℕ) → More both (octal_at t) (octal_at (closed t))
  unfolding octal_at
  octal_more t =
      rw (is_at_more (between 0x30 0x33) refl t, span_up_to_more (if is_at (between 0x30 0x33) t then 3 else 2) is_octal refl t) (if_more _ a_word no_word)

  -- quantifiers
  braced_end_more : {both : Bool} (n : ℕ) (t : List ℕ) → More both (braced_end n t) (braced_end n (closed t))
  braced_end_more n [] = no_word
  braced_end_more n (c ∷ t) =
      if_more _ a_word (if_more _ no_word (mark_more (λ d. d == 0x7D) _ t refl
      (then_more _ _ (decimal_more t) (λ m r. mark_more (λ d. d == 0x7D) _ r refl no_word))))

  pub bounds_more : (t : List ℕ) → More true (bounds_at t) (bounds_at (closed t))
  unfolding bounds_at
  bounds_more [] = no_word
  bounds_more (c ∷ t) =
      if_more (c == 0x2A) a_word (if_more (c == 0x2B) a_word (if_more (c == 0x3F) a_word
      (if_more (c == 0x7B) (then_more (λ (n, r). braced_end n r) (λ (n, r). braced_end n r) (decimal_more t) (λ n r. braced_end_more n r)) no_word)))

  -- escapes of code points
  low_half_more : {both : Bool} (high : ℕ) (t : List ℕ) → More both (low_half high t) (low_half high (closed t))
  unfolding low_half
  low_half_more high [] = no_word
  low_half_more high (c ∷ []) = never_more ((0x5C == c) && false) _ _ (and_right _ _ refl)
  low_half_more high (c ∷ d ∷ t) = if_more _ (then_more _ _ (hex_more 4 t) (λ low r. if_more _ a_word no_word)) no_word

  pair_more : {both : Bool} (t : List ℕ) → More both (pair_at t) (pair_at (closed t))
  unfolding pair_at
  pair_more t = then_more _ _ (hex_more 4 t) (λ c r. or_more (if_more _ (low_half_more c r) no_word) a_word)

  braces_more : {both : Bool} (t : List ℕ) → More both (braces_at t) (braces_at (closed t))
  unfolding braces_at
  braces_more [] = no_word
  braces_more (c ∷ t) = rw (span_more is_hex refl t) (end_more _ _ (λ d. d == 0x7D) _ (span is_hex t).1
      (λ e. (and_parts _ _ (and_parts _ _ e).0).1) (rw (is_at_more (λ d. d == 0x7D) refl (span is_hex t).1)))

  unicode_more : {both : Bool} (t : List ℕ) → More both (unicode_escape t) (unicode_escape (closed t))
  unfolding unicode_escape
  unicode_more t = or_more (braces_more t) (pair_more t)

  -- names
  name_point_more : (t : List ℕ) → More false (name_point t) (name_point (closed t))
  unfolding name_point
  name_point_more [] = new_word
  name_point_more (c ∷ []) = if_more (c == 0x5C) no_word a_word
  name_point_more (c ∷ d ∷ t) = if_more (c == 0x5C) (if_more (d == 0x75) (unicode_more t) no_word) a_word

  -- more room does no harm
  name_rest_more : (table : Table) (n m : ℕ) (t : List ℕ) → n ≤ m → More false (name_rest table n t) (name_rest table m (closed t))
  unfolding name_rest
  name_rest_more table zero m t h = new_word
  name_rest_more table (suc n) zero t h = absurd (not-suc-le-zero h)
  name_rest_more table (suc n) (suc m) t h =
      mark_more (λ d. d == 0x3E) [] t refl (then_more _ _ (name_point_more t)
      (λ c r. if_more (continues_name table c) (map_more (λ cs. c ∷ cs) (name_rest_more table n m r (le_of_suc-le-suc h))) no_word))

  pub name_more : (table : Table) (t : List ℕ) → More false (name_at table t) (name_at table (closed t))
  unfolding name_at
  name_more table t = then_more _ _ (name_point_more t) (λ c r. if_more (begins_name table c) (map_more (λ cs. c ∷ cs)
      (name_rest_more table (length r) (length (closed r)) r (omega (arith, length-append r (0x29 ∷ w))))) no_word)

  -- keys of properties
  abbrev key_end : ℕ → List ℕ → Reads (List ℕ)
  key_end c name r =
      let (value, s) = span is_ascii_word (drop 1 r) in
      guard (c == 0x7B && nat_lt 0 (length name))
      (if is_at (λ d. d == 0x7D) r then Some (name, drop 1 r)
      else guard (is_at (λ d. d == 0x3D) r && nat_lt 0 (length value) && is_at (λ d. d == 0x7D) s) (Some (name ++ (0x3D ∷ value), drop 1 s)))

  key_end_more : {both : Bool} (c : ℕ) (name r : List ℕ) → More both (key_end c name r) (key_end c name (closed r))
  key_end_more c name [] = if_more (c == 0x7B && nat_lt 0 (length name)) no_word no_word
  key_end_more c name (d ∷ r) = if_more (c == 0x7B && nat_lt 0 (length name)) (if_more (d == 0x7D) a_word (rw (span_more is_ascii_word refl r)
      (end_more _ _ (λ e. e == 0x7D) _ (span is_ascii_word r).1 (λ e. (and_parts _ _ e).1)
      (rw (is_at_more (λ e. e == 0x7D) refl (span is_ascii_word r).1))))) no_word

  key_more : {both : Bool} (t : List ℕ) → More both (key_at t) (key_at (closed t))
  unfolding key_at
  key_more [] = no_word
  key_more (c ∷ t) = rw (span_more is_ascii_word refl t) (key_end_more c (span is_ascii_word t).0 (span is_ascii_word t).1)

  -- a letter behind `\c`
  control_letter_more : {both : Bool} (test : ℕ → Bool) → test 0x29 ≡ false → (t : List ℕ) → More both (control_letter test t) (control_letter test (closed t))
  control_letter_more test e [] = rw e no_word
  control_letter_more test e (c ∷ t) = if_more (test c) a_word no_word

  module _ (m : Mode) where
    property_more : {both : Bool} (c : ℕ) (t : List ℕ) → More both (property_at m c t) (property_at m c (closed t))
    unfolding property_at
    property_more c t = then_more _ _ (key_more t)
        (λ key r. if_more (c == 0x70) (look_up_more (λ s. s) (property_of m key) r) (if_more (is_some (m.table.property key)) a_word no_word))

    named_reference_more : (t : List ℕ) → More false (named_reference m t) (named_reference m (closed t))
    unfolding named_reference
    named_reference_more [] = new_word
    named_reference_more (c ∷ t) = then_more _ _ (if_more (c == 0x3C) (name_more m.table t) no_word)
        (λ name r. if_more (nat_lt 0 (length (numbers_from 0 name m.names))) a_word no_word)

    octal_or_digit_more : {both : Bool} (c : ℕ) (t : List ℕ) → More both (octal_or_digit m c t) (octal_or_digit m c (closed t))
    unfolding octal_or_digit
    octal_or_digit_more c t = if_more (not m.unicode) (if_more (is_octal c) (map_more point (octal_more (c ∷ t))) a_word) no_word

    decimal_escape_more : {both : Bool} (c : ℕ) (t : List ℕ) → More both (decimal_escape m c t) (decimal_escape m c (closed t))
    unfolding decimal_escape
    decimal_escape_more c t = then_more _ _ (decimal_more (c ∷ t)) (λ k r. if_more (nat_le k (length m.names)) a_word (octal_or_digit_more c t))

    pub escape_more : (t : List ℕ) → More false (escape_at m t) (escape_at m (closed t))
    unfolding escape_at
    escape_more [] = new_word
    escape_more (c ∷ t) =
        rw (is_at_more is_digit refl t)
        (if_more (is_some (class_letter c)) (look_up_more set (class_letter c) t)
        (if_more (is_some (control c)) (look_up_more point (control c) t)
        (if_more (c == 0x63) (or_more (control_letter_more is_letter refl t) (if_more (not m.unicode) a_word no_word))
        (if_more (c == 0x30) (if_more (is_at is_digit t) (octal_or_digit_more c t) a_word)
        (if_more (is_digit c) (decimal_escape_more c t)
        (if_more (c == 0x78) (or_more (map_more point (hex_more 2 t)) itself)
        (if_more (c == 0x75) (or_more (map_more point (if_more m.unicode (unicode_more t) (hex_more 4 t))) itself)
        (if_more (c == 0x6B) (if_more m.named (named_reference_more t) a_word)
        (if_more ((c == 0x70 || c == 0x50) && m.unicode) (map_more set (property_more c t)) itself)))))))))
      where
        itself : {both : Bool} → More both (identity m c t) (identity m c (closed t))
        itself = if_more _ a_word no_word

    pub class_escape_more : (t : List ℕ) → More false (class_escape_at m t) (class_escape_at m (closed t))
    unfolding class_escape_at
    class_escape_more [] = new_word
    class_escape_more (c ∷ t) =
        rw (is_at_more is_ascii_word refl t)
        (if_more (c == 0x62) a_word
        (if_more (c == 0x2D) a_word
        (if_more (c == 0x63 && not m.unicode && is_at is_ascii_word t) (control_letter_more is_ascii_word refl t)
        (if_more (is_digit c && not (c == 0x30)) (octal_or_digit_more c t)
        (if_more (c == 0x6B) (if_more (not m.named) a_word no_word) (escape_more (c ∷ t)))))))

-- a word stands there or not, as before
pub is_some_more : {A : Type 0} (w : List ℕ) {o o' : Option (A × List ℕ)} → More w true o o' → is_some o' ≡ is_some o
is_some_more w no_word = refl
is_some_more w a_word = refl
