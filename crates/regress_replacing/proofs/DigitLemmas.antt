-- The digits behind a `$`, one or two.
use Rattle.std.proofs.Common.{◌≡◌, ◌≢◌, ◌⊎◌, inl, inr, ℕ, zero, suc, ◌+◌, ◌-◌, ◌*◌, ◌<◌, ◌≤◌, Bool, true, false, ◌&&◌, List, [], ◌∷◌, ◌++◌, length, take, drop, get_or, codes, None, if◌then◌else◌, refl, sym, ap, ◌∙◌, arith, ne_eqb, append_assoc}
use Rattle.std.specs.Prelude.{nat_le}
use Rattle.std.specs.Char.{is_ascii_digit}
use Rattle.std.specs.List.{list_all}
use Rattle.std.specs.Str.{IsUtf8, IsCharBoundary, IsAscii}
use Rattle.std.proofs.lemmas.Bool.{le-leb, lt-leb, and_parts}
use Rattle.std.proofs.lemmas.Bool.Decides.{nat_tests}
use Rattle.std.proofs.lemmas.Str.{IsCharBoundary-after_ascii, IsCharBoundary-from_ascii}
use Rattle.std.proofs.lemmas.List.{take_all, length-take}
use Rattle.regress_meaning.specs.Text.{is_at}
use Rattle.regress_meaning.specs.Matches.{Item}
use Rattle.regress_replacing.specs.Replacing.{number_after, range_of_number, part_at}
use Rattle.regress_replacing.specs.Substitution.{number_read, at_mark, substitution}
use Rattle.regress_replacing.specs.Digits.{IsOneOrTwo, digits_give}
use Rattle.regress_replacing.specs.TemplateParts.{mark_gives}
use Rattle.regress_replacing.proofs.NumberLemmas.{digit_is_small}
use Rattle.regress_replacing.proofs.TemplateLemmas.{substituted-plain, substituted-mark, mark-none}

-- how many digits are taken
taken-one : (a : ℕ) → is_ascii_digit a ≡ true → (number_after 0 (a ∷ [])).1 ≡ 1
unfolding number_after
taken-one a digit = rw digit refl

taken-two : (a b : ℕ) → is_ascii_digit a ≡ true → is_ascii_digit b ≡ true → (number_after 0 (a ∷ b ∷ [])).1 ≡ 2
unfolding number_after
taken-two a b first second =
    let small = digit_is_small a first in
    rw (first, second, le-leb (0 * 10 + (a - 0x30)) 65535 (omega (arith, small.1))) refl

taken-other : (a b : ℕ) → is_ascii_digit a ≡ true → is_ascii_digit b ≡ false → number_after 0 (a ∷ b ∷ []) ≡ number_after 0 (a ∷ [])
unfolding number_after
taken-other a b first second = rw (first, second) refl

-- no more than stand there
taken-within : (n : ℕ) (t : List ℕ) → (number_after n t).1 ≤ length t
unfolding number_after
taken-within n [] = omega arith
taken-within n (c ∷ t) = go (is_ascii_digit c && nat_le n 65535) (taken-within (n * 10 + (c - 0x30)) t)
  where
    go : (b : Bool) → (number_after (n * 10 + (c - 0x30)) t).1 ≤ length t
        → (if◌then◌else◌ {A = ℕ × ℕ} b ((number_after (n * 10 + (c - 0x30)) t).0, (number_after (n * 10 + (c - 0x30)) t).1 + 1) (n, 0)).1 ≤ length (c ∷ t)
    go true within = omega arith
    go false within = omega arith

-- A text begins with two digits, or with one alone.
pub record BeginsOne (t : List ℕ) : Type 0 where
  pub first : ℕ
  pub rest : List ℕ
  pub is : t ≡ first ∷ rest
  pub digit : is_ascii_digit first ≡ true
  pub other : is_at is_ascii_digit rest ≡ false

pub record BeginsTwo (t : List ℕ) : Type 0 where
  pub first : ℕ
  pub second : ℕ
  pub rest : List ℕ
  pub is : t ≡ first ∷ second ∷ rest
  pub digit : is_ascii_digit first ≡ true
  pub other : is_ascii_digit second ≡ true

pub begins-digits : (t : List ℕ) → is_at is_ascii_digit t ≡ true → BeginsOne t ⊎ BeginsTwo t
begins-digits [] at = absurd (cc)
begins-digits (a ∷ []) at = inl (record { first = a; rest = []; is = refl; digit = at; other = refl })
begins-digits (a ∷ b ∷ t) at = go (is_ascii_digit b) refl
  where
    go : (d : Bool) → is_ascii_digit b ≡ d → BeginsOne (a ∷ b ∷ t) ⊎ BeginsTwo (a ∷ b ∷ t)
    go true second = inr (record { first = a; second = b; rest = t; is = refl; digit = at; other = second })
    go false second = inl (record { first = a; rest = b ∷ t; is = refl; digit = at; other = second })

-- how many these are
pub count-one : (a : ℕ) (t : List ℕ) → is_ascii_digit a ≡ true → is_at is_ascii_digit t ≡ false → (number_after 0 (take 2 (a ∷ t))).1 ≡ 1
count-one a [] first other = taken-one a first
count-one a (b ∷ t) first other = ap (λ (r : ℕ × ℕ). r.1) (taken-other a b first other) ∙ taken-one a first

pub count-two : (a b : ℕ) (t : List ℕ) → is_ascii_digit a ≡ true → is_ascii_digit b ≡ true → (number_after 0 (take 2 (a ∷ b ∷ t))).1 ≡ 2
count-two a b t first second = taken-two a b first second

pub count-few : (t : List ℕ) → is_at is_ascii_digit t ≡ true → length t < 2 → 1 ≡ (number_after 0 (take 2 t)).1
count-few [] at few = absurd (cc)
count-few (a ∷ []) at few = sym (count-one a [] at refl)
count-few (a ∷ b ∷ t) at few = absurd (omega arith)

pub count-by : (t : List ℕ) (d : Bool) → is_at is_ascii_digit t ≡ true → 2 ≤ length t → is_ascii_digit (get_or t 1 0) ≡ d
    → (number_after 0 (take 2 t)).1 ≡ (if d then 2 else 1)
count-by [] d at few second = absurd (cc)
count-by (a ∷ []) d at few second = absurd (omega arith)
count-by (a ∷ b ∷ t) true at few second = count-two a b t at second
count-by (a ∷ b ∷ t) false at few second = count-one a (b ∷ t) at second

-- they are characters of their own
pub digits-cut : (t : List ℕ) (n : ℕ) → IsUtf8 t → is_at is_ascii_digit t ≡ true → n ≡ (number_after 0 (take 2 t)).1 → IsCharBoundary t n
digits-cut t n utf8 at is = go (begins-digits t at)
  where
    go : BeginsOne t ⊎ BeginsTwo t → IsCharBoundary t n
    go (inl one) =
        let here : get_or t 0 0 ≡ one.first = ap (λ (s : List ℕ). get_or s 0 0) one.is in
        let count : n ≡ 1 = is ∙ ap (λ (s : List ℕ). (number_after 0 (take 2 s)).1) one.is ∙ count-one one.first one.rest one.digit one.other in
        rw count (IsCharBoundary-after_ascii t 0 utf8 (omega (arith, ap length one.is)) (omega (arith, here, (digit_is_small one.first one.digit).0)))
    go (inr two) =
        let here : get_or t 1 0 ≡ two.second = ap (λ (s : List ℕ). get_or s 1 0) two.is in
        let count : n ≡ 2 = is ∙ ap (λ (s : List ℕ). (number_after 0 (take 2 s)).1) two.is ∙ count-two two.first two.second two.rest two.digit two.other in
        rw count (IsCharBoundary-after_ascii t 1 utf8 (omega (arith, ap length two.is)) (omega (arith, here, (digit_is_small two.second two.other).0)))

pub digits-few : (t : List ℕ) (n : ℕ) → is_at is_ascii_digit t ≡ true → n ≡ (number_after 0 (take 2 t)).1 → IsOneOrTwo (take n t)
digits-few t n at is = go (begins-digits t at)
  where
    go : BeginsOne t ⊎ BeginsTwo t → IsOneOrTwo (take n t)
    go (inl one) =
        let count : n ≡ 1 = is ∙ ap (λ (s : List ℕ). (number_after 0 (take 2 s)).1) one.is ∙ count-one one.first one.rest one.digit one.other in
        rw (count, one.is) (omega arith, omega arith, rw one.digit refl)
    go (inr two) =
        let count : n ≡ 2 = is ∙ ap (λ (s : List ℕ). (number_after 0 (take 2 s)).1) two.is ∙ count-two two.first two.second two.rest two.digit two.other in
        rw (count, two.is) (omega arith, omega arith, rw (two.digit, two.other) refl)

-- a digit is none of the marks
digit-range : (c : ℕ) → is_ascii_digit c ≡ true → (48 ≤ c) × (c ≤ 57)
digit-range c e = (grind (arith, nat_tests), grind (arith, nat_tests))

digit-unmarked : (text : List ℕ) (i : Item) (c : ℕ) → is_ascii_digit c ≡ true → mark_gives text i c ≡ None
digit-unmarked text i c digit =
    let range = digit-range c digit in
    rw (
      ne_eqb c 0x24 (λ e. absurd (omega (arith, range.0, e))),
      ne_eqb c 0x60 (λ e. absurd (omega (arith, range.1, e))),
      ne_eqb c 0x26 (λ e. absurd (omega (arith, range.0, e))),
      ne_eqb c 0x27 (λ e. absurd (omega (arith, range.0, e))),
    )
    refl

-- digits are no `$`
digits-plain : (ds : List ℕ) → list_all is_ascii_digit ds ≡ true → (k : ℕ) → k < length ds → get_or ds k 0 ≢ 0x24
digits-plain [] all k below = absurd (omega arith)
digits-plain (d ∷ ds) all zero below =
    λ e. absurd (omega (arith, (digit-range d (and_parts (is_ascii_digit d) (list_all is_ascii_digit ds) all).0).0, e))
digits-plain (d ∷ ds) all (suc k) below = digits-plain ds (and_parts (is_ascii_digit d) (list_all is_ascii_digit ds) all).1 k (omega arith)

-- no more digits are read than stand there
read-within : (m : ℕ) (t : List ℕ) → (number_read m t).1 ≤ length t
read-within m t = go (nat_le (number_after 0 (take 2 t)).0 m)
  where
    go : (b : Bool) → (if◌then◌else◌ {A = ℕ × ℕ} b (number_after 0 (take 2 t)) (number_after 0 (take 1 t))).1 ≤ length t
    go true = omega (arith, taken-within 0 (take 2 t), length-take 2 t)
    go false = omega (arith, taken-within 0 (take 1 t), length-take 1 t)

-- a second character that is no digit
read-one : (m a : ℕ) (r : List ℕ) → is_ascii_digit a ≡ true → is_at is_ascii_digit r ≡ false → number_read m (a ∷ r) ≡ number_read m (a ∷ [])
read-one m a [] first other = refl
read-one m a (b ∷ r) first other = ap (λ (p : ℕ × ℕ). if nat_le p.0 m then p else number_after 0 (a ∷ [])) (taken-other a b first other)

module _ (names : List (List ℕ)) (text : List ℕ) (i : Item) where
  -- what a number gives, and how much is taken
  by_number : ℕ × ℕ → List ℕ × ℕ
  by_number n = if nat_le 1 n.0 && nat_le n.0 (length i.groups) then (part_at text (range_of_number i n.0), n.1) else (codes "$", 0)

  taken-no_more : (n : ℕ × ℕ) (limit : ℕ) → n.1 ≤ limit → (by_number n).1 ≤ limit
  unfolding by_number
  taken-no_more n limit within = go (nat_le 1 n.0 && nat_le n.0 (length i.groups))
    where
      go : (b : Bool) → (if◌then◌else◌ {A = List ℕ × ℕ} b (part_at text (range_of_number i n.0), n.1) (codes "$", 0)).1 ≤ limit
      go true = within
      go false = omega arith

  -- digits that are left stand for themselves
  left-plain : (ds r : List ℕ) (k : ℕ) → k ≤ length ds → ((j : ℕ) → j < length ds → get_or ds j 0 ≢ 0x24)
      → substitution names (drop k (ds ++ r)) text i ≡ drop k ds ++ substitution names r text i
  left-plain ds r zero within none = substituted-plain names text i ds r none
  left-plain [] r (suc k) within none = absurd (omega arith)
  left-plain (d ∷ ds) r (suc k) within none = left-plain ds r k (omega arith) (λ j below. none (suc j) (omega arith))

  -- digits before what changes nothing in how they are read
  give-before : (ds r : List ℕ) → list_all is_ascii_digit ds ≡ true → is_at is_ascii_digit ds ≡ true
      → number_read (length i.groups) (ds ++ r) ≡ number_read (length i.groups) ds
      → digits_give names text i ds ++ substitution names r text i ≡ substitution names (0x24 ∷ (ds ++ r)) text i
  unfolding by_number
  give-before [] r all first same = absurd (cc)
  give-before (d ∷ ds) r all first same =
      let number = number_read (length i.groups) (d ∷ ds) in
      let given = by_number number in
      let marked : at_mark names text i ((d ∷ ds) ++ r) ≡ given =
      mark-none names text i d (ds ++ r) (digit-unmarked text i d first) ∙ rw first (ap by_number same) in
      let within : given.1 ≤ length (d ∷ ds) = taken-no_more number (length (d ∷ ds)) (read-within (length i.groups) (d ∷ ds)) in
      let left = left-plain (d ∷ ds) r given.1 within (digits-plain (d ∷ ds) all) in
      append_assoc given.0 (drop given.1 (d ∷ ds)) (substitution names r text i)
      ∙ ap (λ (s : List ℕ). given.0 ++ s) (sym left)
      ∙ sym (substituted-mark names text i ((d ∷ ds) ++ r) given.0 (drop given.1 ((d ∷ ds) ++ r)) given.1 marked refl)

  -- what a `$` and the digits behind it give, and then what is left
  pub digits-split : (t : List ℕ) (n : ℕ) → is_at is_ascii_digit t ≡ true → n ≡ (number_after 0 (take 2 t)).1
      → digits_give names text i (take n t) ++ substitution names (drop n t) text i ≡ substitution names (0x24 ∷ t) text i
  digits-split t n at is = go (begins-digits t at)
    where
      go : BeginsOne t ⊎ BeginsTwo t → digits_give names text i (take n t) ++ substitution names (drop n t) text i ≡ substitution names (0x24 ∷ t) text i
      go (inl one) =
          let count : n ≡ 1 = is ∙ ap (λ (s : List ℕ). (number_after 0 (take 2 s)).1) one.is ∙ count-one one.first one.rest one.digit one.other in
          rw (count, one.is)
          (give-before (one.first ∷ []) one.rest (rw one.digit refl) one.digit (read-one (length i.groups) one.first one.rest one.digit one.other))
      go (inr two) =
          let count : n ≡ 2 = is ∙ ap (λ (s : List ℕ). (number_after 0 (take 2 s)).1) two.is ∙ count-two two.first two.second two.rest two.digit two.other in
          rw (count, two.is)
          (give-before (two.first ∷ two.second ∷ []) two.rest (rw (two.digit, two.other) refl) two.digit refl)

-- digits behind a `$` that name a group
pub give-group : (names : List (List ℕ)) (text : List ℕ) (i : Item) (ds : List ℕ) (m : ℕ) → m ≡ length i.groups
    → (number_read m ds).0 ≢ 0 → (number_read m ds).0 ≤ m
    → digits_give names text i ds ≡ part_at text (range_of_number i (number_read m ds).0) ++ drop (number_read m ds).1 ds
give-group names text i ds m same some within =
    rw (← same, le-leb 1 (number_read m ds).0 (omega arith), le-leb (number_read m ds).0 m within) refl

digits-ascii : (ds : List ℕ) → list_all is_ascii_digit ds ≡ true → IsAscii ds
digits-ascii [] all k = omega arith
digits-ascii (d ∷ ds) all zero = (digit_is_small d (and_parts (is_ascii_digit d) (list_all is_ascii_digit ds) all).0).0
digits-ascii (d ∷ ds) all (suc k) = digits-ascii ds (and_parts (is_ascii_digit d) (list_all is_ascii_digit ds) all).1 k

-- Of one digit or two, as they are read where there are m groups.
all-taken : (ds : List ℕ) → length ds ≤ 2 → take 2 ds ≡ ds
all-taken ds few = take_all 2 ds few

-- the first alone
pub one-read : (ds : List ℕ) (m : ℕ) → IsOneOrTwo ds → m < (number_after 0 ds).0 → number_read m ds ≡ number_after 0 (take 1 ds)
one-read ds m few above = rw (all-taken ds few.1, lt-leb (number_after 0 ds).0 m above) refl

pub one-left : (ds : List ℕ) (m : ℕ) → IsOneOrTwo ds → m < (number_after 0 ds).0 → drop 1 ds ≡ drop (number_read m ds).1 ds
one-left [] m few above = absurd (omega (arith, few.0))
one-left (d ∷ ds) m few above =
    rw (one-read (d ∷ ds) m few above, taken-one d (and_parts (is_ascii_digit d) (list_all is_ascii_digit ds) few.2).0) refl

-- they are ASCII
pub first-cut : (ds : List ℕ) → IsOneOrTwo ds → IsCharBoundary ds 1
first-cut ds few = IsCharBoundary-from_ascii ds 1 (digits-ascii ds few.2) few.0
