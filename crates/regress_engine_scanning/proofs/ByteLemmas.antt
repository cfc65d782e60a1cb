-- What is found of bytes and units: few of them, a literal, what stands behind an offset.
use Rattle.std.specs.Prelude.{slice_get, slice_index, ◌==◌, ◌||◌}
use Rattle.std.proofs.Common.{◌≡◌, ◌≢◌, ◌⊎◌, inl, inr, ap₂, ℕ, zero, suc, ◌+◌, ◌-◌, ◌<◌, ◌≤◌, Bool, true, false, List, [], ◌∷◌, length, take, drop, Option, Some, None, refl, sym, ap, ◌∙◌, arith, length-drop, length-take}
use Rattle.std.proofs.Math.Bool.{or-false}
use Rattle.std.proofs.lemmas.Bool.{cases_lt, cases_eq, eq-eqb, ne_eqb}
use Rattle.memchr.proofs.lemmas.MatchLemmas.{OccursAt-part, OccursAt-from_part}
use Rattle.std.proofs.lemmas.Option.{slice_get_within, slice_get-get_or}
use Rattle.memchr.specs.Find.{IsFirstByte, FindsNeedle, OccursAt, is_byte, is_byte2, is_byte3}
use Rattle.regress_meaning.specs.Text.{holds}
use Rattle.regress_meaning.specs.Meaning.{is_some_and}
use Rattle.regress_engine_scanning.specs.Least.{IsLeast}

-- ---- sets of bytes

-- a test for equality may be turned round
eq-turned : (x a : ℕ) → (x == a) ≡ (a == x)
eq-turned x a = by_order (cases_eq x a)
  where
    by_order : (x ≡ a) ⊎ (x ≢ a) → (x == a) ≡ (a == x)
    by_order (inl same) = eq-eqb x a same ∙ sym (eq-eqb a x (sym same))
    by_order (inr other) = ne_eqb x a other ∙ sym (ne_eqb a x (λ e. other (sym e)))

or-grouped : (p q r : Bool) → ((p || q) || r) ≡ (p || (q || r))
or-grouped true q r = refl
or-grouped false q r = refl

-- a set of few bytes by its bytes
pub one-held : (set : List ℕ) → length set ≡ 1 → (x : ℕ) → is_byte (slice_index set 0) x ≡ holds set x
one-held [] size x = absurd (omega (arith, size))
one-held (a ∷ []) size x = eq-turned x a ∙ sym (or-false (a == x))
one-held (a ∷ b ∷ set) size x = absurd (omega (arith, size))

pub two-held : (set : List ℕ) → length set ≡ 2 → (x : ℕ) → is_byte2 (slice_index set 0) (slice_index set 1) x ≡ holds set x
two-held [] size x = absurd (omega (arith, size))
two-held (a ∷ []) size x = absurd (omega (arith, size))
two-held (a ∷ b ∷ []) size x = ap₂ ◌||◌ (eq-turned x a) (eq-turned x b ∙ sym (or-false (b == x)))
two-held (a ∷ b ∷ c ∷ set) size x = absurd (omega (arith, size))

pub three-held : (set : List ℕ) → length set ≡ 3 → (x : ℕ) → is_byte3 (slice_index set 0) (slice_index set 1) (slice_index set 2) x ≡ holds set x
three-held [] size x = absurd (omega (arith, size))
three-held (a ∷ []) size x = absurd (omega (arith, size))
three-held (a ∷ b ∷ []) size x = absurd (omega (arith, size))
three-held (a ∷ b ∷ c ∷ []) size x =
    ap₂ ◌||◌ (ap₂ ◌||◌ (eq-turned x a) (eq-turned x b)) (eq-turned x c ∙ sym (or-false (c == x))) ∙ or-grouped (a == x) (b == x) (c == x || false)
three-held (a ∷ b ∷ c ∷ d ∷ set) size x = absurd (omega (arith, size))

-- what is first by one test is so by another that is the same
pub first-byte-by : (test same : ℕ → Bool) → ((x : ℕ) → test x ≡ same x) → (bytes : List ℕ) (r : Option ℕ) → IsFirstByte test bytes r → IsFirstByte same bytes r
first-byte-by test same each bytes None h = λ k low high is. h k low high (each (slice_index bytes k) ∙ is)
first-byte-by test same each bytes (Some k) h = (
  record { low = h.0.low; high = h.0.high; before = λ j low high is. h.0.before j low high (each (slice_index bytes j) ∙ is) },
  sym (each (slice_index bytes k)) ∙ h.1,
)

-- a byte at an index passes where it is there and passes
module _ (test : ℕ → Bool) (bytes : List ℕ) where
  pub passes-there : (k : ℕ) → k < length bytes → is_some_and (slice_get bytes k) test ≡ test (slice_index bytes k)
  passes-there k less = ap (λ (o : Option ℕ). is_some_and o test) (slice_get-get_or bytes k 0 less)

  pub is-there : (k : ℕ) → is_some_and (slice_get bytes k) test ≡ true → k < length bytes
  is-there k e = by_byte (slice_get bytes k) refl e
    where
      by_byte : (o : Option ℕ) → slice_get bytes k ≡ o → is_some_and o test ≡ true → k < length bytes
      by_byte None same is = absurd (cc)
      by_byte (Some b) same is = slice_get_within bytes k b same

-- ---- a literal

module _ (bytes front : List ℕ) where
  fits-there : (k : ℕ) → take (length front) (drop k bytes) ≡ front → length front ≤ length bytes - k
  fits-there k e = let a = length-take (length front) (drop k bytes) in let b = length-drop k bytes in let c = ap length e in omega (arith, a, b, c)

  -- it occurs where its bytes stand
  pub stands-occurs : (k : ℕ) → k ≤ length bytes → take (length front) (drop k bytes) ≡ front → OccursAt bytes front k
  stands-occurs k room e = let few = fits-there k e in OccursAt-from_part bytes front k (omega (arith, room, few)) e

  -- where it is found is the least index at which its bytes stand
  pub needle-least : (r : Option ℕ) → FindsNeedle bytes front 0 r → IsLeast (λ k. take (length front) (drop k bytes) ≡ front) 0 r
  needle-least None h = λ k low e. by_place k e (cases_lt (length bytes) k)
    where
      by_place : (k : ℕ) → take (length front) (drop k bytes) ≡ front → (length bytes < k) ⊎ (k ≤ length bytes) → ⊥
      by_place k e (inl past) =
          let few = fits-there k e in
          h 0 (omega arith) (omega arith) (record { fits = omega (arith, few, past); reads = λ j less. absurd (omega (arith, less, few, past)) })
      by_place k e (inr room) = h k (omega arith) (omega (arith, room)) (stands-occurs k room e)
  needle-least (Some k) h = (
    omega arith,
    OccursAt-part bytes front k h.1,
    λ j low high e. let room = h.0.high in h.0.before j low high (stands-occurs j (omega (arith, high, room)) e),
  )

-- ---- an offset behind which the bytes are searched

pub slice_get-behind : (bytes : List ℕ) (from k : ℕ) → slice_get (drop from bytes) k ≡ slice_get bytes (from + k)
slice_get-behind bytes zero k = let e : k ≡ 0 + k = omega arith in ap (slice_get bytes) e
slice_get-behind [] (suc from) k = refl
slice_get-behind (b ∷ bytes) (suc from) k =
    let e : suc (from + k) ≡ suc from + k = omega arith in slice_get-behind bytes from k ∙ ap (slice_get (b ∷ bytes)) e

drop-nothing : (n : ℕ) → ◌≡◌ {A = List ℕ} (drop n []) []
drop-nothing zero = refl
drop-nothing (suc n) = refl

pub drop-behind : (bytes : List ℕ) (from k : ℕ) → drop k (drop from bytes) ≡ drop (from + k) bytes
drop-behind bytes zero k = let e : k ≡ 0 + k = omega arith in ap (λ n. drop n bytes) e
drop-behind [] (suc from) k = drop-nothing k ∙ sym (drop-nothing (suc from + k))
drop-behind (b ∷ bytes) (suc from) k =
    let e : suc (from + k) ≡ suc from + k = omega arith in drop-behind bytes from k ∙ ap (λ n. drop n (b ∷ bytes)) e
