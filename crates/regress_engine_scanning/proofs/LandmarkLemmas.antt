-- Where a byte stands by an offset.
use Rattle.std.specs.Prelude.{slice_index, option_map, ◌==◌}
use Rattle.std.proofs.Common.{◌≡◌, ℕ, zero, suc, ◌+◌, ◌-◌, ◌<◌, ◌≤◌, ◌⊎◌, inl, inr, Bool, true, false, not, ◌&&◌, ◌||◌, List, [], ◌∷◌, length, drop, nat_eq, slice_get, Option, Some, None, refl, sym, ap, ◌∙◌, arith}
use Rattle.std.proofs.lemmas.Bool.{cases_lt, eqb-true, eq-eqb, false≢true}
use Rattle.std.proofs.lemmas.Option.{slice_get_within, slice_get-get_or, get_or_from_slice_get}
use Rattle.memchr.specs.Find.{IsFirstByte, is_byte}
use Rattle.regress_meaning.specs.Meaning.{is_some_and}
use Rattle.regress_front_bytes.specs.declared.bitmaps.ByteBitmap.{ByteBitmap}
use Rattle.regress_front_bytes.specs.Bitmaps.{byte_bitmap_contains}
use Rattle.regress_engine_scanning.specs.Least.{IsLeast}
use Rattle.regress_engine_scanning.specs.Landmarks.{run_then, stands, begins_by}
use Rattle.regress_engine_scanning.specs.declared.landmark.Landmark.{Landmark}
use Rattle.regress_engine_scanning.specs.declared.landmark.Landmark.TheVariants.{Ahead, BehindRun}
use Rattle.regress_engine_scanning.proofs.ByteLemmas.{slice_get-behind}

-- ---- tests of one byte

pub is-byte : (o : Option ℕ) (byte : ℕ) → o ≡ Some byte → is_some_and o (nat_eq byte) ≡ true
is-byte o byte e = rw e (eq-eqb byte byte refl)

pub byte-is : (o : Option ℕ) (byte : ℕ) → is_some_and o (nat_eq byte) ≡ true → o ≡ Some byte
byte-is None byte h = absurd (cc)
byte-is (Some b) byte h = ap Some (sym (eqb-true byte b h))

pub both-parts : (p q : Bool) → (p && q) ≡ true → (p ≡ true) × (q ≡ true)
both-parts true q h = (refl, h)
both-parts false q h = absurd (cc)

-- what begins so has the byte of the set and that of the landmark
pub begins-parts : (set : ByteBitmap) (landmark : Landmark) (bytes : List ℕ) (at : ℕ) → begins_by set landmark bytes at ≡ true
    → (is_some_and (slice_get bytes at) (byte_bitmap_contains set) ≡ true) × (stands landmark bytes at ≡ true)
begins-parts set landmark bytes at h = both-parts _ _ h

pub begins-both : (set : ByteBitmap) (landmark : Landmark) (bytes : List ℕ) (at : ℕ) → is_some_and (slice_get bytes at) (byte_bitmap_contains set) ≡ true
    → stands landmark bytes at ≡ true → begins_by set landmark bytes at ≡ true
begins-both set landmark bytes at one other = rw (one, other) refl

-- ---- the next byte

-- where a byte is first behind an index
pub next-least : (byte : ℕ) (bytes : List ℕ) (from : ℕ) (r : Option ℕ) → from ≤ length bytes → IsFirstByte (is_byte byte) (drop from bytes) r
    → IsLeast (λ k. slice_get bytes k ≡ Some byte) from (option_map (λ i. from + i) r)
next-least byte bytes from None room h = λ o low is.
    let e : o ≡ from + (o - from) = omega (arith, low) in
    let there : slice_get (drop from bytes) (o - from) ≡ Some byte = slice_get-behind bytes from (o - from) ∙ ap (slice_get bytes) (sym e) ∙ is in
    h (o - from) (omega arith) (slice_get_within (drop from bytes) (o - from) byte there)
    (ap (λ x. x == byte) (get_or_from_slice_get (drop from bytes) (o - from) byte 0 there) ∙ eq-eqb byte byte refl)
next-least byte bytes from (Some i) room h =
    let hay = drop from bytes in
    let value : slice_index hay i ≡ byte = eqb-true (slice_index hay i) byte h.1 in (
      omega arith,
      sym (slice_get-behind bytes from i) ∙ slice_get-get_or hay i 0 h.0.high ∙ ap Some value,
      λ o low high is.
          let e : o ≡ from + (o - from) = omega (arith, low) in
          let there : slice_get hay (o - from) ≡ Some byte = slice_get-behind bytes from (o - from) ∙ ap (slice_get bytes) (sym e) ∙ is in
          h.0.before (o - from) (omega arith) (omega (arith, low, high))
          (ap (λ x. x == byte) (get_or_from_slice_get hay (o - from) byte 0 there) ∙ eq-eqb byte byte refl),
    )

-- ---- so many bytes further on

module _ (set : ByteBitmap) (distance byte : ℕ) (bytes : List ℕ) where
  -- no byte from an index up to another that is the landmark's, and so no hit
  pub ahead-none : (offset from at : ℕ) → ((k : ℕ) → offset ≤ k → k + distance < from → ¬ (begins_by set (Ahead distance byte) bytes k ≡ true))
      → ((k : ℕ) → from ≤ k → k < at → ¬ (slice_get bytes k ≡ Some byte))
      → (k : ℕ) → offset ≤ k → k + distance < at → ¬ (begins_by set (Ahead distance byte) bytes k ≡ true)
  ahead-none offset from at before none k low below h = by_order (cases_lt (k + distance) from)
    where
      by_order : (k + distance < from) ⊎ (from ≤ k + distance) → ⊥
      by_order (inl soon) = before k low soon h
      by_order (inr high) = none (k + distance) high below (byte-is _ byte (begins-parts set (Ahead distance byte) bytes k h).1)

  -- nor at the byte, where none of the set stands so far before it
  pub ahead-more : (offset from at start : ℕ) → ((k : ℕ) → offset ≤ k → k + distance < from → ¬ (begins_by set (Ahead distance byte) bytes k ≡ true))
      → ((k : ℕ) → from ≤ k → k < at → ¬ (slice_get bytes k ≡ Some byte)) → start + distance ≡ at → is_some_and (slice_get bytes start) (byte_bitmap_contains set) ≡ false
      → (k : ℕ) → offset ≤ k → k + distance < at + 1 → ¬ (begins_by set (Ahead distance byte) bytes k ≡ true)
  ahead-more offset from at start before none e other k low below h = by_order (cases_lt (k + distance) at)
    where
      by_order : (k + distance < at) ⊎ (at ≤ k + distance) → ⊥
      by_order (inl soon) = ahead-none offset from at before none k low soon h
      by_order (inr here) =
          let same : k ≡ start = omega (arith, here, below, e) in
          false≢true (sym other ∙ ap (λ i. is_some_and (slice_get bytes i) (byte_bitmap_contains set)) (sym same) ∙ (begins-parts set (Ahead distance byte) bytes k h).0)

-- ---- behind a run

-- how far the bytes of a run reach
pub run-reaches : (run : ℕ → Bool) (byte : ℕ) (xs : List ℕ) → run_then run byte xs ≡ true
    → (n : ℕ) × (0 < n) × ((j : ℕ) → j < n → is_some_and (slice_get xs j) run ≡ true) × (slice_get xs n ≡ Some byte)
run-reaches run byte [] h = absurd (cc)
run-reaches run byte (x ∷ xs) h =
    let parts = both-parts (not (nat_eq byte x) && run x) (is_some_and (slice_get xs 0) (nat_eq byte) || run_then run byte xs) h in
    by_next (is_some_and (slice_get xs 0) (nat_eq byte)) refl (both-parts _ _ parts.0).1 parts.1 (run-reaches run byte xs)
  where
    within : (n : ℕ) → run x ≡ true → ((j : ℕ) → j < n → is_some_and (slice_get xs j) run ≡ true) → (j : ℕ) → j < suc n → is_some_and (slice_get (x ∷ xs) j) run ≡ true
    within n is more zero below = is
    within n is more (suc j) below = more j (omega arith)

    by_next : (b : Bool) → is_some_and (slice_get xs 0) (nat_eq byte) ≡ b → run x ≡ true → (b || run_then run byte xs) ≡ true
        → (run_then run byte xs ≡ true → (n : ℕ) × (0 < n) × ((j : ℕ) → j < n → is_some_and (slice_get xs j) run ≡ true) × (slice_get xs n ≡ Some byte))
        → (n : ℕ) × (0 < n) × ((j : ℕ) → j < n → is_some_and (slice_get (x ∷ xs) j) run ≡ true) × (slice_get (x ∷ xs) n ≡ Some byte)
    by_next true next is more further = (1, omega arith, within 0 is (λ j below. absurd (omega arith)), byte-is (slice_get xs 0) byte next)
    by_next false next is more further =
        let (n, some, all, end) = further more in (suc n, omega arith, within n is all, end)

-- the byte itself begins no run
pub run-at_byte : (run : ℕ → Bool) (byte : ℕ) (xs : List ℕ) → slice_get xs 0 ≡ Some byte → ¬ (run_then run byte xs ≡ true)
run-at_byte run byte [] e h = absurd (cc)
run-at_byte run byte (x ∷ xs) e h =
    let same : x ≡ byte = cc in
    let equal = eq-eqb byte x (sym same) in false≢true (sym (ap (λ b. not b && run x && (is_some_and (slice_get xs 0) (nat_eq byte) || run_then run byte xs)) equal) ∙ h)

-- other bytes of a run up to the byte
pub run-holds : (run : ℕ → Bool) (byte : ℕ) (xs : List ℕ) (n : ℕ) → 0 < n → ((j : ℕ) → j < n → is_some_and (slice_get xs j) run ≡ true)
    → ((j : ℕ) → j < n → ¬ (slice_get xs j ≡ Some byte)) → slice_get xs n ≡ Some byte → run_then run byte xs ≡ true
run-holds run byte [] n some all other end = absurd (cc)
run-holds run byte (x ∷ xs) zero some all other end = absurd (omega arith)
run-holds run byte (x ∷ xs) (suc n) some all other end =
    let first : run x ≡ true = all 0 (omega arith) in
    let further = λ (some : 0 < n). run-holds run byte xs n some (λ j below. all (suc j) (omega arith)) (λ j below. other (suc j) (omega arith)) end in
    rw (differs (nat_eq byte x) refl, first) (behind n refl further)
  where
    differs : (b : Bool) → nat_eq byte x ≡ b → not b ≡ true
    differs true e = absurd (other 0 (omega arith) (ap Some (sym (eqb-true byte x e))))
    differs false e = refl

    either : (a b : Bool) → b ≡ true → (a || b) ≡ true
    either true b e = refl
    either false b e = e

    behind : (m : ℕ) → n ≡ m → (0 < n → run_then run byte xs ≡ true) → (is_some_and (slice_get xs 0) (nat_eq byte) || run_then run byte xs) ≡ true
    behind zero e further = rw (is-byte (slice_get xs 0) byte (sym (ap (slice_get xs) e) ∙ end)) refl
    behind (suc m) e further = either _ _ (further (omega (arith, e)))

module _ (set : ByteBitmap) (run : ByteBitmap) (byte : ℕ) (bytes : List ℕ) where
  abbrev Hit : ℕ → Type 0
  Hit k = begins_by set (BehindRun run byte) bytes k ≡ true

  -- no hit from an index up to where a run starts, behind which the next byte stands
  pub run-none : (offset from at start : ℕ) → ((k : ℕ) → offset ≤ k → k < from → ¬ Hit k) → ((k : ℕ) → from ≤ k → k < at → ¬ (slice_get bytes k ≡ Some byte))
      → start ≤ at → (from < start → is_some_and (slice_get bytes (start - 1)) (byte_bitmap_contains run) ≡ false) → (k : ℕ) → offset ≤ k → k < start → ¬ Hit k
  run-none offset from at start before none inside stop k least below h = by_order (cases_lt k from)
    where
      by_order : (k < from) ⊎ (from ≤ k) → ⊥
      by_order (inl low) = before k least low h
      by_order (inr high) =
          let (n, some, all, end) = run-reaches (byte_bitmap_contains run) byte (drop k bytes) (begins-parts set (BehindRun run byte) bytes k h).1 in
          let stands : slice_get bytes (k + n) ≡ Some byte = sym (slice_get-behind bytes k n) ∙ end in
          by_end n (cases_lt (k + n) at) all stands
        where
          by_end : (n : ℕ) → (k + n < at) ⊎ (at ≤ k + n) → ((j : ℕ) → j < n → is_some_and (slice_get (drop k bytes) j) (byte_bitmap_contains run) ≡ true) → slice_get bytes (k + n) ≡ Some byte → ⊥
          by_end n (inl soon) all end = none (k + n) (omega (arith, high)) soon end
          by_end n (inr far) all end =
              let e : start - 1 ≡ k + (start - 1 - k) = omega (arith, below) in
              let here = all (start - 1 - k) (omega (arith, below, far, inside)) in
              false≢true (sym (stop (omega (arith, high, below))) ∙ ap (λ i. is_some_and (slice_get bytes i) (byte_bitmap_contains run)) e
              ∙ sym (ap (λ (o : Option ℕ). is_some_and o (byte_bitmap_contains run)) (slice_get-behind bytes k (start - 1 - k))) ∙ here)

  -- a byte of the set in a run, behind which the next byte stands, is a hit
  pub run-hit : (from at start k : ℕ) → ((k : ℕ) → from ≤ k → k < at → ¬ (slice_get bytes k ≡ Some byte)) → slice_get bytes at ≡ Some byte → from ≤ start → start ≤ k → k < at
      → ((j : ℕ) → start ≤ j → j < at → is_some_and (slice_get bytes j) (byte_bitmap_contains run) ≡ true)
      → is_some_and (slice_get bytes k) (byte_bitmap_contains set) ≡ true → Hit k
  run-hit from at start k none here low inside below all first =
      let e : at ≡ k + (at - k) = omega (arith, below) in
      begins-both set (BehindRun run byte) bytes k first
      (run-holds (byte_bitmap_contains run) byte (drop k bytes) (at - k) (omega (arith, below))
      (λ j less. ap (λ (o : Option ℕ). is_some_and o (byte_bitmap_contains run)) (slice_get-behind bytes k j) ∙ all (k + j) (omega (arith, inside)) (omega (arith, less, below)))
      (λ j less is. none (k + j) (omega (arith, low, inside)) (omega (arith, less, below)) (sym (slice_get-behind bytes k j) ∙ is))
      (slice_get-behind bytes k (at - k) ∙ ap (slice_get bytes) (sym e) ∙ here))

  -- no hit, where the byte stands no more
  pub run-nowhere : (offset from : ℕ) → ((k : ℕ) → offset ≤ k → k < from → ¬ Hit k) → ((k : ℕ) → from ≤ k → ¬ (slice_get bytes k ≡ Some byte)) → (k : ℕ) → offset ≤ k → ¬ Hit k
  run-nowhere offset from before none k low h = by_order (cases_lt k from)
    where
      by_order : (k < from) ⊎ (from ≤ k) → ⊥
      by_order (inl soon) = before k low soon h
      by_order (inr high) =
          let (n, some, all, end) = run-reaches (byte_bitmap_contains run) byte (drop k bytes) (begins-parts set (BehindRun run byte) bytes k h).1 in
          none (k + n) (omega (arith, high)) (sym (slice_get-behind bytes k n) ∙ end)

  -- no hit before the first byte of the set in the run
  pub run-early : (offset start found : ℕ) → ((k : ℕ) → offset ≤ k → k < start → ¬ Hit k)
      → ((k : ℕ) → start ≤ k → k < found → ¬ (is_some_and (slice_get bytes k) (byte_bitmap_contains set) ≡ true)) → (k : ℕ) → offset ≤ k → k < found → ¬ Hit k
  run-early offset start found before none k low below h = by_order (cases_lt k start)
    where
      by_order : (k < start) ⊎ (start ≤ k) → ⊥
      by_order (inl soon) = before k low soon h
      by_order (inr high) = none k high below (begins-parts set (BehindRun run byte) bytes k h).0

  -- no hit up to the byte, where no byte of the set stands in the run before it
  pub run-past : (offset start at : ℕ) → ((k : ℕ) → offset ≤ k → k < start → ¬ Hit k) → ((k : ℕ) → start ≤ k → k < at → ¬ (is_some_and (slice_get bytes k) (byte_bitmap_contains set) ≡ true))
      → slice_get bytes at ≡ Some byte → (k : ℕ) → offset ≤ k → k < at + 1 → ¬ Hit k
  run-past offset start at before none here k least below h = by_order (cases_lt k start) (cases_lt k at)
    where
      by_order : (k < start) ⊎ (start ≤ k) → (k < at) ⊎ (at ≤ k) → ⊥
      by_order (inl low) any = before k least low h
      by_order (inr high) (inl inside) = none k high inside (begins-parts set (BehindRun run byte) bytes k h).0
      by_order (inr high) (inr past) =
          let e : k ≡ at = omega (arith, below, past) in
          run-at_byte (byte_bitmap_contains run) byte (drop k bytes) (slice_get-behind bytes k 0 ∙ ap (slice_get bytes) (omega (arith, e)) ∙ here)
          (begins-parts set (BehindRun run byte) bytes k h).1
