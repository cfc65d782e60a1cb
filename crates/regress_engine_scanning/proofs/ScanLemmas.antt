-- What a scan of 16-bit units finds, by one unit after another or by many at once.
use Rattle.std.specs.Prelude.{slice_get, slice_index, ◌||◌, bit_or}
use Rattle.std.specs.Int.{bit_at}
use Rattle.std.specs.Simd.Lanes.{mask_l, top, chunk, zip2}
use Rattle.std.proofs.Common.{◌≡◌, ◌↔◌, ◌⊎◌, inl, inr, ap₂, ℕ, ◌+◌, ◌%◌, ◌^◌, ◌<◌, ◌≤◌, Bool, true, false, List, [], ◌∷◌, length, map, get_or, replicate, cond, eqb, leb, refl, sym, ap, ◌∙◌, subst, arith}
use Rattle.std.proofs.Math.Nat.{pow-le-pow_right}
use Rattle.std.proofs.lemmas.Bool.{cases_lt, true≢false}
use Rattle.std.proofs.lemmas.List.{get_or-map, length-map, get_or_past}
use Rattle.std.proofs.lemmas.Simd.{map-map, bit_mask_l, mask_l-lt, mask_l-mod, zip2_splat, zip2_splat_left, length-chunk, get_or-chunk}
use Rattle.memchr.specs.Find.{is_byte}
use Rattle.regress_meaning.specs.Text.{holds}
use Rattle.regress_meaning.specs.Meaning.{is_some_and}
use Rattle.regress_engine_scanning.proofs.ByteLemmas.{passes-there, one-held, two-held, three-held}

-- ---- marks of the members among some units

pub map-same : {X : Type 0} (f g : ℕ → X) → ((x : ℕ) → f x ≡ g x) → (xs : List ℕ) → map f xs ≡ map g xs
map-same f g same [] = refl
map-same f g same (x ∷ xs) = ap₂ (λ b bs. b ∷ bs) (same x) (map-same f g same xs)

-- a lane that is compared: all ones or none
abbrev compared : ℕ → ℕ → ℕ
compared a b = cond (eqb a b) 65535 0

both-lanes : (f g : ℕ → ℕ) (v : List ℕ) {a b : List ℕ} → a ≡ map f v → b ≡ map g v → zip2 bit_or a b ≡ map (λ x. bit_or (f x) (g x)) v
both-lanes f g v p q = ap₂ (zip2 bit_or) p q ∙ go v
  where
    go : (xs : List ℕ) → zip2 bit_or (map f xs) (map g xs) ≡ map (λ x. bit_or (f x) (g x)) xs
    go [] = refl
    go (x ∷ xs) = ap (λ r. bit_or (f x) (g x) ∷ r) (go xs)

-- lanes whose top bits are a test make its mask
masked : (f : ℕ → ℕ) (test : ℕ → Bool) (v z : List ℕ) → length v ≡ 32 → z ≡ map f v → ((x : ℕ) → top 15 (f x) ≡ test x)
    → mask_l (map (top 15) z) % 2 ^ 64 ≡ mask_l (map test v)
masked f test v z long e same =
    ap (λ l. mask_l l % 2 ^ 64) (ap (map (top 15)) e ∙ map-map (top 15) f v ∙ map-same (λ x. top 15 (f x)) test same v)
    ∙ mask_l-mod (map test v) 64 (omega (arith, length-map v test, long))

top-one : (s : Bool) → top 15 (cond s 65535 0) ≡ s
top-one true = refl
top-one false = refl

top-two : (s t : Bool) → top 15 (bit_or (cond s 65535 0) (cond t 65535 0)) ≡ (s || t)
top-two true true = refl
top-two true false = refl
top-two false true = refl
top-two false false = refl

top-three : (s t u : Bool) → top 15 (bit_or (bit_or (cond s 65535 0) (cond t 65535 0)) (cond u 65535 0)) ≡ ((s || t) || u)
top-three true true true = refl
top-three true true false = refl
top-three true false true = refl
top-three true false false = refl
top-three false true true = refl
top-three false true false = refl
top-three false false true = refl
top-three false false false = refl

or-lane : (s t : Bool) → bit_or (cond s 65535 0) (cond t 65535 0) ≡ cond (s || t) 65535 0
or-lane true true = refl
or-lane true false = refl
or-lane false true = refl
or-lane false false = refl

top-beyond : (s t u w : Bool) → top 15 (bit_or (bit_or (bit_or (cond s 65535 0) (cond t 65535 0)) (cond u 65535 0)) (cond w 65535 0)) ≡ (((s || t) || u) || w)
top-beyond s t u w =
    ap (λ n. top 15 (bit_or (bit_or n (cond u 65535 0)) (cond w 65535 0))) (or-lane s t) ∙ ap (λ n. top 15 (bit_or n (cond w 65535 0))) (or-lane (s || t) u) ∙ top-two ((s || t) || u) w

module _ (set v : List ℕ) (long : length v ≡ 32) where
  lanes : (a : ℕ) → zip2 compared v (replicate 32 a) ≡ map (λ x. compared x a) v
  lanes a = zip2_splat compared v 32 a long

  same-as : (k a x : ℕ) → a ≡ slice_index set k → eqb x a ≡ is_byte (slice_index set k) x
  same-as k a x e = ap (eqb x) e

  pub marks-one : (a : ℕ) → length set ≡ 1 → a ≡ slice_index set 0 → mask_l (map (top 15) (zip2 compared v (replicate 32 a))) % 2 ^ 64 ≡ mask_l (map (holds set) v)
  marks-one a size e = masked _ (holds set) v _ long (lanes a) (λ x. top-one (eqb x a) ∙ same-as 0 a x e ∙ one-held set size x)

  pub marks-two : (a b : ℕ) → length set ≡ 2 → a ≡ slice_index set 0 → b ≡ slice_index set 1
      → mask_l (map (top 15) (zip2 bit_or (zip2 compared v (replicate 32 a)) (zip2 compared v (replicate 32 b)))) % 2 ^ 64 ≡ mask_l (map (holds set) v)
  marks-two a b size e f =
      masked _ (holds set) v _ long (both-lanes _ _ v (lanes a) (lanes b))
      (λ x. top-two (eqb x a) (eqb x b) ∙ ap₂ ◌||◌ (same-as 0 a x e) (same-as 1 b x f) ∙ two-held set size x)

  pub marks-three : (a b c : ℕ) → length set ≡ 3 → a ≡ slice_index set 0 → b ≡ slice_index set 1 → c ≡ slice_index set 2
      → mask_l (map (top 15) (zip2 bit_or (zip2 bit_or (zip2 compared v (replicate 32 a)) (zip2 compared v (replicate 32 b))) (zip2 compared v (replicate 32 c)))) % 2 ^ 64 ≡ mask_l (map (holds set) v)
  marks-three a b c size e f g =
      masked _ (holds set) v _ long (both-lanes _ _ v (both-lanes _ _ v (lanes a) (lanes b)) (lanes c))
      (λ x. top-three (eqb x a) (eqb x b) (eqb x c) ∙ ap₂ ◌||◌ (ap₂ ◌||◌ (same-as 0 a x e) (same-as 1 b x f)) (same-as 2 c x g) ∙ three-held set size x)

  -- these, or those from a number on
  pub marks-beyond : (a b c least : ℕ) → length set ≡ 3 → a ≡ slice_index set 0 → b ≡ slice_index set 1 → c ≡ slice_index set 2
      → mask_l (map (top 15) (zip2 bit_or (zip2 bit_or (zip2 bit_or (zip2 compared v (replicate 32 a)) (zip2 compared v (replicate 32 b))) (zip2 compared v (replicate 32 c)))
      (zip2 (λ x y. cond (leb x y) 65535 0) (replicate 32 least) v))) % 2 ^ 64 ≡ mask_l (map (λ x. holds set x || leb least x) v)
  marks-beyond a b c least size e f g =
      masked _ (λ x. holds set x || leb least x) v _ long
      (both-lanes _ _ v (both-lanes _ _ v (both-lanes _ _ v (lanes a) (lanes b)) (lanes c)) (zip2_splat_left (λ x y. cond (leb x y) 65535 0) least 32 v long))
      (λ x. top-beyond (eqb x a) (eqb x b) (eqb x c) (leb least x)
      ∙ ap (λ s. s || leb least x) (ap₂ ◌||◌ (ap₂ ◌||◌ (same-as 0 a x e) (same-as 1 b x f)) (same-as 2 c x g) ∙ three-held set size x))

-- ---- many units at once

-- no unit up to an index passes
abbrev pub NoneTo : (ℕ → Bool) → List ℕ → ℕ → ℕ → Type 0
NoneTo test units from to = (k : ℕ) → from ≤ k → k < to → ¬ (is_some_and (slice_get units k) test ≡ true)

-- so many units at once
module _ (test : ℕ → Bool) (units : List ℕ) (at width m : ℕ) (room : at + width ≤ length units) (fits : width ≤ 64) (mask : m ≡ mask_l (map test (chunk at width units))) where
  abbrev tests : List Bool
  tests = map test (chunk at width units)

  sized : length tests ≡ width
  sized = length-map (chunk at width units) test ∙ length-chunk at width units room

  bit-is : (i : ℕ) → bit_at m i ≡ cond (get_or tests i false) 1 0
  bit-is i = ap (λ n. bit_at n i) mask ∙ bit_mask_l tests i

  lane-is : (i : ℕ) → i < width → get_or tests i false ≡ test (slice_index units (at + i))
  lane-is i less =
      get_or-map test (chunk at width units) i 0 false (let e = length-chunk at width units room in omega (arith, e, less)) ∙ ap test (get_or-chunk at width units i 0 less)

  on : (b : Bool) → ◌≡◌ {A = ℕ} (cond b 1 0) 1 → b ≡ true
  on true e = refl
  on false e = absurd (omega arith)

  -- the mask is a number of 64 bits
  pub mask-small : m < 2 ^ 64
  mask-small =
      let few : mask_l tests < 2 ^ width = subst (λ n. mask_l tests < 2 ^ n) sized (mask_l-lt tests) in
      let all : 2 ^ width ≤ 2 ^ 64 = pow-le-pow_right (omega arith) fits in
      subst (λ n. n < 2 ^ 64) (sym mask) (omega (arith, few, all))

  -- the marks tell which units pass
  pub lane-marks : (k : ℕ) → (bit_at m k ≡ 1) ↔ ((k < width) × (test (slice_index units (at + k)) ≡ true))
  lane-marks k = (there, back)
    where
      within : (k < width) ⊎ (width ≤ k) → get_or tests k false ≡ true → k < width
      within (inl less) e = less
      within (inr more) e = absurd (true≢false (sym e ∙ get_or_past tests k false (omega (arith, sized, more))))

      there : bit_at m k ≡ 1 → (k < width) × (test (slice_index units (at + k)) ≡ true)
      there h =
          let set = on (get_or tests k false) (sym (bit-is k) ∙ h) in
          let less = within (cases_lt k width) set in
          (less, sym (lane-is k less) ∙ set)

      back : (k < width) × (test (slice_index units (at + k)) ≡ true) → bit_at m k ≡ 1
      back h = bit-is k ∙ ap (λ b. cond b 1 0) (lane-is k h.0 ∙ h.1)

  pub unit-marks : (k : ℕ) → (bit_at m k ≡ 1) ↔ ((k < width) × (is_some_and (slice_get units (at + k)) test ≡ true))
  unit-marks k =
      let passes = λ (l : k < width). passes-there test units (at + k) (omega (arith, room, l)) in
      (λ h. let here = (lane-marks k).0 h in (here.0, passes here.0 ∙ here.1), λ h. (lane-marks k).1 (h.0, sym (passes h.0) ∙ h.1))
