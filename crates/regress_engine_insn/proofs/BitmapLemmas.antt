-- Bitmaps as lists of their members.
use Rattle.std.specs.List.{range_with_len}
use Rattle.std.proofs.Common.{◌≡◌, ℕ, zero, suc, ◌+◌, ◌<◌, ◌≤◌, ◌||◌, ◌&&◌, ◌==◌, ◌≢◌, nat_lt, Bool, true, false, List, [], ◌∷◌, cond, refl, sym, ap, ◌∙◌, arith}
use Rattle.std.specs.Prelude.{filter}
use Rattle.std.proofs.lemmas.Bool.{eqb-true, and_parts, lt-ltb, ltb-true}
use Rattle.std.proofs.lemmas.Bool.Decides.{nat_tests}
use Rattle.regress_meaning.specs.Text.{holds}
use Rattle.regress_front_bytes.specs.ByteSets.{all_bytes, members}

gone : (b : Bool) → (b && false) ≡ false
gone true = refl
gone false = refl

filter-step : (f : ℕ → Bool) (x c : ℕ) (xs : List ℕ) → holds (filter f xs) c ≡ holds xs c && f c → (t : Bool) → f x ≡ t → (e : Bool) → (x == c) ≡ e
    → holds (cond t (x ∷ filter f xs) (filter f xs)) c ≡ ((x == c) || holds xs c) && f c
filter-step f x c xs rest true p true q = let same : x ≡ c = eqb-true x c q in let here : f c ≡ true = ap f (sym same) ∙ p in rw (q, here) refl
filter-step f x c xs rest true p false q = rw q rest
filter-step f x c xs rest false p true q =
    let same : x ≡ c = eqb-true x c q in
    let here : f c ≡ false = ap f (sym same) ∙ p in
    rw (q, here) (rest ∙ ap (λ b. holds xs c && b) here ∙ gone (holds xs c))
filter-step f x c xs rest false p false q = rw q rest

-- what a filter keeps
holds-filter : (f : ℕ → Bool) (xs : List ℕ) (c : ℕ) → holds (filter f xs) c ≡ holds xs c && f c
holds-filter f [] c = refl
holds-filter f (x ∷ xs) c = filter-step f x c xs (holds-filter f xs c) (f x) refl (x == c) refl

range-step : (n a c : ℕ) → (a + 1 ≤ c → holds (range_with_len (a + 1) n) c ≡ true) → a ≤ c → (e : Bool) → (a == c) ≡ e
    → ((a == c) || holds (range_with_len (a + 1) n) c) ≡ true
range-step n a c rest from true q = rw q refl
range-step n a c rest from false q = rw q (rest (grind (arith, nat_tests)))

holds-range : (n a c : ℕ) → a ≤ c → c < a + n → holds (range_with_len a n) c ≡ true
holds-range zero a c from to = absurd (omega arith)
holds-range (suc n) a c from to = range-step n a c (λ more. holds-range n (a + 1) c more (omega arith)) from (a == c) refl

apart : (a c : ℕ) → a ≢ c → (a == c) ≡ false
apart a c h = grind (arith, nat_tests)

range-none : (n a c : ℕ) → a + n ≤ c → holds (range_with_len a n) c ≡ false
range-none zero a c beyond = refl
range-none (suc n) a c beyond = rw (apart a c (omega arith)) (range-none n (a + 1) c (omega arith))

-- of a byte: a member is one that is kept
pub member_byte : (f : ℕ → Bool) (c : ℕ) → c < 256 → holds (members f) c ≡ f c
unfolding all_bytes
member_byte f c small = holds-filter f all_bytes c ∙ ap (λ b. b && f c) (holds-range 256 0 c (omega arith) (omega (arith, small)))

-- beyond bytes there is none
pub member_beyond : (f : ℕ → Bool) (c : ℕ) → 256 ≤ c → holds (members f) c ≡ false
unfolding all_bytes
member_beyond f c large = holds-filter f all_bytes c ∙ ap (λ b. b && f c) (range-none 256 0 c (omega (arith, large)))

-- a set of bytes, as the list of its members
pub holds-members : (f : ℕ → Bool) → ((c : ℕ) → f c ≡ true → c < 256) → (c : ℕ) → holds (members f) c ≡ f c
unfolding all_bytes
holds-members f bytes c = by_test (f c) refl
  where
    by_test : (t : Bool) → f c ≡ t → holds (members f) c ≡ f c
    by_test true p = member_byte f c (bytes c p)
    by_test false p = holds-filter f all_bytes c ∙ ap (λ b. holds all_bytes c && b) p ∙ gone (holds all_bytes c) ∙ sym p

-- a test that passes below a number alone
pub passes-below : (n c : ℕ) (held : Bool) → (held ≡ true → c < n) → (nat_lt c n && held) ≡ held
passes-below n c true low = rw (lt-ltb c n (low refl)) refl
passes-below n c false low = gone (nat_lt c n)

-- what a set of ASCII holds, its bitmap has as members
pub ascii-members : (bitmap held : ℕ → Bool) → ((c : ℕ) → bitmap c ≡ nat_lt c 0x80 && held c) → ((c : ℕ) → held c ≡ true → c < 0x80) → (c : ℕ)
    → holds (members bitmap) c ≡ held c
ascii-members bitmap held told low c =
    holds-members bitmap (λ d h. omega (arith, ltb-true d 0x80 (and_parts (nat_lt d 0x80) (held d) (sym (told d) ∙ h)).0)) c
    ∙ told c ∙ passes-below 0x80 c (held c) (low c)
