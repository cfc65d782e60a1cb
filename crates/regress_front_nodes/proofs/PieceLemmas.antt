-- Pieces: what a code point stands for, as a list, and literals that are joined.
use Rattle.std.proofs.Common.{◌≡◌, ℕ, zero, suc, ◌+◌, ◌<◌, ◌≤◌, Bool, true, false, ◌&&◌, ◌==◌, List, [], ◌∷◌, ◌++◌, length, if◌then◌else◌, nat_le, nat_lt, filter, All, refl, sym, ap, ◌∙◌, inl, inr, encode_utf8, drop, get_or, IsUtf8, arith}
use Rattle.std.specs.List.{AllPairs, list_all}
use Rattle.std.specs.Char.{IsScalar}
use Rattle.std.proofs.lemmas.Bool.{and_parts, and_right, or_cases, or_left, or_right, cases_eq, eqb-true, eq-eqb, ne_eqb, ltb-true}
use Rattle.std.proofs.lemmas.Bool.Decides.{nat_tests}
use Rattle.std.proofs.lemmas.List.{drop_more, drop_all}
use Rattle.std.proofs.lemmas.List.Elements.{All-nil, All-cons, All-head, All-tail, All-filter, All-weaker}
use Rattle.std.proofs.lemmas.Str.{IsUtf8-append, IsUtf8-encode, length-encode, len_utf8_bounds}
use Rattle.std.proofs.lemmas.List.Kept.{AllPairs-from_increasing}
use Rattle.regress_meaning.specs.Text.{holds, count_up}
use Rattle.regress_meaning.specs.Table.{Table, canon, code_points, last_code_point}
use Rattle.regress_meaning.specs.TableParts.{is_surrogate}
use Rattle.regress_front_tables.specs.Folding.{Lists}
use Rattle.regress_front_nodes.specs.Trees.{Tree, char, bytes, byte_set, char_set}
use Rattle.regress_front_nodes.specs.WellFormed.{AreLawful}
use Rattle.regress_front_nodes.specs.Pieces.{passing_below, expansion, bytes_before, before, pieces_of}
use Rattle.regress_meaning.proofs.TableLemmas.{same_bool}

-- each number is below all behind it
abbrev Rises : List ℕ → Type 0
Rises [] = Unit {0}
Rises (c ∷ cs) = All (λ d. c < d) cs × Rises cs

Rises-from_pairs : (cs : List ℕ) → AllPairs (λ x y. x < y) cs → Rises cs
Rises-from_pairs [] h = tt
Rises-from_pairs (c ∷ cs) h =
    (λ k d l. h zero (suc k) d (omega arith) (omega arith), Rises-from_pairs cs (λ i j d a b. h (suc i) (suc j) d (omega arith) (omega arith)))

-- what a list whose members lie above d holds lies above it
held-above : (cs : List ℕ) (c d : ℕ) → All (λ e. d < e) cs → holds cs c ≡ true → d < c
held-above [] c d h k = absurd (cc)
held-above (e ∷ cs) c d h k =
    elim (or_cases (e == c) (holds cs c) k) [
      | inl p ↦ let same = eqb-true e c p in let less = All-head (λ x. d < x) e cs h in omega arith
      | inr p ↦ held-above cs c d (All-tail (λ x. d < x) e cs h) p
    ]

own-held : (c : ℕ) (cs : List ℕ) → holds (c ∷ cs) c ≡ true
own-held c cs = or_left (c == c) (holds cs c) (eq-eqb c c refl)

-- lists that rise and hold the same are one
rising-same : (cs ds : List ℕ) → Rises cs → Rises ds → ((c : ℕ) → holds cs c ≡ holds ds c) → cs ≡ ds
rising-same [] [] h k e = refl
rising-same [] (d ∷ ds) h k e = let own = own-held d ds in let none = e d in absurd (cc)
rising-same (c ∷ cs) [] h k e = let own = own-held c cs in let none = e c in absurd (cc)
rising-same (c ∷ cs) (d ∷ ds) h k e =
    let heads : c ≡ d = first in
    let tails : cs ≡ ds = rising-same cs ds h.1 k.1 rest in
    (λ i. heads i ∷ tails i)
  where
    low : (x y : ℕ) (ys : List ℕ) → All (λ z. y < z) ys → holds (y ∷ ys) x ≡ true → y ≤ x
    low x y ys h k =
        elim (or_cases (y == x) (holds ys x) k) [
          | inl p ↦ let same = eqb-true y x p in omega arith
          | inr p ↦ let above = held-above ys x y h p in omega arith
        ]

    first : c ≡ d
    first =
        let a : d ≤ c = low c d ds k.0 (sym (e c) ∙ own-held c cs) in
        let b : c ≤ d = low d c cs h.0 (e d ∙ own-held d ds) in
        omega arith

    rest : (x : ℕ) → holds cs x ≡ holds ds x
    rest x = same_bool (holds cs x) (holds ds x) there back
      where
        there : holds cs x ≡ true → holds ds x ≡ true
        there p =
            let above = held-above cs x c h.0 p in
            let same = first in
            elim (or_cases (d == x) (holds ds x) (sym (e x) ∙ or_right (c == x) (holds cs x) p)) [
              | inl q ↦ let equal = eqb-true d x q in absurd (omega arith)
              | inr q ↦ q
            ]

        back : holds ds x ≡ true → holds cs x ≡ true
        back p =
            let above = held-above ds x d k.0 p in
            let same = first in
            elim (or_cases (c == x) (holds cs x) (e x ∙ or_right (d == x) (holds ds x) p)) [
              | inl q ↦ let equal = eqb-true c x q in absurd (omega arith)
              | inr q ↦ q
            ]

-- ---- the numbers that pass

counted-above : (a b n : ℕ) → a < b → All (λ d. a < d) (count_up b n)
counted-above a b zero h = All-nil (λ d. a < d)
counted-above a b (suc n) h = All-cons (λ d. a < d) b (count_up (suc b) n) h (counted-above a (suc b) n (omega arith))

counted-below : (a n m : ℕ) → a + n ≤ m → All (λ d. d < m) (count_up a n)
counted-below a zero m h = All-nil (λ d. d < m)
counted-below a (suc n) m h = All-cons (λ d. d < m) a (count_up (suc a) n) (omega arith) (counted-below (suc a) n m (omega arith))

passing-rises : (test : ℕ → Bool) (a n : ℕ) → Rises (filter test (count_up a n))
passing-rises test a zero = tt
passing-rises test a (suc n) = by_test (test a) (passing-rises test (suc a) n)
  where
    by_test : (b : Bool) → Rises (filter test (count_up (suc a) n)) → Rises (if b then a ∷ filter test (count_up (suc a) n) else filter test (count_up (suc a) n))
    by_test true rest = (All-filter test (λ d. a < d) (count_up (suc a) n) (counted-above a (suc a) n (omega arith)), rest)
    by_test false rest = rest

passing-holds : (test : ℕ → Bool) (a n c : ℕ) → holds (filter test (count_up a n)) c ≡ ((nat_le a c && nat_lt c (a + n)) && test c)
passing-holds test a zero c = let none : (nat_le a c && nat_lt c (a + 0)) ≡ false = grind (arith, nat_tests) in rw none refl
passing-holds test a (suc n) c = by_test (test a) refl (passing-holds test (suc a) n c)
  where
    Wanted : Bool → Type 0
    Wanted b = holds (if b then a ∷ filter test (count_up (suc a) n) else filter test (count_up (suc a) n)) c ≡ ((nat_le a c && nat_lt c (a + suc n)) && test c)

    here : (b : Bool) → test a ≡ b → a ≡ c → holds (filter test (count_up (suc a) n)) c ≡ ((nat_le (suc a) c && nat_lt c (suc a + n)) && test c) → Wanted b
    here true e same rest =
        let own : (a == c) ≡ true = eq-eqb a c same in
        let inside : (nat_le a c && nat_lt c (a + suc n)) ≡ true = grind (arith, nat_tests) in
        let passes : test c ≡ true = ap test (sym same) ∙ e in
        rw (own, inside, passes) refl
    here false e same rest =
        let outside : (nat_le (suc a) c && nat_lt c (suc a + n)) ≡ false = grind (arith, nat_tests) in
        let fails : test c ≡ false = ap test (sym same) ∙ e in
        rw (rest, outside, fails) (sym (and_right (nat_le a c && nat_lt c (a + suc n)) false refl))

    there : (b : Bool) → (a ≡ c → ⊥) → holds (filter test (count_up (suc a) n)) c ≡ ((nat_le (suc a) c && nat_lt c (suc a + n)) && test c) → Wanted b
    there true other rest =
        let no : (a == c) ≡ false = ne_eqb a c other in
        let bounds : (nat_le (suc a) c && nat_lt c (suc a + n)) ≡ (nat_le a c && nat_lt c (a + suc n)) = grind (arith, nat_tests) in
        rw (no, rest, bounds) refl
    there false other rest =
        let bounds : (nat_le (suc a) c && nat_lt c (suc a + n)) ≡ (nat_le a c && nat_lt c (a + suc n)) = grind (arith, nat_tests) in
        rw (rest, bounds) refl

    by_test : (b : Bool) → test a ≡ b → holds (filter test (count_up (suc a) n)) c ≡ ((nat_le (suc a) c && nat_lt c (suc a + n)) && test c) → Wanted b
    by_test b e rest = elim (cases_eq a c) [ inl same ↦ here b e same rest | inr other ↦ there b other rest ]

-- a list of those below n that pass is the one that the word gives
listed-below : (n : ℕ) (test : ℕ → Bool) (cs : List ℕ) → Rises cs → ((c : ℕ) → holds cs c ≡ (nat_lt c n && test c)) → cs ≡ passing_below n test
unfolding passing_below
listed-below n test cs rises members =
    rising-same cs (filter test (count_up 0 n)) rises (passing-rises test 0 n) (λ c.
    let bounds : (nat_le 0 c && nat_lt c (0 + n)) ≡ nat_lt c n = grind (arith, nat_tests) in
    members c ∙ sym (passing-holds test 0 n c ∙ ap (λ b. b && test c) bounds)
    )

below-listed : (n : ℕ) (test : ℕ → Bool) → All (λ c. c < n) (passing_below n test)
unfolding passing_below
below-listed n test = All-filter test (λ c. c < n) (count_up 0 n) (counted-below 0 n n (omega arith))

pub held-below : (n : ℕ) (test : ℕ → Bool) (c : ℕ) → holds (passing_below n test) c ≡ (nat_lt c n && test c)
unfolding passing_below
held-below n test c =
    let bounds : (nat_le 0 c && nat_lt c (0 + n)) ≡ nat_lt c n = grind (arith, nat_tests) in
    passing-holds test 0 n c ∙ ap (λ b. b && test c) bounds

-- ---- what a code point stands for

module _ (table : Table) (unicode : Bool) (cp : ℕ) where
  -- a list of it is the one that the word gives
  pub expansion-listed : (icase : Bool) (cs : List ℕ) → (icase ≡ false → cs ≡ cp ∷ []) → (icase ≡ true → Lists (λ c. canon table unicode c == canon table unicode cp) cs)
      → cs ≡ expansion table icase unicode cp
  unfolding expansion
  expansion-listed false cs alone all = alone refl
  expansion-listed true cs alone all =
      let test : ℕ → Bool = λ c. canon table unicode c == canon table unicode cp in
      let h : Lists test cs = all refl in
      listed-below code_points test cs (Rises-from_pairs cs (AllPairs-from_increasing cs h.rises)) (λ c.
      let bounds : nat_le c last_code_point ≡ nat_lt c code_points = grind (arith, nat_tests) in
      h.members c ∙ ap (λ b. b && test c) bounds
      )

  pub expansion-points : (icase : Bool) → cp ≤ last_code_point → All (λ c. c ≤ last_code_point) (expansion table icase unicode cp)
  unfolding expansion
  expansion-points false valid = All-cons (λ c. c ≤ last_code_point) cp [] valid (All-nil (λ c. c ≤ last_code_point))
  expansion-points true valid =
      let test : ℕ → Bool = λ c. canon table unicode c == canon table unicode cp in
      All-weaker (λ c. c < code_points) (λ c. c ≤ last_code_point) (λ c h. omega arith) (passing_below code_points test) (below-listed code_points test)

-- ---- scalar values

pub scalar-from : (c : ℕ) → c ≤ last_code_point → is_surrogate c ≡ false → IsScalar c
scalar-from c h e = grind (arith, nat_tests)

-- ---- the pieces of a text

module _ (table : Table) (icase unicode : Bool) (cps : List ℕ) (i : ℕ) where
  pub pieces-step : i < length cps
      → pieces_of table icase unicode (drop i cps) ≡ before (expansion table icase unicode (get_or cps i 0)) (pieces_of table icase unicode (drop (i + 1) cps))
  unfolding pieces_of
  pieces-step h = rw (drop_more cps i 0 h) refl

  pub pieces-end : length cps ≤ i → pieces_of table icase unicode (drop i cps) ≡ []
  unfolding pieces_of
  pieces-end h = rw (drop_all i cps h) refl

-- ---- the trees of pieces are as they have to be

bytes-lawful : (xs : List ℕ) (ts : List Tree) → 0 < length xs → IsUtf8 xs → All (AreLawful 0) ts → All (AreLawful 0) (bytes_before xs ts)
bytes-lawful [] ts some utf8 h = absurd (omega arith)
bytes-lawful (b ∷ bs) [] some utf8 h = All-cons (AreLawful 0) (bytes (b ∷ bs)) [] (some, utf8) (All-nil (AreLawful 0))
bytes-lawful (b ∷ bs) (bytes ds ∷ ts) some utf8 h =
    let rest = All-head (AreLawful 0) (bytes ds) ts h in
    let longer : 0 < length (b ∷ bs ++ ds) = omega arith in
    All-cons (AreLawful 0) (bytes (b ∷ bs ++ ds)) ts (longer, IsUtf8-append (b ∷ bs) ds utf8 rest.1) (All-tail (AreLawful 0) (bytes ds) ts h)
bytes-lawful (b ∷ bs) (t ∷ ts) some utf8 h = All-cons (AreLawful 0) (bytes (b ∷ bs)) (t ∷ ts) (some, utf8) h

pub ascii-all : (cs : List ℕ) → list_all (λ c. nat_lt c 0x80) cs ≡ true → All (λ c. c < 0x80) cs
ascii-all [] e = All-nil (λ c. c < 0x80)
ascii-all (c ∷ cs) e =
    let parts = and_parts (nat_lt c 0x80) (list_all (λ d. nat_lt d 0x80) cs) e in
    All-cons (λ d. d < 0x80) c cs (ltb-true c 0x80 parts.0) (ascii-all cs parts.1)

set-lawful : (ms : List ℕ) (ts : List Tree) → All (λ c. c ≤ last_code_point) ms → length ms ≤ 4 → All (AreLawful 0) ts
    → All (AreLawful 0) ((if list_all (λ c. nat_lt c 0x80) ms then byte_set ms else char_set ms) ∷ ts)
set-lawful ms ts points few h = by_kind (list_all (λ c. nat_lt c 0x80) ms) refl
  where
    by_kind : (b : Bool) → list_all (λ c. nat_lt c 0x80) ms ≡ b → All (AreLawful 0) ((if b then byte_set ms else char_set ms) ∷ ts)
    by_kind true e = All-cons (AreLawful 0) (byte_set ms) ts (few, ascii-all ms e) h
    by_kind false e = All-cons (AreLawful 0) (char_set ms) ts (few, points) h

before-lawful : (ms : List ℕ) (ts : List Tree) → All (λ c. c ≤ last_code_point) ms → length ms ≤ 4 → All (AreLawful 0) ts → All (AreLawful 0) (before ms ts)
before-lawful [] ts points few h = set-lawful [] ts points few h
before-lawful (m ∷ []) ts points few h = by_kind (is_surrogate m) refl
  where
    own : m ≤ last_code_point
    own = All-head (λ c. c ≤ last_code_point) m [] points

    by_kind : (b : Bool) → is_surrogate m ≡ b → All (AreLawful 0) (if b then char m ∷ ts else bytes_before (encode_utf8 m) ts)
    by_kind true e = All-cons (AreLawful 0) (char m) ts own h
    by_kind false e =
        let is_scalar : IsScalar m = scalar-from m own e in
        let some = (len_utf8_bounds m).0 in
        bytes-lawful (encode_utf8 m) ts (omega (arith, length-encode m)) (IsUtf8-encode m is_scalar) h
before-lawful (m ∷ k ∷ ms) ts points few h = set-lawful (m ∷ k ∷ ms) ts points few h

pub pieces-lawful : (table : Table) (icase unicode : Bool) (cps : List ℕ) → All (λ c. c ≤ last_code_point) cps → All (λ c. length (expansion table icase unicode c) ≤ 4) cps
    → All (AreLawful 0) (pieces_of table icase unicode cps)
unfolding pieces_of
pieces-lawful table icase unicode [] points few = All-nil (AreLawful 0)
pieces-lawful table icase unicode (c ∷ cps) points few =
    let own = All-head (λ d. d ≤ last_code_point) c cps points in
    let size = All-head (λ d. length (expansion table icase unicode d) ≤ 4) c cps few in
    let rest = pieces-lawful table icase unicode cps (All-tail (λ d. d ≤ last_code_point) c cps points) (All-tail (λ d. length (expansion table icase unicode d) ≤ 4) c cps few) in
    before-lawful (expansion table icase unicode c) (pieces_of table icase unicode cps) (expansion-points table unicode c icase own) size rest
