-- The lines of a text in two parts, and how many lines a text has.
use Rattle.std.proofs.Common.{◌≡◌, ℕ, zero, suc, ◌+◌, ◌-◌, ◌<◌, ◌≤◌, Bool, true, false, cond, ◌&&◌, ◌||◌, List, [], ◌∷◌, ◌++◌, length, take, drop, get_or, count_by, sum_by, Some, refl, sym, ap, ap₂, subst, ◌∙◌, arith, eqb, ne_eqb, eqb-true, add-one, append-nil, length-take, get_or-take}
use Rattle.std.specs.Prelude.{◌==◌, nat_lt, if◌then◌else◌}
use Rattle.std.specs.Str.{IsUtf8, IsCharBoundary}
use Rattle.std.proofs.lemmas.Bool.{lt-ltb}
use Rattle.std.proofs.lemmas.List.Sums.{sum_by-cons}
use Rattle.std.proofs.lemmas.Str.{IsCharBoundary-after_ascii}
use Rattle.memchr.specs.Find.{IsLastByte, is_byte, places}
use Rattle.memchr.proofs.lemmas.CallerLemmas.{length-places}
use Rattle.esgrep_rows.specs.Lines.{lines, in_front, is_last}
use Rattle.esgrep_rows.proofs.LineLemmas.{lines-end, lines-more, lines-none}

in_front-some : (b : ℕ) (xs : List (List ℕ)) → in_front b xs ≡ [] → ⊥
in_front-some b [] none = absurd (cc none)
in_front-some b (x ∷ xs) none = absurd (cc none)

-- a text that is not empty has a line
pub lines-some : (end b : ℕ) (text : List ℕ) → lines end (b ∷ text) ≡ [] → ⊥
lines-some end b text none = by_test (eqb b end) refl
  where
    by_test : (t : Bool) → eqb b end ≡ t → ⊥
    by_test true e = let bad : (b ∷ []) ∷ lines end text ≡ [] = sym (lines-end end b text e) ∙ none in absurd (cc bad)
    by_test false e = in_front-some b (lines end text) (sym (lines-more end b text e) ∙ none)

in_front-parts : (b : ℕ) (xs ys : List (List ℕ)) → (xs ≡ [] → ⊥) → in_front b (xs ++ ys) ≡ in_front b xs ++ ys
in_front-parts b [] ys some = absurd (some refl)
in_front-parts b (x ∷ xs) ys some = refl

-- a text that is cut behind the byte which ends lines has the lines of both parts
pub lines-cut : (end : ℕ) (text : List ℕ) (k : ℕ) → k < length text → eqb (get_or text k 0) end ≡ true
    → lines end text ≡ lines end (take (suc k) text) ++ lines end (drop (suc k) text)
lines-cut end [] k below is = absurd (omega (arith, below))
lines-cut end (b ∷ text) zero below is =
    lines-end end b text is ∙ ap (λ front. front ++ lines end text) (sym (lines-end end b [] is ∙ ap (λ ls. (b ∷ []) ∷ ls) (lines-none end)))
lines-cut end (b ∷ []) (suc k) below is = absurd (omega (arith, below))
lines-cut end (b ∷ c ∷ text) (suc k) below is =
    let shorter : k < length (c ∷ text) = omega (arith, below) in by_test (lines-cut end (c ∷ text) k shorter is) (eqb b end) refl
  where
    by_test : lines end (c ∷ text) ≡ lines end (take (suc k) (c ∷ text)) ++ lines end (drop (suc k) (c ∷ text)) → (t : Bool) → eqb b end ≡ t
        → lines end (b ∷ c ∷ text) ≡ lines end (b ∷ take (suc k) (c ∷ text)) ++ lines end (drop (suc k) (c ∷ text))
    by_test rest true e =
        lines-end end b (c ∷ text) e ∙ ap (λ ls. (b ∷ []) ∷ ls) rest
        ∙ ap (λ ls. ls ++ lines end (drop (suc k) (c ∷ text))) (sym (lines-end end b (take (suc k) (c ∷ text)) e))
    by_test rest false e =
        lines-more end b (c ∷ text) e ∙ ap (in_front b) rest
        ∙ in_front-parts b (lines end (take (suc k) (c ∷ text))) (lines end (drop (suc k) (c ∷ text))) (lines-some end c (take k text))
        ∙ ap (λ ls. ls ++ lines end (drop (suc k) (c ∷ text))) (sym (lines-more end b (take (suc k) (c ∷ text)) e))

-- a text that is not cut
pub lines-whole : (end : ℕ) (text : List ℕ) → lines end text ≡ lines end (take 0 text) ++ lines end (drop 0 text)
lines-whole end text = ap (λ front. front ++ lines end text) (sym (lines-none end))

-- where a line begins: behind the last byte before that ends lines
pub start-found : (end byte : ℕ) (text bytes front : List ℕ) (at k : ℕ) → byte ≡ end → byte < 128 → bytes ≡ text → front ≡ take at bytes → at ≤ length text → IsUtf8 text
    → IsLastByte (is_byte byte) front (Some k)
    → (k + 1 ≤ at) × IsCharBoundary text (k + 1) × (lines end text ≡ lines end (take (k + 1) text) ++ lines end (drop (k + 1) text))
start-found end byte text bytes front at k same ascii over is_front fits utf8 found =
    let h = rw (is_front, over, same) at found in
    let below : k < at = omega (arith, length-take at text, h.0.high) in
    let within : k < length text = omega (arith, below, fits) in
    let here : get_or text k 0 ≡ get_or (take at text) k 0 = sym (get_or-take at text k 0 below) in
    let is : eqb (get_or text k 0) end ≡ true = ap (λ b. eqb b end) here ∙ h.1 in
    let low : get_or text k 0 < 128 = omega (arith, eqb-true (get_or text k 0) end is, same, ascii) in
    (omega (arith, below), IsCharBoundary-after_ascii text k utf8 within low, rw add-one (lines-cut end text k within is))

-- all bytes of a text are in its lines
pub lines-size : (end : ℕ) (text : List ℕ) → sum_by length (lines end text) ≡ length text
lines-size end [] = ap (sum_by length) (lines-none end)
lines-size end (b ∷ text) = by_test (lines-size end text) (eqb b end) refl
  where
    in_front-size : (xs : List (List ℕ)) → sum_by length (in_front b xs) ≡ suc (sum_by length xs)
    in_front-size [] = refl
    in_front-size (x ∷ xs) = sum_by-cons length (b ∷ x) xs ∙ omega (arith, sum_by-cons length x xs)

    by_test : sum_by length (lines end text) ≡ length text → (t : Bool) → eqb b end ≡ t → sum_by length (lines end (b ∷ text)) ≡ suc (length text)
    by_test rest true e = ap (sum_by length) (lines-end end b text e) ∙ sum_by-cons length (b ∷ []) (lines end text) ∙ omega (arith, rest)
    by_test rest false e = ap (sum_by length) (lines-more end b text e) ∙ in_front-size (lines end text) ∙ ap suc rest

in_front-count : (b : ℕ) (xs : List (List ℕ)) → (xs ≡ [] → ⊥) → length (in_front b xs) ≡ length xs
in_front-count b [] some = absurd (some refl)
in_front-count b (x ∷ xs) some = refl

-- the last byte of two or more is that of all but the first
is_last-more : (end b c : ℕ) (text : List ℕ) → is_last end (b ∷ c ∷ text) ≡ is_last end (c ∷ text)
is_last-more end b c text =
    let some : nat_lt 0 (length (b ∷ c ∷ text)) ≡ nat_lt 0 (length (c ∷ text)) =
    lt-ltb 0 (length (b ∷ c ∷ text)) (omega arith) ∙ sym (lt-ltb 0 (length (c ∷ text)) (omega arith)) in
    let at : length (b ∷ c ∷ text) - 1 ≡ suc (length (c ∷ text) - 1) = omega arith in
    ap₂ (λ x y. x && y) some (ap (λ k. get_or (b ∷ c ∷ text) k 0 == end) at)

-- as many lines as bytes that end them, and one more where the last is without one
pub lines-count : (end b : ℕ) (text : List ℕ) (last : Bool) → is_last end (b ∷ text) ≡ last
    → length (lines end (b ∷ text)) ≡ count_by (is_byte end) (b ∷ text) + (if last then 0 else 1)
lines-count end b [] last is = by_test (eqb b end) refl last is
  where
    by_test : (t : Bool) → eqb b end ≡ t → (last : Bool) → is_last end (b ∷ []) ≡ last
        → length (lines end (b ∷ [])) ≡ count_by (is_byte end) (b ∷ []) + (if last then 0 else 1)
    by_test true e true is = rw (lines-end end b [] e, lines-none end, e) refl
    by_test true e false is = let bad : true ≡ false = sym e ∙ is in absurd (cc bad)
    by_test false e true is = let bad : false ≡ true = sym e ∙ is in absurd (cc bad)
    by_test false e false is = rw (lines-more end b [] e, lines-none end, e) refl
lines-count end b (c ∷ text) last is = by_test (lines-count end c text last (sym (is_last-more end b c text) ∙ is)) (eqb b end) refl
  where
    by_test : length (lines end (c ∷ text)) ≡ count_by (is_byte end) (c ∷ text) + (if last then 0 else 1) → (t : Bool) → eqb b end ≡ t
        → length (lines end (b ∷ c ∷ text)) ≡ count_by (is_byte end) (b ∷ c ∷ text) + (if last then 0 else 1)
    by_test rest true e =
        let more : count_by (is_byte end) (b ∷ c ∷ text) ≡ suc (count_by (is_byte end) (c ∷ text)) =
        sum_by-cons (λ x. cond (is_byte end x) 1 0) b (c ∷ text) ∙ ap (λ t. cond t 1 0 + count_by (is_byte end) (c ∷ text)) e ∙ omega arith in
        ap length (lines-end end b (c ∷ text) e) ∙ ap suc rest ∙ omega (arith, more)
    by_test rest false e =
        let same : count_by (is_byte end) (b ∷ c ∷ text) ≡ count_by (is_byte end) (c ∷ text) =
        sum_by-cons (λ x. cond (is_byte end x) 1 0) b (c ∷ text) ∙ ap (λ t. cond t 1 0 + count_by (is_byte end) (c ∷ text)) e ∙ omega arith in
        ap length (lines-more end b (c ∷ text) e) ∙ in_front-count b (lines end (c ∷ text)) (lines-some end c text) ∙ rest ∙ omega (arith, same)

-- no more lines than bytes
pub lines-few : (end : ℕ) (text : List ℕ) → length (lines end text) ≤ length text
lines-few end [] = subst (λ n. n ≤ 0) (sym (ap length (lines-none end))) (omega arith)
lines-few end (b ∷ text) = by_test (lines-few end text) (eqb b end) refl
  where
    in_front-few : (xs : List (List ℕ)) → length xs ≤ length text → length (in_front b xs) ≤ suc (length text)
    in_front-few [] few = omega arith
    in_front-few (x ∷ xs) few = omega (arith, few)

    by_test : length (lines end text) ≤ length text → (t : Bool) → eqb b end ≡ t → length (lines end (b ∷ text)) ≤ suc (length text)
    by_test rest true e = subst (λ n. n ≤ suc (length text)) (sym (ap length (lines-end end b text e))) (omega (arith, rest))
    by_test rest false e = subst (λ n. n ≤ suc (length text)) (sym (ap length (lines-more end b text e))) (in_front-few (lines end text) rest)

-- how many bytes end lines, as they are counted
pub ends-counted : (end byte : ℕ) (text bytes found : List ℕ) (count : ℕ) → byte ≡ end → bytes ≡ text → found ≡ places (is_byte byte) bytes → count ≡ length found
    → count ≡ count_by (is_byte end) text
ends-counted end byte text bytes found count same over is counted =
    counted ∙ ap length is ∙ length-places (is_byte byte) bytes ∙ ap₂ (λ b t. count_by (is_byte b) t) same over

-- and how many lines there are
lines-told : (end : ℕ) (text : List ℕ) (count : ℕ) (empty ended : Bool) → count ≡ count_by (is_byte end) text → empty ≡ (length text == 0) → ended ≡ is_last end text
    → length (lines end text) ≡ count + (if (empty || ended) then 0 else 1)
lines-told end [] count empty ended counted is last =
    ap length (lines-none end) ∙ sym (ap₂ (λ n e. n + (if (e || ended) then 0 else 1)) counted is)
lines-told end (b ∷ text) count empty ended counted is last =
    let some : empty ≡ false = is ∙ ne_eqb (length (b ∷ text)) 0 (λ none. absurd (omega (arith, none))) in
    lines-count end b text ended (sym last) ∙ sym (ap₂ (λ n e. n + (if (e || ended) then 0 else 1)) counted some)

pub lines-ended : (end : ℕ) (text : List ℕ) (count : ℕ) (empty ended : Bool) → count ≡ count_by (is_byte end) text → empty ≡ (length text == 0) → ended ≡ is_last end text
    → (empty || ended) ≡ true → count ≡ length (lines end text)
lines-ended end text count empty ended counted is last all =
    let told = lines-told end text count empty ended counted is last ∙ ap (λ b. count + (if b then 0 else 1)) all in omega (arith, told)

pub lines-open : (end : ℕ) (text : List ℕ) (count : ℕ) (empty ended : Bool) → count ≡ count_by (is_byte end) text → empty ≡ (length text == 0) → ended ≡ is_last end text
    → (empty || ended) ≡ false → count + 1 ≡ length (lines end text)
lines-open end text count empty ended counted is last all =
    let told = lines-told end text count empty ended counted is last ∙ ap (λ b. count + (if b then 0 else 1)) all in sym told

pub lines-all : (end : ℕ) (text : List ℕ) → lines end text ≡ lines end text ++ lines end []
lines-all end text = sym (ap (λ ls. lines end text ++ ls) (lines-none end) ∙ append-nil (lines end text))
