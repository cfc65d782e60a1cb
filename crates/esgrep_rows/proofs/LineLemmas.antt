-- The first of the lines of a text.
use Rattle.std.proofs.Common.{◌≡◌, ℕ, ◌+◌, ◌<◌, suc, zero, Bool, true, false, List, [], ◌∷◌, length, take, drop, get_or, Some, None, refl, sym, ap, ◌∙◌, arith, eqb, add-one}
use Rattle.std.proofs.lemmas.Bool.{eqb-true}
use Rattle.std.proofs.lemmas.Str.{IsCharBoundary-after_ascii}
use Rattle.std.specs.Str.{IsUtf8, IsCharBoundary}
use Rattle.memchr.specs.Find.{IsFirstByte, is_byte}
use Rattle.esgrep_rows.specs.Lines.{lines, in_front}

-- the byte that ends lines is none of the first n bytes
abbrev pub NoneAmong : ℕ → List ℕ → ℕ → Type 0
NoneAmong end text n = (k : ℕ) → k < n → eqb (get_or text k 0) end ≡ false

-- the same of what is behind the first byte
none_behind : (end b : ℕ) (text : List ℕ) (n : ℕ) → NoneAmong end (b ∷ text) (suc n) → NoneAmong end text n
none_behind end b text n none = λ k below. let h : suc k < suc n = omega (arith, below) in none (suc k) h

-- the first byte ends the first line
pub lines-end : (end b : ℕ) (text : List ℕ) → eqb b end ≡ true → lines end (b ∷ text) ≡ (b ∷ []) ∷ lines end text
unfolding lines
lines-end end b text is = rw is refl

-- the first byte doesn't
pub lines-more : (end b : ℕ) (text : List ℕ) → eqb b end ≡ false → lines end (b ∷ text) ≡ in_front b (lines end text)
unfolding lines
lines-more end b text is = rw is refl

pub lines-none : (end : ℕ) → lines end [] ≡ []
unfolding lines
lines-none end = refl

-- the first line ends at the first byte that ends lines
first_line-ended : (end : ℕ) (text : List ℕ) (n : ℕ) → n < length text → eqb (get_or text n 0) end ≡ true → NoneAmong end text n
    → lines end text ≡ take (suc n) text ∷ lines end (drop (suc n) text)
first_line-ended end [] n below is none = absurd (omega (arith, below))
first_line-ended end (b ∷ text) zero below is none = lines-end end b text is
first_line-ended end (b ∷ text) (suc n) below is none =
    let shorter : n < length text = omega (arith, below) in
    let rest : lines end text ≡ take (suc n) text ∷ lines end (drop (suc n) text) = first_line-ended end text n shorter is (none_behind end b text n none) in
    let here : eqb b end ≡ false = none zero (omega arith) in
    lines-more end b text here ∙ ap (in_front b) rest

-- a text without such a byte is one line
first_line-last : (end : ℕ) (b : ℕ) (text : List ℕ) → NoneAmong end (b ∷ text) (suc (length text)) → lines end (b ∷ text) ≡ (b ∷ text) ∷ []
first_line-last end b [] none = let here : eqb b end ≡ false = none zero (omega arith) in lines-more end b [] here ∙ ap (in_front b) (lines-none end)
first_line-last end b (c ∷ text) none =
    let here : eqb b end ≡ false = none zero (omega arith) in
    lines-more end b (c ∷ text) here ∙ ap (in_front b) (first_line-last end c text (none_behind end b (c ∷ text) (suc (length text)) none))

pub not_true : (b : Bool) → (b ≡ true → ⊥) → b ≡ false
not_true true h = absurd (h refl)
not_true false h = refl

-- what a search for the byte says of the first line, where it finds it
pub found-first : (end byte : ℕ) (text bytes front back : List ℕ) (at : ℕ) → byte ≡ end → bytes ≡ text → IsFirstByte (is_byte byte) bytes (Some at)
    → front ≡ take (at + 1) text → back ≡ drop (at + 1) text → lines end text ≡ front ∷ lines end back
found-first end byte text bytes front back at same over found is_front is_back =
    let h = rw (same, over) at found in
    let ended : lines end text ≡ take (suc at) text ∷ lines end (drop (suc at) text) =
    first_line-ended end text at h.0.high h.1 (λ k below. not_true (eqb (get_or text k 0) end) (h.0.before k (omega arith) below)) in
    rw (is_front, is_back, add-one) ended

-- and where it doesn't
pub missed-first : (end byte : ℕ) (text bytes : List ℕ) → byte ≡ end → bytes ≡ text → (text ≡ [] → ⊥) → IsFirstByte (is_byte byte) bytes None
    → lines end text ≡ text ∷ lines end []
missed-first end byte [] bytes same over some missed = absurd (some refl)
missed-first end byte (b ∷ text) bytes same over some missed =
    let h = rw (same, over) at missed in
    let last : lines end (b ∷ text) ≡ (b ∷ text) ∷ [] =
    first_line-last end b text (λ k below. not_true (eqb (get_or (b ∷ text) k 0) end) (h k (omega arith) below)) in
    last ∙ ap (λ rest. (b ∷ text) ∷ rest) (sym (lines-none end))

-- a text may be cut behind the byte
pub found-boundary : (byte : ℕ) (text bytes : List ℕ) (at : ℕ) → byte < 128 → bytes ≡ text → IsUtf8 text → IsFirstByte (is_byte byte) bytes (Some at) → IsCharBoundary text (at + 1)
found-boundary byte text bytes at ascii over utf8 found =
    let h = rw over at found in
    let is : get_or text at 0 ≡ byte = eqb-true (get_or text at 0) byte h.1 in
    let low : get_or text at 0 < 128 = omega (arith, is, ascii) in
    IsCharBoundary-after_ascii text at utf8 h.0.high low
