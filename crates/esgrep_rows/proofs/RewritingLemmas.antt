-- A line is written with what is shown in the place of its matches, one match after another.
use Rattle.std.proofs.Common.{◌≡◌, ℕ, zero, ◌+◌, ◌<◌, ◌≤◌, suc, List, [], ◌∷◌, ◌++◌, length, drop, map, get_or, Option, slice_range, refl, sym, ap, append_assoc, add-one, drop-cons, arith}
use Rattle.std.proofs.lemmas.List.{drop_all}
use Rattle.regress_match.specs.declared.found.Match.{Match}
use Rattle.regress_replacing.specs.Replacing.{replaced_from}
use Rattle.regress_match.specs.TextRanges.{LiesInText}
use Rattle.esgrep_rows.specs.Found.{found_of, LieInOrder}

-- what is written, and what the matches that are left make of the rest of the text
abbrev pub finished : Option (List ℕ) → List ℕ → List ℕ → ℕ → List Match → List ℕ
finished template text written at ms =
    written ++ replaced_from text at (map (λ f. f.item) (map (found_of template text) ms)) (map (λ f. f.shown) (map (found_of template text) ms))

pub finished-more : (template : Option (List ℕ)) (text written : List ℕ) (at : ℕ) (m : Match) (ms : List Match)
    → finished template text ((written ++ slice_range text at m.range.start) ++ (found_of template text m).shown) m.range.end ms ≡ finished template text written at (m ∷ ms)
unfolding replaced_from
finished-more template text written at m ms = simp append_assoc

pub finished-end : (template : Option (List ℕ)) (text written : List ℕ) (at : ℕ) → written ++ drop at text ≡ finished template text written at []
unfolding replaced_from
finished-end template text written at = refl

-- the next of the matches, and those behind it
pub left-next : (ms : List Match) (i : ℕ) (m : Match) → i < length ms → m ≡ get_or ms i m → drop i ms ≡ m ∷ drop (i + 1) ms
left-next ms i m below is = rw (add-one, drop-cons ms i m) (ap (λ x. x ∷ drop (suc i) ms) (sym is))

-- none is left
pub left-none : (ms : List Match) (i : ℕ) → length ms ≤ i → drop i ms ≡ []
left-none ms i past = drop_all i ms past

-- matches that lie in order lie in the text
pub lie-inside : (text : List ℕ) (at : ℕ) (ms : List Match) → LieInOrder text at ms → (k : ℕ) (d : Match) → k < length ms → LiesInText text (get_or ms k d)
lie-inside text at [] order k d below = absurd (omega (arith, below))
lie-inside text at (m ∷ ms) order zero d below = order.1
lie-inside text at (m ∷ ms) order (suc k) d below = let less : k < length ms = omega (arith, below) in lie-inside text m.range.end ms order.2 k d less
