-- A replacement text is read piece by piece.
use Rattle.std.proofs.Common.{◌≡◌, ◌≢◌, ℕ, ◌<◌, List, [], ◌∷◌, ◌++◌, length, drop, get_or, flat_map, refl, sym, ap, ◌∙◌, arith, append-nil, append_assoc, length-append, length-drop}
use Rattle.std.proofs.lemmas.Grind.{flat_map-append}
use Rattle.regress_replacing.specs.declared.replacement.Piece.{Piece}
use Rattle.regress_replacing.specs.Replacing.{at_dollar, given_behind}
use Rattle.regress_replacing.specs.Pieces.{piece_gives}
use Rattle.regress_replacing.proofs.DollarLemmas.{given-plain, given-dollar, given-end}

module _ (by_number : ℕ → List ℕ) (by_name : List ℕ → List ℕ) where
  -- one piece more
  pieces-one : (pieces : List Piece) (p : Piece)
      → flat_map (piece_gives by_number by_name) (pieces ++ p ∷ []) ≡ flat_map (piece_gives by_number by_name) pieces ++ piece_gives by_number by_name p
  pieces-one pieces p = rw (flat_map-append, append-nil) refl

  -- a text up to a `$`, and what the `$` stands for
  pub pieces-step : (pieces : List Piece) (plain what : Piece) (front behind left rest : List ℕ) → rest ≡ front ++ (0x24 ∷ behind)
      → ((i : ℕ) → i < length front → get_or front i 0 ≢ 0x24) → piece_gives by_number by_name plain ≡ front
      → piece_gives by_number by_name what ≡ (at_dollar by_number by_name behind).0 → left ≡ drop (at_dollar by_number by_name behind).1 behind
      → flat_map (piece_gives by_number by_name) ((pieces ++ plain ∷ []) ++ what ∷ []) ++ given_behind by_number by_name 0 left
      ≡ flat_map (piece_gives by_number by_name) pieces ++ given_behind by_number by_name 0 rest
  pieces-step pieces plain what front behind left rest cut none is gives after =
      rw (
        pieces-one (pieces ++ plain ∷ []) what,
        pieces-one pieces plain,
        is,
        gives,
        after,
        cut,
        given-plain by_number by_name front (0x24 ∷ behind) none,
        given-dollar by_number by_name behind,
      )
      (simp append_assoc)

  -- the rest of the text
  pub pieces-last : (pieces : List Piece) (plain : Piece) (rest : List ℕ) → ((i : ℕ) → i < length rest → get_or rest i 0 ≢ 0x24)
      → piece_gives by_number by_name plain ≡ rest
      → flat_map (piece_gives by_number by_name) (pieces ++ plain ∷ []) ≡ flat_map (piece_gives by_number by_name) pieces ++ given_behind by_number by_name 0 rest
  pieces-last pieces plain rest none is =
      let alone : given_behind by_number by_name 0 rest ≡ rest =
      ap (given_behind by_number by_name 0) (sym (append-nil rest)) ∙ given-plain by_number by_name rest [] none
      ∙ ap (λ (r : List ℕ). rest ++ r) (given-end by_number by_name) ∙ append-nil rest in
      rw (pieces-one pieces plain, is, alone) refl

-- from the `$` on
pub from-dollar : (front behind rest : List ℕ) → rest ≡ front ++ (0x24 ∷ behind) → drop (length front) rest ≡ 0x24 ∷ behind
from-dollar front behind rest cut = ap (drop (length front)) cut ∙ past front
  where
    past : (xs : List ℕ) → drop (length xs) (xs ++ (0x24 ∷ behind)) ≡ 0x24 ∷ behind
    past [] = refl
    past (x ∷ xs) = past xs

-- what is left is shorter
pub left-shorter : (front behind left rest : List ℕ) (n : ℕ) → rest ≡ front ++ (0x24 ∷ behind) → left ≡ drop n behind → length left < length rest
left-shorter front behind left rest n cut after =
    omega (arith, ap length cut, length-append front (0x24 ∷ behind), ap length after, length-drop n behind)
