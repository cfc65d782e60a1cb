-- Case of characters.
use Rattle.std.proofs.Common.{◌≡◌, ◌⊎◌, inl, inr, ℕ, ◌<◌, ◌≤◌, Bool, true, false, List, arith}
use Rattle.std.specs.List.{All}
use Rattle.std.specs.Char.{IsScalar, InScalarRange}
use Rattle.std.proofs.Math.Utf8.{scalar_cases}
use Rattle.std.proofs.lemmas.Bool.{cases_lt}
use Rattle.std.proofs.lemmas.Bool.Decides.{nat_tests}
use Rattle.std.proofs.lemmas.List.Elements.{All-contains}
use Rattle.regress_meaning.specs.Table.{canon}
use Rattle.regress_meaning.specs.TableParts.{TableParts, IsLawful, image, is_code_point, is_surrogate, AvoidsSurrogates, table_of}
use Rattle.regress_front_tables.proofs.ImageLemmas.{image-unlisted, image_cases}

-- the image of a code point is one
image-code_point : (pairs : List (ℕ × ℕ)) (c : ℕ) → All (λ p. is_code_point p.0 × is_code_point p.1) pairs → is_code_point c → is_code_point (image pairs c)
image-code_point pairs c within h =
    elim (image_cases pairs c) [
      | inl free ↦ rw (image-unlisted pairs c free) h
      | inr listed ↦ (All-contains (λ p. is_code_point p.0 × is_code_point p.1) pairs (c, image pairs c) within listed).1
    ]

no_surrogate : (c : ℕ) → InScalarRange c → is_surrogate c ≡ false
no_surrogate c (inl low) = grind (arith, nat_tests)
no_surrogate c (inr high) = grind (arith, nat_tests)

in_range : (c : ℕ) → is_code_point c → is_surrogate c ≡ false → InScalarRange c
in_range c h s = by_size (cases_lt c 0xD800) (cases_lt 0xDFFF c)
  where
    by_size : (c < 0xD800) ⊎ (0xD800 ≤ c) → (0xDFFF < c) ⊎ (c ≤ 0xDFFF) → InScalarRange c
    by_size (inl low) y = inl low
    by_size (inr x) (inl high) = inr (omega arith, h)
    by_size (inr x) (inr y) = absurd (grind (arith, nat_tests))

-- of a scalar, the image is one
image-scalar : (pairs : List (ℕ × ℕ)) (c : ℕ) → All (λ p. is_code_point p.0 × is_code_point p.1) pairs → AvoidsSurrogates c pairs → IsScalar c → InScalarRange (image pairs c)
image-scalar pairs c within avoids h = by_range (scalar_cases c h)
  where
    by_range : (c < 55296) ⊎ ((57344 ≤ c) × (c < 1114112)) → InScalarRange (image pairs c)
    by_range (inl low) = in_range (image pairs c) (image-code_point pairs c within (omega arith)) (avoids (no_surrogate c (inl low)))
    by_range (inr (low, high)) = in_range (image pairs c) (image-code_point pairs c within (omega arith)) (avoids (no_surrogate c (inr (low, omega arith))))

-- what a scalar has alike with others is one
pub canon-scalar : (parts : TableParts) → IsLawful parts → (unicode : Bool) (c : ℕ) → IsScalar c → InScalarRange (canon (table_of parts) unicode c)
unfolding canon
canon-scalar parts lawful true c h = image-scalar parts.fold c lawful.range.0.0 (lawful.surrogate.0 c) h
canon-scalar parts lawful false c h = image-scalar parts.upper c lawful.range.0.1 (lawful.surrogate.1 c) h
