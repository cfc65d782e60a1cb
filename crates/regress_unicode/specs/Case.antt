-- Case where it is ignored, as Unicode's data have it ("Canonicalize").
use Rattle.std.specs.Prelude.{ℕ, zero, suc, Bool, ◌==◌, ◌&&◌, ◌||◌, nat_lt, nat_le, List, [], ◌∷◌, ◌++◌, if◌then◌else◌}
use Rattle.std.specs.Char.Unicode.ToUppercase.{to_uppercase}
use Rattle.regress_meaning.specs.TableParts.{is_surrogate}
use Rattle.ucd_case.specs.CaseFolding.{simple_fold}

-- how many code points one 16-bit unit can be
abbrev pub units : ℕ
units = 0x1_0000

-- the simple case folding, and a surrogate as it is
unfoldable pub fold_of : ℕ → ℕ
fold_of c = if is_surrogate c then c else simple_fold c

-- the image of a unit is a unit too, and lies below 80 only where the unit does
abbrev pub is_kept : ℕ → ℕ → Bool
is_kept c image = nat_lt image units && (nat_lt c 0x80 || nat_le 0x80 image)

-- an upper case of one code point that is kept, and else the code point itself
abbrev pub single_upper : ℕ → List ℕ → ℕ
single_upper c (image ∷ []) = if is_kept c image then image else c
single_upper c _ = c

-- the upper case of a 16-bit unit, where that is one that is kept, and else the unit
unfoldable pub upper_of : ℕ → ℕ
upper_of c = if is_surrogate c then c else single_upper c (to_uppercase c)

-- the numbers below n that a map moves, each with its image, from low to high
unfoldable pub moved : (ℕ → ℕ) → ℕ → List (ℕ × ℕ)
moved map_of zero = []
moved map_of (suc n) = moved map_of n ++ (if map_of n == n then [] else (n, map_of n) ∷ [])
