-- The members of the intervals that class escapes hold.
use Rattle.std.proofs.Common.{◌≡◌, ℕ, ◌+◌, ◌<◌, ◌/◌, ◌%◌, ◌^◌, Bool, true, false, ◌||◌, ◌==◌, nat_eq, [], ◌∷◌, map, get_or, slice_index_or, bit_and, refl, sym, ap, ◌∙◌, arith}
use Rattle.std.specs.List.{range_with_len}
use Rattle.std.proofs.lemmas.List.FromFn.{get_or-map-range_with_len}
use Rattle.std.proofs.Math.Bool.{or_assoc, or_comm, or-false}
use Rattle.std.proofs.lemmas.Bool.Decides.{nat_tests}
use Rattle.regress_meaning.specs.Text.{between}
use Rattle.regress_meaning.specs.TableParts.{in_intervals}
use Rattle.regress_meaning.specs.Class.{is_ascii_word, is_digit, is_space}
use Rattle.regress_meaning.specs.Meaning.{is_line_end}

-- an interval of one code point
between-one : (a c : ℕ) → between a a c ≡ (c == a)
between-one a c = grind (arith, nat_tests)

-- letters stand together in the definition, and in the order of code points here
regroup : (digit upper low_line lower : Bool) → (digit || (upper || (low_line || (lower || false)))) ≡ ((digit || (upper || lower)) || low_line)
regroup true u o l = refl
regroup false true o l = refl
regroup false false o l = ap (λ b. o || b) (or-false l) ∙ or_comm o l

pub members_of_words : (c : ℕ) → in_intervals ((0x30, 0x39) ∷ (0x41, 0x5A) ∷ (0x5F, 0x5F) ∷ (0x61, 0x7A) ∷ []) c ≡ is_ascii_word c
unfolding in_intervals
members_of_words c = rw (between-one 0x5F c) (regroup (between 0x30 0x39 c) (between 0x41 0x5A c) (c == 0x5F) (between 0x61 0x7A c))

-- the rows have a bit for each code point of a word
abbrev row : ℕ → Bool
row c = nat_eq (bit_and (slice_index_or {A = ℕ} (0x03FF000000000000 ∷ 0x07FFFFFE87FFFFFE ∷ []) (c / 64) 0 / 2 ^ (c % 64)) 1) 1

-- by going over all of ASCII
pub rows_of_words : (c : ℕ) → c < 128 → row c ≡ is_ascii_word c
rows_of_words c small =
    sym (get_or-map-range_with_len row 0 128 c c false small (omega arith)) ∙ ap (λ ws. get_or ws c false) same ∙ get_or-map-range_with_len is_ascii_word 0 128 c c false small (omega arith)
  where
    same : map row (range_with_len 0 128) ≡ map is_ascii_word (range_with_len 0 128)
    same = refl

pub members_of_digits : (c : ℕ) → in_intervals ((0x30, 0x39) ∷ []) c ≡ is_digit c
unfolding in_intervals
members_of_digits c = or-false (is_digit c)

pub members_of_spaces : (c : ℕ)
    → in_intervals ((9, 0xD) ∷ (0x20, 0x20) ∷ (0xA0, 0xA0) ∷ (0x1680, 0x1680) ∷ (0x2000, 0x200A) ∷ (0x2028, 0x2029) ∷ (0x202F, 0x202F) ∷ (0x205F, 0x205F) ∷ (0x3000, 0x3000) ∷ (0xFEFF, 0xFEFF) ∷ []) c
    ≡ is_space c
unfolding in_intervals
members_of_spaces c =
    rw (between-one 0x20 c, between-one 0xA0 c, between-one 0x1680 c, between-one 0x202F c, between-one 0x205F c, between-one 0x3000 c, between-one 0xFEFF c)
    (simp (or_assoc, or-false))

-- 2028 and 2029 follow one another
between-two : (a c : ℕ) → between a (a + 1) c ≡ (c == a || c == a + 1)
between-two a c = grind (arith, nat_tests)

pub members_of_line_ends : (c : ℕ) → in_intervals ((0xA, 0xA) ∷ (0xD, 0xD) ∷ (0x2028, 0x2029) ∷ []) c ≡ is_line_end c
unfolding in_intervals
members_of_line_ends c = rw (between-one 0xA c, between-one 0xD c, between-two 0x2028 c) (simp (or_assoc, or-false))
