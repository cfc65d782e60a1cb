-- The unit in front of an offset, where it is below 0x80: it is the character in front.
use Rattle.std.specs.Prelude.{slice_get, option_map}
use Rattle.std.proofs.Common.{◌≡◌, ℕ, zero, suc, ◌-◌, ◌<◌, ◌≤◌, Bool, true, false, ◌&&◌, List, length, Option, Some, None, if◌then◌else◌, refl, sym, ap, ◌∙◌, subst, arith}
use Rattle.std.proofs.lemmas.Bool.Decides.{nat_tests}
use Rattle.regress_meaning.specs.Table.{Table}
use Rattle.regress_meaning.specs.Meaning.{Backward, is_some_and}
use Rattle.regress_meaning.specs.Tokens.{is_high, is_low, joined}
use Rattle.regress_meaning.specs.Inputs.{neighbour, point_told, pair_left, unit_before}
use Rattle.regress_meaning.specs.Offsets.{Reading, offset}
use Rattle.regress_engine_input.specs.Views.{Kind, utf8, ascii, utf16, ucs2, AreOfKind, are_bytes, input_of_kind, reading_of_kind}
use Rattle.regress_engine_input.proofs.KindLemmas.{tells}
use Rattle.regress_engine_scanning.specs.Units.{AreAscii}
use Rattle.regress_engine_scanning.specs.WordStarts.{passes_before}

no-half : (u b : ℕ) → b < 0x80 → (is_high u && is_low b) ≡ false
no-half u b low = grind (arith, nat_tests)

alone : (o b : ℕ) → b < 0x80 → (u : Option ℕ) → pair_left o b u ≡ (b, o)
alone o b low None = refl
alone o b low (Some u) = ap (λ (c : Bool). if c then (joined u b, o - 1) else (b, o)) (no-half u b low)

-- what an input tells there
told-low : (kind : Kind) (table : Table) (unicode : Bool) (units : List ℕ) → are_bytes kind ≡ false → (o b : ℕ) → slice_get units o ≡ Some b → b < 0x80
    → (input_of_kind kind table unicode units).next Backward (suc o) ≡ Some (b, o)
told-low utf8 table unicode units are o b e low = absurd (cc)
told-low ascii table unicode units are o b e low = absurd (cc)
told-low utf16 table unicode units are o b e low = ap (option_map (λ v. pair_left o v (unit_before units o))) e ∙ ap Some (alone o b low (unit_before units o))
told-low ucs2 table unicode units are o b e low = ap (option_map (λ c. (c, o))) e

-- what is told in front of a place stands there
told-before : (reading : Reading) (p b o : ℕ) (test : ℕ → Bool) → test b ≡ true → Some (b, o) ≡ option_map (point_told reading) (neighbour reading.points Backward p)
    → passes_before test reading.points p ≡ true
told-before reading zero b o test passes e = absurd (cc)
told-before reading (suc q) b o test passes e = by_point (slice_get reading.points q) e
  where
    by_point : (x : Option ℕ) → Some (b, o) ≡ option_map (point_told reading) (option_map (λ c. (c, q)) x) → is_some_and x test ≡ true
    by_point None same = absurd (cc)
    by_point (Some c) same = let equal : b ≡ c = ap (λ (y : Option (ℕ × ℕ)). elim y [ None ↦ b | Some z ↦ z.0 ]) same in subst (λ n. test n ≡ true) equal passes

-- a unit of a set of ASCII in front of the offset of a place is a character of it in front of the place
pub front-units : (kind : Kind) (table : Table) (unicode : Bool) (units : List ℕ) → AreOfKind kind units → are_bytes kind ≡ false → (p : ℕ)
    → p ≤ length (reading_of_kind kind units).points → (test : ℕ → Bool) → AreAscii test
    → passes_before test units (offset (reading_of_kind kind units) p) ≡ true → passes_before test (reading_of_kind kind units).points p ≡ true
front-units kind table unicode units all are p room test low h = by_offset (offset (reading_of_kind kind units) p) refl h
  where
    by_unit : (o : ℕ) → offset (reading_of_kind kind units) p ≡ suc o → (x : Option ℕ) → slice_get units o ≡ x → is_some_and x test ≡ true
        → passes_before test (reading_of_kind kind units).points p ≡ true
    by_unit o at None is passes = absurd (cc)
    by_unit o at (Some b) is passes =
        let there = (tells kind table unicode units all).next Backward p room in
        told-before (reading_of_kind kind units) p b o test passes
        (sym (told-low kind table unicode units are o b is (low b passes)) ∙ ap ((input_of_kind kind table unicode units).next Backward) (sym at) ∙ there)

    by_offset : (n : ℕ) → offset (reading_of_kind kind units) p ≡ n → passes_before test units n ≡ true → passes_before test (reading_of_kind kind units).points p ≡ true
    by_offset zero at before = absurd (cc)
    by_offset (suc o) at before = by_unit o at (slice_get units o) refl before
