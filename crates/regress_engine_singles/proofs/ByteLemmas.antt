-- When bytes don't stand where an instruction takes a character.
use Rattle.std.specs.Prelude.{IfSome, slice_get, slice_index, slice_range, get_or, nat_lt, option_map, if◌then◌else◌}
use Rattle.std.proofs.Common.{◌≡◌, ℕ, suc, ◌+◌, ◌<◌, Bool, true, false, not, ◌&&◌, ◌==◌, List, [], ◌∷◌, ◌++◌, length, drop, Option, Some, None, refl, sym, ap, ◌∙◌, subst, arith}
use Rattle.std.specs.Option.{option_eq}
use Rattle.std.proofs.Math.Seq.{drop-cons}
use Rattle.std.proofs.lemmas.Bool.{eq-eqb, eqb-false}
use Rattle.std.proofs.lemmas.Bool.Decides.{nat_tests}
use Rattle.std.proofs.lemmas.List.{get_or-drop, length-drop}
use Rattle.std.proofs.lemmas.Option.{slice_get-get_or, get_or_from_slice_get}
use Rattle.regress_meaning.specs.Text.{same_text}
use Rattle.regress_meaning.specs.Meaning.{Forward}
use Rattle.regress_meaning.specs.Table.{Table}
use Rattle.regress_meaning.specs.Tokens.{is_high, is_low, joined}
use Rattle.regress_meaning.specs.Inputs.{Input, onto_right, bytes_right, byte_at, pair_right}
use Rattle.regress_meaning.specs.Steps.{literal}
use Rattle.regress_engine_input.specs.Views.{View, Kind, utf8, ascii, utf16, ucs2, AreOfKind, are_bytes, input_of, input_of_kind, reading_of, in_bytes, unit_beside}
use Rattle.regress_engine_input.proofs.Standing.{right-split, split-right}
use Rattle.regress_engine_matchers.proofs.ByteLemmas.{in-bytes}
use Rattle.regress_engine_runs.specs.Meets.{IsAtPlace}
use Rattle.regress_engine_search.proofs.PlaceLemmas.{next-place, units-are}

-- the first of bytes that stand to the right of an offset is there
first-unit : (units bs : List ℕ) (b o q : ℕ) → (if same_text (b ∷ bs) (slice_range units o (o + length (b ∷ bs))) then Some (o + length (b ∷ bs)) else None) ≡ Some q → slice_get units o ≡ Some b
first-unit units bs b o q e = by_test (same_text (b ∷ bs) (slice_range units o (o + length (b ∷ bs)))) refl e
  where
    by_test : (t : Bool) → same_text (b ∷ bs) (slice_range units o (o + length (b ∷ bs))) ≡ t → (if t then Some (o + length (b ∷ bs)) else None) ≡ Some q → slice_get units o ≡ Some b
    by_test false f g = absurd (grind arith)
    by_test true f g =
        let (rest, split) = right-split units o (b ∷ bs) f in
        let size : length (drop o units) ≡ suc (length (bs ++ rest)) = ap length split in
        let sizes = length-drop o units in
        let front : get_or (drop o units) 0 0 ≡ b = ap (λ (xs : List ℕ). get_or xs 0 0) split in
        let none : o + 0 ≡ o = omega arith in
        let is : get_or units o 0 ≡ b = ap (λ i. get_or units i 0) (sym none) ∙ sym (get_or-drop o units 0 0) ∙ front in
        slice_get-get_or units o 0 (omega (arith, size, sizes)) ∙ ap Some is

-- bytes don't stand where another byte than their first does, or none
pub other-first : (input : Input) (bs : List ℕ) (o : ℕ) → 0 < length bs → (slice_get input.units o ≡ Some (get_or bs 0 0) → ⊥) → None ≡ literal input Forward bs o
other-first input [] o some other = absurd (omega (arith, some))
other-first input (b ∷ bs) o some other = by_found (literal input Forward (b ∷ bs) o) refl
  where
    by_found : (x : Option ℕ) → literal input Forward (b ∷ bs) o ≡ x → None ≡ x
    by_found None e = refl
    by_found (Some q) e = absurd (other (first-unit input.units bs b o q e))

-- nor where a byte that was read is not their first
pub not-there : (v : View) → are_bytes v.kind ≡ true → (bs : List ℕ) (o p : ℕ) → 0 < length bs → p ≡ o → (found : Option ℕ) → found ≡ in_bytes v.kind (unit_beside v.units Forward p)
    → true ≡ not (option_eq (λ a b. a == b) found (Some (get_or bs 0 0))) → None ≡ literal (input_of v) Forward bs o
not-there v are bs o p some same found is other = other-first (input_of v) bs o some (λ there.
    let b : ℕ = get_or bs 0 0 in
    let read : found ≡ Some b = is ∙ ap (λ x. in_bytes v.kind (unit_beside v.units Forward x)) same ∙ in-bytes v.kind (slice_get v.units o) are ∙ ap (λ us. slice_get us o) (sym (units-are v)) ∙ there in
    let so : true ≡ not (b == b) = other ∙ ap (λ x. not (option_eq (λ a b. a == b) x (Some b))) read in
    let equal : (b == b) ≡ true = eq-eqb b b refl in
    let never : true ≡ false = so ∙ ap not equal in
    absurd (grind arith))

-- nor where a byte of the text is not
pub other-there : (v : View) (b : ℕ) (rest : List ℕ) (o : ℕ) → (slice_index v.units o == b) ≡ false → None ≡ literal (input_of v) Forward (b ∷ rest) o
other-there v b rest o other = other-first (input_of v) (b ∷ rest) o (omega arith)
    (λ there. eqb-false (slice_index v.units o) b other (get_or_from_slice_get v.units o b 0 (ap (λ us. slice_get us o) (sym (units-are v)) ∙ there)))

-- nor where the byte that stands there is another
pub other-stands : (v : View) (bs : List ℕ) (o b : ℕ) → 0 < length bs → slice_index v.units o ≡ b → (b == get_or bs 0 0) ≡ false → None ≡ literal (input_of v) Forward bs o
other-stands v [] o b some is other = absurd (omega (arith, some))
other-stands v (x ∷ rest) o b some is other = other-there v x rest o (ap (λ n. n == x) is ∙ other)

-- a byte of ASCII is a character
low-right : (b x y z : ℕ) → nat_lt b 0x80 ≡ true → bytes_right b x y z ≡ (b, 1)
low-right b x y z e = rw e refl

-- a unit that is no first half of a pair is a character
lone-pair : (o b : ℕ) (v : Option ℕ) → is_high b ≡ false → pair_right o b v ≡ (b, suc o)
lone-pair o b None lone = refl
lone-pair o b (Some v) lone = ap (λ t. if t && is_low v then (joined b v, suc (suc o)) else (b, suc o)) lone

-- a byte of ASCII, or a unit of the same number, that stands at an offset is the character ahead
pub unit-next : (kind : Kind) (table : Table) (unicode : Bool) (units : List ℕ) (b o : ℕ) → b < 0x80 → slice_get units o ≡ Some b
    → (input_of_kind kind table unicode units).next Forward o ≡ Some (b, suc o)
unit-next utf8 table unicode units b o low here =
    let one : o + 1 ≡ suc o = omega arith in
    let small : nat_lt b 0x80 ≡ true = grind (arith, nat_tests) in
    ap (λ (x : Option ℕ). option_map (λ w. onto_right o (bytes_right w (byte_at units (o + 1)) (byte_at units (o + 2)) (byte_at units (o + 3)))) x) here
    ∙ ap (λ x. Some (onto_right o x)) (low-right b (byte_at units (o + 1)) (byte_at units (o + 2)) (byte_at units (o + 3)) small)
    ∙ ap (λ p. Some (b, p)) one
unit-next ascii table unicode units b o low here = ap (option_map (λ c. (c, suc o))) here
unit-next utf16 table unicode units b o low here = ap (option_map (λ u. pair_right o u (slice_get units (suc o)))) here ∙ ap Some (lone-pair o b (slice_get units (suc o)) (grind (arith, nat_tests)))
unit-next ucs2 table unicode units b o low here = ap (option_map (λ c. (c, suc o))) here

-- and so is a unit that is no first half of a pair
pub lone-next : (kind : Kind) (table : Table) (unicode : Bool) (units : List ℕ) (b o : ℕ) → are_bytes kind ≡ false → is_high b ≡ false → slice_get units o ≡ Some b
    → (input_of_kind kind table unicode units).next Forward o ≡ Some (b, suc o)
lone-next utf8 table unicode units b o are lone here = absurd (cc are)
lone-next ascii table unicode units b o are lone here = absurd (cc are)
lone-next utf16 table unicode units b o are lone here = ap (option_map (λ u. pair_right o u (slice_get units (suc o)))) here ∙ ap Some (lone-pair o b (slice_get units (suc o)) lone)
lone-next ucs2 table unicode units b o are lone here = ap (option_map (λ c. (c, suc o))) here

-- where the text ends no character is ahead
pub none-ahead : (kind : Kind) (table : Table) (unicode : Bool) (units : List ℕ) (o : ℕ) → slice_get units o ≡ None → (input_of_kind kind table unicode units).next Forward o ≡ None
none-ahead utf8 table unicode units o none = ap (option_map _) none
none-ahead ascii table unicode units o none = ap (option_map _) none
none-ahead utf16 table unicode units o none = rw none refl
none-ahead ucs2 table unicode units o none = rw none refl

-- a byte that stands at an offset is taken there
pub same-there : (input : Input) (bs : List ℕ) (o : ℕ) → length bs ≡ 1 → o < length input.units → slice_index input.units o ≡ get_or bs 0 0 → Some (o + 1) ≡ literal input Forward bs o
same-there input [] o one inside same = absurd (omega (arith, one))
same-there input (b ∷ c ∷ bs) o one inside same = absurd (omega (arith, one))
same-there input (b ∷ []) o one inside same =
    sym (ap (λ t. if t then Some (o + 1) else None) (split-right input.units o (b ∷ []) (drop (suc o) input.units) (drop-cons input.units o 0 inside ∙ ap (λ x. x ∷ drop (suc o) input.units) same)))

-- So the first of bytes that stand there is, where it is one of ASCII.
pub byte-next : (kind : Kind) (table : Table) (unicode : Bool) (units bs : List ℕ) (b o q : ℕ) → are_bytes kind ≡ true → b < 0x80
    → literal (input_of_kind kind table unicode units) Forward (b ∷ bs) o ≡ Some q → (input_of_kind kind table unicode units).next Forward o ≡ Some (b, suc o)
byte-next utf8 table unicode units bs b o q are low e = unit-next utf8 table unicode units b o low (first-unit units bs b o q e)
byte-next ascii table unicode units bs b o q are low e = unit-next ascii table unicode units b o low (first-unit units bs b o q e)
byte-next utf16 table unicode units bs b o q are low e = absurd cc
byte-next ucs2 table unicode units bs b o q are low e = absurd cc

-- and behind it is a place
byte-place : (v : View) → AreOfKind v.kind v.units → are_bytes v.kind ≡ true → (bs : List ℕ) → length bs ≡ 1 → get_or bs 0 0 < 0x80 → (o q : ℕ) → IsAtPlace (reading_of v) o
    → literal (input_of v) Forward bs o ≡ Some q → IsAtPlace (reading_of v) q
byte-place v all are [] one low o q place e = absurd (omega (arith, one))
byte-place v all are (b ∷ c ∷ bs) one low o q place e = absurd (omega (arith, one))
byte-place v all are (b ∷ []) one low o q place e =
    subst (IsAtPlace (reading_of v)) (by_test (same_text (b ∷ []) (slice_range (input_of v).units o (o + 1))) e)
    (next-place v all Forward o b (suc o) place (byte-next v.kind v.table v.unicode v.units [] b o q are low e))
  where
    by_test : (t : Bool) → (if t then Some (o + 1) else None) ≡ Some q → suc o ≡ q
    by_test false f = absurd (grind arith)
    by_test true f = let same : o + 1 ≡ q = cc in omega (arith, same)

pub byte-places : (v : View) → AreOfKind v.kind v.units → are_bytes v.kind ≡ true → (bs : List ℕ) → length bs ≡ 1 → get_or bs 0 0 < 0x80 → (o : ℕ) → IsAtPlace (reading_of v) o → (x : Option ℕ)
    → x ≡ literal (input_of v) Forward bs o → IfSome x (IsAtPlace (reading_of v))
byte-places v all are bs one low o place None e = tt
byte-places v all are bs one low o place (Some q) e = byte-place v all are bs one low o q place (sym e)
