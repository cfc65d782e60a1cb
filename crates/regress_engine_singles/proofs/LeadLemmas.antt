-- The byte that stands where a character is read.
use Rattle.std.specs.Prelude.{slice_get, get_or, is_some, option_map, encode_utf8}
use Rattle.std.specs.Str.{IsUtf8, IsAscii, IsCharBoundary}
use Rattle.std.proofs.Common.{◌≡◌, ◌⊎◌, inl, inr, ℕ, zero, suc, ◌<◌, ◌≤◌, Bool, true, false, List, [], ◌∷◌, ◌++◌, length, drop, chars, Some, None, refl, sym, ap, ◌∙◌, arith}
use Rattle.std.proofs.Math.Utf8.{encode, encodes}
use Rattle.std.proofs.lemmas.Bool.{cases_lt}
use Rattle.std.proofs.lemmas.Bool.Decides.{nat_tests}
use Rattle.std.proofs.lemmas.Option.{slice_get_within, slice_get-get_or, get_or_from_slice_get}
use Rattle.std.proofs.lemmas.Str.{encode_ascii}
use Rattle.regress_meaning.specs.Meaning.{Forward}
use Rattle.regress_meaning.specs.Offsets.{offset, of_utf8}
use Rattle.regress_meaning.specs.Table.{Table}
use Rattle.regress_meaning.specs.TableParts.{is_code_point}
use Rattle.regress_meaning.specs.Inputs.{is_continuation, point_told, utf8_next}
use Rattle.regress_front_bytes.proofs.TextLemmas.{place_of_boundary, offset_of_end}
use Rattle.regress_engine_input.specs.Views.{View, Kind, utf8, ascii, utf16, ucs2, AreOfKind, are_bytes, input_of, input_of_kind, IsReadable, CanRead}
use Rattle.regress_engine_input.proofs.Utf8Parts.{bytes-here, scalar-here}
use Rattle.regress_engine_input.proofs.Utf8Texts.{utf8_told}
use Rattle.regress_engine_prefix.specs.FirstBytes.{MayLead}
use Rattle.regress_engine_prefix.proofs.LeadLemmas.{has-lead, MayLead-first}

-- the first of bytes behind an offset is the one there
first-behind : (bs : List ℕ) (o : ℕ) → slice_get (drop o bs) 0 ≡ slice_get bs o
first-behind bs zero = refl
first-behind [] (suc o) = refl
first-behind (b ∷ bs) (suc o) = first-behind bs o

-- the first byte of a character and others
pub first-of : (c : ℕ) (rest : List ℕ) → slice_get (encode c ++ rest) 0 ≡ slice_get (encode c) 0
first-of c rest = by_bytes (encode c) (has-lead c)
  where
    by_bytes : (bs : List ℕ) {b : ℕ} → slice_get bs 0 ≡ Some b → slice_get (bs ++ rest) 0 ≡ slice_get bs 0
    by_bytes [] e = absurd (cc e)
    by_bytes (x ∷ bs) e = refl

scalar-below : (c : ℕ) → Rattle.std.proofs.Math.Utf8.scalar c ≡ true → is_code_point c
scalar-below c h = grind (arith, nat_tests)

-- where a byte stands that is not inside of a character, one may be read
lead-boundary : (bytes : List ℕ) (o b : ℕ) → slice_get bytes o ≡ Some b → is_continuation b ≡ false → IsCharBoundary bytes o
lead-boundary bytes o b here lead =
    let within = slice_get_within bytes o b here in
    let is = get_or_from_slice_get bytes o b 0 here in
    (omega (arith, within), λ inside high. high-lead (omega (arith, is, high)))
  where
    high-lead : 128 ≤ b → 192 ≤ get_or bytes o 0
    high-lead high = let is = get_or_from_slice_get bytes o b 0 here in let far : 192 ≤ b = grind (arith, nat_tests) in omega (arith, is, far)

-- The character ahead of an offset begins with the byte there, which is not inside of one.
utf8-ahead : (bytes : List ℕ) → IsUtf8 bytes → (o b : ℕ) → slice_get bytes o ≡ Some b → is_continuation b ≡ false
    → (c : ℕ) × (q : ℕ) × (utf8_next bytes Forward o ≡ Some (c, q)) × is_code_point c × (slice_get (encode_utf8 c) 0 ≡ Some b)
utf8-ahead bytes text o b here lead =
    let (p, room, at) = place_of_boundary bytes text o (lead-boundary bytes o b here lead) in
    by_room p room at (cases_lt p (length (chars bytes)))
  where
    by_room : (p : ℕ) → p ≤ length (chars bytes) → offset (of_utf8 bytes) p ≡ o → (p < length (chars bytes)) ⊎ (length (chars bytes) ≤ p)
        → (c : ℕ) × (q : ℕ) × (utf8_next bytes Forward o ≡ Some (c, q)) × is_code_point c × (slice_get (encode_utf8 c) 0 ≡ Some b)
    by_room p room at (inl less) =
        let c : ℕ = get_or (chars bytes) p 0 in
        let is : slice_get (chars bytes) p ≡ Some c = slice_get-get_or (chars bytes) p 0 less in
        let first : slice_get (encode c) 0 ≡ Some b =
        sym (first-of c (encodes (drop (suc p) (chars bytes)))) ∙ ap (λ bs. slice_get bs 0) (sym (bytes-here bytes text p c is)) ∙ first-behind bytes (offset (of_utf8 bytes) p) ∙ ap (slice_get bytes) at ∙ here in
        let next : utf8_next bytes Forward o ≡ Some (c, offset (of_utf8 bytes) (suc p)) =
        ap (utf8_next bytes Forward) (sym at) ∙ utf8_told bytes text Forward p room ∙ ap (λ x. option_map (point_told (of_utf8 bytes)) (option_map (λ d. (d, suc p)) x)) is in
        (c, offset (of_utf8 bytes) (suc p), next, scalar-below c (scalar-here bytes text p c is), first)
    by_room p room at (inr full) =
        let same : p ≡ length (chars bytes) = omega (arith, room, full) in
        let end : offset (of_utf8 bytes) (length (chars bytes)) ≡ length bytes = offset_of_end bytes text in
        let is : o ≡ length bytes = sym at ∙ ap (offset (of_utf8 bytes)) same ∙ end in
        let within = slice_get_within bytes o b here in
        absurd (omega (arith, is, within))

-- where a character may be read, no byte stands that is inside of one
utf8-leads : (bytes : List ℕ) → IsUtf8 bytes → (o b : ℕ) → IsCharBoundary bytes o → slice_get bytes o ≡ Some b → (is_continuation b ≡ false) × (b < 256)
utf8-leads bytes text o b cut here =
    let (c, q, next, point, begins) = utf8-ahead bytes text o b here lead in (lead, small (MayLead-first c b point begins))
  where
    by_order : (b < 128) ⊎ (128 ≤ b) → is_continuation b ≡ false
    by_order (inl low) = grind (arith, nat_tests)
    by_order (inr high) =
        let is : get_or bytes o 0 ≡ b = get_or_from_slice_get bytes o b 0 here in
        let far = cut.1 (slice_get_within bytes o b here) (omega (arith, is, high)) in
        let more : 192 ≤ b = omega (arith, is, far) in
        grind (arith, nat_tests)

    lead : is_continuation b ≡ false
    lead = by_order (cases_lt b 128)

    small : MayLead b → b < 256
    small (inl low) = omega arith
    small (inr (far, near)) = near

-- ---- by the kind of the text

-- a byte of ASCII is a character of its own
ascii-small : (units : List ℕ) → IsAscii units → (o b : ℕ) → slice_get units o ≡ Some b → b < 0x80
ascii-small units all o b here = let low = all o in let is = get_or_from_slice_get units o b 0 here in omega (arith, low, is)

next-of : (kind : Kind) (table : Table) (unicode : Bool) (units : List ℕ) → AreOfKind kind units → are_bytes kind ≡ true → (o b : ℕ) → slice_get units o ≡ Some b → is_continuation b ≡ false
    → (c : ℕ) × (q : ℕ) × ((input_of_kind kind table unicode units).next Forward o ≡ Some (c, q)) × is_code_point c × (slice_get (encode_utf8 c) 0 ≡ Some b)
next-of utf8 table unicode units all are o b here lead = utf8-ahead units all o b here lead
next-of ascii table unicode units all are o b here lead =
    let small = ascii-small units all o b here in
    (b, suc o, ap (option_map (λ c. (c, suc o))) here, omega (arith, small), ap (λ bs. slice_get bs 0) (encode_ascii b small))
next-of utf16 table unicode units all are o b here lead = absurd (cc are)
next-of ucs2 table unicode units all are o b here lead = absurd (cc are)

leads-of : (kind : Kind) (units : List ℕ) → AreOfKind kind units → are_bytes kind ≡ true → (o b : ℕ) → IsReadable kind units o → slice_get units o ≡ Some b
    → (is_continuation b ≡ false) × (b < 256)
leads-of utf8 units all are o b can here = utf8-leads units all o b can here
leads-of ascii units all are o b can here = let small = ascii-small units all o b here in (grind (arith, nat_tests), omega (arith, small))
leads-of utf16 units all are o b can here = absurd (cc are)
leads-of ucs2 units all are o b can here = absurd (cc are)

none-of : (kind : Kind) (table : Table) (unicode : Bool) (units : List ℕ) → are_bytes kind ≡ true → (o : ℕ) → slice_get units o ≡ None → (input_of_kind kind table unicode units).next Forward o ≡ None
none-of utf8 table unicode units are o none = rw none refl
none-of ascii table unicode units are o none = rw none refl
none-of utf16 table unicode units are o none = absurd (cc are)
none-of ucs2 table unicode units are o none = absurd (cc are)

some-of : (kind : Kind) (table : Table) (unicode : Bool) (units : List ℕ) → are_bytes kind ≡ true → (o b : ℕ) → slice_get units o ≡ Some b
    → is_some ((input_of_kind kind table unicode units).next Forward o) ≡ true
some-of utf8 table unicode units are o b here = rw here refl
some-of ascii table unicode units are o b here = rw here refl
some-of utf16 table unicode units are o b here = absurd (cc are)
some-of ucs2 table unicode units are o b here = absurd (cc are)

module _ (v : View) (are : are_bytes v.kind ≡ true) where
  -- Where a byte stands there is a character ahead, and where none does there is none.
  pub some-ahead : (o b : ℕ) → slice_get v.units o ≡ Some b → is_some ((input_of v).next Forward o) ≡ true
  some-ahead o b here = some-of v.kind v.table v.unicode v.units are o b here

  pub none-ahead : (o : ℕ) → slice_get v.units o ≡ None → (input_of v).next Forward o ≡ None
  none-ahead o none = none-of v.kind v.table v.unicode v.units are o none

  module _ (all : AreOfKind v.kind v.units) where
    -- The character ahead of an offset begins with the byte there, where that is not inside of one.
    pub next-begins : (o b : ℕ) → slice_get v.units o ≡ Some b → is_continuation b ≡ false
        → (c : ℕ) × (q : ℕ) × ((input_of v).next Forward o ≡ Some (c, q)) × is_code_point c × (slice_get (encode_utf8 c) 0 ≡ Some b)
    next-begins o b here lead = next-of v.kind v.table v.unicode v.units all are o b here lead

    -- And where a character may be read, the byte there is not inside of one.
    pub unit-leads : (o b : ℕ) → CanRead v o → slice_get v.units o ≡ Some b → (is_continuation b ≡ false) × (b < 256)
    unit-leads o b can here = leads-of v.kind v.units all are o b can here
