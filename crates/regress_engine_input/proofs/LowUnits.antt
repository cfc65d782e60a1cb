-- Units below 0x80: each is a character by itself, and no half of a pair.
use Rattle.std.specs.Prelude.{slice_get}
use Rattle.std.proofs.Common.{◌≡◌, inl, inr, ℕ, suc, ◌<◌, ◌≤◌, false, List, length, Option, Some, None, refl, sym, ap, ◌∙◌, subst, arith}
use Rattle.std.proofs.lemmas.Option.{slice_get_within}
use Rattle.std.proofs.lemmas.Bool.Decides.{nat_tests}
use Rattle.regress_meaning.specs.Tokens.{joined}
use Rattle.regress_meaning.specs.Offsets.{offset, of_utf16, characters}
use Rattle.regress_meaning.specs.Inputs.{unit_before}
use Rattle.regress_meaning.specs.Steps.{pair_of}
use Rattle.regress_engine_input.specs.Views.{Kind, utf8, ascii, utf16, ucs2, AreOfKind, are_bytes, reading_of_kind}
use Rattle.regress_engine_input.proofs.UnitTexts.{single_offset}
use Rattle.regress_engine_input.proofs.Utf16Texts.{Front, fronts}
use Rattle.regress_engine_input.proofs.Utf16Parts.{place-at}

-- a unit stands at an offset, and right behind it the offset of the next place is
abbrev pub HoldsOne : List ℕ → (c o next : ℕ) → Type 0
HoldsOne units c o next = (slice_get units o ≡ Some c) × (next ≡ suc o)

-- a pair makes no such character
low-front : (units : List ℕ) (c o next : ℕ) → c < 0x80 → Front units (Some c) o next → HoldsOne units c o next
low-front units c o next low (inl (u, there, same, behind, alone)) = (there ∙ sym same, behind)
low-front units c o next low (inr (u, v, first, second, same, behind, pair)) = absurd (let is : c ≡ joined u v = cc in omega (arith, is, low))

-- a character below 0x80 is held as one unit
pub low-read : (kind : Kind) (units : List ℕ) → AreOfKind kind units → are_bytes kind ≡ false → (p c : ℕ) → slice_get (reading_of_kind kind units).points p ≡ Some c → c < 0x80
    → HoldsOne units c (offset (reading_of_kind kind units) p) (offset (reading_of_kind kind units) (suc p))
low-read utf8 units all are p c e low = absurd (cc)
low-read ascii units all are p c e low = absurd (cc)
low-read utf16 units all are p c e low =
    let room = slice_get_within (characters units) p c e in
    low-front units c (offset (of_utf16 units) p) (offset (of_utf16 units) (suc p)) low
    (subst (λ o. Front units o (offset (of_utf16 units) p) (offset (of_utf16 units) (suc p))) e (fronts units all p room))
low-read ucs2 units all are p c e low =
    let room = slice_get_within units p c e in
    let here = single_offset units p (omega (arith, room)) in
    (ap (slice_get units) here ∙ e, single_offset units (suc p) room ∙ ap suc (sym here))

low-outside : (u : Option ℕ) (b : ℕ) → b < 0x80 → pair_of u (Some b) ≡ false
low-outside None b low = refl
low-outside (Some u) b low = grind (arith, nat_tests)

-- a unit below 0x80 stands at a place
pub low-place : (kind : Kind) (units : List ℕ) → AreOfKind kind units → are_bytes kind ≡ false → (o b : ℕ) → slice_get units o ≡ Some b → b < 0x80
    → (p : ℕ) × (p ≤ length (reading_of_kind kind units).points) × (o ≡ offset (reading_of_kind kind units) p)
low-place utf8 units all are o b e low = absurd (cc)
low-place ascii units all are o b e low = absurd (cc)
low-place utf16 units all are o b e low =
    let room = slice_get_within units o b e in
    let (p, fits, here) = place-at units all o (omega (arith, room)) (ap (pair_of (unit_before units o)) e ∙ low-outside (unit_before units o) b low) in
    (p, fits, sym here)
low-place ucs2 units all are o b e low =
    let room = slice_get_within units o b e in (o, omega (arith, room), sym (single_offset units o (omega (arith, room))))
