-- A text of ASCII is read as one of UTF-8: its bytes are its characters.
use Rattle.std.proofs.Common.{◌≡◌, ℕ, ◌<◌, ◌≤◌, ◌⊎◌, ◌+◌, true, List, length, map, option_map, take, sum_by, refl, sym, ap, ◌∙◌, subst, arith}
use Rattle.std.proofs.lemmas.List.{take_all}
use Rattle.std.proofs.lemmas.Str.{encodes-IsAscii, IsAscii-take, chars-IsAscii, IsCharBoundary-from_ascii}
use Rattle.std.specs.Char.{len_utf8}
use Rattle.std.specs.Str.{IsAscii, IsCharBoundary}
use Rattle.regress_meaning.specs.Matches.{Item}
use Rattle.regress_meaning.specs.Offsets.{Reading, offset, told, Begins, of_ascii, of_utf8}
use Rattle.regress_front_bytes.proofs.TextLemmas.{length-encodes, offset_is_boundary}
use Rattle.regress_engine_input.specs.Views.{Kind, utf8, ascii, utf16, ucs2, are_bytes, AreOfKind, reading_of_kind}
use Rattle.regress_engine_input.proofs.UnitTexts.{single_offset}

-- Two readings have the same text, and its places have the same offsets.
pub record ReadAlike (r q : Reading) : Type 0 where
  pub points : r.points ≡ q.points
  pub offsets : offset r ≡ offset q

-- so a search begins alike
pub begins-alike : (r q : Reading) → ReadAlike r q → (at place : ℕ) → Begins q at place → Begins r at place
begins-alike r q alike at place begins = subst (λ (x : List ℕ × (ℕ → ℕ)). Starts x.0 x.1) (λ i. (sym alike.points i, sym alike.offsets i)) begins
  where
    Starts : List ℕ → (ℕ → ℕ) → Type 0
    Starts points at_place = ((place ≤ length points) × (at_place place ≡ at)) ⊎ ((place ≡ length points + 1) × (at_place (length points) < at))

-- and items are told alike
pub told-alike : (r q : Reading) → ReadAlike r q → told r ≡ told q
told-alike r q alike = ap by_offsets alike.offsets
  where
    by_offsets : (ℕ → ℕ) → Item → Item
    by_offsets at_place i = record { start = at_place i.start; end = at_place i.end; groups = map (option_map (λ (range : ℕ × ℕ). (at_place range.0, at_place range.1))) i.groups }

-- of ASCII the offset of a place is how many characters stand before it, and so it is in UTF-8
ascii-offset : (bytes : List ℕ) → IsAscii bytes → (p : ℕ) → offset (of_ascii bytes) p ≡ offset (of_utf8 bytes) p
ascii-offset bytes of_ascii_alone p =
    let front = take p bytes in
    let each_one : sum_by (λ (c : ℕ). 1) front ≡ length front =
    ap (sum_by (λ (c : ℕ). 1)) (sym (take_all (length front) front (omega arith))) ∙ single_offset front (length front) (omega arith) in
    each_one ∙ ap length (sym (encodes-IsAscii front (IsAscii-take bytes p of_ascii_alone))) ∙ length-encodes front
    ∙ ap (λ (cs : List ℕ). sum_by len_utf8 (take p cs)) (sym (chars-IsAscii bytes of_ascii_alone))

-- bytes are read alike, of whichever kind they are
pub bytes-alike : (kind : Kind) (bytes : List ℕ) → are_bytes kind ≡ true → AreOfKind kind bytes → ReadAlike (reading_of_kind kind bytes) (of_utf8 bytes)
bytes-alike utf8 bytes are all = record { points = refl; offsets = refl }
bytes-alike ascii bytes are all = record { points = sym (chars-IsAscii bytes all); offsets = λ i p. ascii-offset bytes all p i }
bytes-alike utf16 bytes are all = absurd cc
bytes-alike ucs2 bytes are all = absurd cc

-- and the text may be cut at each place
pub place-cut : (kind : Kind) (bytes : List ℕ) → are_bytes kind ≡ true → AreOfKind kind bytes → (p : ℕ) → p ≤ length (reading_of_kind kind bytes).points
    → IsCharBoundary bytes (offset (reading_of_kind kind bytes) p)
place-cut utf8 bytes are all p room = offset_is_boundary bytes all p
place-cut ascii bytes are all p room = IsCharBoundary-from_ascii bytes (offset (of_ascii bytes) p) all (rw (single_offset bytes p room) room)
place-cut utf16 bytes are all p room = absurd cc
place-cut ucs2 bytes are all p room = absurd cc
