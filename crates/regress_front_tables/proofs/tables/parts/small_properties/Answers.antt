use Rattle.std.proofs.Common.{◌≡◌, [], ◌∷◌, chars, codes, string_bytes, map, rules, ap, ◌∙◌}
use Rattle.std.proofs.lemmas.Str.{chars-IsAscii}
use Rattle.regress_front_sets.specs.Intervals.{ends_of}
use Rattle.regress_front_tables.specs.Entries.{entry_of}
use Rattle.regress_front_tables.proofs.tables.parts.small_properties.Goals as goal

pub returns : goal.returns
returns c =
    let any : chars (string_bytes c.in_ok-from_str.field-0) ≡ codes "Any" = ap chars c.in_ok-from_str.ensures.ok ∙ chars-IsAscii _ (search rules) in
    let ascii : chars (string_bytes c.in_ok-from_str-2.field-0) ≡ codes "ASCII" = ap chars c.in_ok-from_str-2.ensures.ok ∙ chars-IsAscii _ (search rules) in
    let digit : chars (string_bytes c.in_ok-from_str-3.field-0) ≡ codes "ASCII_Hex_Digit" = ap chars c.in_ok-from_str-3.ensures.ok ∙ chars-IsAscii _ (search rules) in
    let in_any : ends_of c.in_ok-all.all.items ≡ (0, 0x10_FFFF) ∷ [] = search rules in
    let in_ascii : ends_of c.in_ok-ascii.ascii.items ≡ (0, 0x7F) ∷ [] = search rules in
    let in_digit : ends_of c.in_ok-hexadecimal_digits.hexadecimal_digits.items ≡ (0x30, 0x39) ∷ (0x41, 0x46) ∷ (0x61, 0x66) ∷ [] = search rules in
    ap (map (entry_of (λ v. ends_of v.items))) c.in_ok-vec.ensures.items ∙ rw (any, ascii, digit, in_any, in_ascii, in_digit)
