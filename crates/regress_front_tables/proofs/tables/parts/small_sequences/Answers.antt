use Rattle.std.proofs.Common.{◌≡◌, ℕ, List, Vec, Global, chars, codes, string_bytes, map, rules, ap, ◌∙◌}
use Rattle.std.proofs.lemmas.Str.{chars-IsAscii}
use Rattle.regress_front_tables.specs.Entries.{entry_of}
use Rattle.regress_front_tables.proofs.tables.parts.small_sequences.Goals as goal

pub returns : goal.returns
returns c =
    let key : chars (string_bytes c.in_ok-from_str.field-0) ≡ codes "Emoji_Keycap_Sequence" = ap chars c.in_ok-from_str.ensures.ok ∙ chars-IsAscii _ (search rules) in
    let shown : Vec (Vec ℕ Global) Global → List (List ℕ) = λ v. map (λ s. s.items) v.items in
    ap (map (entry_of shown)) c.in_ok-vec.ensures.items ∙ rw (key, c.in_ok-keycaps.ensures)
