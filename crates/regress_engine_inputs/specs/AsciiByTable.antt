-- Over ASCII the case of a table is that of ASCII.
use Rattle.std.specs.Prelude.{slice_get}
use Rattle.std.specs.Str.{IsAscii}
use Rattle.std.proofs.Common.{◌≡◌, ℕ, zero, suc, ◌<◌, Bool, true, false, List, Option, Some, None, option_map, refl, sym, ap, arith}
use Rattle.std.proofs.lemmas.Option.{get_or_from_slice_get}
use Rattle.regress_meaning.specs.Table.{canon}
use Rattle.regress_meaning.specs.TableParts.{TableParts, IsLawful, table_of}
use Rattle.regress_meaning.specs.Meaning.{Direction, Forward, Backward}
use Rattle.regress_meaning.specs.Inputs.{single_next}
use Rattle.regress_engine_matchers.specs.AsciiCase.{ascii_canon}

-- below 80 the table has the case of ASCII
ascii-canon : (parts : TableParts) → IsLawful parts → (unicode : Bool) (c : ℕ) → c < 0x80 → ascii_canon (table_of parts) unicode c ≡ canon (table_of parts) unicode c
unfolding canon
ascii-canon parts lawful true c h = sym (lawful.ascii_case c h).0
ascii-canon parts lawful false c h = sym (lawful.ascii_case c h).1

-- what is read is ASCII
read_ascii : (bytes : List ℕ) → IsAscii bytes → (dir : Direction) (o c : ℕ) → option_map (λ x. x.0) (single_next bytes dir o) ≡ Some c → c < 0x80
read_ascii bytes ascii Forward o c h = by_byte (slice_get bytes o) refl
  where
    by_byte : (m : Option ℕ) → slice_get bytes o ≡ m → c < 0x80
    by_byte None e = let none = ap (λ m. option_map (λ (x : ℕ × ℕ). x.0) (option_map (λ (b : ℕ). (b, suc o)) m)) e in absurd (cc (none, h))
    by_byte (Some b) e =
        let found = ap (λ m. option_map (λ (x : ℕ × ℕ). x.0) (option_map (λ (b : ℕ). (b, suc o)) m)) e in
        let same : b ≡ c = cc (found, h) in
        let byte = get_or_from_slice_get bytes o b 0 e in
        let low = ascii o in
        omega (arith, same, byte, low)
read_ascii bytes ascii Backward zero c h = absurd (cc h)
read_ascii bytes ascii Backward (suc o) c h = by_byte (slice_get bytes o) refl
  where
    by_byte : (m : Option ℕ) → slice_get bytes o ≡ m → c < 0x80
    by_byte None e = let none = ap (λ m. option_map (λ (x : ℕ × ℕ). x.0) (option_map (λ (b : ℕ). (b, o)) m)) e in absurd (cc (none, h))
    by_byte (Some b) e =
        let found = ap (λ m. option_map (λ (x : ℕ × ℕ). x.0) (option_map (λ (b : ℕ). (b, o)) m)) e in
        let same : b ≡ c = cc (found, h) in
        let byte = get_or_from_slice_get bytes o b 0 e in
        let low = ascii o in
        omega (arith, same, byte, low)

-- so what it has alike with others is by the table
pub ascii-by_table : (parts : TableParts) → IsLawful parts → (unicode : Bool) (bytes : List ℕ) → IsAscii bytes → (dir : Direction) (o c : ℕ)
    → option_map (λ x. x.0) (single_next bytes dir o) ≡ Some c → ascii_canon (table_of parts) unicode c ≡ canon (table_of parts) unicode c
ascii-by_table parts lawful unicode bytes ascii dir o c h = ascii-canon parts lawful unicode c (read_ascii bytes ascii dir o c h)
