-- What a one-character loop repeats, at places.
use lib.Pointwise.{bytes_decides}
use Rattle.std.specs.Prelude.{chars, encode_utf8, slice_get, option_and_then}
use Rattle.std.specs.Str.{encode_utf8_all}
use Rattle.std.proofs.Common.{◌≡◌, ℕ, Bool, true, false, List, length, Option, Some, None, if◌then◌else◌, option_map, sym, ap, ◌∙◌, arith}
use Rattle.std.proofs.lemmas.Bool.{and_parts}
use Rattle.std.proofs.lemmas.List.{append-nil}
use Rattle.std.proofs.lemmas.Str.{length-encode, len_utf8_bounds}
use Rattle.regress_meaning.specs.Text.{same_text}
use Rattle.regress_meaning.specs.Meaning.{Direction, beside}
use Rattle.regress_meaning.specs.Offsets.{Reading, offset}
use Rattle.regress_meaning.specs.Inputs.{Input, Tells, context_of}
use Rattle.regress_meaning.specs.Steps.{passed, literal}
use Rattle.regress_front_nodes.specs.Singles.{is_one_character}
use Rattle.regress_front_nodes.specs.WellFormed.{AreCharacters}
use Rattle.regress_front_nodes.specs.ByteInputs.{TellsBytes, placed}
use Rattle.regress_front_nodes.specs.TreeMeaning.{bracket_has}
use Rattle.regress_engine_insn.specs.Instructions.{Instruction, Program}
use Rattle.regress_engine_insn.specs.Instructions as code
use Rattle.regress_engine_insn.proofs.LiteralLemmas.{one-character}
use Rattle.regress_engine_runs.specs.States.{Marks}
use Rattle.regress_engine_runs.specs.Runs.{advance}
use Rattle.regress_engine_runs.specs.Meets.{IsAtPlace}
use Rattle.regress_engine_runs.specs.Closed.{Fits, takes_character}
use Rattle.regress_engine_runs.proofs.Literals.{place-on, beside-fits}
use Rattle.regress_engine_runs.proofs.Literals as literals

-- bytes of one character are whole characters
pub one-whole : (bs : List ℕ) → is_one_character bs ≡ true → AreCharacters bs
one-whole bs e =
    let all = and_parts _ _ e in
    let first = and_parts _ _ all.0 in
    let spelled = (bytes_decides (encode_utf8_all (chars bs)) bs).0 all.1 in
    let (c, is) = one-character bs e in
    let size = ap length (sym spelled ∙ ap encode_utf8_all is) ∙ ap length (append-nil (encode_utf8 c)) in
    let bounds = (len_utf8_bounds c).0 in
    (omega (arith, size, length-encode c, bounds), (chars bs, (first.1, spelled)))

module _ (input : Input) (reading : Reading) (told : Tells reading input) where
  -- bytes of characters
  literal-place : TellsBytes reading input → (dir : Direction) (bs : List ℕ) → AreCharacters bs → (o q : ℕ) → IsAtPlace reading o
      → literal input dir bs o ≡ Some q → IsAtPlace reading q
  literal-place bytes dir bs whole o q (p, room, e) found =
      by_beside (beside (context_of reading input) dir (length (chars bs)) p) (beside-fits (context_of reading input) dir (length (chars bs)) p room)
      (sym (bytes.literal dir bs whole p room) ∙ ap (literal input dir bs) (sym e) ∙ found)
    where
      by_beside : (x : Option (List ℕ × ℕ)) → literals.Fits (context_of reading input) dir p x
          → option_map (offset reading) (placed (chars bs) x) ≡ Some q → IsAtPlace reading q
      by_beside None fits f = absurd (grind arith)
      by_beside (Some (ds, r)) fits f = by_test (same_text (chars bs) ds) f
        where
          by_test : (b : Bool) → option_map (offset reading) (if b then Some r else None) ≡ Some q → IsAtPlace reading q
          by_test true f = (r, fits.0, let g : offset reading r ≡ q = cc in sym g)
          by_test false f = absurd (grind arith)

  module _ (program : Program) (bytes : program.units ≡ false → TellsBytes reading input) where
    -- what a one-character loop repeats ends at a place
    pub body-place : (at : ℕ) (i : Instruction) (dir : Direction) (groups : List Marks) (o q : ℕ) → Fits program at i → takes_character i ≡ true → IsAtPlace reading o
        → advance program input i dir groups o ≡ Some q → IsAtPlace reading q
    body-place at (code.char c) dir groups o q fits takes place e = place-on input reading told dir _ o q place e
    body-place at (code.char_set cs) dir groups o q fits takes place e = place-on input reading told dir _ o q place e
    body-place at (code.byte_set bs) dir groups o q fits takes place e = place-on input reading told dir _ o q place e
    body-place at (code.byte_seq bs) dir groups o q fits takes place e =
        literal-place (bytes fits) dir bs (one-whole bs takes) o q place e
    body-place at code.any dir groups o q fits takes place e = place-on input reading told dir (λ c. true) o q place e
    body-place at code.any_in_line dir groups o q fits takes place e = place-on input reading told dir _ o q place e
    body-place at (code.bracket k) dir groups o q fits takes place e = by_bracket (slice_get program.brackets k) e
      where
        by_bracket : (x : Option (Bool × List (ℕ × ℕ))) → option_and_then (λ b. passed (bracket_has b.0 b.1) (input.next dir o)) x ≡ Some q → IsAtPlace reading q
        by_bracket None f = absurd (grind arith)
        by_bracket (Some b) f = place-on input reading told dir (bracket_has b.0 b.1) o q place f
    body-place at (code.ascii_bracket cs) dir groups o q fits takes place e = place-on input reading told dir _ o q place e
    body-place at _ dir groups o q fits takes place e = absurd (grind arith)

-- it fits a program at each address
pub fits-anywhere : (program : Program) (at : ℕ) (i : Instruction) → Fits program at i → takes_character i ≡ true → Fits program 0 i
fits-anywhere program at (code.char c) fits takes = fits
fits-anywhere program at (code.char_set cs) fits takes = fits
fits-anywhere program at (code.byte_set bs) fits takes = fits
fits-anywhere program at (code.byte_seq bs) fits takes = fits
fits-anywhere program at code.any fits takes = fits
fits-anywhere program at code.any_in_line fits takes = fits
fits-anywhere program at (code.bracket k) fits takes = fits
fits-anywhere program at (code.ascii_bracket cs) fits takes = fits
fits-anywhere program at _ fits takes = absurd (grind arith)
