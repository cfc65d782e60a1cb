-- The instructions of a literal: of one character they are one.
use Rattle.std.specs.Prelude.{chars, encode_utf8}
use Rattle.std.specs.Str.{encode_utf8_all}
use Rattle.std.proofs.Common.{◌≡◌, ℕ, zero, suc, ◌<◌, ◌≤◌, Bool, true, false, List, [], ◌∷◌, ◌++◌, length, map, take, drop, if◌then◌else◌, refl, sym, ap, ◌∙◌, arith}
use Rattle.std.proofs.lemmas.Bool.{eqb-true, and_parts}
use Rattle.std.proofs.lemmas.List.{append-nil, drop_all, take_all}
use Rattle.std.proofs.lemmas.Str.{encodes-chars, length-encode, len_utf8_bounds}
use Rattle.regress_front_nodes.specs.Forms.{in_reading_order}
use Rattle.regress_front_nodes.specs.Singles.{is_one_character}
use Rattle.regress_front_nodes.specs.WellFormed.{AreCharacters}
use Rattle.regress_engine_insn.specs.Instructions.{Instruction, Program}
use Rattle.regress_engine_insn.specs.Instructions as code
use Rattle.regress_engine_insn.specs.Layout.{most_bytes, chunks, literal_code}

chunks-none : (n : ℕ) → chunks n [] ≡ []
chunks-none zero = refl
chunks-none (suc n) = refl

-- few bytes are one chunk
one-chunk : (bs : List ℕ) → 0 < length bs → length bs ≤ most_bytes → chunks (length bs) bs ≡ bs ∷ []
one-chunk [] some few = absurd (omega arith)
one-chunk (b ∷ bs) some few =
    let whole : take most_bytes (b ∷ bs) ≡ b ∷ bs = take_all most_bytes (b ∷ bs) few in
    let none : drop most_bytes (b ∷ bs) ≡ [] = drop_all most_bytes (b ∷ bs) few in
    (λ i. whole i ∷ chunks (length bs) (none i)) ∙ ap (λ ls. (b ∷ bs) ∷ ls) (chunks-none (length bs))

one_of : (cs : List ℕ) → length cs ≡ 1 → (c : ℕ) × (cs ≡ c ∷ [])
one_of [] e = absurd (omega arith)
one_of (c ∷ []) e = (c, refl)
one_of (c ∷ d ∷ cs) e = absurd (omega arith)

-- the character of a literal of one
pub one-character : (bs : List ℕ) → is_one_character bs ≡ true → (c : ℕ) × (chars bs ≡ c ∷ [])
one-character bs e = one_of (chars bs) (eqb-true (length (chars bs)) 1 (and_parts _ _ (and_parts _ _ e).0).0)

-- a literal of one character is one instruction
pub literal-alone : (program : Program) (b : Bool) (bs : List ℕ) (c : ℕ) → chars bs ≡ c ∷ [] → AreCharacters bs
    → literal_code program b bs ≡ (if program.units then code.char c else code.byte_seq bs) ∷ []
literal-alone program b bs c e whole = by_units program.units
  where
    alone : (b : Bool) (i : Instruction) → in_reading_order b (i ∷ []) ≡ i ∷ []
    alone true i = refl
    alone false i = refl

    spelled : bs ≡ encode_utf8 c ++ []
    spelled = sym (encodes-chars bs whole.1) ∙ ap encode_utf8_all e

    size : length bs ≡ length (encode_utf8 c)
    size = ap length spelled ∙ ap length (append-nil (encode_utf8 c))

    few : length bs ≤ most_bytes
    few = let bounds = (len_utf8_bounds c).1 in omega (arith, size, length-encode c, bounds)

    by_units : (u : Bool) → in_reading_order b (if u then map code.char (chars bs) else map code.byte_seq (chunks (length bs) bs)) ≡ (if u then code.char c else code.byte_seq bs) ∷ []
    by_units true = ap (λ cs. in_reading_order b (map code.char cs)) e ∙ alone b (code.char c)
    by_units false = ap (λ ls. in_reading_order b (map code.byte_seq ls)) (one-chunk bs whole.0 few) ∙ alone b (code.byte_seq bs)
