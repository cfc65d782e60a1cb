-- What holds of each instruction that takes characters holds of those of sets, literals and strings.
use Rattle.std.specs.Prelude.{chars}
use Rattle.std.proofs.Common.{◌≡◌, ℕ, Bool, true, false, List, [], ◌∷◌, length, map, All, if◌then◌else◌, refl, subst}
use Rattle.std.proofs.lemmas.List.Elements.{All-nil, All-cons, All-append, All-map}
use Rattle.regress_front_nodes.specs.Trees.{Tree}
use Rattle.regress_front_nodes.specs.Trees as tree
use Rattle.regress_front_nodes.specs.Forms.{in_reading_order}
use Rattle.regress_front_nodes.proofs.SequenceLemmas.{in_reading_order-map}
use Rattle.regress_engine_insn.specs.Instructions.{Instruction, Program}
use Rattle.regress_engine_insn.specs.Instructions as code
use Rattle.regress_engine_insn.specs.Layout.{char_set_code, byte_set_code, chunks, literal_code, piece_code, pieces_code}

-- It holds of each instruction of a program that takes characters, whichever they are, and of the one that fails. Bytes stand
-- in programs of bytes.
pub record OfTaking (program : Program) (P : Instruction → Type 0) : Type 0 where
  pub char : (c : ℕ) → P (code.char c)
  pub char_set : (cs : List ℕ) → P (code.char_set cs)
  pub byte_set : (bs : List ℕ) → P (code.byte_set bs)
  pub byte_seq : program.units ≡ false → (bs : List ℕ) → P (code.byte_seq bs)
  pub fail : P code.fail

all_of : {A : Type 0} (P : A → Type 0) → ((x : A) → P x) → (xs : List A) → All P xs
all_of P each [] = All-nil P
all_of P each (x ∷ xs) = All-cons P x xs (each x) (all_of P each xs)

module _ (program : Program) (P : Instruction → Type 0) (of : OfTaking program P) where
  pub char_set-taking : (cs : List ℕ) → P (char_set_code cs)
  char_set-taking [] = of.fail
  char_set-taking (a ∷ []) = of.char_set (a ∷ a ∷ a ∷ a ∷ [])
  char_set-taking (a ∷ b ∷ []) = of.char_set (a ∷ b ∷ b ∷ b ∷ [])
  char_set-taking (a ∷ b ∷ c ∷ []) = of.char_set (a ∷ b ∷ c ∷ c ∷ [])
  char_set-taking (a ∷ b ∷ c ∷ d ∷ cs) = of.char_set (a ∷ b ∷ c ∷ d ∷ cs)

  pub byte_set-taking : (units : Bool) (bs : List ℕ) → P (byte_set_code units bs)
  byte_set-taking true bs = char_set-taking bs
  byte_set-taking false [] = of.fail
  byte_set-taking false (a ∷ []) = of.byte_set (a ∷ a ∷ [])
  byte_set-taking false (a ∷ b ∷ bs) = of.byte_set (a ∷ b ∷ bs)

  pub literal-taking : (b : Bool) (bs : List ℕ) → All P (literal_code program b bs)
  literal-taking b bs = by_units program.units refl
    where
      ordered : {A : Type 0} (make : A → Instruction) → ((x : A) → P (make x)) → (xs : List A) → All P (in_reading_order b (map make xs))
      ordered make each xs =
          subst (All P) (in_reading_order-map make b xs)
          (All-map P make (in_reading_order b xs) (all_of (λ x. P (make x)) each (in_reading_order b xs)))

      by_units : (u : Bool) → program.units ≡ u → All P (in_reading_order b (if u then map code.char (chars bs) else map code.byte_seq (chunks (length bs) bs)))
      by_units true units = ordered code.char of.char (chars bs)
      by_units false units = ordered code.byte_seq (of.byte_seq units) (chunks (length bs) bs)

  piece-taking : (b : Bool) (t : Tree) → All P (piece_code program b t)
  piece-taking b (tree.bytes bs) = literal-taking b bs
  piece-taking b (tree.char c) = All-cons P (code.char c) [] (of.char c) (All-nil P)
  piece-taking b (tree.byte_set bs) = All-cons P (byte_set_code program.units bs) [] (byte_set-taking program.units bs) (All-nil P)
  piece-taking b (tree.char_set cs) = All-cons P (char_set_code cs) [] (char_set-taking cs) (All-nil P)
  piece-taking b _ = All-nil P

  pub pieces-taking : (b : Bool) (ts : List Tree) → All P (pieces_code program b ts)
  pieces-taking b [] = All-nil P
  pieces-taking b (t ∷ ts) =
      All-append P (piece_code program b t) (pieces_code program b ts) (piece-taking b t) (pieces-taking b ts)
