-- What a search may skip.
use Rattle.std.specs.Prelude.{◌≡◌, ℕ, ◌≤◌, false, Option, Some, None}
use Rattle.regress_engine_input.specs.Views.{View, are_bytes, input_of, reading_of}
use Rattle.regress_engine_prefix.specs.Starts.{BeginsAs, is_arbitrary, IsPlain}
use Rattle.regress_engine_prefix.specs.declared.start.StartPredicate.{StartPredicate}
use Rattle.regress_engine_insn.specs.Instructions.{Program}
use Rattle.regress_engine_runs.specs.States.{Whole}
use Rattle.regress_engine_runs.specs.Items.{Answers, Finds}
use Rattle.regress_engine_runs.specs.Meets.{IsAtPlace}
use Rattle.regress_engine_search.specs.Answering.{FindsOn}

-- A search for a program in a text may skip the places at which the text does not go on as a start predicate says: no run from
-- them has an answer. Where the text is of units it is plain, and unless it says nothing the text goes on so at places alone.
pub record MaySkip (program : Program) (start : StartPredicate) (v : View) : Type 0 where
  pub begins : (o : ℕ) → IsAtPlace (reading_of v) o → (w : Whole) → Answers program (input_of v) o (Some w) → BeginsAs start v.units o
  pub plain : are_bytes v.kind ≡ false → IsPlain start
  pub places : is_arbitrary start ≡ false → (o : ℕ) → BeginsAs start v.units o → IsAtPlace (reading_of v) o

-- A search from one offset reaches another, that of a place: whatever search finds what one from the first does finds what one
-- from the second does.
pub record Reaches (program : Program) (v : View) (from at : ℕ) : Type 0 where
  pub low : from ≤ at
  pub place : IsAtPlace (reading_of v) at
  pub on : (offset : ℕ) → FindsOn program (input_of v) offset from → FindsOn program (input_of v) offset at

-- A search from an offset reaches the next start; where there is none, it finds nothing.
abbrev pub IsNextStart : Program → View → (from : ℕ) → Option ℕ → Type 0
IsNextStart program v from None = (offset : ℕ) → FindsOn program (input_of v) offset from → Finds program (input_of v) offset None
IsNextStart program v from (Some at) = Reaches program v from at
