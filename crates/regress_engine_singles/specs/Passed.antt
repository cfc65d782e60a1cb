-- Places from which nothing is found.
use Rattle.std.specs.Prelude.{◌≡◌, ℕ, ◌<◌, ◌≤◌, Bool}
use Rattle.regress_meaning.specs.Meaning.{Forward, Backward, word_at}
use Rattle.regress_meaning.specs.Steps.{point}
use Rattle.regress_engine_input.specs.Views.{View, input_of, reading_of}
use Rattle.regress_engine_insn.specs.Instructions.{Program}
use Rattle.regress_engine_runs.specs.Meets.{IsAtPlace}
use Rattle.regress_engine_search.specs.Answering.{FindsOn}
use Rattle.regress_engine_singles.specs.Failing.{IsDead}

-- From one offset on and up to another, which is that of a place too, no run has an answer: what a search from the second finds
-- is what one from the first does.
pub record PassesOver (program : Program) (v : View) (start past : ℕ) : Type 0 where
  pub on : (offset : ℕ) → FindsOn program (input_of v) offset start → FindsOn program (input_of v) offset past
  pub place : IsAtPlace (reading_of v) past
  pub further : start < past

-- From one offset on and up to another no word begins or ends, and what is found from either is the same; whether a character
-- of a word stands before the other is told.
pub record IsInside (program : Program) (v : View) (folded : Bool) (start at : ℕ) (was : Bool) : Type 0 where
  pub on : (offset : ℕ) → FindsOn program (input_of v) offset start → FindsOn program (input_of v) offset at
  pub place : IsAtPlace (reading_of v) at
  pub further : start ≤ at
  pub before : was ≡ word_at v.table folded (point (input_of v) Backward at)

-- From one offset on and up to another nothing is found, and what is found from either is the same; from the other no match can be reached.
pub record IsInLine (program : Program) (v : View) (start at : ℕ) : Type 0 where
  pub on : (offset : ℕ) → FindsOn program (input_of v) offset start → FindsOn program (input_of v) offset at
  pub place : IsAtPlace (reading_of v) at
  pub further : start ≤ at
  pub dead : IsDead program (input_of v) Forward 0 at
