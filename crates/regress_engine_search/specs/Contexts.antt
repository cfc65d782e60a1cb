-- What is found in the text of a search context, by what is shown of its input.
use Rattle.std.specs.Prelude.{ℕ, List, Option}
use Rattle.regress_engine_input.specs.Views.{View, input_of}
use Rattle.regress_engine_code.specs.Standing.{program_of}
use Rattle.regress_engine_runs.specs.States.{Marks}
use Rattle.regress_engine_search.specs.Answering.{IsAnswer, IsFound}
use Rattle.regress_engine_search.specs.declared.context.SearchContext.{SearchContext}

-- a search from an offset on found an answer between two others, with these groups; or none
abbrev pub IsFoundIn : {I : Type 0} {g : _} → (I → View) → SearchContext I g → (at : ℕ) → Option (ℕ × ℕ) → List Marks → Type 0
IsFoundIn view c at found groups = IsFound (program_of c.program.now) (input_of (view c.input)) at found groups

-- the run from an offset ends at another, with these groups; or it has no answer
abbrev pub IsAnswerIn : {I : Type 0} {g : _} → (I → View) → SearchContext I g → (start : ℕ) → Option ℕ → List Marks → Type 0
IsAnswerIn view c start end groups = IsAnswer (program_of c.program.now) (input_of (view c.input)) start end groups
