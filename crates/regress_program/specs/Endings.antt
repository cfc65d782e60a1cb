-- How the program ends, and what it says then.
use Rattle.std.specs.Prelude.{ℕ, List, [], ◌∷◌, ◌++◌, codes, Result, Ok, Err}
use Rattle.regress_program.specs.declared.error.ToolError.{ToolError}
use Rattle.regress_program.specs.declared.ending.Ending.{Ending}
use Rattle.regress_program.specs.declared.ending.Ending.TheVariants.{Done, WrongWords, Failed}
use Rattle.regress_program.specs.Errors.{message_of, status_of}

-- how the program ends behind what `run` answers
abbrev pub ending_of : Result (Unit {0}) ToolError → Ending
ending_of (Ok x) = Done
ending_of (Err e) = Failed e

-- the exit status
abbrev pub exit_status : Ending → ℕ
exit_status Done = 0
exit_status WrongWords = 2
exit_status (Failed e) = status_of e

-- what is written to standard error: a line, or nothing where all went well
abbrev pub told_text : Ending → List ℕ
told_text Done = []
told_text WrongWords = codes "usage: regress_tool FLAGS PATTERN" ++ 10 ∷ []
told_text (Failed e) = message_of e ++ 10 ∷ []
