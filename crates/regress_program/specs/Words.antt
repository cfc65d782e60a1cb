-- What the words of a command line ask for.
use Rattle.std.specs.Prelude.{List, [], ◌∷◌, Result, Ok, Err}
use Rattle.std.specs.declared.string.String.{String}
use Rattle.std.specs.declared.alloc.Global.{Global}
use Rattle.regress_program.specs.declared.words.Request.{Request}
use Rattle.regress_program.specs.declared.ending.Ending.{Ending}
use Rattle.regress_program.specs.declared.ending.Ending.TheVariants.{WrongWords}

-- exactly two words behind the program's name are a request: the flags and the pattern
abbrev pub request_of : List (String Global) → Result Request Ending
request_of (name ∷ flags ∷ pattern ∷ []) = Ok (record { flags = flags; pattern = pattern })
request_of _ = Err WrongWords
