-- What is written for an error.
use Rattle.std.specs.Prelude.{ℕ, List, ◌++◌, codes, encode_utf8}
use Rattle.regress_front_core.specs.declared.error.Error.{Error}
use Rattle.regress_front_core.specs.declared.error.Error.TheVariants.{Syntax, TooDeep, TooManyGroups, TooManyLoops, TooLarge, OutOfMemory}
use Rattle.regress_front_core.specs.declared.script_flags.FlagError.{FlagError}
use Rattle.regress_front_core.specs.declared.script_flags.FlagError.TheVariants.{Unknown, Repeated, BothUnicodeModes}

-- why a pattern is refused, or a search ends early
abbrev pub error_text : Error → List ℕ
error_text (Syntax text) = text.now
error_text TooDeep = codes "pattern is nested too deeply"
error_text TooManyGroups = codes "too many capture groups"
error_text TooManyLoops = codes "too many quantifiers"
error_text TooLarge = codes "program is too large"
error_text OutOfMemory = codes "out of memory"

-- why a word is no word of flags
abbrev pub flag_error_text : FlagError → List ℕ
flag_error_text (Unknown letter) = codes "unknown flag " ++ encode_utf8 letter
flag_error_text (Repeated letter) = codes "repeated flag " ++ encode_utf8 letter
flag_error_text BothUnicodeModes = codes "both flags u and v"
