-- Why the program ends without its whole output, and what it says then.
use Rattle.std.specs.Prelude.{ℕ, List, codes}
use Rattle.regress_front_core.specs.declared.error.Error as regress
use Rattle.regress_front_core.specs.declared.error.Error.TheVariants as library
use Rattle.regress_front.specs.ErrorTexts.{error_text}
use Rattle.regress_program.specs.declared.error.ToolError.{ToolError}
use Rattle.regress_program.specs.declared.error.ToolError.TheVariants as program

-- the message of an error
abbrev pub message_of : ToolError → List ℕ
message_of program.NotUtf8 = codes "input is not UTF-8"
message_of program.Read = codes "read failed"
message_of program.Write = codes "write failed"
message_of program.OutOfMemory = codes "out of memory"
message_of (program.Pattern e) = error_text e

-- the exit status of an error
abbrev pub status_of : ToolError → ℕ
status_of (program.Pattern e) = 2
status_of _ = 1

-- the program's error that one of the library is
abbrev pub tool_error_of : regress.Error → ToolError
tool_error_of library.OutOfMemory = program.OutOfMemory
tool_error_of e = program.Pattern e
