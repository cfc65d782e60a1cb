-- What is written for an error.
use Rattle.std.specs.Prelude.{ℕ, List, codes}
use Rattle.regress_front.specs.ErrorTexts.{error_text, flag_error_text}
use Rattle.regress_front.specs.TableTexts.{table_error_text}
use Rattle.regress_errors.specs.declared.errors.CompileError.{CompileError}
use Rattle.regress_errors.specs.declared.errors.CompileError.TheVariants.{Pattern, Flags, Table, PastLimit}
use Rattle.regress_front_costs.specs.declared.limit.LimitError.{LimitError}
use Rattle.regress_front_costs.specs.declared.limit.LimitError.TheVariants as limit

-- what went wrong on the way to a match
abbrev pub compile_error_text : CompileError → List ℕ
compile_error_text (Pattern refused) = error_text refused
compile_error_text (Flags refused) = flag_error_text refused
compile_error_text (Table refused) = table_error_text refused
compile_error_text PastLimit = codes "pattern costs more than its limit"

-- what a refusal under a limit is among these
abbrev pub compile_error_of : LimitError → CompileError
compile_error_of limit.PastLimit = PastLimit
compile_error_of (limit.Refused refused) = Pattern refused
