-- The numbers of errors, and what calls answer as numbers.
use Rattle.std.specs.Prelude.{ℕ, ℤ, Bool, true, false, pos, negsuc, List, [], ◌∷◌, Option, Some, None, Result, Ok, Err, slice_get}
use Rattle.regress_front_core.specs.declared.error.Error.{Error}
use Rattle.regress_front_core.specs.declared.error.Error.TheVariants as pattern
use Rattle.regress_front_core.specs.declared.script_flags.FlagError.{FlagError}
use Rattle.regress_front_core.specs.declared.script_flags.FlagError.TheVariants as flag
use Rattle.regress_front_tables.specs.declared.tables.law.TableError.{TableError}
use Rattle.regress_front_tables.specs.declared.tables.law.TableError.TheVariants as tables
use Rattle.regress_engine_exec.specs.declared.error.SearchError.{SearchError}
use Rattle.regress_engine_exec.specs.declared.error.SearchError.TheVariants as search
use Rattle.regress_errors.specs.declared.errors.CompileError.{CompileError}
use Rattle.regress_errors.specs.declared.errors.CompileError.TheVariants as compiling
use Rattle.regress_call_errors.specs.declared.call_error.CallError.{CallError}
use Rattle.regress_call_errors.specs.declared.call_error.CallError.TheVariants.{OutOfMemory, WrongHandle, Null, NotUtf8, BadStart, NoRoom, Syntax, TooDeep, TooManyGroups, TooManyLoops, TooLarge, UnknownFlag, RepeatedFlag, BothUnicodeFlags, NoGroup, BrokenTables, SameHandle, PastLimit, TooManySteps}

-- the number of an error: its code is one less than the number below zero
abbrev pub number_of : CallError → ℕ
number_of OutOfMemory = 0
number_of WrongHandle = 1
number_of Null = 2
number_of NotUtf8 = 3
number_of BadStart = 4
number_of NoRoom = 5
number_of Syntax = 6
number_of TooDeep = 7
number_of TooManyGroups = 8
number_of TooManyLoops = 9
number_of TooLarge = 10
number_of UnknownFlag = 11
number_of RepeatedFlag = 12
number_of BothUnicodeFlags = 13
number_of NoGroup = 14
number_of BrokenTables = 15
number_of SameHandle = 16
number_of PastLimit = 17
number_of TooManySteps = 18

-- what an error of the library is called
abbrev pub of_error : Error → CallError
of_error (pattern.Syntax text) = Syntax
of_error pattern.TooDeep = TooDeep
of_error pattern.TooManyGroups = TooManyGroups
of_error pattern.TooManyLoops = TooManyLoops
of_error pattern.TooLarge = TooLarge
of_error pattern.OutOfMemory = OutOfMemory

-- what an error of flags is called
abbrev pub of_flag_error : FlagError → CallError
of_flag_error (flag.Unknown letter) = UnknownFlag
of_flag_error (flag.Repeated letter) = RepeatedFlag
of_flag_error flag.BothUnicodeModes = BothUnicodeFlags

-- what an error of tables is called
abbrev pub of_table_error : TableError → CallError
of_table_error (tables.Broken law c) = BrokenTables
of_table_error tables.OutOfMemory = OutOfMemory

-- what an error of compiling is called
abbrev pub of_compile_error : CompileError → CallError
of_compile_error (compiling.Pattern e) = of_error e
of_compile_error (compiling.Flags e) = of_flag_error e
of_compile_error (compiling.Table e) = of_table_error e
of_compile_error compiling.PastLimit = PastLimit

-- what an error of a search with a bound is called
abbrev pub of_search_error : SearchError → CallError
of_search_error search.OutOfMemory = OutOfMemory
of_search_error search.TooManySteps = TooManySteps

-- what a call answers as a number: a count, or the code of an error
abbrev pub code_of : Result ℕ CallError → ℤ
code_of (Ok n) = pos n
code_of (Err e) = negsuc (number_of e)

-- the same of a call that tells whether something holds
abbrev pub truth_code : Result Bool CallError → ℤ
truth_code (Ok true) = pos 1
truth_code (Ok false) = pos 0
truth_code (Err e) = negsuc (number_of e)

-- the same of a call that only does something
abbrev pub done_code : Result Unit CallError → ℤ
done_code (Ok u) = pos 0
done_code (Err e) = negsuc (number_of e)

-- the fact holds of the count, where a number is one
abbrev pub IfCount : ℤ → (ℕ → Type 0) → Type 0
IfCount (pos n) P = P n
IfCount (negsuc k) P = Unit {0}

-- the errors by their numbers
abbrev pub errors : List CallError
errors =
    OutOfMemory ∷ WrongHandle ∷ Null ∷ NotUtf8 ∷ BadStart ∷ NoRoom ∷ Syntax ∷ TooDeep ∷ TooManyGroups ∷ TooManyLoops ∷ TooLarge
    ∷ UnknownFlag ∷ RepeatedFlag ∷ BothUnicodeFlags ∷ NoGroup ∷ BrokenTables ∷ SameHandle ∷ PastLimit ∷ TooManySteps ∷ []

-- there is an error, and the fact holds of it
abbrev pub HoldsOfError : Option CallError → (CallError → Type 0) → Type 0
HoldsOfError None P = ⊥
HoldsOfError (Some e) P = P e

-- the fact holds of the error, where a number is below zero; so it is the code of one
abbrev pub IfError : ℤ → (CallError → Type 0) → Type 0
IfError (pos n) P = Unit {0}
IfError (negsuc k) P = HoldsOfError (slice_get errors k) P
