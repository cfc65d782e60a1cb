-- What is written for an error.
use Rattle.std.specs.Prelude.{ℕ, List, codes}
use Rattle.regress_engine_exec.specs.declared.error.SearchError.{SearchError}
use Rattle.regress_engine_exec.specs.declared.error.SearchError.TheVariants.{OutOfMemory, TooManySteps}

-- why a search with a budget ends early
abbrev pub search_error_text : SearchError → List ℕ
search_error_text OutOfMemory = codes "out of memory"
search_error_text TooManySteps = codes "too many steps"
