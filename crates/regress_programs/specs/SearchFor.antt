-- What an executor of a regex searches for.
use Rattle.std.specs.Prelude.{◌≡◌, ℕ, List}
use Rattle.regress_engine_code.specs.declared.compiled.CompiledRegex.{CompiledRegex}
use Rattle.regress_engine_search.specs.Search.{Search, IsMadeOf}

-- The search is with this program, of these bytes or units, with the program's tables and mode.
pub record IsSearchFor (compiled : CompiledRegex) (units : List ℕ) (s : Search) : Type 0 where
  pub over : s.view.units ≡ units
  pub program : s.compiled ≡ compiled
  pub made : IsMadeOf s.compiled s.view
