-- Why reading a pattern is refused, but for its syntax.
use Rattle.regress_front_core.specs.declared.error.Error.{Error}
use Rattle.regress_front_core.specs.declared.error.Error.TheVariants.{Syntax}

-- the error does not say that a text is no pattern
abbrev pub IsNoSyntaxError : Error → Type 0
IsNoSyntaxError (Syntax text) = ⊥
IsNoSyntaxError _ = Unit {0}
