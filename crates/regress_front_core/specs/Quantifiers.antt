-- The bounds of quantifiers.
use Rattle.std.specs.Prelude.{ℕ}
use Rattle.std.specs.Option.{unwrap_or}
use Rattle.regress_meaning.specs.Tokens.{greatest}
use Rattle.regress_front_core.specs.declared.quantifier.Quantifier.{Quantifier}

-- the greatest number of times that a quantifier allows
abbrev pub most : Quantifier → ℕ
most q = unwrap_or q.max greatest
