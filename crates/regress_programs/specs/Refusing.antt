-- Why a pattern is not compiled.
use Rattle.std.specs.Prelude.{ℕ, Bool, List}
use Rattle.regress_meaning.specs.Table.{Table}
use Rattle.regress_meaning.specs.Flags.{Options, is_unicode}
use Rattle.regress_meaning.specs.Pattern.{Pattern}
use Rattle.regress_meaning.specs.WholeText.{whole_text}
use Rattle.regress_front_core.specs.declared.error.Error.{Error}
use Rattle.regress_front_core.specs.declared.error.Error.TheVariants.{TooLarge}
use Rattle.regress_front.specs.Costs.{whole_cost, IsLarger}
use Rattle.regress_front_costs.specs.declared.limit.LimitError.{LimitError}
use Rattle.regress_front_costs.specs.declared.limit.LimitError.TheVariants.{PastLimit, Refused}
use Rattle.regress_front.specs.Refusals as reading
use Rattle.regress_front.specs.Trees.{Tree}
use Rattle.regress_front.specs.Sizes.{loops}
use Rattle.regress_engine_insn.specs.Counts.{count}
use Rattle.regress_engine_code.specs.Written.{AreTooMany}
use Rattle.regress_programs.specs.Programs.{IsTreeFor}

-- A program of what is made of the pattern that the text spells, in bytes or in units, passes its count of instructions or of
-- loops.
pub record PassesCount (made : Pattern → Pattern) (table : Table) (o : Options) (text : List ℕ) : Type 0 where
  pub pattern : Pattern
  pub node : Tree
  pub units : Bool
  pub of_text : IsTreeFor made table o text pattern node
  pub many : AreTooMany (count units table (is_unicode o) node) (loops node)

-- A refusal that may be met when what is made of a pattern is compiled: one of its reading, or that a program passes its count.
abbrev pub MayRefuseMade : (Pattern → Pattern) → Table → Options → List ℕ → Error → Type 0
MayRefuseMade made table o text TooLarge = PassesCount made table o text
MayRefuseMade made table o text e = reading.MayRefuse table o text e

-- one that the pattern itself may meet
abbrev pub MayRefuseRegex : Table → Options → List ℕ → Error → Type 0
MayRefuseRegex = MayRefuseMade (λ p. p)

-- one that the pattern over a whole text may meet
abbrev pub MayRefuseWholeText : Table → Options → List ℕ → Error → Type 0
MayRefuseWholeText = MayRefuseMade whole_text

-- A refusal that may be met where what is made of a pattern may cost no more than a limit: that it costs more, or one that may be
-- met without a limit.
abbrev pub MayRefuseMadeWithin : ℕ → (Pattern → Pattern) → Table → Options → List ℕ → LimitError → Type 0
MayRefuseMadeWithin limit made table o text PastLimit = IsLarger (λ p. whole_cost table (made p)) limit table o text
MayRefuseMadeWithin limit made table o text (Refused e) = MayRefuseMade made table o text e
