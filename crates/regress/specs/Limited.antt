-- What is compiled where a program may have no more instructions than a limit.
use Rattle.std.specs.Prelude.{ℕ, ◌*◌, ◌≤◌, List, length}
use Rattle.regress_meaning.specs.Table.{Table}
use Rattle.regress_meaning.specs.Flags.{Options}
use Rattle.regress_meaning.specs.Pattern.{Pattern}
use Rattle.regress_meaning.specs.Grammar.{Spells}
use Rattle.regress_meaning.specs.Limits.{WithinLimits}
use Rattle.regress_front.specs.Costs.{whole_cost, IsLarger}
use Rattle.regress_errors.specs.declared.errors.CompileError.{CompileError}
use Rattle.regress_errors.specs.declared.errors.CompileError.TheVariants as error
use Rattle.regress_programs.specs.Refusing.{MayRefuseMade}
use Rattle.regress.specs.declared.api.Regex.{Regex}
use Rattle.regress.specs.Standing.{StandsFor, StandsInUnits}

-- How many instructions a program of a pattern may have, in bytes or in units: two for each node of what it costs.
abbrev pub most_instructions : Table → Pattern → ℕ
most_instructions t p = 2 * whole_cost t p

-- The text spells a pattern within the limits, a program of what is made of it may have no more instructions than the limit, and the
-- regex stands for that.
abbrev pub StandsWithin : ℕ → (Pattern → Pattern) → Table → Options → List ℕ → Regex → Type 0
StandsWithin limit made t o text r =
    (p : Pattern) × Spells t o text p × WithinLimits p × (most_instructions t (made p) ≤ limit) × StandsFor r t o (made p) × StandsInUnits r t o (made p)

-- each of its two programs has at most so many instructions
abbrev pub IsSmall : ℕ → Regex → Type 0
IsSmall limit r = (length r.compiled.byte_program.insns.items ≤ limit) × (length r.compiled.unit_program.insns.items ≤ limit)

-- A refusal that may be met where a program of what is made of a pattern may have no more instructions than a limit: that it may
-- have more, or one of the pattern that may be met without a limit.
abbrev pub MayRefuseWithin : ℕ → (Pattern → Pattern) → Table → Options → List ℕ → CompileError → Type 0
MayRefuseWithin limit made t o text error.PastLimit = IsLarger (λ p. most_instructions t (made p)) limit t o text
MayRefuseWithin limit made t o text (error.Pattern refused) = MayRefuseMade made t o text refused
MayRefuseWithin limit made t o text (error.Flags refused) = ⊥
MayRefuseWithin limit made t o text (error.Table refused) = ⊥
