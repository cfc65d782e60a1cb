-- Which refusals a pattern may meet.
use Rattle.std.specs.Prelude.{ℕ, List}
use Rattle.regress_meaning.specs.Table.{Table}
use Rattle.regress_meaning.specs.Flags.{Options}
use Rattle.regress_meaning.specs.Limits.{SpellsNone, PassesNesting, PassesGroups, PassesLoops}
use Rattle.regress_front_core.specs.declared.error.Error.{Error}
use Rattle.regress_front_core.specs.declared.error.Error.TheVariants.{Syntax, TooDeep, TooManyGroups, TooManyLoops, TooLarge, OutOfMemory}

-- A refusal that a pattern may meet: as no pattern where the text spells none; under a limit's name where that limit is
-- passed; for memory at any time.
abbrev pub MayRefuse : Table → Options → List ℕ → Error → Type 0
MayRefuse table o text (Syntax message) = SpellsNone table o text
MayRefuse table o text TooDeep = PassesNesting table o text
MayRefuse table o text TooManyGroups = PassesGroups table o text
MayRefuse table o text TooManyLoops = PassesLoops table o text
MayRefuse table o text TooLarge = ⊥
MayRefuse table o text OutOfMemory = Unit {0}
