-- When a search has too few steps.
use Rattle.std.specs.Prelude.{ℕ, List, Some}
use Rattle.regress_meaning.specs.Flags.{is_unicode}
use Rattle.regress_front_core.specs.FlagWords.{options}
use Rattle.regress_front.specs.TableViews.{table}
use Rattle.regress_engine_input.specs.Views.{Kind, View}
use Rattle.regress_engine_code.specs.declared.compiled.CompiledRegex.{CompiledRegex}
use Rattle.regress_programs.specs.declared.slots.Anchored.{Anchored}
use Rattle.regress_programs.specs.Counting.{Counts}

-- what a program reads of bytes or units of a kind: it goes by its own table and mode
abbrev pub seen_by : CompiledRegex → Kind → List ℕ → View
seen_by compiled kind units = record { kind = kind; units = units; table = table compiled.tables; unicode = is_unicode (options compiled.flags) }

-- The runs of a search from an offset take as many steps as there may be, or more: all of these were counted.
abbrev pub TakesAll : Anchored → CompiledRegex → View → (at steps : ℕ) → Type 0
TakesAll anchored compiled v at steps = Counts anchored compiled v at (Some steps) (Some 0)
