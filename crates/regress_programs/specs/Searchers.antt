-- What a searcher searches for, and in what.
use Rattle.std.specs.Prelude.{◌≡◌, ℕ, List}
use Rattle.regress_meaning.specs.Flags.{Options}
use Rattle.regress_meaning.specs.Offsets.{Reading}
use Rattle.regress_meaning.specs.Pattern.{Pattern}
use Rattle.regress_meaning.specs.Table.{Table}
use Rattle.regress_front.specs.Trees.{Tree}
use Rattle.regress_engine_input.specs.Views.{View, Kind, reading_of}
use Rattle.regress_engine_code.specs.declared.compiled.CompiledRegex.{CompiledRegex}
use Rattle.regress_engine_code.specs.Standing.{target_of}
use Rattle.regress_programs.specs.Programs.{IsProgramOf, IsLaidOutFrom}
use Rattle.regress_programs.specs.declared.searcher.Searcher.{Searcher}

-- the program that it searches with
abbrev pub program_by : {I : Type 0} {g : _} → Searcher I g → CompiledRegex
program_by s = s.executor.context.program.now

-- what is shown of the text that it searches
abbrev pub view_by : {I : Type 0} {g : _} → Searcher I g → View
view_by {g = g} s = g.shown s.executor.context.input

-- how this text is read
abbrev pub reading_by : {I : Type 0} {g : _} → Searcher I g → Reading
reading_by s = reading_of (view_by s)

-- It searches for the pattern: its program is one of it.
abbrev pub SearchesFor : {I : Type 0} {g : _} → Searcher I g → Table → Options → Pattern → Type 0
SearchesFor s t o p = IsProgramOf (program_by s) t o p

-- It goes by this tree of so many groups: its program is a layout of it.
abbrev pub SearchesByTree : {I : Type 0} {g : _} → Searcher I g → ℕ → Tree → Type 0
SearchesByTree s n t = IsLaidOutFrom (target_of (program_by s)) n t

-- It searches with this program, in these bytes or units of this kind.
abbrev pub IsSearcherOf : {I : Type 0} {g : _} → CompiledRegex → Kind → List ℕ → Searcher I g → Type 0
IsSearcherOf compiled kind units s = (program_by s ≡ compiled) × ((view_by s).kind ≡ kind) × ((view_by s).units ≡ units)
