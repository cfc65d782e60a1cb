-- What an attempt and a search are of, and what is remembered in them.
use Rattle.std.specs.Prelude.{Bool, IfSome}
use Rattle.regress_engine_input.specs.Views.{View}
use Rattle.regress_engine_code.specs.Standing.{program_of}
use Rattle.regress_engine_code.specs.declared.compiled.CompiledRegex.{CompiledRegex}
use Rattle.regress_engine_search.specs.declared.context.SearchContext.{SearchContext}
use Rattle.regress_engine_trying.specs.Trying.{World}
use Rattle.regress_engine_trying.specs.Remembering.{AreOf}
use Rattle.regress_engine_attempt.specs.declared.attempt.Attempt.{Attempt}
use Rattle.regress_engine_attempt.specs.declared.remembered.Remembered.{Remembered}

-- a program, and what is shown of a text
abbrev pub world_of : CompiledRegex → View → World
world_of compiled view = record { program = program_of compiled; view = view }

-- the program of an attempt, and what is shown of its text
abbrev pub world : {I : Type 0} {g : _} → (I → View) → Attempt I g → World
world view a = world_of a.program.now (view a.input)

-- the same of a search
abbrev pub searched : {I : Type 0} {g : _} → (I → View) → SearchContext I g → World
searched view c = world_of c.program.now (view c.input)

-- what is remembered, if anything, is a world's
abbrev pub Remembers : World → Remembered → Type 0
Remembers w m = IfSome m.failures (λ f. AreOf w f.value)

-- more was undone and passed over than normal searches do
abbrev pub has_begun : Remembered → Bool
has_begun m = m.is_begun
