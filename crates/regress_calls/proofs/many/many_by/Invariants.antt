use Rattle.std.proofs.Common.{◌≡◌, ◌+◌, ◌-◌, ℕ, length}
use Rattle.regress_meaning.specs.Flags.{Options}
use Rattle.regress_meaning.specs.Matches.{match_list}
use Rattle.regress_meaning.specs.Offsets.{Begins}
use Rattle.regress_meaning.specs.Pattern.{Pattern}
use Rattle.regress_meaning.specs.Table.{Table}
use Rattle.regress_programs.specs.Searchers.{SearchesFor, program_by, reading_by}
use Rattle.regress_calls.specs.Many.{FoundMany}
use Rattle.regress_calls.specs.Texts.{reading_of_text}
use Rattle.regress_calls.proofs.many.many_by.Given as goal

-- what is found so far is shown, by a searcher of the same program and text, and the search goes on at a start
abbrev pub invariant-loop-found : goal.invariant-loop-found
invariant-loop-found g l =
    ((program_by l.searcher ≡ program_by l.fn.searcher) × (reading_by l.searcher ≡ reading_of_text l.text))
    × ((place : ℕ) × Begins (reading_of_text l.text) l.start place)
    × ((t : Table) → (o : Options) → (p : Pattern) → SearchesFor l.fn.searcher t o p → (groups : ℕ) → length l.fn.slots ≡ groups + 1
    → (place : ℕ) → Begins (reading_of_text l.text) l.fn.start place
    → FoundMany (reading_of_text l.text) (match_list t o p (reading_of_text l.text).points) groups l.width place l.found l.start l.ranges)

abbrev pub decreases-loop-found : goal.decreases-loop-found
decreases-loop-found g l = l.room - l.found
