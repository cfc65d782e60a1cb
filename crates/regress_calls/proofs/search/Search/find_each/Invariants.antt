use Rattle.std.proofs.Common.{◌≡◌, ◌-◌, ℕ, length}
use Rattle.std.specs.Arc.{arc_value}
use Rattle.regress_meaning.specs.Flags.{Options}
use Rattle.regress_meaning.specs.Matches.{match_list}
use Rattle.regress_meaning.specs.Offsets.{Begins}
use Rattle.regress_meaning.specs.Pattern.{Pattern}
use Rattle.regress_meaning.specs.Table.{Table}
use Rattle.regress.specs.Standing.{names_of_regex}
use Rattle.regress_calls.specs.Many.{FoundMany}
use Rattle.regress_calls.specs.Texts.{StandsIn, reading_of_text}
use Rattle.regress_calls.proofs.search.Search.find_each.Given as goal

-- what is found so far is shown, for the regex that is searched for, with its bound, and the search goes on at a start
abbrev pub invariant-loop-found : goal.invariant-loop-found
invariant-loop-found l =
    ((arc_value l.self.regex ≡ arc_value l.fn.self.regex) × (l.self.max_steps ≡ l.fn.self.max_steps))
    × ((place : ℕ) × Begins (reading_of_text l.text) l.start place)
    × ((t : Table) → (o : Options) → (p : Pattern) → StandsIn l.text (arc_value l.fn.self.regex) t o p → (place : ℕ) → Begins (reading_of_text l.text) l.fn.start place
    → FoundMany (reading_of_text l.text) (match_list t o p (reading_of_text l.text).points) (length (names_of_regex (arc_value l.fn.self.regex))) l.width place l.found l.start l.ranges)

abbrev pub decreases-loop-found : goal.decreases-loop-found
decreases-loop-found l = l.room - l.found
