-- What asks for the edge of a word.
use Rattle.std.specs.Prelude.{◌≡◌, ◌≢◌, ℕ, ◌<◌, Bool, true, []}
use Rattle.regress_meaning.specs.Class.{is_ascii_word}
use Rattle.regress_meaning.specs.Meaning.{Context, State, Forward, differ, before, after}
use Rattle.regress_front_nodes.specs.Trees.{Tree}
use Rattle.regress_front_nodes.specs.TreeMeaning.{node_outcomes}

-- From each state from which the tree has an outcome exactly one neighbour is a word character.
pub record AsksBoundary (t : Tree) : Type 0 where
  pub each : (context : Context) → (s : State) → node_outcomes context t Forward s ≢ []
      → (folded : Bool) × (differ context.table folded (before context s.place) (after context s.place) ≡ true)

-- all bytes of a set are ASCII letters, digits or `_`
abbrev pub AreOfWords : (ℕ → Bool) → Type 0
AreOfWords set = (b : ℕ) → b < 256 → set b ≡ true → is_ascii_word b ≡ true
