-- What a test takes, counted.
use Rattle.std.specs.Prelude.{◌≡◌, ℕ, Bool, Option, None, MatchOption}
use Rattle.regress_meaning.specs.Meaning.{Forward}
use Rattle.regress_meaning.specs.Inputs.{Input}
use Rattle.regress_meaning.specs.Steps.{passed}
use Rattle.regress_engine_singles.specs.declared.taken.Taken.{Taken}
use Rattle.regress_engine_singles.specs.Passing.{after, IsTaken}

-- what passes a test ahead of an offset, the first and at most so many more; none where the first does not pass
abbrev pub AreTaken : Input → (ℕ → Bool) → (more o : ℕ) → Option Taken → Type 0
AreTaken input passes more o taken = MatchOption taken (None ≡ passed passes (input.next Forward o))
    (λ t. IsTaken (after input passes Forward) (λ q. passed passes (input.next Forward q)) more o t.before t.last t.past)
