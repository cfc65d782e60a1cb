-- What an iterator over the names of groups has still to yield.
use Rattle.std.specs.Prelude.{◌≡◌, ℕ, List, [], ◌∷◌, Option, Some, None}
use Rattle.std.specs.Borrow.{Bor}
use Rattle.std.specs.declared.ops.Range.{Range}
use Rattle.regress_match.specs.declared.named.NamedGroups.{NamedGroups}
use Rattle.regress_match.specs.NamedRanges.{named_from}

-- the names still to come, with their ranges
abbrev pub named_left : NamedGroups → List (List ℕ × Option (Range ℕ))
named_left g = named_from g.found.now g.index

-- A step gives the first of what is still to come, and nothing where nothing is.
abbrev pub GivesNamed : NamedGroups → Option (Bor (List ℕ) × Option (Range ℕ)) → NamedGroups → Type 0
GivesNamed old None new = (named_left old ≡ []) × (named_left new ≡ [])
GivesNamed old (Some given) new = named_left old ≡ (given.0.now, given.1) ∷ named_left new
