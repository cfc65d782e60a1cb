-- What is told where a law is about single numbers.
use Rattle.std.specs.Prelude.{ℕ, ◌&&◌, ◌==◌, not, List, Option, Some, None, MatchOption, min, count_by}
use Rattle.regress_front_tables.specs.Breaking.{IsLeast}

-- nothing where each number keeps the law, and else the least that doesn't
abbrev pub TellsLeast : Option ℕ → (ℕ → Type 0) → Type 0
TellsLeast told keeps = MatchOption told ((c : ℕ) → keeps c) (λ c. IsLeast (λ d. keeps d → ⊥) c)

-- the lesser of two numbers, of those that are there
abbrev pub lesser : Option ℕ → Option ℕ → Option ℕ
lesser None b = b
lesser (Some c) None = Some c
lesser (Some c) (Some d) = Some (min c d)

-- how many other code points the pairs take to d
abbrev pub others_to : List (ℕ × ℕ) → ℕ → ℕ
others_to pairs d = count_by (λ p. p.1 == d && not (p.0 == p.1)) pairs
