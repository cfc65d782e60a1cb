-- What is counted against a bound, if there is one.
use Rattle.std.specs.Prelude.{◌≡◌, ℕ, ◌+◌, ◌-◌, ◌≤◌, nat_le, Bool, true, Option, Some, None}

-- Whether so many steps may still be counted, and how many may be then: where there is no bound, always.
abbrev pub counted : (steps : ℕ) → Option ℕ → Bool × Option ℕ
counted steps None = (true, None)
counted steps (Some left) = (nat_le steps left, Some (left - steps))

-- From so many steps that may be counted to so many, if there is a bound, at most n were counted.
abbrev pub Spends : Option ℕ → Option ℕ → (n : ℕ) → Type 0
Spends None after n = after ≡ None
Spends (Some before) after n = (left : ℕ) × (after ≡ Some left) × (left ≤ before) × (before ≤ left + n)
