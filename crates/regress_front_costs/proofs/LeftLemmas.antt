-- What is left of an amount, by parts of a cost.
use Rattle.std.proofs.Common.{◌≡◌, ℕ, ◌+◌, ◌-◌, ◌<◌, ◌≤◌, Option, Some, None, sym, subst, arith}
use Rattle.std.specs.Prelude.{SomeIff}
use Rattle.regress_front_costs.specs.Costs.{Leaves}

-- nothing, where a part of the cost is too much
pub none-left : (amount part whole : ℕ) (o : Option ℕ) → o ≡ None → amount < part → part ≤ whole → Leaves amount whole o
none-left amount part whole o is less within = subst (Leaves amount whole) (sym is) (omega (arith, less, within))

-- what the second part leaves of what the first left
pub then-left : (amount rest first second whole : ℕ) (o : Option ℕ) → rest + first ≡ amount → Leaves rest second o → whole ≡ first + second → Leaves amount whole o
then-left amount rest first second whole None paid left is = omega (arith, paid, left, is)
then-left amount rest first second whole (Some more) paid left is = omega (arith, paid, left, is)

-- what a number leaves of what the first part left
pub less-left : (amount rest first n whole : ℕ) (o : Option ℕ) → rest + first ≡ amount → SomeIff o (n ≤ rest) (rest - n) → whole ≡ first + n → Leaves amount whole o
less-left amount rest first n whole None paid left is = by_contradiction
  where
    by_contradiction : amount < whole
    by_contradiction = omega (arith, paid, left, is)
less-left amount rest first n whole (Some more) paid left is = omega (arith, paid, left.0, left.1, is)
