-- How many steps are enough, also in shorter texts, and that they are few.
use Rattle.std.specs.Prelude.{◌≡◌, ℕ, suc, ◌+◌, ◌*◌, ◌^◌, ◌<◌, ◌≤◌, ◌&&◌, Bool, true, false, Option, Some, None, IfSome, if◌then◌else◌, length, nat_le, nat_lt, unwrap_or}
use Rattle.std.proofs.Common.{refl, sym, subst, ◌∙◌, arith}
use Rattle.std.proofs.lemmas.Bool.{and_from, and_parts, cond-true, false≢true, le-leb, leb-true, lt-ltb, ltb-true}
use Rattle.std.proofs.lemmas.Nat.{mul-le}
use Rattle.regress_engine_linear.specs.LinearViews.{heights_in}
use Rattle.regress_engine_linear.specs.declared.testing.LinearTable.{LinearTable}
use Rattle.regress_engine_exec.specs.Turned.{fits_told, has_enough, may_turn, most_kept, most_told}
use Rattle.regress_programs.specs.Tables.{byte_table_of, unit_table_of}
use Rattle.regress.specs.Linear.{AreEnough}
use Rattle.regress.specs.declared.api.Regex.{Regex}
use Rattle.regress_calls.specs.Ranges.{unset}
use Rattle.regress_calls.specs.Stopping.{IsEnough, bound_of}

-- so many steps are enough where the table fits, and no others
enough-parts : (fits : Bool) (m n : ℕ) → has_enough (Some n) (if fits then Some m else None) ≡ true → (fits ≡ true) × (m ≤ n)
enough-parts true m n enough = (refl, leb-true m n enough)
enough-parts false m n enough = absurd (false≢true enough)

enough-made : (fits : Bool) (m n : ℕ) → fits ≡ true → m ≤ n → has_enough (Some n) (if fits then Some m else None) ≡ true
enough-made true m n fits more = le-leb m n more
enough-made false m n fits more = absurd (false≢true fits)

module _ (t : LinearTable) (units : ℕ) (fits : fits_told t units ≡ true) where
  abbrev order : ℕ
  order = length (heights_in t).order

  abbrev Fits : ℕ → Type 0
  Fits n = (n < most_told) × (order * suc n ≤ most_told) × (t.inside * suc n ≤ most_kept)

  -- what fits is few, short and small
  parts : Fits units
  parts =
      let (few, rest) = and_parts (nat_lt units most_told) (nat_le (order * suc units) most_told && nat_le (t.inside * suc units) most_kept) fits in
      let (small, kept) = and_parts (nat_le (order * suc units) most_told) (nat_le (t.inside * suc units) most_kept) rest in
      (ltb-true units most_told few, leb-true (order * suc units) most_told small, leb-true (t.inside * suc units) most_kept kept)

  -- the table of a shorter text fits
  fits-shorter : (less : ℕ) → less ≤ units → fits_told t less ≡ true
  fits-shorter less short =
      let (few, small, kept) = parts in
      let below : order * suc less ≤ order * suc units = mul-le order (suc less) order (suc units) (omega arith) (omega (arith, short)) in
      let inside : t.inside * suc less ≤ t.inside * suc units = mul-le t.inside (suc less) t.inside (suc units) (omega arith) (omega (arith, short)) in
      and_from (nat_lt less most_told) (nat_le (order * suc less) most_told && nat_le (t.inside * suc less) most_kept) (lt-ltb less most_told (omega (arith, few, short)))
      (and_from (nat_le (order * suc less) most_told) (nat_le (t.inside * suc less) most_kept) (le-leb (order * suc less) most_told (omega (arith, below, small)))
      (le-leb (t.inside * suc less) most_kept (omega (arith, inside, kept))))

  -- and fewer steps are enough there
  steps-shorter : (less : ℕ) → less ≤ units → 4 * (order * (less + 64)) ≤ 4 * (order * (units + 64))
  steps-shorter less short =
      mul-le 4 (order * (less + 64)) 4 (order * (units + 64)) (omega arith) (mul-le order (less + 64) order (units + 64) (omega arith) (omega (arith, short)))

  -- so many steps are enough for whatever fits
  steps-few : 4 * (order * (units + 64)) ≤ 2 ^ 37
  steps-few =
      let (few, small, kept) = parts in
      let one : order * 1 ≤ order * suc units = mul-le order 1 order (suc units) (omega arith) (omega arith) in
      let all : order * suc units ≤ 2 ^ 29 = small in
      omega (arith, one, all)

-- what turns to a table turns to one in a shorter text, and with so many steps
turn-shorter : (table : Option LinearTable) (units less n : ℕ) → less ≤ units → may_turn table units (Some n) ≡ true → may_turn table less (Some n) ≡ true
turn-shorter None units less n short turns = absurd (false≢true turns)
turn-shorter (Some t) units less n short turns =
    let (fits, more) = enough-parts (fits_told t units) _ n turns in
    enough-made (fits_told t less) _ n (fits-shorter t units fits less short) (omega (arith, steps-shorter t units fits less short, more))

turn-few : (table : Option LinearTable) (units n : ℕ) → may_turn table units (Some n) ≡ true → may_turn table units (Some (2 ^ 37)) ≡ true
turn-few None units n turns = absurd (false≢true turns)
turn-few (Some t) units n turns =
    let (fits, more) = enough-parts (fits_told t units) _ n turns in
    enough-made (fits_told t units) _ (2 ^ 37) fits (steps-few t units fits)

-- what is enough is so in a shorter text, and so are so many
enough-shorter : (r : Regex) (units less n : ℕ) → less ≤ units → AreEnough r units n → AreEnough r less n
enough-shorter r units less n short enough =
    (turn-shorter (byte_table_of r.compiled) units less n short enough.0, turn-shorter (unit_table_of r.compiled) units less n short enough.1)

enough-few : (r : Regex) (units n : ℕ) → AreEnough r units n → AreEnough r units (2 ^ 37)
enough-few r units n enough = (turn-few (byte_table_of r.compiled) units n enough.0, turn-few (unit_table_of r.compiled) units n enough.1)

-- the number that is told of the least that are enough stands for their bound
pub told-enough : (r : Regex) (units : ℕ) (found : Option ℕ) → IfSome found (λ least. (n : ℕ) → least ≤ n → AreEnough r units n)
    → IfSome found (λ least. (n : ℕ) → AreEnough r units n → least ≤ n) → (found ≡ None → (n : ℕ) → AreEnough r units n → ⊥) → IsEnough r units (unwrap_or found unset)
told-enough r units None enough least none = record { enough = tt; least = tt; none = λ unbound. none refl }
told-enough r units (Some m) enough least none =
    let few : m ≤ 2 ^ 37 = least (2 ^ 37) (enough-few r units m (enough m (omega arith))) in
    let bound : bound_of m ≡ Some m = cond-true (nat_lt m unset) (Some m) None (lt-ltb m unset (omega (arith, few))) in
    record {
      enough = subst (λ (b : Option ℕ). IfSome b (λ least. (less n : ℕ) → less ≤ units → least ≤ n → AreEnough r less n)) (sym bound)
          (λ less n short more. enough-shorter r units less n short (enough n more));
      least = subst (λ (b : Option ℕ). IfSome b (λ least. (n : ℕ) → AreEnough r units n → least ≤ n)) (sym bound) least;
      none = λ unbound. absurd (let never : ◌≡◌ {A = Option ℕ} (Some m) None = sym bound ∙ unbound in cc never);
    }
