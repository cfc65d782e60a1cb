-- Modes: the numbers of the groups of a name, one group after another, and a mode where any serves.
use Rattle.std.proofs.Common.{◌≡◌, ℕ, ◌+◌, Bool, true, false, cond, List, [], ◌∷◌, ◌++◌, length, map, take, get_or, ◌<◌, String, Global, refl, arith}
use Rattle.std.specs.Prelude.{if◌then◌else◌}
use Rattle.std.proofs.lemmas.List.{take_more, map_push, length-map, length-take-le}
use Rattle.regress_meaning.specs.Text.{same_text}
use Rattle.regress_meaning.specs.TableParts.{table_of, small_parts}
use Rattle.regress_meaning.specs.Tokens.{Mode, numbers_from}
use Rattle.regress_front_tokens.specs.Words.{code_points_of}

-- a mode, where any serves
pub any_mode : Mode
any_mode = record { table = table_of small_parts; unicode = false; sets = false; named = false; names = [] }

-- a number is put before what follows, or is not
cons-append : (b : Bool) (k : ℕ) (xs ys : List ℕ) → cond b (k ∷ (xs ++ ys)) (xs ++ ys) ≡ cond b (k ∷ xs) xs ++ ys
cons-append true k xs ys = refl
cons-append false k xs ys = refl

-- one more name
pub numbers_from-push : (k : ℕ) (name : List ℕ) (names : List (List ℕ)) (other : List ℕ) →
    numbers_from k name (names ++ (other ∷ [])) ≡ numbers_from k name names ++ (if same_text name other then (k + length names) ∷ [] else [])
numbers_from-push k name [] other = let same : k ≡ k + 0 = omega arith in rw (← same) refl
numbers_from-push k name (first ∷ names) other =
    let count : (k + 1) + length names ≡ k + length (first ∷ names) = omega arith in
    rw (numbers_from-push (k + 1) name names other, count) (cons-append (same_text name first) k _ _)

-- the numbers among one more group
pub numbers_from-step : (name : List ℕ) (names : List (String Global)) (i : ℕ) (other : String Global) (b : Bool) → i < length names → other ≡ get_or names i other → b ≡ same_text name (code_points_of other) →
    numbers_from 0 name (map code_points_of (take (i + 1) names)) ≡ numbers_from 0 name (map code_points_of (take i names)) ++ (if b then i ∷ [] else [])
numbers_from-step name names i other b inside is same =
    let before = take i names in
    let count : 0 + length (map code_points_of before) ≡ i = omega (arith, length-map before code_points_of, length-take-le i names (omega arith)) in
    rw (take_more names i other inside, ← is, map_push, numbers_from-push 0 name (map code_points_of before) (code_points_of other), count, same) refl
