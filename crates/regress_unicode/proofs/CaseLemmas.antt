-- What holds of characters, and of surrogates; and the pairs of a map.
use Rattle.std.proofs.Common.{◌≡◌, ◌≢◌, ℕ, ◌+◌, ◌<◌, true, false, ◌==◌, [], ◌∷◌, ◌++◌, refl, inl, inr, arith, add-one}
use Rattle.std.specs.Char.{InScalarRange, OutOfScalarRange}
use Rattle.std.specs.Char.Unicode.ToUppercase.{to_uppercase}
use Rattle.std.proofs.lemmas.List.{append-nil}
use Rattle.std.proofs.lemmas.Bool.{eq-eqb}
use Rattle.std.proofs.lemmas.Bool.Decides.{nat_tests}
use Rattle.ucd_case.specs.CaseFolding.{simple_fold}
use Rattle.regress_meaning.specs.Table.{code_points}
use Rattle.regress_meaning.specs.TableParts.{is_surrogate}
use Rattle.regress_front_sets.proofs.IntervalLemmas.{between-within, between-outside}
use Rattle.regress_unicode.specs.Case.{fold_of, upper_of, single_upper, moved}
use Rattle.regress_unicode.specs.Casefold.{is_moved, changes_when_nfkc_casefolded}
use Rattle.regress_unicode.specs.Sequences.{emoji_of, basic_of}

scalar-outside : (c : ℕ) → InScalarRange c → is_surrogate c ≡ false
scalar-outside c (inl below) = between-outside 0xD800 0xDFFF c (inl below)
scalar-outside c (inr above) = between-outside 0xD800 0xDFFF c (inr (omega arith))

surrogate-inside : (c : ℕ) → c < code_points → OutOfScalarRange c → is_surrogate c ≡ true
surrogate-inside c small (inl inside) = between-within 0xD800 0xDFFF c inside.0 inside.1
surrogate-inside c small (inr past) = absurd (omega arith)

pub fold_of-scalar : (c : ℕ) → InScalarRange c → fold_of c ≡ simple_fold c
unfolding fold_of
fold_of-scalar c h = rw (scalar-outside c h)

pub fold_of-surrogate : (c : ℕ) → c < code_points → OutOfScalarRange c → fold_of c ≡ c
unfolding fold_of
fold_of-surrogate c small h = rw (surrogate-inside c small h)

pub upper_of-scalar : (c : ℕ) → InScalarRange c → upper_of c ≡ single_upper c (to_uppercase c)
unfolding upper_of
upper_of-scalar c h = rw (scalar-outside c h)

pub upper_of-surrogate : (c : ℕ) → c < code_points → OutOfScalarRange c → upper_of c ≡ c
unfolding upper_of
upper_of-surrogate c small h = rw (surrogate-inside c small h)

pub casefolded-scalar : (c : ℕ) → InScalarRange c → changes_when_nfkc_casefolded c ≡ is_moved c
unfolding changes_when_nfkc_casefolded
casefolded-scalar c h = rw (scalar-outside c h)

pub casefolded-surrogate : (c : ℕ) → c < code_points → OutOfScalarRange c → changes_when_nfkc_casefolded c ≡ false
unfolding changes_when_nfkc_casefolded
casefolded-surrogate c small h = rw (surrogate-inside c small h)

pub basic_of-scalar : (c : ℕ) → InScalarRange c → basic_of c ≡ emoji_of c
unfolding basic_of
basic_of-scalar c h = rw (scalar-outside c h)

pub basic_of-surrogate : (c : ℕ) → c < code_points → OutOfScalarRange c → basic_of c ≡ []
unfolding basic_of
basic_of-surrogate c small h = rw (surrogate-inside c small h)

-- ---- the pairs of a map

differ-eqb : (a b : ℕ) → a ≢ b → (a == b) ≡ false
differ-eqb a b h = grind (arith, nat_tests)

pub moved-none : (map_of : ℕ → ℕ) → moved map_of 0 ≡ []
unfolding moved
moved-none map_of = refl

-- a number that stays has no pair
pub moved-same : (map_of : ℕ → ℕ) (n : ℕ) → map_of n ≡ n → moved map_of (n + 1) ≡ moved map_of n
unfolding moved
moved-same map_of n same = rw (add-one n, eq-eqb (map_of n) n same, append-nil (moved map_of n))

-- a number that is moved has one
pub moved-more : (map_of : ℕ → ℕ) (n : ℕ) → map_of n ≢ n → moved map_of (n + 1) ≡ moved map_of n ++ (n, map_of n) ∷ []
unfolding moved
moved-more map_of n moves = rw (add-one n, differ-eqb (map_of n) n moves)
