-- What the first group of a name took.
use Rattle.std.proofs.Common.{◌≡◌, ◌≢◌, ℕ, zero, suc, ◌<◌, true, false, List, [], ◌∷◌, Option, Some, None, refl, ap, arith}
use Rattle.std.specs.Prelude.{slice_get}
use Rattle.std.proofs.lemmas.Bool.{false_from_ne_true}
use Rattle.std.proofs.lemmas.Bool.Decides.{Decides-eqb}
use Rattle.std.proofs.lemmas.Slice.Eq.{slice_eq-Decides}
use Rattle.regress_meaning.specs.Text.{same_text}
use Rattle.regress_match.specs.GroupRanges.{numbered, first_named, named}

-- a text is the same as itself, and as no other
pub same-text : (a b : List ℕ) → a ≡ b → same_text a b ≡ true
same-text a b e = (slice_eq-Decides Decides-eqb a b _ refl).1 e

pub other-text : (a b : List ℕ) → a ≢ b → same_text a b ≡ false
other-text a b apart = false_from_ne_true _ (λ e. apart ((slice_eq-Decides Decides-eqb a b _ refl).0 e))

module _ {A : Type 0} (wanted : List ℕ) where
  -- the first name that is wanted stands at an index
  pub first_named-at : (names : List (List ℕ)) (groups : List (Option A)) (k : ℕ) → slice_get names k ≡ Some wanted
      → ((j : ℕ) → j < k → slice_get names j ≢ Some wanted) → first_named wanted names groups ≡ numbered groups k
  first_named-at [] groups k there first = absurd (cc)
  first_named-at (n ∷ names) [] k there first = refl
  first_named-at (n ∷ names) (g ∷ groups) zero there first = let e : n ≡ wanted = cc in rw (same-text n wanted e) refl
  first_named-at (n ∷ names) (g ∷ groups) (suc k) there first =
      rw (other-text n wanted (λ e. first 0 (omega arith) (ap Some e)))
      (first_named-at names groups k there (λ j below. first (suc j) (omega arith)))

  -- no name is wanted
  pub first_named-nowhere : (names : List (List ℕ)) (groups : List (Option A)) → ((j : ℕ) → slice_get names j ≢ Some wanted)
      → first_named wanted names groups ≡ None
  first_named-nowhere [] groups none = refl
  first_named-nowhere (n ∷ names) [] none = refl
  first_named-nowhere (n ∷ names) (g ∷ groups) none =
      rw (other-text n wanted (λ e. none 0 (ap Some e))) (first_named-nowhere names groups (λ j. none (suc j)))

-- a name that is not empty stands for its first group
pub named-some : {A : Type 0} (names : List (List ℕ)) (groups : List (Option A)) (name : List ℕ) → name ≢ []
    → named names groups name ≡ first_named name names groups
named-some names groups [] some = absurd (some refl)
named-some names groups (c ∷ name) some = refl
