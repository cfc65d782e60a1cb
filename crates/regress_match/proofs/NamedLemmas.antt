-- The names of the groups of a match, each once.
use Rattle.std.proofs.Common.{◌≡◌, ◌≢◌, ℕ, zero, suc, Bor, ◌+◌, ◌<◌, ◌≤◌, ◌⊎◌, inl, inr, Bool, true, false, not, ◌||◌, nat_eq, List, [], ◌∷◌, length, take, drop, get_or, Option, Some, None, refl, sym, ap, ◌∙◌, arith, ne_eqb, eq-eqb}
use Rattle.std.proofs.Math.Bridge.{le_prop}
use Rattle.std.proofs.lemmas.Bool.{cases_lt}
use Rattle.std.proofs.lemmas.List.{drop_more, drop_all, take_more}
use Rattle.std.specs.List.{list_any}
use Rattle.std.specs.Option.{option_or}
use Rattle.std.specs.Prelude.{slice_get}
use Rattle.regress_meaning.specs.Text.{same_text}
use Rattle.regress_match.specs.declared.found.Match.{Match}
use Rattle.regress_match.specs.declared.named.NamedGroups.{NamedGroups}
use Rattle.regress_match.specs.GroupViews.{names_of_match}
use Rattle.regress_match.specs.NamedRanges.{first_taken, is_new, new_names}
use Rattle.regress_match.proofs.RangeLemmas.{same-text, other-text}

-- an iterator over names is the match and the index
pub same_named : (found : Bor Match) (index : ℕ) (h k : index ≤ length (names_of_match found.now))
    → let g : NamedGroups = record { found = found; index = index; in_range = h } in g ≡ record { found = found; index = index; in_range = k }
same_named found index h k = λ i. record { found = found; index = index; in_range = le_prop h k i }

-- a name is among the first k names, or it is not
any-none : (n : List ℕ) (names : List (List ℕ)) (k : ℕ) → ((j : ℕ) → j < k → slice_get names j ≢ Some n) → list_any (λ m. same_text m n) (take k names) ≡ false
any-none n [] zero none = refl
any-none n [] (suc k) none = refl
any-none n (m ∷ names) zero none = refl
any-none n (m ∷ names) (suc k) none =
    rw (other-text m n (λ e. none 0 (omega arith) (ap Some e)), any-none n names k (λ j below. none (suc j) (omega arith))) refl

any-some : (n : List ℕ) (names : List (List ℕ)) (k j : ℕ) → j < k → slice_get names j ≡ Some n → list_any (λ m. same_text m n) (take k names) ≡ true
any-some n [] k j below here = absurd (cc)
any-some n (m ∷ names) zero j below here = absurd (omega arith)
any-some n (m ∷ names) (suc k) zero below here = let e : m ≡ n = cc in rw (same-text m n e) refl
any-some n (m ∷ names) (suc k) (suc j) below here = rw (any-some n names k j (omega arith) here) (either (same_text m n))
  where
    either : (b : Bool) → (b || true) ≡ true
    either true = refl
    either false = refl

-- a name that is not empty is new where its first place is this one
pub new-at : (names : List (List ℕ)) (k f : ℕ) (n : List ℕ) → n ≢ [] → slice_get names k ≡ Some n → slice_get names f ≡ Some n
    → ((j : ℕ) → j < f → slice_get names j ≢ Some n) → nat_eq f k ≡ is_new (take k names) n
new-at names k f [] some here there first = absurd (some refl)
new-at names k f (c ∷ n) some here there first = go (cases_lt f k)
  where
    go : (f < k) ⊎ (k ≤ f) → nat_eq f k ≡ is_new (take k names) (c ∷ n)
    go (inl before) = ne_eqb f k (omega arith) ∙ sym (ap not (any-some (c ∷ n) names k f before there))
    go (inr behind) = at (cases_lt k f)
      where
        at : (k < f) ⊎ (f ≤ k) → nat_eq f k ≡ is_new (take k names) (c ∷ n)
        at (inl before) = absurd (first k before here)
        at (inr equal) = eq-eqb f k (omega arith) ∙ sym (ap not (any-none (c ∷ n) names k (λ j below. first j (omega arith))))

-- what stands at an index
pub stands-at : (names : List (List ℕ)) (k : ℕ) → k < length names → slice_get names k ≡ Some (get_or names k [])
stands-at [] k inside = absurd (omega arith)
stands-at (n ∷ names) zero inside = refl
stands-at (n ∷ names) (suc k) inside = stands-at names k (omega arith)

-- a name that is new comes first, and one that is not is passed over
pub names-new : (names : List (List ℕ)) (k : ℕ) → k < length names → is_new (take k names) (get_or names k []) ≡ true
    → new_names (take k names) (drop k names) ≡ get_or names k [] ∷ new_names (take (k + 1) names) (drop (k + 1) names)
unfolding new_names
names-new names k inside is = rw (drop_more names k [] inside, take_more names k [] inside, is) refl

pub names-old : (names : List (List ℕ)) (k : ℕ) → k < length names → is_new (take k names) (get_or names k []) ≡ false
    → new_names (take k names) (drop k names) ≡ new_names (take (k + 1) names) (drop (k + 1) names)
unfolding new_names
names-old names k inside is = rw (drop_more names k [] inside, take_more names k [] inside, is) refl

pub names-end : (names : List (List ℕ)) (k : ℕ) → length names ≤ k → new_names (take k names) (drop k names) ≡ []
unfolding new_names
names-end names k past = rw (drop_all k names past) refl

-- what the first group of a name took, group by group
module _ {A : Type 0} (name : List ℕ) (group : ℕ → Option A) where
  pub taken-other : (names : List (List ℕ)) (k : ℕ) → k < length names → get_or names k [] ≢ name
      → first_taken name group k (drop k names) ≡ first_taken name group (k + 1) (drop (k + 1) names)
  unfolding first_taken
  taken-other names k inside apart = rw (drop_more names k [] inside, other-text (get_or names k []) name apart) refl

  pub taken-here : (names : List (List ℕ)) (k : ℕ) → k < length names → get_or names k [] ≡ name
      → first_taken name group k (drop k names) ≡ option_or (group k) (first_taken name group (k + 1) (drop (k + 1) names))
  unfolding first_taken
  taken-here names k inside is = rw (drop_more names k [] inside, same-text (get_or names k []) name is) refl

  pub taken-end : (names : List (List ℕ)) (k : ℕ) → length names ≤ k → first_taken name group k (drop k names) ≡ None
  unfolding first_taken
  taken-end names k past = rw (drop_all k names past) refl
