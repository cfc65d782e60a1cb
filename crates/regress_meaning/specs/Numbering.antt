-- What holds of the numbers in a spelled tree.
use Rattle.std.specs.Prelude.{◌≡◌, ℕ, ◌-◌, ◌<◌, ◌≤◌, List, [], ◌∷◌, ◌++◌, length, All}
use Rattle.regress_meaning.specs.Text.{count_up}
use Rattle.regress_meaning.specs.Pattern.{Pattern, names_of, sequence, choice, capture, grouped, atomic, modified, repeated, look, reference}

-- the numbers of the capturing groups, in order of opening
abbrev pub group_numbers : Pattern → List ℕ
group_numbers (sequence a b) = group_numbers a ++ group_numbers b
group_numbers (choice a b) = group_numbers a ++ group_numbers b
group_numbers (capture k name a) = k ∷ group_numbers a
group_numbers (grouped a) = group_numbers a
group_numbers (atomic a) = group_numbers a
group_numbers (modified on off a) = group_numbers a
group_numbers (repeated a first last least most greedy) = group_numbers a
group_numbers (look negated backward a) = group_numbers a
group_numbers _ = []

-- Each repetition names the groups inside it, no more and no fewer, and repeats at least no more often than at most;
-- each reference is to one of n groups.
abbrev pub FitsGroups : ℕ → Pattern → Type 0
FitsGroups n (sequence a b) = FitsGroups n a × FitsGroups n b
FitsGroups n (choice a b) = FitsGroups n a × FitsGroups n b
FitsGroups n (capture k name a) = FitsGroups n a
FitsGroups n (grouped a) = FitsGroups n a
FitsGroups n (atomic a) = FitsGroups n a
FitsGroups n (modified on off a) = FitsGroups n a
FitsGroups n (repeated a first last least most greedy) =
    (first ≤ last) × (group_numbers a ≡ count_up first (last - first)) × (least ≤ most) × FitsGroups n a
FitsGroups n (look negated backward a) = FitsGroups n a
FitsGroups n (reference ks) = All (λ k. k < n) ks
FitsGroups n _ = Unit {0}

-- The groups are numbered from 0 in order of opening, each once, and what refers to groups fits them.
pub record IsNumbered (p : Pattern) : Type 0 where
  pub in_order : group_numbers p ≡ count_up 0 (length (names_of p))
  pub fitting : FitsGroups (length (names_of p)) p
