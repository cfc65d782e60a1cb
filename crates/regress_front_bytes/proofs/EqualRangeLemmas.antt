-- Where a list rises in what its items compare as, each kind of item stands together.
use Rattle.std.proofs.Common.{◌≡◌, ℕ, ◌+◌, ◌-◌, ◌≤◌, true, false, List, [], ◌∷◌, Bor, length, drop, get_or, refl, arith}
use Rattle.std.specs.declared.cmp.Ordering.{Ordering}
use Rattle.std.specs.declared.cmp.Ordering.TheVariants.{Less, Equal, Greater}
use Rattle.std.specs.Ordering.{ordering_index, is_lt, is_eq}
use Rattle.std.specs.Fn.{Mut, Called, ComputesKey}
use Rattle.std.specs.List.Sorted.{IsNonDecreasingBy, IsPartitionedBy, IsPartitionPoint}
use Rattle.std.proofs.lemmas.List.{get_or-drop, length-drop}
use Rattle.regress_front_bytes.specs.EqualRange.{IsEqualRange}

-- what the tests and the index say of an ordering
index_of_less : (o : Ordering) → is_lt o ≡ true → ordering_index o ≡ 0
index_of_less Less h = refl
index_of_less Equal h = cc
index_of_less Greater h = cc

is_lt-of_index : (o : Ordering) → ordering_index o ≤ 0 → is_lt o ≡ true
is_lt-of_index Less h = refl
is_lt-of_index Equal h = absurd (omega arith)
is_lt-of_index Greater h = absurd (omega arith)

index_of_equal : (o : Ordering) → is_eq o ≡ true → ordering_index o ≡ 1
index_of_equal Less h = cc
index_of_equal Equal h = refl
index_of_equal Greater h = cc

is_eq-of_index : (o : Ordering) → is_lt o ≡ false → ordering_index o ≤ 1 → is_eq o ≡ true
is_eq-of_index Less lt h = cc
is_eq-of_index Equal lt h = refl
is_eq-of_index Greater lt h = absurd (omega arith)

less_from_test : (o : Ordering) → is_lt o ≡ true → o ≡ Less
less_from_test Less h = refl
less_from_test Equal h = cc
less_from_test Greater h = cc

equal_from_test : (o : Ordering) → is_eq o ≡ true → o ≡ Equal
equal_from_test Less h = cc
equal_from_test Equal h = refl
equal_from_test Greater h = cc

greater_from_tests : (o : Ordering) → is_lt o ≡ false → is_eq o ≡ false → o ≡ Greater
greater_from_tests Less lt eq = cc
greater_from_tests Equal lt eq = cc
greater_from_tests Greater lt eq = refl

module _ {X : Type 0} (ord : X → Ordering) (xs : List X) (rise : IsNonDecreasingBy (λ x. ordering_index (ord x)) xs) where
  -- the items that compare as less stand first
  pub IsPartitionedBy-less : IsPartitionedBy (λ x. is_lt (ord x)) xs
  IsPartitionedBy-less i j d le within h =
      let above = rise i j d le within in
      let zero = index_of_less (ord (get_or xs j d)) h in
      is_lt-of_index (ord (get_or xs i d)) (omega arith)

  module _ (start : ℕ) (less : IsPartitionPoint (λ x. is_lt (ord x) ≡ true) (λ x. is_lt (ord x) ≡ false) xs start) (rest : List X) (tail : rest ≡ drop start xs) where
    -- the rest holds the items from `start` on
    item_of_rest : (k : ℕ) (d : X) → get_or rest k d ≡ get_or xs (start + k) d
    item_of_rest k d = rw tail (get_or-drop start xs k d)

    length_of_rest : length rest ≡ length xs - start
    length_of_rest = rw tail (length-drop start xs)

    -- in it those that compare as equal stand first
    pub IsPartitionedBy-equal : IsPartitionedBy (λ x. is_eq (ord x)) rest
    IsPartitionedBy-equal i j d le within h =
        let size = length_of_rest in
        let above = rise (start + i) (start + j) d (omega arith) (omega arith) in
        let one = index_of_equal (ord (get_or xs (start + j) d)) (rw (← item_of_rest j d) h) in
        let not_less = less.1 (start + i) d (omega arith) (omega arith) in
        rw (item_of_rest i d) (is_eq-of_index (ord (get_or xs (start + i) d)) not_less (omega arith))

    pub IsEqualRange-from_parts : (len : ℕ) → IsPartitionPoint (λ x. is_eq (ord x) ≡ true) (λ x. is_eq (ord x) ≡ false) rest len → IsEqualRange ord xs start (start + len)
    IsEqualRange-from_parts len equal = record {
      less = λ k d low high. less_from_test _ (less.0 k d low high);
      equal = λ k d low high.
          let place : start + (k - start) ≡ k = omega arith in
          let here = equal.0 (k - start) d (omega arith) (omega arith) in
          let at = item_of_rest (k - start) d in
          equal_from_test _ (rw (← place) (rw (← at) here));
      greater = λ k d low high.
          let place : start + (k - start) ≡ k = omega arith in
          let size = length_of_rest in
          let here = equal.1 (k - start) d (omega arith) (omega arith) in
          let at = item_of_rest (k - start) d in
          greater_from_tests _ (less.1 k d (omega arith) high) (rw (← place) (rw (← at) here));
    }

-- a test of what each call compares as computes the test of the order
module _ {F X : Type 0} (g : Mut F (Bor X × Unit {0}) Ordering) (ord : X → Ordering) (f : F) where
  pub compared_as : (a : Bor X × Unit {0}) (r : Ordering) (f' : F) → Called g f a r f' → ComputesKey g ord f → r ≡ ord a.0.now
  compared_as a r f' called computes = (computes.at (a ∷ []) r f' called).0
