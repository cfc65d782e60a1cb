-- An array that takes up the members of a set of bytes, one after another.
use Rattle.std.proofs.Common.{◌≡◌, ℕ, ◌+◌, ◌*◌, ◌<◌, ◌≤◌, Bool, true, false, cond, List, [], ◌∷◌, ◌++◌, length, take, set, get_or, refl, sym, ap, ◌∙◌, append-nil, length-append, arith}
use Rattle.std.specs.List.{filter, count_by, sum_by, range_with_len}
use Rattle.std.proofs.lemmas.List.Elements.{filter_more}
use Rattle.std.proofs.lemmas.List.Sums.{length-filter, sum_by-take-le}
use Rattle.std.proofs.lemmas.List.FromFn.{length-range_with_len, get_or-range_with_len}
use Rattle.std.proofs.lemmas.List.{take_all, take_more_set, length-set}
use Rattle.regress_front_bytes.specs.ByteSets.{all_bytes, members, has_bit}
use Rattle.regress_front_bytes.proofs.BitRows.{count_by-has_bit}
use Rattle.std.specs.Int.Count.{ones}

-- the first `count` places of the array hold the members under n, and the array has a place for each member
pub record TakesUp (test : ℕ → Bool) (array : List ℕ) (count n : ℕ) : Type 0 where
  pub front : take count array ≡ filter test (take n all_bytes)
  pub size : count ≡ length (filter test (take n all_bytes))
  pub long : length array ≡ length (members test)

length-all_bytes : length all_bytes ≡ 256
unfolding all_bytes
length-all_bytes = length-range_with_len 0 256

get_or-all_bytes : (n : ℕ) → n < 256 → get_or all_bytes n 0 ≡ n
unfolding all_bytes
get_or-all_bytes n small = get_or-range_with_len 0 256 n 0 small ∙ omega arith

-- the members under n + 1 are those under n, and n where it is one
filter_next : (test : ℕ → Bool) (n : ℕ) → n < 256 → filter test (take (n + 1) all_bytes) ≡ filter test (take n all_bytes) ++ cond (test n) (n ∷ []) []
filter_next test n small =
    filter_more test all_bytes n 0 (omega (arith, length-all_bytes)) ∙ ap (λ m. filter test (take n all_bytes) ++ cond (test m) (m ∷ []) []) (get_or-all_bytes n small)

-- n is no member
pub TakesUp_without : {test : ℕ → Bool} {array : List ℕ} {count n : ℕ} → TakesUp test array count n → n < 256 → test n ≡ false → TakesUp test array count (n + 1)
TakesUp_without {test = test} {n = n} t small absent =
    let same : filter test (take (n + 1) all_bytes) ≡ filter test (take n all_bytes) = filter_next test n small ∙ rw (absent, append-nil) refl in
    record { front = t.front ∙ sym same; size = t.size ∙ ap length (sym same); long = t.long }

-- there is a place for a member that was not taken up yet
pub TakesUp_room : {test : ℕ → Bool} {array : List ℕ} {count n : ℕ} → TakesUp test array count n → n < 256 → test n ≡ true → count < length array
TakesUp_room {test = test} {n = n} t small present =
    let longer = ap length (filter_next test n small ∙ rw present refl) ∙ length-append (filter test (take n all_bytes)) (n ∷ []) in
    let part = sum_by-take-le (λ m. cond (test m) 1 0) all_bytes (n + 1) in
    omega (arith, t.size, t.long, longer, length-filter test (take (n + 1) all_bytes), length-filter test all_bytes)

-- n is a member, and is written at the next place
pub TakesUp_with : {test : ℕ → Bool} {array : List ℕ} {count n : ℕ} → TakesUp test array count n → n < 256 → test n ≡ true → TakesUp test (set array count n) (count + 1) (n + 1)
TakesUp_with {test = test} {array = array} {count = count} {n = n} t small present =
    let next : filter test (take (n + 1) all_bytes) ≡ filter test (take n all_bytes) ++ n ∷ [] = filter_next test n small ∙ rw present refl in record {
      front = take_more_set array count n (TakesUp_room t small present) ∙ ap (λ ns. ns ++ n ∷ []) t.front ∙ sym next;
      size = ap (λ m. m + 1) t.size ∙ sym (ap length next ∙ length-append _ _);
      long = length-set _ _ _ ∙ t.long;
    }

-- all members were taken up
pub TakesUp_all : {test : ℕ → Bool} {array : List ℕ} {count n : ℕ} → TakesUp test array count n → 256 ≤ n → array ≡ members test
TakesUp_all {test = test} {array = array} {count = count} {n = n} t past =
    let whole : take n all_bytes ≡ all_bytes = take_all n all_bytes (omega (arith, length-all_bytes)) in
    let filled : count ≡ length (members test) = rw whole at t.size in
    sym (take_all count array (omega (arith, filled, t.long))) ∙ t.front ∙ ap (filter test) whole

-- the members of a set are counted along the bytes
length-members : (test : ℕ → Bool) (n : ℕ) → n ≡ 256 → length (members test) ≡ count_by test (range_with_len 0 n)
unfolding all_bytes
length-members test n is_256 = length-filter test (range_with_len 0 256) ∙ ap (λ m. count_by test (range_with_len 0 m)) (sym is_256)

-- a set held in sixteen rows of sixteen bits has as many members as the rows have ones
pub length-members-has_bit : (rows : List ℕ) → length rows ≡ 16 → ((k : ℕ) → k < 16 → get_or rows k 0 < 65536) → length (members (has_bit 16 rows)) ≡ sum_by ones rows
length-members-has_bit rows long small =
    length-members (has_bit 16 rows) (16 * length rows) (omega arith) ∙ count_by-has_bit 16 (omega arith) rows (λ k h. small k (omega arith))
