-- What the strings of classes cost.
use Rattle.std.proofs.Common.{◌≡◌, ℕ, ◌+◌, ◌*◌, ◌≤◌, Bool, true, false, not, ◌==◌, List, [], ◌∷◌, length, filter, sum_by, if◌then◌else◌, refl, arith}
use Rattle.std.specs.Option.{unwrap_or}
use Rattle.std.proofs.lemmas.Bool.{ne_eqb}
use Rattle.std.proofs.lemmas.List.Sums.{sum_by-cons, sum_by-append}
use Rattle.regress_meaning.specs.Table.{Table}
use Rattle.regress_meaning.specs.Class.{Class, value_of, among, no_string, range, digits, spaces, words, property, sequences, strings, union, intersection, difference, complement, nested}
use Rattle.regress_front_costs.specs.Costs.{strings_cost, class_cost}
use Rattle.regress_front_costs.proofs.SumLemmas.{sum_by-filter}

-- what the strings of a list cost, by how many there are and how long they are
pub strings-parts : (ss : List (List ℕ)) → strings_cost ss ≡ sum_by length ss + 3 * length ss
strings-parts [] = refl
strings-parts (s ∷ ss) =
    let all = sum_by-cons (λ (r : List ℕ). length r + 3) s ss in
    let lengths = sum_by-cons length s ss in
    omega (arith, all, lengths, strings-parts ss)

-- what the empty string costs, where it is among them
abbrev pub empty_cost : Bool → ℕ
empty_cost has = if has then 3 else 0

-- the strings but the empty one, and the empty one, cost no more than all
pub parted : (ss : List (List ℕ)) → strings_cost (filter (λ s. not (length s == 0)) ss) + empty_cost (among ss []) ≤ strings_cost ss
parted [] = omega arith
parted ([] ∷ ss) =
    let all = sum_by-cons (λ (r : List ℕ). length r + 3) [] ss in
    let fewer = sum_by-filter (λ (r : List ℕ). length r + 3) (λ (s : List ℕ). not (length s == 0)) ss in
    omega (arith, all, fewer)
parted ((c ∷ s) ∷ ss) =
    let long : (length (c ∷ s) == 0) ≡ false = ne_eqb (length (c ∷ s)) 0 (λ e. omega arith) in
    let all = sum_by-cons (λ (r : List ℕ). length r + 3) (c ∷ s) ss in
    let kept = sum_by-cons (λ (r : List ℕ). length r + 3) (c ∷ s) (filter (λ (r : List ℕ). not (length r == 0)) ss) in
    rw long (omega (arith, all, kept, parted ss))

-- the strings that a class stands for cost no more than the class
pub value-cost : (table : Table) (folded : Bool) (c : Class) → strings_cost (value_of table folded c).others ≤ class_cost table c
unfolding value_of
value-cost table folded no_string = omega arith
value-cost table folded (range a b) = omega arith
value-cost table folded digits = omega arith
value-cost table folded spaces = omega arith
value-cost table folded words = omega arith
value-cost table folded (property key) = omega arith
value-cost table folded (sequences key) = sum_by-filter (λ s. length s + 3) (λ s. not (length s == 1)) (unwrap_or (table.sequences key) [])
value-cost table folded (strings ss) = sum_by-filter (λ s. length s + 3) (λ s. not (length s == 1)) ss
value-cost table folded (union a b) =
    let v = (value_of table folded a).others in
    let w = (value_of table folded b).others in
    omega (arith, sum_by-append (λ (s : List ℕ). length s + 3) v w, value-cost table folded a, value-cost table folded b)
value-cost table folded (intersection a b) =
    let v = (value_of table folded a).others in
    let w = (value_of table folded b).others in
    omega (arith, sum_by-filter (λ (s : List ℕ). length s + 3) (among w) v, value-cost table folded a)
value-cost table folded (difference a b) =
    let v = (value_of table folded a).others in
    let w = (value_of table folded b).others in
    omega (arith, sum_by-filter (λ (s : List ℕ). length s + 3) (λ (s : List ℕ). not (among w s)) v, value-cost table folded a)
value-cost table folded (complement a) = omega arith
value-cost table folded (nested true a) = omega arith
value-cost table folded (nested false a) = value-cost table folded a
