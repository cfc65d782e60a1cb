-- The groups of a match, one after another.
use Rattle.std.proofs.Common.{◌≡◌, ℕ, zero, suc, Bor, ◌+◌, ◌-◌, ◌<◌, ◌≤◌, List, [], ◌∷◌, drop, Option, Some, vec_len, refl, sym, ap, arith, add-one}
use Rattle.std.specs.Prelude.{slice_get}
use Rattle.std.specs.declared.ops.Range.{Range}
use Rattle.std.proofs.Math.Bridge.{le_prop}
use Rattle.regress_match.specs.declared.found.Match.{Match}
use Rattle.regress_match.specs.declared.groups.Groups.{Groups}
use Rattle.regress_match.specs.GroupViews.{groups_of}

-- what is left from an element on
drop-from_get : {X : Type 0} (xs : List X) (i : ℕ) (x : X) → slice_get xs i ≡ Some x → drop i xs ≡ x ∷ drop (suc i) xs
drop-from_get [] i x e = cc
drop-from_get (y ∷ ys) zero x e = let same : y ≡ x = cc in ap (λ z. z ∷ ys) same
drop-from_get (y ∷ ys) (suc i) x e = drop-from_get ys i x e

-- the first of the groups that are left
pub groups-first : (m : Match) (i : ℕ) (r : Option (Range ℕ)) → i ≤ vec_len m.captures → (i ≡ 0 → r ≡ Some m.range)
    → (0 < i → i ≤ vec_len m.captures → slice_get m.captures.items (i - 1) ≡ Some r) → drop i (groups_of m) ≡ r ∷ drop (i + 1) (groups_of m)
groups-first m i r within whole capture = rw (add-one i) (drop-from_get (groups_of m) i r (at i within whole capture))
  where
    at : (k : ℕ) → k ≤ vec_len m.captures → (k ≡ 0 → r ≡ Some m.range)
        → (0 < k → k ≤ vec_len m.captures → slice_get m.captures.items (k - 1) ≡ Some r) → slice_get (groups_of m) k ≡ Some r
    at zero within whole capture = ap Some (sym (whole refl))
    at (suc k) within whole capture =
        let before : suc k - 1 ≡ k = omega arith in
        rw before at (capture (omega arith) within)

-- an iterator over groups is the match and the index
pub same_groups : (found : Bor Match) (index : ℕ) (h k : index ≤ vec_len found.now.captures + 1)
    → let g : Groups = record { found = found; index = index; in_range = h } in g ≡ record { found = found; index = index; in_range = k }
same_groups found index h k = λ i. record { found = found; index = index; in_range = le_prop h k i }
