-- References between places go code point by code point, and end at a place.
use Rattle.std.specs.Prelude.{nat_le, slice_range}
use Rattle.std.proofs.Common.{◌≡◌, ℕ, ◌+◌, ◌-◌, ◌≤◌, Bool, true, false, ◌&&◌, List, length, take, drop, Option, Some, None, if◌then◌else◌, option_map, refl, sym, ap, ◌∙◌, arith}
use lib.Pointwise.{pointwise}
use Rattle.std.proofs.lemmas.Bool.{leb-true}
use Rattle.regress_meaning.specs.Meaning.{Direction, Forward, Backward, Context, beside, same_all}
use Rattle.regress_meaning.specs.Offsets.{Reading, offset}
use Rattle.regress_meaning.specs.Steps.{copied, repeated}
use Rattle.regress_meaning.specs.Inputs.{Input, Tells, context_of}
use Rattle.regress_front_nodes.specs.ByteInputs.{placed}
use Rattle.regress_meaning.proofs.OffsetLemmas.{offsets-far}
use Rattle.regress_meaning.proofs.Copies.{like, part, forward_copied, backward_copied}
use Rattle.regress_engine_input.specs.References.{placed_by}

placed_by-if : (test : List ℕ → Bool) (f : ℕ → ℕ) (b : Bool) (cs : List ℕ) (q : ℕ)
    → option_map f (placed_by test (if b then Some (cs, q) else None)) ≡ (if b && test cs then Some (f q) else None)
placed_by-if test f false cs q = refl
placed_by-if test f true cs q = by_test (test cs)
  where
    by_test : (t : Bool) → option_map f (if t then Some q else None) ≡ (if t then Some (f q) else None)
    by_test true = refl
    by_test false = refl

-- Without regard to case being ignored, the test is that the code points are equal.
pub placed_by-same : (context : Context) (cs : List ℕ) (x : Option (List ℕ × ℕ)) → placed_by (same_all context.table context.unicode false cs) x ≡ placed cs x
placed_by-same context cs None = refl
placed_by-same context cs (Some (ds, q)) = refl

module _ (input : Input) (reading : Reading) (tells : Tells reading input) (icase : Bool) where
  abbrev context : Context
  context = context_of reading input

  abbrev size : ℕ
  size = length reading.points

  -- What a group took between two places stands beside a third just where its code points do.
  pub repeated-told : (dir : Direction) (a b p : ℕ) → a ≤ b → b ≤ size → p ≤ size
      → repeated input dir icase (Some (offset reading a, offset reading b)) (offset reading p)
      ≡ option_map (offset reading) (placed_by (same_all context.table context.unicode icase (slice_range reading.points a b)) (beside context dir (b - a) p))
  unfolding beside
  repeated-told Forward a b p order room here =
      let k : ℕ = b - a in
      let end : a + k ≡ b = omega (arith, order) in
      let far = offsets-far reading tells.rise k a (omega (arith, order, room)) in
      let told : ℕ → Bool = λ n. nat_le (p + k) size && pointwise (like input reading tells icase) (part input reading tells icase a k) (take n (drop p reading.points)) in
      let count : k ≡ p + k - p = omega arith in
      ap (λ x. copied input (offset reading b - offset reading a) Forward icase (offset reading a) (offset reading x) (offset reading p)) (sym end)
      ∙ forward_copied input reading tells icase k (offset reading b - offset reading a) a p (omega (arith, order, room)) here
      (let e = ap (offset reading) end in omega (arith, far, e))
      ∙ ap (λ n. if told n then Some (offset reading (p + k)) else None) count
      ∙ sym (placed_by-if (same_all context.table context.unicode icase (slice_range reading.points a b)) (offset reading) (nat_le (p + k) size) (slice_range reading.points p (p + k)) (p + k))
  repeated-told Backward a b p order room here =
      let k : ℕ = b - a in
      let end : b - k ≡ a = omega (arith, order) in
      let sum : a + k ≡ b = omega (arith, order) in
      let far = offsets-far reading tells.rise k a (omega (arith, order, room)) in
      let told : ℕ → ℕ → Bool = λ x n. nat_le k p && pointwise (like input reading tells icase) (part input reading tells icase x k) (take n (drop (p - k) reading.points)) in
      ap (λ x. copied input (offset reading b - offset reading a) Backward icase (offset reading b) (offset reading x) (offset reading p)) (sym end)
      ∙ backward_copied input reading tells icase k (offset reading b - offset reading a) b p (omega arith) room here
      (let e = ap (offset reading) sum in omega (arith, far, e))
      ∙ ap (λ x. if told x k then Some (offset reading (p - k)) else None) end
      ∙ ap (λ (t : Bool). if t then Some (offset reading (p - k)) else None)
      (counts k p (nat_le k p) refl (λ n. pointwise (like input reading tells icase) (part input reading tells icase a k) (take n (drop (p - k) reading.points))))
      ∙ sym (placed_by-if (same_all context.table context.unicode icase (slice_range reading.points a b)) (offset reading) (nat_le k p) (slice_range reading.points (p - k) p) (p - k))
    where
      counts : (k p : ℕ) (x : Bool) → nat_le k p ≡ x → (X : ℕ → Bool) → (x && X k) ≡ (x && X (p - (p - k)))
      counts k p true e X = let h = leb-true k p e in ap X (omega (arith, h))
      counts k p false e X = refl
