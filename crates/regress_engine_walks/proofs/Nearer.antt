-- A walk comes nearer to its end: outside of contents, inside of those that may have loops, and into them.
use Rattle.std.specs.Prelude.{nat_lt, not}
use Rattle.std.proofs.Common.{◌≡◌, ◌==◌, inl, inr, ℕ, zero, suc, ◌+◌, ◌-◌, ◌*◌, ◌<◌, ◌≤◌, ◌&&◌, Bool, true, false, List, [], ◌∷◌, length, if◌then◌else◌, refl, sym, ap, ◌∙◌, subst, arith}
use Rattle.std.proofs.lemmas.Bool.{and_parts}
use Rattle.std.proofs.lemmas.Nat.{mul-le}
use Rattle.std.proofs.Math.Nat.{mul-add, mul-le-mul_left, suc-mul}
use Rattle.regress_meaning.specs.Meaning.{Direction, Backward, Forward}
use Rattle.regress_engine_input.specs.Views.{View, direction_of}
use Rattle.regress_engine_insn.specs.Instructions.{Program}
use Rattle.regress_engine_runs.specs.Runs.{room}
use Rattle.regress_engine_runs.specs.States.{Whole}
use Rattle.regress_engine_runs.specs.UndoStack.{whole}
use Rattle.regress_engine_memory.proofs.Onward.{room-less}
use Rattle.regress_engine_linear.specs.Linear.{repeats_inside}
use Rattle.regress_engine_linear.specs.RankTables.{Heights, ArePlaced, forward_at, rank_at, ranking_of}
use Rattle.regress_engine_linear.specs.Ranks.{IsBeyond}
use Rattle.regress_engine_linear.proofs.WorkLemmas.{rank-low}
use Rattle.regress_engine_walks.specs.Walked.{are_atomic, far, far_inside, have_loops, in_loops, lower_among, sizes_from, to_end}
use Rattle.regress_engine_walks.specs.declared.walker.Frame.{Frame}
use Rattle.regress_engine_walks.proofs.Sizes.{lower-few, lower-less, lower-one}

module _ (h : Heights) (program : Program) (v : View) (placed : ArePlaced h (length h.ranks)) (start : ℕ) where
  abbrev last : ℕ
  last = length v.units

  abbrev left : List Frame → (at o : ℕ) → ℕ
  left frames at o = far h program v start frames at o

  abbrev near : (at o : ℕ) → ℕ
  near at o = to_end h program v at o

  abbrev N : ℕ
  N = length h.order

  nearer : (at o : ℕ) (u : Whole) → IsBeyond (ranking_of h) last Forward (whole at o [] []) u → u.at < length h.ranks → near u.at u.offset < near at o
  nearer at o u beyond there = by_way beyond
    where
      by_way : IsBeyond (ranking_of h) last Forward (whole at o [] []) u → room last Forward u.offset * N + rank_at h u.at < room last Forward o * N + rank_at h at
      by_way (inl further) =
          let less : suc (room last Forward u.offset) ≤ room last Forward o = room-less last Forward o u.offset further in
          let more = mul-le (suc (room last Forward u.offset)) N (room last Forward o) N less (omega arith) in
          let one = suc-mul (room last Forward u.offset) N in
          let low = rank-low h placed u.at there in
          omega (arith, more, one, low)
      by_way (inr (same, lower)) = let e = ap (λ x. room last Forward x * N) same in omega (arith, e, lower)

  -- what may still come
  pub loops-le : (at b : ℕ) → sizes_from program b ≤ sizes_from program at → in_loops h program v start b ≤ in_loops h program v start at
  loops-le at b low = by_start (start == 0)
    where
      by_start : (c : Bool) → (if c then suc last * sizes_from program b else 0) ≤ (if c then suc last * sizes_from program at else 0)
      by_start true = mul-le-mul_left (suc last) low
      by_start false = omega arith

  pub outside-nearer : (at o : ℕ) (u : Whole) → IsBeyond (ranking_of h) last Forward (whole at o [] []) u → u.at < length h.ranks → sizes_from program u.at ≤ sizes_from program at
      → left [] u.at u.offset < left [] at o
  outside-nearer at o u beyond there low = let less = nearer at o u beyond there in let few = loops-le at u.at low in omega (arith, less, few)

  -- an address is inside of the contents of a frame
  abbrev pub IsIn : Frame → (b : ℕ) → Type 0
  IsIn f b = (f.opened < b) × (b < f.continuation)

  -- and of all around
  abbrev pub Holds : List Frame → (b : ℕ) → Type 0
  Holds [] b = Unit {0}
  Holds (f ∷ fs) b = IsIn f b × Holds fs b

  -- inside of contents with loops
  inside-nearer : (f : Frame) (dir : Direction) (at o : ℕ) (u : Whole) → direction_of (forward_at h at) ≡ dir → direction_of (forward_at h u.at) ≡ dir → IsIn f at → IsIn f u.at
      → IsBeyond (ranking_of h) last dir (whole at o [] []) u → far_inside h program v f u.at u.offset < far_inside h program v f at o
  inside-nearer f dir at o u way on (after, ahead) (after', ahead') beyond = by_way beyond
    where
      n : ℕ
      n = f.continuation - suc f.opened

      from : ℕ
      from = suc f.opened

      here : room last (direction_of (forward_at h at)) o ≡ room last dir o
      here = ap (λ d. room last d o) way

      there : room last (direction_of (forward_at h u.at)) u.offset ≡ room last dir u.offset
      there = ap (λ d. room last d u.offset) on

      ends : from + n ≡ f.continuation
      ends = omega (arith, after, ahead)

      so : room last dir u.offset * n + lower_among h (rank_at h u.at) from n < room last dir o * n + lower_among h (rank_at h at) from n
          → far_inside h program v f u.at u.offset < far_inside h program v f at o
      so less = let e = ap (λ x. x * n) here in let e' = ap (λ x. x * n) there in omega (arith, less, e, e')

      by_way : IsBeyond (ranking_of h) last dir (whole at o [] []) u → far_inside h program v f u.at u.offset < far_inside h program v f at o
      by_way (inl further) =
          let less : suc (room last dir u.offset) ≤ room last dir o = room-less last dir o u.offset further in
          let more = mul-le (suc (room last dir u.offset)) n (room last dir o) n less (omega arith) in
          let one = suc-mul (room last dir u.offset) n in
          let low = lower-one h u.at from n (omega (arith, after')) (omega (arith, ends, ahead')) in
          so (omega (arith, more, one, low))
      by_way (inr (same, lower)) =
          let e = ap (λ x. room last dir x * n) same in
          let less = lower-less h (rank_at h at) (rank_at h u.at) u.at from n (omega (arith, after')) (omega (arith, ends, ahead')) (omega arith) lower in
          so (omega (arith, e, less))

  -- ---- what is left where contents may have loops, and where they have none

  pub loops-left : (f : Frame) (fs : List Frame) (at o : ℕ) → have_loops program (f ∷ fs) ≡ true
      → left (f ∷ fs) at o ≡ (if f.returns then left fs f.continuation f.offset + far_inside h program v f at o else left fs at o)
  loops-left f fs at o is =
      ap (λ (b : Bool). if b then (if f.returns then left fs f.continuation f.offset + far_inside h program v f at o else left fs at o)
      else left fs f.continuation f.offset + (f.continuation - at)) is

  pub free-left : (f : Frame) (fs : List Frame) (at o : ℕ) → have_loops program (f ∷ fs) ≡ false → left (f ∷ fs) at o ≡ left fs f.continuation f.offset + (f.continuation - at)
  free-left f fs at o is =
      ap (λ (b : Bool). if b then (if f.returns then left fs f.continuation f.offset + far_inside h program v f at o else left fs at o)
      else left fs f.continuation f.offset + (f.continuation - at)) is

  not-so : (b : Bool) → not b ≡ true → b ≡ false
  not-so true e = absurd (cc e)
  not-so false e = refl

  -- an atomic group's contents have loops where they may stand around it
  pub loops-around : (f : Frame) (fs : List Frame) → f.returns ≡ false → have_loops program (f ∷ fs) ≡ have_loops program fs
  loops-around f fs is = ap (λ (b : Bool). if b then are_atomic fs && repeats_inside program f.opened f.continuation else have_loops program fs) is

  -- outside of lookarounds they may
  pub loops-outside : (frames : List Frame) → are_atomic frames ≡ true → have_loops program frames ≡ true
  loops-outside [] plain = refl
  loops-outside (f ∷ fs) plain =
      let (stays, others) = and_parts (not f.returns) (are_atomic fs) plain in loops-around f fs (not-so f.returns stays) ∙ loops-outside fs others

  pub outside-left : (frames : List Frame) → are_atomic frames ≡ true → (at o : ℕ) → left frames at o ≡ left [] at o
  outside-left [] plain at o = refl
  outside-left (f ∷ fs) plain at o =
      let (stays, others) = and_parts (not f.returns) (are_atomic fs) plain in
      loops-left f fs at o (loops-outside (f ∷ fs) plain)
      ∙ ap (λ (b : Bool). if b then left fs f.continuation f.offset + far_inside h program v f at o else left fs at o) (not-so f.returns stays)
      ∙ outside-left fs others at o

  -- Where contents may have loops a walk comes nearer that goes beyond.
  pub loops-nearer : (frames : List Frame) → have_loops program frames ≡ true → (dir : Direction) (at o : ℕ) (u : Whole) → direction_of (forward_at h at) ≡ dir
      → direction_of (forward_at h u.at) ≡ dir → (are_atomic frames ≡ true → dir ≡ Forward) → Holds frames at → Holds frames u.at
      → IsBeyond (ranking_of h) last dir (whole at o [] []) u → u.at < length h.ranks → sizes_from program u.at ≤ sizes_from program at → left frames u.at u.offset < left frames at o
  loops-nearer [] have dir at o u way on outside hold hold' beyond there low =
      outside-nearer at o u (subst (λ d. IsBeyond (ranking_of h) last d (whole at o [] []) u) (outside refl) beyond) there low
  loops-nearer (f ∷ fs) have dir at o u way on outside (in-f, hold) (in-f', hold') beyond there low =
      by_kind f.returns refl (λ is. loops-nearer fs (sym (loops-around f fs is) ∙ have) dir at o u way on (λ plain. outside (ap (λ (b : Bool). not b && are_atomic fs) is ∙ plain)) hold hold' beyond there low)
    where
      was : (b : Bool) → f.returns ≡ b → left (f ∷ fs) at o ≡ (if b then left fs f.continuation f.offset + far_inside h program v f at o else left fs at o)
      was b is = loops-left f fs at o have ∙ ap (λ (c : Bool). if c then left fs f.continuation f.offset + far_inside h program v f at o else left fs at o) is

      next : (b : Bool) → f.returns ≡ b
          → left (f ∷ fs) u.at u.offset ≡ (if b then left fs f.continuation f.offset + far_inside h program v f u.at u.offset else left fs u.at u.offset)
      next b is = loops-left f fs u.at u.offset have ∙ ap (λ (c : Bool). if c then left fs f.continuation f.offset + far_inside h program v f u.at u.offset else left fs u.at u.offset) is

      by_kind : (b : Bool) → f.returns ≡ b → (f.returns ≡ false → left fs u.at u.offset < left fs at o) → left (f ∷ fs) u.at u.offset < left (f ∷ fs) at o
      by_kind true is around =
          let less = inside-nearer f dir at o u way on in-f in-f' beyond in let e = was true is in let e' = next true is in omega (arith, less, e, e')
      by_kind false is around = let less = around is in let e = was false is in let e' = next false is in omega (arith, less, e, e')

  -- ---- into contents

  room-few : (dir : Direction) (o : ℕ) → o ≤ last → room last dir o ≤ last
  room-few Forward o low = omega arith
  room-few Backward o low = low

  -- Into a lookaround with loops a walk comes nearer that began where the text does: it has so many steps left as its contents may take.
  pub nearer-once : (at o continuation : ℕ) (f : Frame) → start ≡ 0 → f.opened ≡ at → f.continuation ≡ continuation → suc at < continuation → o ≤ last → rank_at h continuation < rank_at h at
      → (continuation - at) + sizes_from program continuation ≤ sizes_from program at → left [] continuation o + far_inside h program v f (suc at) o < left [] at o
  nearer-once at o continuation f begins opens ends some lies lower sizes =
      let before : in_loops h program v start at ≡ suc last * sizes_from program at = by_start at in
      let behind : in_loops h program v start continuation ≡ suc last * sizes_from program continuation = by_start continuation in
      let all = mul-le-mul_left (suc last) sizes in
      let parts = mul-add (suc last) (continuation - at) (sizes_from program continuation) in
      let size : continuation - at ≡ suc n = omega (arith, some, opens, ends) in
      let wide = ap (λ x. suc last * x) size in
      let product = mul-add (suc last) 1 n in
      let one = suc-mul last n in
      let few = mul-le (room last (direction_of (forward_at h (suc at))) o) n last n (room-few (direction_of (forward_at h (suc at))) o lies) (omega arith) in
      let low = lower-few h (rank_at h (suc at)) (suc f.opened) n in
      omega (arith, before, behind, all, parts, wide, product, one, few, low, lower)
    where
      n : ℕ
      n = f.continuation - suc f.opened

      by_start : (b : ℕ) → in_loops h program v start b ≡ suc last * sizes_from program b
      by_start b = ap (λ x. if x == 0 then suc last * sizes_from program b else 0) begins
