-- Entering a reference to a group.
use lib.Pointwise.{pointwise}
use Rattle.std.specs.Prelude.{nat_le, slice_get, slice_range, IfSome, All, unwrap_or}
use Rattle.std.proofs.Common.{◌≡◌, ◌⊎◌, inl, inr, ℕ, suc, ◌+◌, ◌-◌, ◌<◌, ◌≤◌, ◌&&◌, Bool, true, false, List, [], ◌∷◌, length, take, drop, Option, Some, None, if◌then◌else◌, get_or, option_map, refl, sym, ap, ap₂, ◌∙◌, subst, arith}
use Rattle.std.proofs.lemmas.Option.{unwrap_or-slice_get}
use Rattle.std.proofs.lemmas.List.Elements.{All-get_or}
use Rattle.std.proofs.lemmas.Bool.{cases_lt, leb-true}
use Rattle.std.proofs.lemmas.List.{get_or_past}
use Rattle.regress_meaning.specs.Meaning.{State, Direction, Forward, Backward, Context, beside, step, stepped, same_all, repeat_group}
use Rattle.regress_meaning.specs.Offsets.{Reading, offset, offset_range}
use Rattle.regress_meaning.specs.Laws.{IsAhead, LiesIn}
use Rattle.regress_meaning.specs.Inputs.{Input, Tells, context_of}
use Rattle.regress_meaning.specs.Steps.{repeated, copied}
use Rattle.regress_front_nodes.specs.Trees.{Tree}
use Rattle.regress_front_nodes.specs.Trees as tree
use Rattle.regress_front_nodes.specs.TreeMeaning.{node_outcomes, direction}
use Rattle.regress_engine_insn.specs.Instructions.{Program, Instruction, Stands}
use Rattle.regress_engine_insn.specs.Instructions as code
use Rattle.regress_engine_insn.specs.Layout.{ProgramPoint, next, Target}
use Rattle.regress_engine_runs.specs.States.{Whole, unset, range_of, onward}
use Rattle.regress_engine_runs.specs.Runs.{moved_to, successors}
use Rattle.regress_engine_runs.specs.Meets.{AreAtPlaces}
use Rattle.regress_engine_runs.specs.Stand.{StandsFor}
use Rattle.regress_engine_runs.proofs.RunLemmas.{Expands, steps}
use Rattle.regress_engine_runs.proofs.Leading.{Pairwise, leads_at_once, first_expand}
use Rattle.regress_engine_runs.proofs.Places.{occurs, Arrives, Keeps-all}
use Rattle.regress_engine_runs.proofs.Entering.{Enters, standing, stays}
use Rattle.regress_meaning.proofs.OffsetLemmas.{offsets-far}
use Rattle.regress_meaning.proofs.Copies.{like, part, forward_copied, backward_copied}

module _ (target : Target) (input : Input) (reading : Reading) (tells : Tells reading input) (icase : Bool) where
  abbrev context : Context
  context = context_of reading input

  abbrev size : ℕ
  size = length reading.points

  -- the state at a place, and the whole state at its offset
  abbrev Moves : Direction → ℕ → (ℕ → ℕ) → ℕ → ℕ → State → Whole → State → Whole → Type 0
  Moves dir address gone low high s w = Arrives reading dir address gone low high s.place w

  moves : (dir : Direction) (address : ℕ) (gone : ℕ → ℕ) (low high : ℕ) (s : State) (w : Whole) (q : ℕ) (b : Bool) → suc w.at ≡ address → StandsFor reading s w
      → (b ≡ true → (q ≤ size) × IsAhead dir s.place q)
      → Pairwise (Moves dir address gone low high s w) (if b then record s { place = q } ∷ [] else []) (moved_to w (if b then Some (offset reading q) else None))
  moves dir address gone low high s w q true at stands room = (
    record {
      at = at;
      stands = record { place = refl; count = stands.count; groups = stands.groups; inside = record { place = (room refl).0; groups = stands.inside.groups } };
      keeps = Keeps-all gone low high w w refl refl;
      ahead = (room refl).1;
    },
    tt,
  )
  moves dir address gone low high s w q false at stands room = tt

  -- a step over what is beside
  stepped-if : (b : Bool) (test : List ℕ → Bool) (s : State) (cs : List ℕ) (q : ℕ)
      → stepped test s (if b then Some (cs, q) else None) ≡ (if b && test cs then record s { place = q } ∷ [] else [])
  stepped-if true test s cs q = refl
  stepped-if false test s cs q = refl

  copies : (dir : Direction) (address : ℕ) (gone : ℕ → ℕ) (low high : ℕ) (s : State) (w : Whole) (a b : ℕ) → suc w.at ≡ address → StandsFor reading s w → LiesIn size (a, b)
      → Pairwise (Moves dir address gone low high s w) (step context dir (b - a) (same_all context.table context.unicode icase (slice_range reading.points a b)) s)
      (moved_to w (repeated input dir icase (Some (offset reading a, offset reading b)) w.offset))
  unfolding step beside
  copies Forward address gone low high s w a b at stands (order, room) =
      let k : ℕ = b - a in
      let p : ℕ = s.place in
      let end : a + k ≡ b = omega (arith, order) in
      let far = offsets-far reading tells.rise k a (omega (arith, order, room)) in
      let told : ℕ → Bool = λ n. nat_le (p + k) size && pointwise (like input reading tells icase) (part input reading tells icase a k) (take n (drop p reading.points)) in
      let count : p + k - p ≡ k = omega arith in
      let theirs : copied input (offset reading b - offset reading a) Forward icase (offset reading a) (offset reading b) w.offset ≡ (if told k then Some (offset reading (p + k)) else None) =
      ap₂ (λ x y. copied input (offset reading b - offset reading a) Forward icase (offset reading a) (offset reading x) y) (sym end) stands.place
      ∙ forward_copied input reading tells icase k (offset reading b - offset reading a) a p (omega (arith, order, room)) stands.inside.place
      (let e = ap (offset reading) end in omega (arith, far, e)) in
      let ours : (if told (p + k - p) then record s { place = p + k } ∷ [] else []) ≡ (if told k then record s { place = p + k } ∷ [] else []) =
      ap (λ n. if told n then record s { place = p + k } ∷ [] else []) count in
      let Q : State → Whole → Type 0 = Moves Forward address gone low high s w in
      let room-of : told k ≡ true → (p + k ≤ size) × IsAhead Forward p (p + k) = λ t. (inside-of (nat_le (p + k) size) _ t refl, omega arith) in
      subst (λ us. Pairwise Q us (moved_to w (repeated input Forward icase (Some (offset reading a, offset reading b)) w.offset)))
      (sym (stepped-if (nat_le (p + k) size) (same_all context.table context.unicode icase (slice_range reading.points a b)) s (slice_range reading.points p (p + k)) (p + k) ∙ ours))
      (subst (λ o. Pairwise Q (if told k then record s { place = p + k } ∷ [] else []) (moved_to w o)) (sym theirs) (moves Forward address gone low high s w (p + k) (told k) at stands room-of))
    where
      inside-of : (x y : Bool) → (x && y) ≡ true → nat_le (s.place + (b - a)) size ≡ x → s.place + (b - a) ≤ size
      inside-of true y t e = leb-true _ _ e
      inside-of false y t e = absurd (grind arith)
  copies Backward address gone low high s w a b at stands (order, room) =
      let k : ℕ = b - a in
      let p : ℕ = s.place in
      let end : b - k ≡ a = omega (arith, order) in
      let sum : a + k ≡ b = omega (arith, order) in
      let far = offsets-far reading tells.rise k a (omega (arith, order, room)) in
      let told : ℕ → ℕ → Bool = λ x n. nat_le k p && pointwise (like input reading tells icase) (part input reading tells icase x k) (take n (drop (p - k) reading.points)) in
      let theirs : copied input (offset reading b - offset reading a) Backward icase (offset reading b) (offset reading a) w.offset ≡ (if told a k then Some (offset reading (p - k)) else None) =
      ap₂ (λ x y. copied input (offset reading b - offset reading a) Backward icase (offset reading b) (offset reading x) y) (sym end) stands.place
      ∙ backward_copied input reading tells icase k (offset reading b - offset reading a) b p (omega arith) room stands.inside.place
      (let e = ap (offset reading) sum in omega (arith, far, e))
      ∙ ap (λ x. if told x k then Some (offset reading (p - k)) else None) end in
      let ours : (if told a (p - (p - k)) then record s { place = p - k } ∷ [] else []) ≡ (if told a k then record s { place = p - k } ∷ [] else []) =
      ap (λ (t : Bool). if t then record s { place = p - k } ∷ [] else [])
      (counts k p (nat_le k p) refl (λ n. pointwise (like input reading tells icase) (part input reading tells icase a k) (take n (drop (p - k) reading.points)))) in
      let Q : State → Whole → Type 0 = Moves Backward address gone low high s w in
      let here : p ≤ size = stands.inside.place in
      let room-of : told a k ≡ true → (p - k ≤ size) × IsAhead Backward p (p - k) = λ t. (omega (arith, here), omega arith) in
      subst (λ us. Pairwise Q us (moved_to w (repeated input Backward icase (Some (offset reading a, offset reading b)) w.offset)))
      (sym (stepped-if (nat_le k p) (same_all context.table context.unicode icase (slice_range reading.points a b)) s (slice_range reading.points (p - k) p) (p - k) ∙ ours))
      (subst (λ o. Pairwise Q (if told a k then record s { place = p - k } ∷ [] else []) (moved_to w o)) (sym theirs) (moves Backward address gone low high s w (p - k) (told a k) at stands room-of))
    where
      counts : (k p : ℕ) (x : Bool) → nat_le k p ≡ x → (X : ℕ → Bool) → (x && X (p - (p - k))) ≡ (x && X k)
      counts k p true e X = let h = leb-true k p e in ap X (omega (arith, h))
      counts k p false e X = refl

  -- by what the group took
  by_group : (dir : Direction) (address : ℕ) (gone : ℕ → ℕ) (low high : ℕ) (s : State) (w : Whole) (o : Option (Option (ℕ × ℕ))) → suc w.at ≡ address → StandsFor reading s w
      → IfSome (unwrap_or o None) (LiesIn size)
      → Pairwise (Moves dir address gone low high s w) (repeat_group context dir icase o s)
      (moved_to w (repeated input dir icase (option_map (offset_range reading) (unwrap_or o None)) w.offset))
  unfolding repeat_group
  by_group dir address gone low high s w None at stands h = (stays target input reading dir address gone low high s w (onward w) at stands refl refl, tt)
  by_group dir address gone low high s w (Some None) at stands h = (stays target input reading dir address gone low high s w (onward w) at stands refl refl, tt)
  by_group dir address gone low high s w (Some (Some (a, b))) at stands h = copies dir address gone low high s w a b at stands h

  pub referring : (b : Bool) (k : ℕ) (p : ProgramPoint) → Stands target.program p.address (code.back (k - 1) icase) → Enters target input reading b (tree.back k icase) p (next p)
  unfolding node_outcomes
  referring b k p here s w at stands may =
      let dir : Direction = direction b in
      let j : ℕ = k - 1 in
      let gone : ℕ → ℕ = λ i. occurs i (tree.back k icase) in
      let Q : State → Whole → Type 0 = Moves dir (suc p.address) gone p.loops p.loops s w in
      let o : Option (Option (ℕ × ℕ)) = slice_get s.groups j in
      let read : unwrap_or o None ≡ get_or s.groups j None = unwrap_or-slice_get s.groups j None in
      let told : range_of (get_or w.groups j unset) ≡ option_map (offset_range reading) (unwrap_or o None) =
      stands.groups j ∙ ap (option_map (offset_range reading)) (sym read) in
      let lies : IfSome (unwrap_or o None) (LiesIn size) = subst (λ g. IfSome g (LiesIn size)) (sym read) (group-lies s.groups j stands.inside.groups) in
      let refers : IfSome (range_of (get_or w.groups j unset)) (AreAtPlaces reading) =
      subst (λ g. IfSome g (AreAtPlaces reading)) (sym told) (range-told (unwrap_or o None) lies) in
      let us : List State = repeat_group context dir icase o s in
      let ws : List Whole = moved_to w (repeated input dir icase (option_map (offset_range reading) (unwrap_or o None)) w.offset) in
      let does : successors target.program input (code.back j icase) dir w ≡ ws = ap (λ g. moved_to w (repeated input dir icase g w.offset)) told in
      first_expand target.program input reading Q (w ∷ []) ws us
      (subst (Expands target.program input reading dir (w ∷ [])) does (steps target.program input reading (code.back j icase) w (standing target input reading w at here) refl (λ e. ((s.place, stands.inside.place, stands.place), refers))))
      (leads_at_once target.program input reading Q us ws (by_group dir (suc p.address) gone p.loops p.loops s w o (ap suc at) stands lies))
    where
      -- the ends of a range are told as offsets of places
      range-told : (g : Option (ℕ × ℕ)) → IfSome g (LiesIn size) → IfSome (option_map (offset_range reading) g) (AreAtPlaces reading)
      range-told None lies = tt
      range-told (Some (a, b)) (order, room) =
          let far = offsets-far reading tells.rise (b - a) a (omega (arith, order, room)) in
          let end : a + (b - a) ≡ b = omega (arith, order) in
          let same = ap (offset reading) end in
          ((a, omega (arith, order, room), refl), (b, room, refl), omega (arith, far, same))

      group-lies : (gs : List (Option (ℕ × ℕ))) (j : ℕ) → All (λ g. IfSome g (LiesIn size)) gs → IfSome (get_or gs j None) (LiesIn size)
      group-lies gs j h = by_place (cases_lt j (length gs))
        where
          by_place : (j < length gs) ⊎ (length gs ≤ j) → IfSome (get_or gs j None) (LiesIn size)
          by_place (inl less) = All-get_or (λ g. IfSome g (LiesIn size)) gs j None less h
          by_place (inr past) = subst (λ g. IfSome g (LiesIn size)) (sym (get_or_past gs j None past)) tt
