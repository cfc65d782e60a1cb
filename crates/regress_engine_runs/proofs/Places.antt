-- What a tree may be entered with, and what a state keeps and reaches behind it.
use Rattle.std.proofs.Common.{◌≡◌, ◌⊎◌, inl, inr, ℕ, ◌+◌, ◌<◌, ◌≤◌, ◌==◌, Bool, List, [], ◌∷◌, length, if◌then◌else◌, get_or, refl, ap, ◌∙◌, arith}
use Rattle.std.proofs.lemmas.List.Sums.{sum_by-append}
use Rattle.regress_meaning.specs.Meaning.{State, Direction}
use Rattle.regress_meaning.specs.Laws.{IsAhead}
use Rattle.regress_meaning.specs.Offsets.{Reading}
use Rattle.regress_front_nodes.specs.Trees.{Tree}
use Rattle.regress_front_nodes.specs.Trees as tree
use Rattle.regress_front_nodes.specs.TreeMeaning.{reads_backward}
use Rattle.regress_front_nodes.specs.WellFormed.{group_ids}
use Rattle.regress_front_nodes.proofs.CountLemmas.{times, count-cons}
use Rattle.regress_engine_insn.specs.Layout.{ProgramPoint, next, Target, AreArms, Lies}
use Rattle.regress_engine_runs.specs.States.{Whole, Marks, unset}
use Rattle.regress_engine_runs.specs.Stand.{StandsFor}

-- how often a group is in a tree
abbrev pub occurs : ℕ → Tree → ℕ
occurs k (tree.cat a b) = occurs k a + occurs k b
occurs k (tree.alt a b) = occurs k a + occurs k b
occurs k (tree.capture j name a) = (if j == k then 1 else 0) + occurs k a
occurs k (tree.submatch kind first last a) = occurs k a
occurs k (tree.loop a first last least most greedy) = occurs k a
occurs k (tree.single_loop a least most greedy) = occurs k a
occurs k _ = 0

-- Between two program points the loops that are numbered elsewhere are kept, and the groups that don't occur.
pub record AreKept (gone : ℕ → ℕ) (low high : ℕ) (old_loops : List (ℕ × ℕ)) (old : List Marks) (new_loops : List (ℕ × ℕ)) (new : List Marks) : Type 0 where
  pub loops : (k : ℕ) → (k < low) ⊎ (high ≤ k) → get_or new_loops k (0, 0) ≡ get_or old_loops k (0, 0)
  pub loop_count : length new_loops ≡ length old_loops
  pub groups : (k : ℕ) → gone k ≡ 0 → get_or new k unset ≡ get_or old k unset
  pub group_count : length new ≡ length old

-- the second state keeps them from the first
abbrev pub Keeps : (ℕ → ℕ) → ℕ → ℕ → Whole → Whole → Type 0
Keeps gone low high w v = AreKept gone low high w.loops w.groups v.loops v.groups

-- It stands for a state at an address, ahead of a place, having kept so much.
pub record HasArrived (reading : Reading) (dir : Direction) (address : ℕ) (gone : ℕ → ℕ) (low high : ℕ) (place : ℕ) (old_loops : List (ℕ × ℕ)) (old : List Marks) (s : State) (v : Whole) : Type 0 where
  pub at : v.at ≡ address
  pub stands : StandsFor reading s v
  pub keeps : AreKept gone low high old_loops old v.loops v.groups
  pub ahead : IsAhead dir place s.place

-- from the first state
abbrev pub Arrives : Reading → Direction → ℕ → (ℕ → ℕ) → ℕ → ℕ → ℕ → Whole → State → Whole → Type 0
Arrives reading dir address gone low high place w s v = HasArrived reading dir address gone low high place w.loops w.groups s v

-- There are the loops, and the groups that occur, with nothing in them.
pub record AreFree (gone : ℕ → ℕ) (high : ℕ) (all_loops : List (ℕ × ℕ)) (marks : List Marks) : Type 0 where
  pub loops : high ≤ length all_loops
  pub here : (k : ℕ) → 0 < gone k → k < length marks
  pub free : (k : ℕ) → 0 < gone k → get_or marks k unset ≡ unset

-- a state may enter
abbrev pub MayEnter : (ℕ → ℕ) → ℕ → Whole → Type 0
MayEnter gone high w = AreFree gone high w.loops w.groups

pub Keeps-all : (gone : ℕ → ℕ) (low high : ℕ) (w v : Whole) → v.loops ≡ w.loops → v.groups ≡ w.groups → Keeps gone low high w v
Keeps-all gone low high w v e f = record {
  loops = λ k h. ap (λ xs. get_or xs k (0, 0)) e;
  loop_count = ap length e;
  groups = λ k h. ap (λ xs. get_or xs k unset) f;
  group_count = ap length f;
}

pub Keeps-then : (f g : ℕ → ℕ) (low middle high : ℕ) (u v w : Whole) → low ≤ middle → middle ≤ high → Keeps f low middle u v → Keeps g middle high v w
    → Keeps (λ k. f k + g k) low high u w
Keeps-then f g low middle high u v w below above h k = record {
  loops = λ i o. k.loops i (before i o) ∙ h.loops i (behind i o);
  loop_count = k.loop_count ∙ h.loop_count;
  groups = λ i e. k.groups i (omega (arith, e)) ∙ h.groups i (omega (arith, e));
  group_count = k.group_count ∙ h.group_count;
}
  where
    before : (i : ℕ) → (i < low) ⊎ (high ≤ i) → (i < middle) ⊎ (high ≤ i)
    before i (inl o) = inl (omega arith)
    before i (inr o) = inr o

    behind : (i : ℕ) → (i < low) ⊎ (high ≤ i) → (i < low) ⊎ (middle ≤ i)
    behind i (inl o) = inl o
    behind i (inr o) = inr (omega arith)

-- the same of the same
pub Keeps-again : (f : ℕ → ℕ) (low high : ℕ) (u v w : Whole) → Keeps f low high u v → Keeps f low high v w → Keeps f low high u w
Keeps-again f low high u v w h k = record {
  loops = λ i o. k.loops i o ∙ h.loops i o;
  loop_count = k.loop_count ∙ h.loop_count;
  groups = λ i e. k.groups i e ∙ h.groups i e;
  group_count = k.group_count ∙ h.group_count;
}

-- the same, where fewer groups and loops are kept
pub Keeps-less : (f g : ℕ → ℕ) (low high below above : ℕ) (u v : Whole) → ((k : ℕ) → f k ≤ g k) → below ≤ low → high ≤ above
    → Keeps f low high u v → Keeps g below above u v
Keeps-less f g low high below above u v fewer b a h = record {
  loops = λ i o. h.loops i (outside i o);
  loop_count = h.loop_count;
  groups = λ i e. h.groups i (omega (arith, e, fewer i));
  group_count = h.group_count;
}
  where
    outside : (i : ℕ) → (i < below) ⊎ (above ≤ i) → (i < low) ⊎ (high ≤ i)
    outside i (inl o) = inl (omega arith)
    outside i (inr o) = inr (omega arith)

-- a part may be entered where the whole may
pub MayEnter-part : (f g : ℕ → ℕ) (high above : ℕ) (w : Whole) → ((k : ℕ) → f k ≤ g k) → high ≤ above → MayEnter g above w → MayEnter f high w
MayEnter-part f g high above w fewer a h = record {
  loops = omega (arith, h.loops);
  here = λ k o. h.here k (omega (arith, fewer k));
  free = λ k o. h.free k (omega (arith, fewer k));
}

-- and behind another part whose groups are others
pub MayEnter-after : (f g : ℕ → ℕ) (low middle high : ℕ) (w v : Whole) → ((k : ℕ) → f k + g k ≤ 1) → Keeps f low middle w v → MayEnter g high w → MayEnter g high v
MayEnter-after f g low middle high w v once keeps h = record {
  loops = omega (arith, h.loops, keeps.loop_count);
  here = λ k o. omega (arith, h.here k o, keeps.group_count);
  free = λ k o. keeps.groups k (omega (arith, once k)) ∙ h.free k o;
}

-- ids, counted
pub occurs-is : (k : ℕ) (t : Tree) → occurs k t ≡ times k (group_ids t)
occurs-is k (tree.cat a b) =
    let e = sum_by-append (λ id. if id == k then 1 else 0) (group_ids a) (group_ids b) in omega (arith, e, occurs-is k a, occurs-is k b)
occurs-is k (tree.alt a b) =
    let e = sum_by-append (λ id. if id == k then 1 else 0) (group_ids a) (group_ids b) in omega (arith, e, occurs-is k a, occurs-is k b)
occurs-is k (tree.capture j name a) = let e = count-cons k j (group_ids a) in omega (arith, e, occurs-is k a)
occurs-is k (tree.submatch kind first last a) = occurs-is k a
occurs-is k (tree.loop a first last least most greedy) = occurs-is k a
occurs-is k (tree.single_loop a least most greedy) = occurs-is k a
occurs-is k _ = refl

-- the loops of a program point that is told by another
loops-same : (p q : ProgramPoint) → q ≡ p → p.loops ≤ q.loops
loops-same p q e = let f : q.loops ≡ p.loops = ap (λ (m : ProgramPoint). m.loops) e in omega (arith, f)

pub arms-rise : (target : Target) (b icase : Bool) (strings : List (List ℕ)) (p q : ProgramPoint) → AreArms target b icase strings p q → p.loops ≤ q.loops
arms-rise target b icase [] p q h = loops-same (next p) q h.1
arms-rise target b icase (s ∷ []) p q h = let e = ap (λ (m : ProgramPoint). m.loops) h.1 in omega (arith, e)
arms-rise target b icase (s ∷ t ∷ ss) p q (m, first, alt, jump, rest) =
    let e = ap (λ (m : ProgramPoint). m.loops) first.1 in
    let r = arms-rise target b icase (t ∷ ss) (next m) q rest in
    omega (arith, e, r)

-- loops are numbered on
pub Lies-rises : (target : Target) (b : Bool) (t : Tree) (p q : ProgramPoint) → Lies target b t p q → p.loops ≤ q.loops
Lies-rises target b tree.empty p q h = loops-same p q h
Lies-rises target b tree.goal p q h = loops-same (next p) q h.1
Lies-rises target b (tree.char c) p q h = loops-same (next p) q h.1
Lies-rises target b (tree.bytes bs) p q h = let e = ap (λ (m : ProgramPoint). m.loops) h.1 in omega (arith, e)
Lies-rises target b (tree.byte_set bs) p q h = loops-same (next p) q h.1
Lies-rises target b (tree.char_set cs) p q h = loops-same (next p) q h.1
Lies-rises target b (tree.cat s t) p q (m, h, k) =
    let e = Lies-rises target b s p m h in let f = Lies-rises target b t m q k in omega (arith, e, f)
Lies-rises target b tree.no_part p q h = loops-same p q h
Lies-rises target b (tree.alt s t) p q (m, alt, h, jump, k) =
    let e = Lies-rises target b s (next p) m h in let f = Lies-rises target b t (next m) q k in omega (arith, e, f)
Lies-rises target b tree.any p q h = loops-same (next p) q h.1
Lies-rises target b tree.any_in_line p q h = loops-same (next p) q h.1
Lies-rises target b (tree.line_start multiline) p q h = loops-same (next p) q h.1
Lies-rises target b (tree.line_end multiline) p q h = loops-same (next p) q h.1
Lies-rises target b (tree.boundary inverted folded) p q h = loops-same (next p) q h.1
Lies-rises target b (tree.capture k name a) p q (m, begin, h, ended) =
    let e = Lies-rises target b a (next p) m h in let f = loops-same (next m) q ended.1 in omega (arith, e, f)
Lies-rises target b (tree.back k icase) p q h = loops-same (next p) q h.1
Lies-rises target b (tree.bracket inverted intervals) p q (i, is, h) = loops-same (next p) q h.1
Lies-rises target b (tree.string_set strings icase) p q h = arms-rise target b icase strings p q h
Lies-rises target b (tree.submatch kind first last a) p q (m, begin, h, ended) =
    let e = Lies-rises target (reads_backward kind b) a (next p) m h in let f = loops-same (next m) q ended.1 in omega (arith, e, f)
Lies-rises target b (tree.loop a first last least most greedy) p q (m, begin, reset, h, ended) =
    let e = Lies-rises target b a _ m h in let f = loops-same (next m) q ended.1 in omega (arith, e, f)
Lies-rises target b (tree.single_loop a least most greedy) p q h = Lies-rises target b a (next p) q h.1
