-- What an emitted program stands for: its groups, and its layout.
use Rattle.std.specs.Prelude.{count_by, slice_get}
use Rattle.std.proofs.lemmas.List.Sums.{sum_by-cons}
use Rattle.std.proofs.Common.{◌≡◌, ℕ, zero, suc, ◌+◌, ◌<◌, ◌≤◌, ◌==◌, Bool, true, false, List, [], ◌∷◌, length, cond, if◌then◌else◌, nat_le, nat_lt, ◌&&◌, refl, sym, ap, ap₂, ◌∙◌, subst, arith, length-append}
use Rattle.std.proofs.lemmas.Bool.Decides.{nat_tests}
use Rattle.regress_meaning.specs.Table.{Table}
use Rattle.regress_front_nodes.specs.Trees.{Tree, cat, alt, capture, submatch, loop, single_loop}
use Rattle.regress_front_nodes.specs.Singles.{takes_one}
use Rattle.regress_front_nodes.specs.WellFormed.{AreLawful, IsWellFormed, group_ids}
use Rattle.regress_front_nodes.specs.Sizes.{loops}
use Rattle.regress_engine_insn.specs.Counts.{count}
use Rattle.regress_engine_insn.specs.Instructions.{Instruction, Program}
use Rattle.regress_engine_insn.specs.Layout.{ProgramPoint, Lies, IsLayout}
use Rattle.regress_engine_code.specs.Written.{Written, AddsTree}
use Rattle.regress_engine_code.proofs.AddLemmas.{AddsTree-counted}

-- how often a number stands in a list
abbrev times : ℕ → List ℕ → ℕ
times k ids = count_by (λ id. id == k) ids

-- how often the numbers below one stand there
abbrev times_below : ℕ → List ℕ → ℕ
times_below zero ids = 0
times_below (suc n) ids = times_below n ids + times n ids

below-none : (n : ℕ) → times_below n [] ≡ 0
below-none zero = refl
below-none (suc n) = omega (arith, below-none n)

-- one more in the list counts once, and only where it is below
below-cons : (n id : ℕ) (ids : List ℕ) → times_below n (id ∷ ids) ≤ times_below n ids + (if nat_lt id n then 1 else 0)
below-cons zero id ids = omega arith
below-cons (suc n) id ids =
    let rest = below-cons n id ids in
    let own = sum_by-cons (λ (x : ℕ). cond (x == n) 1 0) id ids in
    grind (arith, nat_tests, rest, own)

below-few : (n : ℕ) (ids : List ℕ) → times_below n ids ≤ length ids
below-few n [] = omega (arith, below-none n)
below-few n (id ∷ ids) =
    let more = below-cons n id ids in
    let few = below-few n ids in
    let one : (if◌then◌else◌ {A = ℕ} (nat_lt id n) 1 0) ≤ 1 = at_most (nat_lt id n) in
    omega (arith, more, few, one)
  where
    at_most : (b : Bool) → (if◌then◌else◌ {A = ℕ} b 1 0) ≤ 1
    at_most true = omega arith
    at_most false = omega arith

-- a list in which each number below n stands has n elements or more
numbers-few : (n : ℕ) (ids : List ℕ) → ((k : ℕ) → k < n → times k ids ≡ 1) → n ≤ length ids
numbers-few n ids each = let all = all-below n each in let few = below-few n ids in omega (arith, all, few)
  where
    all-below : (n : ℕ) → ((k : ℕ) → k < n → times k ids ≡ 1) → times_below n ids ≡ n
    all-below zero each = refl
    all-below (suc n) each = omega (arith, all-below n (λ k below. each k (omega arith)), each n (omega arith))

-- a tree has no fewer instructions than groups
groups-counted : (units : Bool) (table : Table) (unicode : Bool) (n : ℕ) (t : Tree) → AreLawful n t → length (group_ids t) ≤ count units table unicode t
unfolding count
groups-counted units table unicode n (cat a b) lawful =
    let size = length-append (group_ids a) (group_ids b) in
    let first = groups-counted units table unicode n a lawful.0 in
    let second = groups-counted units table unicode n b lawful.1 in
    omega (arith, size, first, second)
groups-counted units table unicode n (alt a b) lawful =
    let size = length-append (group_ids a) (group_ids b) in
    let first = groups-counted units table unicode n a lawful.0 in
    let second = groups-counted units table unicode n b lawful.1 in
    omega (arith, size, first, second)
groups-counted units table unicode n (capture k name a) lawful = omega (arith, groups-counted units table unicode n a lawful.1)
groups-counted units table unicode n (submatch kind first last a) lawful = omega (arith, groups-counted units table unicode n a lawful.1)
groups-counted units table unicode n (loop a first last least most greedy) lawful = omega (arith, groups-counted units table unicode n a lawful.2)
groups-counted units table unicode n (single_loop a least most greedy) lawful = omega (arith, ap length (none a lawful.0))
  where
    none : (a : Tree) → takes_one a ≡ true → group_ids a ≡ []
    none (cat s t) is = absurd (grind arith)
    none (alt s t) is = absurd (grind arith)
    none (capture k name s) is = absurd (grind arith)
    none (submatch kind first last s) is = absurd (grind arith)
    none (loop s first last least most greedy) is = absurd (grind arith)
    none (single_loop s least most greedy) is = absurd (grind arith)
    none _ is = refl
groups-counted units table unicode n _ lawful = omega arith

-- so a well-formed tree of n groups has n instructions or more
pub groups-few : (units : Bool) (table : Table) (unicode : Bool) (n : ℕ) (t : Tree) → IsWellFormed n t → n ≤ count units table unicode t
groups-few units table unicode n t well =
    let few = numbers-few n (group_ids t) each in
    let counted = groups-counted units table unicode n t well.lawful in
    omega (arith, few, counted)
  where
    each : (k : ℕ) → k < n → times k (group_ids t) ≡ 1
    each k within =
        let inside : (nat_le 0 k && nat_lt k n) ≡ true = grind (arith, nat_tests) in
        well.numbered.once k ∙ ap (λ (b : Bool). if b then 1 else 0) inside

-- a program of all that is written of a tree is the tree's layout
pub whole-layout : (units : Bool) (table : Table) (unicode : Bool) (n : ℕ) (t : Tree) (start w : Written) (program : Program)
    → start ≡ record { instructions = []; brackets = []; loops = 0 } → AddsTree units table unicode false t start w
    → program.units ≡ units → program.instructions ≡ w.instructions → program.brackets ≡ w.brackets → program.loops ≡ w.loops → program.groups ≡ n
    → IsLayout (record { program = program; table = table; unicode = unicode }) n t
whole-layout units table unicode n t start w program from adds same instructions brackets loops groups =
    let added = subst (λ (v : Written). AddsTree units table unicode false t v w) from adds in
    let lies = added.lie program same (record {
      instructions = λ k i low h. ap (λ (is : List Instruction). slice_get is k) instructions ∙ h;
      brackets = λ k x h. ap (λ (bs : List (Bool × List (ℕ × ℕ))). slice_get bs k) brackets ∙ h;
    }) in
    record {
      lies = subst (λ (q : ProgramPoint). Lies (record { program = program; table = table; unicode = unicode }) false t (record { address = 0; loops = 0 }) q)
          (ap₂ (λ (is : List Instruction) (l : ℕ). let q : ProgramPoint = record { address = length is; loops = l } in q) (sym instructions) (sym loops)) lies;
      groups = groups;
    }

-- so it is where the mode is told by another word
pub told-layout : (units : Bool) (table : Table) (unicode told : Bool) (n : ℕ) (t : Tree) (start w : Written) (loops groups : ℕ)
    → start ≡ record { instructions = []; brackets = []; loops = 0 } → told ≡ unicode → AddsTree units table told false t start w
    → loops ≡ w.loops → groups ≡ n
    → IsLayout (record {
      program = record { instructions = w.instructions; brackets = w.brackets; loops = loops; groups = groups; units = units };
      table = table;
      unicode = unicode;
    }) n t
told-layout units table unicode told n t start w loops groups from same adds looped grouped =
    whole-layout units table unicode n t start w _ from (subst (λ (u : Bool). AddsTree units table u false t start w) same adds) refl refl refl looped grouped

-- all that is written of a lawful tree is as much as is counted
pub whole-counted : (units : Bool) (table : Table) (unicode : Bool) (n : ℕ) (t : Tree) (start w : Written)
    → start ≡ record { instructions = []; brackets = []; loops = 0 } → AreLawful n t → AddsTree units table unicode false t start w
    → (length w.instructions ≡ count units table unicode t) × (w.loops ≡ loops t)
whole-counted units table unicode n t start w from lawful adds =
    let counted = AddsTree-counted units table unicode n false t start w lawful adds in
    let none : length start.instructions ≡ 0 = ap (λ (v : Written). length v.instructions) from in
    let no_loop : start.loops ≡ 0 = ap (λ (v : Written). v.loops) from in
    (omega (arith, counted.0, none), omega (arith, counted.1, no_loop))
