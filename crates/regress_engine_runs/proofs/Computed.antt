-- What is computed is a run, and a run is what is computed: so it has one answer and one number of steps.
use Rattle.std.proofs.Common.{◌≡◌, ℕ, zero, suc, ◌+◌, ◌<◌, true, List, [], ◌∷◌, ◌++◌, Option, Some, None, option_and_then, option_map, refl, sym, ap, ◌∙◌, subst, arith, slice_get}
use Rattle.regress_meaning.specs.Meaning.{Direction}
use Rattle.regress_meaning.specs.Inputs.{Input}
use Rattle.regress_front_nodes.specs.TreeMeaning.{submatch_direction}
use Rattle.regress_engine_insn.specs.Instructions.{Instruction, Program, Stands}
use Rattle.regress_engine_insn.specs.Instructions as code
use Rattle.regress_engine_runs.specs.States.{Whole, onward}
use Rattle.regress_engine_runs.specs.Runs.{Run, ends, finds, goes, looks, successors, is_plain, after_submatch}
use Rattle.regress_engine_runs.specs.Computed.{Counted, more_steps, run, run_at}

-- a value was found and taken on
then_some : {A B : Type 0} (f : A → Option B) (o : Option A) (b : B) → option_and_then f o ≡ Some b → (a : A) × (o ≡ Some a) × (f a ≡ Some b)
then_some f None b e = absurd (grind arith)
then_some f (Some a) b e = (a, refl, e)

map_some : {A B : Type 0} (f : A → B) (o : Option A) (b : B) → option_map f o ≡ Some b → (a : A) × (o ≡ Some a) × (f a ≡ b)
map_some f None b e = absurd (grind arith)
map_some f (Some a) b e = (a, refl, let g : f a ≡ b = cc in g)

module _ (program : Program) (input : Input) where
  -- a way to go on that gives runs
  abbrev Sound : (Direction → List Whole → Counted program input) → Type 0
  Sound go = (dir : Direction) (ss : List Whole) (n : ℕ) (r : Option Whole) → go dir ss ≡ Some (n, r) → Run program input dir ss n r

  plainly : (go : Direction → List Whole → Counted program input) → Sound go → (dir : Direction) (s : Whole) (ss : List Whole) (n : ℕ) (r : Option Whole) (i : Instruction)
      → Stands program s.at i → is_plain i ≡ true → more_steps program input 1 (go dir (successors program input i dir s ++ ss)) ≡ Some (n, r)
      → Run program input dir (s ∷ ss) n r
  plainly go sound dir s ss n r i here plain e =
      let ((m, q), found, same) = map_some (λ (x : ℕ × Option Whole). (1 + x.0, x.1)) (go dir (successors program input i dir s ++ ss)) (n, r) e in
      let count : suc m ≡ n = let f : 1 + m ≡ n = ap (λ (x : ℕ × Option Whole). x.0) same in omega (arith, f) in
      let answer : q ≡ r = ap (λ (x : ℕ × Option Whole). x.1) same in
      subst (λ k. Run program input dir (s ∷ ss) k r) count
      (subst (λ x. Run program input dir (s ∷ ss) (suc m) x) answer (goes here plain (sound dir (successors program input i dir s ++ ss) m q found)))

  sound_at : (go : Direction → List Whole → Counted program input) → Sound go → (dir : Direction) (s : Whole) (ss : List Whole) (n : ℕ) (r : Option Whole) (o : Option Instruction)
      → slice_get program.instructions s.at ≡ o → run_at program input go dir s ss o ≡ Some (n, r) → Run program input dir (s ∷ ss) n r
  sound_at go sound dir s ss n r None here e = absurd (grind arith)
  sound_at go sound dir s ss n r (Some code.goal) here e =
      let f : ◌≡◌ {A = ℕ × Option Whole} (1, Some s) (n, r) = cc in
      let count : 1 ≡ n = ap (λ (x : ℕ × Option Whole). x.0) f in
      let answer : Some s ≡ r = ap (λ (x : ℕ × Option Whole). x.1) f in
      subst (λ k. Run program input dir (s ∷ ss) k r) count (subst (λ x. Run program input dir (s ∷ ss) 1 x) answer (finds here))
  sound_at go sound dir s ss n r (Some (code.submatch kind first last continuation)) here e =
      let ((m, q), inner, rest) = then_some (λ (x : ℕ × Option Whole). more_steps program input (suc x.0) (go dir (after_submatch kind first last continuation s x.1 ++ ss)))
      (go (submatch_direction kind dir) (onward s ∷ [])) (n, r) e in
      let ((k, p), outer, same) = map_some (λ (x : ℕ × Option Whole). (suc m + x.0, x.1)) (go dir (after_submatch kind first last continuation s q ++ ss)) (n, r) rest in
      let count : suc (m + k) ≡ n = let f : suc m + k ≡ n = ap (λ (x : ℕ × Option Whole). x.0) same in omega (arith, f) in
      let answer : p ≡ r = ap (λ (x : ℕ × Option Whole). x.1) same in
      subst (λ j. Run program input dir (s ∷ ss) j r) count
      (subst (λ x. Run program input dir (s ∷ ss) (suc (m + k)) x) answer
      (looks here (sound (submatch_direction kind dir) (onward s ∷ []) m q inner) (sound dir (after_submatch kind first last continuation s q ++ ss) k p outer)))
  sound_at go sound dir s ss n r (Some i) here e = plainly go sound dir s ss n r i here refl e

  -- what is computed is a run
  pub computed-runs : (f : ℕ) (dir : Direction) (ss : List Whole) (n : ℕ) (r : Option Whole) → run program input f dir ss ≡ Some (n, r) → Run program input dir ss n r
  unfolding run
  computed-runs zero dir ss n r e = absurd (grind arith)
  computed-runs (suc f) dir [] n r e =
      let none : Option Whole = None in
      let g : ◌≡◌ {A = ℕ × Option Whole} (0, none) (n, r) = cc in
      let count : 0 ≡ n = ap (λ (x : ℕ × Option Whole). x.0) g in
      let answer : none ≡ r = ap (λ (x : ℕ × Option Whole). x.1) g in
      subst (λ k. Run program input dir [] k r) count (subst (λ x. Run program input dir [] 0 x) answer ends)
  computed-runs (suc f) dir (s ∷ ss) n r e = sound_at (run program input f) (computed-runs f) dir s ss n r (slice_get program.instructions s.at) refl e

  plain-at : (go : Direction → List Whole → Counted program input) (dir : Direction) (s : Whole) (ss : List Whole) (i : Instruction) → is_plain i ≡ true
      → run_at program input go dir s ss (Some i) ≡ more_steps program input 1 (go dir (successors program input i dir s ++ ss))
  plain-at go dir s ss code.goal e = absurd (grind arith)
  plain-at go dir s ss (code.submatch kind first last continuation) e = absurd (grind arith)
  plain-at go dir s ss _ e = refl

  -- A run is computed, with any number past its steps.
  pub runs-computed : {dir : Direction} {ss : List Whole} {n : ℕ} {r : Option Whole} → Run program input dir ss n r → (f : ℕ) → n < f → run program input f dir ss ≡ Some (n, r)
  unfolding run
  runs-computed ends zero few = absurd (omega arith)
  runs-computed ends (suc f) few = refl
  runs-computed (finds here) zero few = absurd (omega arith)
  runs-computed (finds {dir = dir} {s = s} {ss = ss} here) (suc f) few = ap (run_at program input (run program input f) dir s ss) here
  runs-computed (goes here plain next) zero few = absurd (omega arith)
  runs-computed (goes {dir = dir} {i = i} {s = s} {ss = ss} {n = n} {r = r} here plain next) (suc f) few =
      let h = runs-computed next f (omega arith) in
      let e : 1 + n ≡ suc n = omega arith in
      ap (run_at program input (run program input f) dir s ss) here ∙ plain-at (run program input f) dir s ss i plain ∙ ap (more_steps program input 1) h ∙ ap (λ k. Some (k, r)) e
  runs-computed (looks here inner next) zero few = absurd (omega arith)
  runs-computed (looks {dir = dir} {kind = kind} {first = first} {last = last} {continuation = continuation} {s = s} {ss = ss} {m = m} {n = n} {q = q} {r = r} here inner next) (suc f) few =
      let h = runs-computed inner f (omega arith) in
      let k = runs-computed next f (omega arith) in
      let e : suc m + n ≡ suc (m + n) = omega arith in
      ap (run_at program input (run program input f) dir s ss) here
      ∙ ap (option_and_then (λ (x : ℕ × Option Whole). more_steps program input (suc x.0) (run program input f dir (after_submatch kind first last continuation s x.1 ++ ss)))) h
      ∙ ap (more_steps program input (suc m)) k ∙ ap (λ j. Some (j, r)) e

  -- So it has one number of steps and one answer.
  pub one_run : {dir : Direction} {ss : List Whole} {n m : ℕ} {r q : Option Whole} → Run program input dir ss n r → Run program input dir ss m q → (n ≡ m) × (r ≡ q)
  one_run {dir = dir} {ss = ss} {n = n} {m = m} {r = r} {q = q} h k =
      let e : ◌≡◌ {A = Option (ℕ × Option Whole)} (Some (n, r)) (Some (m, q)) = sym (runs-computed h (suc (n + m)) (omega arith)) ∙ runs-computed k (suc (n + m)) (omega arith) in
      let f : ◌≡◌ {A = ℕ × Option Whole} (n, r) (m, q) = cc in
      (ap (λ (x : ℕ × Option Whole). x.0) f, ap (λ (x : ℕ × Option Whole). x.1) f)
