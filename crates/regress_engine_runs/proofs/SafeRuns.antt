-- Runs that read characters at places alone.
use Rattle.std.proofs.Common.{◌≡◌, ℕ, suc, ◌+◌, true, false, List, [], ◌∷◌, ◌++◌, Option, Some, None, refl, ap, ◌∙◌, subst, arith}
use Rattle.regress_meaning.specs.Meaning.{Direction}
use Rattle.regress_meaning.specs.Offsets.{Reading}
use Rattle.regress_meaning.specs.Inputs.{Input}
use Rattle.regress_front_nodes.specs.TreeMeaning.{submatch_direction}
use Rattle.regress_front_nodes.specs.Trees.{Submatch}
use Rattle.regress_engine_insn.specs.Instructions.{Instruction, Program, Stands}
use Rattle.regress_engine_insn.specs.Instructions as code
use Rattle.regress_engine_runs.specs.States.{Whole, onward}
use Rattle.regress_engine_runs.specs.Runs.{Run, successors, is_plain, after_submatch}
use Rattle.regress_engine_runs.specs.Runs as run
use Rattle.regress_engine_runs.specs.Meets.{Meets, now, later, inside, behind, reads_character, ReadsPlaces}
use Rattle.regress_engine_runs.proofs.Computed.{one_run}
use Rattle.regress_engine_runs.proofs.RunViews.{one_stands}

module _ (program : Program) (input : Input) (reading : Reading) where
  -- a run, each of whose steps reads at a place if it reads
  pub data SafeRun : Direction → List Whole → ℕ → Option Whole → Type 0 where
    ends : {dir : Direction} → SafeRun dir [] 0 None
    finds : {dir : Direction} {s : Whole} {ss : List Whole} → Stands program s.at code.goal → SafeRun dir (s ∷ ss) 1 (Some s)
    goes : {dir : Direction} {i : Instruction} {s : Whole} {ss : List Whole} {n : ℕ} {r : Option Whole}
        → Stands program s.at i → is_plain i ≡ true → (reads_character i ≡ true → ReadsPlaces reading i s)
        → SafeRun dir (successors program input i dir s ++ ss) n r → SafeRun dir (s ∷ ss) (suc n) r
    looks : {dir : Direction} {kind : Submatch} {first last continuation : ℕ} {s : Whole} {ss : List Whole}
        {m n : ℕ} {q r : Option Whole} → Stands program s.at (code.submatch kind first last continuation)
        → SafeRun (submatch_direction kind dir) (onward s ∷ []) m q → SafeRun dir (after_submatch kind first last continuation s q ++ ss) n r
        → SafeRun dir (s ∷ ss) (suc (m + n)) r

  -- in some number of steps
  abbrev pub SafeRuns : Direction → List Whole → Option Whole → Type 0
  SafeRuns dir ss r = (n : ℕ) × SafeRun dir ss n r

  -- it is a run
  pub safe-run : {dir : Direction} {ss : List Whole} {n : ℕ} {r : Option Whole} → SafeRun dir ss n r → Run program input dir ss n r
  safe-run ends = run.ends
  safe-run (finds here) = run.finds here
  safe-run (goes here plain places rest) = run.goes here plain (safe-run rest)
  safe-run (looks here inner rest) = run.looks here (safe-run inner) (safe-run rest)

  -- what the first state of a safe run reads
  reads_first : {dir : Direction} {s : Whole} {ss : List Whole} {n : ℕ} {r : Option Whole} (i : Instruction) → SafeRun dir (s ∷ ss) n r → Stands program s.at i
      → reads_character i ≡ true → ReadsPlaces reading i s
  reads_first i (finds goal) here reads =
      let e : reads_character i ≡ reads_character code.goal = ap reads_character (one_stands program input _ i code.goal here goal) in absurd (grind arith)
  reads_first i (goes {i = j} {s = s} there plain places rest) here reads =
      let same : j ≡ i = one_stands program input s.at j i there here in subst (λ x. ReadsPlaces reading x s) same (places (ap reads_character same ∙ reads))
  reads_first i (looks {kind = kind} {first = first} {last = last} {continuation = continuation} there inner rest) here reads =
      let e : reads_character i ≡ reads_character (code.submatch kind first last continuation) =
      ap reads_character (one_stands program input _ i (code.submatch kind first last continuation) here there) in absurd (grind arith)

  -- the rest of a safe run
  safe_goes : {dir : Direction} {s : Whole} {ss : List Whole} {n : ℕ} {r : Option Whole} (i : Instruction) → Stands program s.at i → is_plain i ≡ true
      → SafeRun dir (s ∷ ss) n r → SafeRuns dir (successors program input i dir s ++ ss) r
  safe_goes i here plain (finds goal) =
      let e : is_plain i ≡ is_plain code.goal = ap is_plain (one_stands program input _ i code.goal here goal) in absurd (grind arith)
  safe_goes {dir = dir} {r = r} i here plain (goes {i = j} {s = s} {ss = ss} {n = n} there also places rest) =
      (n, subst (λ x. SafeRun dir (successors program input x dir s ++ ss) n r) (one_stands program input s.at j i there here) rest)
  safe_goes i here plain (looks {kind = kind} {first = first} {last = last} {continuation = continuation} there inner rest) =
      let e : is_plain i ≡ is_plain (code.submatch kind first last continuation) =
      ap is_plain (one_stands program input _ i (code.submatch kind first last continuation) here there) in absurd (grind arith)

  abbrev AtLook : Direction → Whole → List Whole → Option Whole → Instruction → Type 0
  AtLook dir s ss r (code.submatch kind first last continuation) =
      (q : Option Whole) × SafeRuns (submatch_direction kind dir) (onward s ∷ []) q × SafeRuns dir (after_submatch kind first last continuation s q ++ ss) r
  AtLook dir s ss r _ = Unit {0}

  safe_looks : {dir : Direction} {s : Whole} {ss : List Whole} {n : ℕ} {r : Option Whole} (i : Instruction) → Stands program s.at i → is_plain i ≡ false
      → (i ≡ code.goal → ⊥) → SafeRun dir (s ∷ ss) n r → AtLook dir s ss r i
  safe_looks i here look other (finds goal) = absurd (other (one_stands program input _ i code.goal here goal))
  safe_looks i here look other (goes {i = j} there plain places rest) =
      let e : is_plain i ≡ is_plain j = ap is_plain (one_stands program input _ i j here there) in absurd (grind arith)
  safe_looks {dir = dir} {r = r} i here look other (looks {kind = kind} {first = first} {last = last} {continuation = continuation} {s = s} {ss = ss} {m = m} {n = k} {q = q} there inner rest) =
      subst (AtLook dir s ss r) (one_stands program input s.at (code.submatch kind first last continuation) i there here) (q, (m, inner), (k, rest))

  -- A safe run reads at places wherever it comes.
  pub reads-where_met : {dir : Direction} {ss : List Whole} {t : Whole} → Meets program input dir ss t → (r : Option Whole) → SafeRuns dir ss r
      → (i : Instruction) → Stands program t.at i → reads_character i ≡ true → ReadsPlaces reading i t
  reads-where_met now r (n, safe) i here reads = reads_first i safe here reads
  reads-where_met (later {i = j} there plain met) r (n, safe) i here reads = reads-where_met met r (safe_goes j there plain safe) i here reads
  reads-where_met (inside {kind = kind} {first = first} {last = last} {continuation = continuation} there met) r (n, safe) i here reads =
      let (q, inner, rest) = safe_looks (code.submatch kind first last continuation) there refl (λ e. grind arith) safe in
      reads-where_met met q inner i here reads
  reads-where_met (behind {dir = dir} {kind = kind} {first = first} {last = last} {continuation = continuation} {s = s} {ss = ss} {q = p} there (l, answered) met) r (n, safe) i here reads =
      let (q, inner, rest) = safe_looks (code.submatch kind first last continuation) there refl (λ e. grind arith) safe in
      let same : q ≡ p = (one_run program input (safe-run inner.1) answered).1 in
      reads-where_met met r (subst (λ x. SafeRuns dir (after_submatch kind first last continuation s x ++ ss) r) same rest) i here reads
