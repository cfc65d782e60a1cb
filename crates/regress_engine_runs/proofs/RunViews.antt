-- What a run from a state is made of, by the instruction where the state stands.
use Rattle.std.proofs.Common.{◌≡◌, ℕ, suc, ◌+◌, true, false, List, [], ◌∷◌, ◌++◌, Option, Some, None, refl, sym, ap, ◌∙◌, subst, arith}
use Rattle.regress_meaning.specs.Meaning.{Direction}
use Rattle.regress_meaning.specs.Inputs.{Input}
use Rattle.regress_front_nodes.specs.TreeMeaning.{submatch_direction}
use Rattle.regress_engine_insn.specs.Instructions.{Instruction, Program, Stands}
use Rattle.regress_engine_insn.specs.Instructions as code
use Rattle.regress_engine_runs.specs.States.{Whole, onward}
use Rattle.regress_engine_runs.specs.Runs.{Run, ends, finds, goes, looks, successors, is_plain, after_submatch}

module _ (program : Program) (input : Input) where
  -- one instruction stands at an address
  pub one_stands : (at : ℕ) (i j : Instruction) → Stands program at i → Stands program at j → i ≡ j
  one_stands at i j h k = let e : Some i ≡ Some j = sym h ∙ k in cc

  -- a plain instruction's run goes on with its successors
  pub run_goes : {dir : Direction} {s : Whole} {ss : List Whole} {n : ℕ} {r : Option Whole} (i : Instruction) → Stands program s.at i → is_plain i ≡ true
      → Run program input dir (s ∷ ss) n r → (m : ℕ) × (n ≡ suc m) × Run program input dir (successors program input i dir s ++ ss) m r
  run_goes i here plain (finds goal) =
      let e : is_plain i ≡ false = ap is_plain (one_stands _ i code.goal here goal) in absurd (grind arith)
  run_goes {dir = dir} {r = r} i here plain (goes {i = j} {s = s} {ss = ss} {n = n} there also run) =
      let e : j ≡ i = one_stands s.at j i there here in
      (n, refl, subst (λ x. Run program input dir (successors program input x dir s ++ ss) n r) e run)
  run_goes i here plain (looks {kind = kind} {first = first} {last = last} {continuation = continuation} there inner run) =
      let e : is_plain i ≡ false = ap is_plain (one_stands _ i (code.submatch kind first last continuation) here there) in absurd (grind arith)

  -- no state has no answer
  pub run_none : {dir : Direction} {n : ℕ} {r : Option Whole} → Run program input dir [] n r → (n ≡ 0) × (r ≡ None)
  run_none ends = (refl, refl)

  -- at its goal a state is the answer
  pub run_found : {dir : Direction} {s : Whole} {ss : List Whole} {n : ℕ} {r : Option Whole} → Stands program s.at code.goal
      → Run program input dir (s ∷ ss) n r → (n ≡ 1) × (r ≡ Some s)
  run_found here (finds goal) = (refl, refl)
  run_found here (goes {i = j} there also run) =
      let e : is_plain j ≡ false = ap is_plain (one_stands _ j code.goal there here) in absurd (grind arith)
  run_found here (looks {kind = kind} {first = first} {last = last} {continuation = continuation} there inner run) =
      let e : code.submatch kind first last continuation ≡ code.goal = one_stands _ _ code.goal there here in absurd (grind arith)

  -- what a run that stands at a lookaround is made of: one of its contents and one of what follows
  abbrev pub AtLook : Direction → Whole → List Whole → ℕ → Option Whole → Instruction → Type 0
  AtLook dir s ss n r (code.submatch kind first last continuation) = (q : Option Whole) × (m k : ℕ) × (n ≡ suc (m + k))
      × Run program input (submatch_direction kind dir) (onward s ∷ []) m q × Run program input dir (after_submatch kind first last continuation s q ++ ss) k r
  AtLook dir s ss n r _ = Unit {0}

  pub run_looks : {dir : Direction} {s : Whole} {ss : List Whole} {n : ℕ} {r : Option Whole} (i : Instruction) → Stands program s.at i → is_plain i ≡ false
      → (i ≡ code.goal → ⊥) → Run program input dir (s ∷ ss) n r → AtLook dir s ss n r i
  run_looks i here look other (finds goal) = absurd (other (one_stands _ i code.goal here goal))
  run_looks i here look other (goes {i = j} there plain run) =
      let e : is_plain i ≡ is_plain j = ap is_plain (one_stands _ i j here there) in absurd (grind arith)
  run_looks {dir = dir} {r = r} i here look other (looks {kind = kind} {first = first} {last = last} {continuation = continuation} {s = s} {ss = ss} {m = m} {n = k} {q = q} there inner run) =
      subst (AtLook dir s ss (suc (m + k)) r) (one_stands s.at (code.submatch kind first last continuation) i there here) (q, m, k, refl, inner, run)
