-- What is known to fail is dropped, whatever is to be done behind it.
use Rattle.std.proofs.Common.{◌≡◌, ℕ, ◌+◌, ◌≤◌, List, [], ◌∷◌, length, All, Option, Some, None, refl, arith}
use Rattle.std.proofs.lemmas.List.Elements.{All-head, All-tail}
use Rattle.regress_meaning.specs.Meaning.{Direction}
use Rattle.regress_meaning.specs.Inputs.{Input}
use Rattle.regress_engine_insn.specs.Instructions.{Program}
use Rattle.regress_engine_runs.specs.States.{Marks, Whole}
use Rattle.regress_engine_runs.specs.Runs.{ends}
use Rattle.regress_engine_runs.specs.UndoStack.{Work, outermost, trying, Fails, whole, at_each, Comes, alone, within, failed, succeeded}
use Rattle.regress_engine_runs.specs.UndoStack as stack
use Rattle.regress_engine_runs.proofs.Parts.{run-behind, none-then}
use Rattle.regress_engine_runs.proofs.TriedReads.{read_dropped}
use Rattle.regress_engine_search.specs.Tasks.{Leads}
use Rattle.regress_engine_search.proofs.TaskLemmas.{leads-dropped}
use Rattle.regress_engine_memory.specs.Keys.{Keyed, Key, HaveKey, FailsAt}

module _ (program : Program) (input : Input) where
  all-dropped : (dir : Direction) (xs : List Whole) (work : Work) → Fails program input dir xs → (n : ℕ) (r : Option Whole) → Comes program input dir xs work n r
      → (m : ℕ) × (m + 0 ≤ n) × Comes program input dir [] work m r
  all-dropped dir xs (outermost ts) fails n r (alone run) =
      let (k, count, rest) = run-behind program input dir xs ts fails.0 n r fails.1 run in (k, omega (arith, count), alone rest)
  all-dropped dir xs (stack.inside ts f u rest) fails n r (within {m = m} {n = l} {q = q} turned run outer) =
      let (k, count, on) = run-behind program input dir xs ts fails.0 m q fails.1 run in (k + l, omega (arith, count), within turned on outer)
  all-dropped dir xs (trying ts u rest) fails n r (failed {m = m} {n = l} none run behind) =
      let (k, count, on) = run-behind program input dir xs ts fails.0 m None fails.1 run in (k + l, omega (arith, count), failed none on behind)
  all-dropped dir xs (trying ts u rest) fails n r (succeeded {w = w} {m = m} {n = l} some run behind) =
      let (k, count, on) = run-behind program input dir xs ts fails.0 m (Some w) fails.1 run in (k + l, omega (arith, count), succeeded some on behind)

  -- States that have no answer lead to what is left to be done.
  pub leads-fails : (dir : Direction) (xs : List Whole) (work : Work) → Fails program input dir xs
      → Leads program input 0 (record { dir = dir; states = xs; work = work }) (record { dir = dir; states = []; work = work })
  leads-fails dir xs work fails = record {
    comes = λ n r come. all-dropped dir xs work fails n r come;
    reads = λ reading on. read_dropped program input reading dir xs work fails on;
  }

  module _ (keyed : Keyed) (k : Key) (loops : List (ℕ × ℕ)) (groups : List Marks) (count : length loops ≡ program.loops) where
    -- So a state is dropped at once of which the key is known to fail.
    pub leads-known : (work : Work) → FailsAt program input keyed k → HaveKey keyed k loops
        → Leads program input 1 (record { dir = k.dir; states = whole k.at k.offset loops groups ∷ []; work = work }) (record { dir = k.dir; states = []; work = work })
    leads-known work known has = leads-dropped program input k.dir (whole k.at k.offset loops groups) work (known loops groups count has)

    abbrev There : ℕ → Type 0
    There o = FailsAt program input keyed (record k { offset = o })

    -- states at each of some offsets at which it is known to fail
    each-fails : (os : List ℕ) → All There os → HaveKey keyed k loops → Fails program input k.dir (at_each program input k.at loops groups os)
    each-fails [] known has = (0, ends)
    each-fails (o ∷ os) known has =
        let first = All-head There o os known loops groups count has in
        let rest = each-fails os (All-tail There o os known) has in
        (first.0 + rest.0, none-then program input first.1 refl (at_each program input k.at loops groups os) rest.0 None rest.1)

    -- What a one-character loop still gives back or takes on is passed over where all of it is known to fail.
    pub leads-each : HaveKey keyed k loops → (os : List ℕ) → All There os → (work : Work)
        → Leads program input 0 (record { dir = k.dir; states = at_each program input k.at loops groups os; work = work }) (record { dir = k.dir; states = []; work = work })
    leads-each has os known work = leads-fails k.dir (at_each program input k.at loops groups os) work (each-fails os known has)
