-- Offsets that are further on, and where a run ends that leads only onward.
use Rattle.std.specs.Prelude.{IfSome}
use Rattle.std.proofs.Common.{◌≡◌, ℕ, ◌+◌, ◌<◌, ◌≤◌, inl, inr, true, false, List, [], ◌∷◌, Option, Some, None, refl, sym, ap, subst, arith}
use Rattle.regress_meaning.specs.Meaning.{Direction, Forward, Backward}
use Rattle.regress_meaning.specs.Inputs.{Input}
use Rattle.regress_front_nodes.specs.Trees.{Submatch, lookaround, atomic}
use Rattle.regress_front_nodes.specs.TreeMeaning.{submatch_direction}
use Rattle.regress_engine_insn.specs.Instructions.{Instruction, Program}
use Rattle.regress_engine_insn.specs.Instructions as code
use Rattle.regress_engine_runs.specs.States.{Whole}
use Rattle.regress_engine_runs.specs.Runs.{Run, ends, finds, goes, looks, successors, after_submatch, room}
use Rattle.regress_engine_runs.specs.Meets.{now, later, inside, behind, referred}
use Rattle.regress_engine_runs.specs.UndoStack.{IsPast}
use Rattle.regress_engine_memory.specs.Flow.{Flow, Flows, IsFlow}
use Rattle.regress_engine_memory.specs.Agreeing.{AgreeAll, EndAlike}
use Rattle.regress_engine_memory.specs.Under.{IsFurther, IsOnward, AreOnward}
use Rattle.regress_engine_memory.specs.Keys.{IsSteady}
use Rattle.regress_engine_memory.proofs.EachState.{each-append}
use Rattle.regress_engine_memory.proofs.SameRuns.{agree-append, agree-behind, agree-step, agree-inside, agree-outside}

pub room-less : (last : ℕ) (dir : Direction) (o q : ℕ) → IsFurther last dir o q → room last dir q < room last dir o
room-less last Forward o q (past, low) = omega arith
room-less last Backward o q past = omega arith

pub past-on : (last : ℕ) (dir : Direction) (e o q : ℕ) → IsPast dir e o → IsFurther last dir o q → IsPast dir e q
past-on last Forward e o q first (past, low) = omega arith
past-on last Backward e o q first past = omega arith

pub further-past : (last : ℕ) (dir : Direction) (o q : ℕ) → IsFurther last dir o q → IsPast dir o q
further-past last Forward o q (past, low) = past
further-past last Backward o q past = past

pub past-differs : (dir : Direction) (e o : ℕ) → IsPast dir e o → e ≡ o → ⊥
past-differs Forward e o past same = absurd (omega arith)
past-differs Backward e o past same = absurd (omega arith)

further-then : (last : ℕ) (dir : Direction) (a b c : ℕ) → IsFurther last dir a b → IsFurther last dir b c → IsFurther last dir a c
further-then last Forward a b c (past, low) (past', low') = (omega arith, low)
further-then last Backward a b c past past' = omega arith

pub onward-then : (last : ℕ) (dir : Direction) (a b c : ℕ) → IsOnward last dir a b → IsOnward last dir b c → IsOnward last dir a c
onward-then last dir a b c (inl e) second = subst (λ x. IsOnward last dir x c) e second
onward-then last dir a b c (inr first) (inl e) = inr (subst (λ x. IsFurther last dir a x) (sym e) first)
onward-then last dir a b c (inr first) (inr second) = inr (further-then last dir a b c first second)

-- there or further, by at least so many units
abbrev pub Takes : (last : ℕ) → Direction → (least o q : ℕ) → Type 0
Takes last dir least o q = IsOnward last dir o q × (room last dir q + least ≤ room last dir o)

pub takes-none : (last : ℕ) (dir : Direction) (o q : ℕ) → o ≡ q → Takes last dir 0 o q
takes-none last dir o q same = let e = ap (room last dir) same in (inl (sym same), omega (arith, e))

pub takes-one : (last : ℕ) (dir : Direction) (o q : ℕ) → IsFurther last dir o q → Takes last dir 1 o q
takes-one last dir o q further = let less = room-less last dir o q further in (inr further, omega (arith, less))

pub takes-fewer : (last : ℕ) (dir : Direction) (m n o q : ℕ) → n ≤ m → Takes last dir m o q → Takes last dir n o q
takes-fewer last dir m n o q fewer (on, less) = (on, omega (arith, fewer, less))

pub takes-then : (last : ℕ) (dir : Direction) (m n k a b c : ℕ) → k ≤ m + n → Takes last dir m a b → Takes last dir n b c → Takes last dir k a c
takes-then last dir m n k a b c fewer (on, less) (on', less') = (onward-then last dir a b c on on', omega (arith, fewer, less, less'))

-- ---- some states

module _ (last : ℕ) (dir : Direction) (o : ℕ) where
  onward-all : (q : ℕ) → IsOnward last dir o q → (us : List Whole) → AreOnward last dir q us → AreOnward last dir o us
  onward-all q on [] us-on = tt
  onward-all q on (u ∷ us) us-on = (onward-then last dir o q u.offset on us-on.0, onward-all q on us us-on.1)

  -- what follows a lookaround is where that is, and what follows an atomic group where its contents end
  onward-behind : (kind : Submatch) (first high continuation : ℕ) (t : Whole) (q : Option Whole) → IsOnward last dir o t.offset
      → IfSome q (λ w. IsOnward last (submatch_direction kind dir) t.offset w.offset) → AreOnward last dir o (after_submatch kind first high continuation t q)
  onward-behind (lookaround true backward) first high continuation t None on within = (on, tt)
  onward-behind (lookaround true backward) first high continuation t (Some w) on within = tt
  onward-behind (lookaround false backward) first high continuation t None on within = tt
  onward-behind (lookaround false backward) first high continuation t (Some w) on within = (on, tt)
  onward-behind atomic first high continuation t None on within = tt
  onward-behind atomic first high continuation t (Some w) on within = (onward-then last dir o t.offset w.offset on within, tt)

-- what leads on as it is told refers to no group
pub flows-unreferring : (flow : Flow) (program : Program) (at : ℕ) (i : Instruction) → Flows flow program at i → referred i ≡ None
flows-unreferring flow program at (code.back k icase) flows = absurd flows
flows-unreferring flow program at _ flows = refl

-- an answer ends as itself
ends-same : (q : Option Whole) → EndAlike q q
ends-same None = tt
ends-same (Some w) = refl

module _ (flow : Flow) (last : ℕ) (program : Program) (input : Input) (closed : IsFlow flow program) where
  -- States that are onward of an offset, at calm addresses, have their answer onward of it, where each state that is met leads only
  -- onward. That they are calm is said as that they agree with themselves.
  pub ends-onward : {dir : Direction} {ts : List Whole} {n : ℕ} {r : Option Whole} → Run program input dir ts n r → (o : ℕ) → AgreeAll flow ts ts → AreOnward last dir o ts
      → IsSteady program input last dir ts → IfSome r (λ w. IsOnward last dir o w.offset)
  ends-onward ends o calm on steady = tt
  ends-onward (finds here) o calm on steady = on.0
  ends-onward (goes {dir = dir} {i = i} {s = t} {ss = ts} here plain next) o calm on steady =
      let new : List Whole = successors program input i dir t in
      ends-onward next o (agree-append flow new new ts ts (agree-step flow program input closed dir i t t calm.0 here) calm.1)
      (each-append (λ u. IsOnward last dir o u.offset) new ts
      (onward-all last dir o t.offset on.0 new (steady t i now here plain (flows-unreferring flow program t.at i (closed t.at i calm.0.calm here)) dir)) on.1)
      (λ u j met. steady u j (later here plain met))
  ends-onward (looks {dir = dir} {kind = kind} {first = low} {last = high} {continuation = continuation} {s = t} {ss = ts} {m = m} {q = q} here inner next) o calm on steady =
      let new : List Whole = after_submatch kind low high continuation t q in
      let within = ends-onward inner t.offset (agree-inside flow program input closed kind low high continuation t t calm.0 here, tt) (inl refl, tt) (λ u j met. steady u j (inside here met)) in
      ends-onward next o
      (agree-append flow new new ts ts (agree-behind flow kind low high continuation t t q q (ends-same q) refl (agree-outside flow program input closed kind low high continuation t t calm.0 here)) calm.1)
      (each-append (λ u. IsOnward last dir o u.offset) new ts (onward-behind last dir o kind low high continuation t q on.0 within) on.1)
      (λ u j met. steady u j (behind here (m, inner) met))
