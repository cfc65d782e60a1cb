-- Where fewer units are left than a state needs, it has no answer.
use Rattle.std.specs.Prelude.{slice_get, slice_set}
use Rattle.std.proofs.Common.{◌≡◌, ℕ, suc, ◌+◌, ◌-◌, ◌<◌, ◌≤◌, ◌&&◌, true, false, List, [], ◌∷◌, length, Option, Some, None, refl, subst, arith}
use Rattle.std.proofs.lemmas.Bool.{and_parts, leb-true}
use Rattle.regress_meaning.specs.Meaning.{Direction}
use Rattle.regress_front_nodes.specs.Trees.{Submatch, lookaround, atomic}
use Rattle.regress_engine_input.specs.Views.{View, AreOfKind, direction_of, input_of, reading_of}
use Rattle.regress_engine_insn.specs.Instructions.{LoopFields, Instruction, Program, Stands}
use Rattle.regress_engine_insn.specs.Instructions as code
use Rattle.regress_engine_runs.specs.States.{Whole}
use Rattle.regress_engine_runs.specs.Runs.{Run, ends, finds, goes, looks, successors, after_submatch, is_plain, entered, fields_of, room}
use Rattle.regress_engine_runs.specs.Meets.{Meets, now, later, behind, reads_character, ReadsPlaces}
use Rattle.regress_engine_runs.specs.UndoStack.{Work, Fails, Comes, trying, failed, succeeded, meets_tried, stands_for}
use Rattle.regress_engine_runs.proofs.TriedLemmas.{tried_pushed}
use Rattle.regress_engine_search.specs.Search.{Suits}
use Rattle.regress_engine_search.specs.Tasks.{Leads, IsTried}
use Rattle.regress_engine_search.proofs.TaskLemmas.{leads-trying, leads-dropped}
use Rattle.regress_engine_undo.specs.declared.undo.Spot.{Spot}
use Rattle.regress_engine_undo.specs.Held.{Held}
use Rattle.regress_engine_undo.specs.Tasks.{task, state_at}
use Rattle.regress_engine_memory.specs.Needs.{taken_by, need, covers, covers_iteration, needs_at, are_needs, IsShort, AreShort}
use Rattle.regress_engine_memory.proofs.Onward.{Takes}
use Rattle.regress_engine_memory.proofs.EachState.{each-append, each-choices, each-again}
use Rattle.regress_engine_memory.proofs.TableLemmas.{each-passes}
use Rattle.regress_engine_memory.proofs.Taking.{each-moved, each-single}

covers-less : (needs : List ℕ) (at taken to : ℕ) → covers needs at taken to ≡ true → need needs at ≤ taken + need needs to
covers-less needs at taken to e = let less = leb-true (need needs at - taken) (need needs to) e in omega (arith, less)

-- ---- each instruction

module _ (needs : List ℕ) (v : View) (all : AreOfKind v.kind v.units) (program : Program) (suits : Suits program v) (tested : are_needs needs program ≡ true) where
  abbrev last : ℕ
  last = length v.units

  abbrev Short : Direction → List Whole → Type 0
  Short d us = AreShort needs last d us

  -- a state that needs no more, at another address, with as much text left
  short-on : (d : Direction) (o at to : ℕ) → room last d o < need needs at → covers needs at 0 to ≡ true → room last d o < need needs to
  short-on d o at to less e = let more = covers-less needs at 0 to e in omega (arith, less, more)

  -- and one behind an instruction that takes enough
  short-taken : (d : Direction) (s : Whole) (least to : ℕ) → IsShort needs last d s → covers needs s.at least to ≡ true → (q : ℕ) → Takes last d least s.offset q → room last d q < need needs to
  short-taken d s least to less e q takes = let more = covers-less needs s.at least to e in let left = takes.1 in omega (arith, less, left, more)

  short-choices : (d : Direction) (f : LoopFields) (begin : ℕ) (s : Whole) → IsShort needs last d s → covers needs s.at 0 (suc begin) && covers needs s.at 0 f.exit ≡ true
      → (room last d s.offset < need needs (suc begin)) × (room last d s.offset < need needs f.exit)
  short-choices d f begin s less e =
      let both = and_parts (covers needs s.at 0 (suc begin)) (covers needs s.at 0 f.exit) e in
      (short-on d s.offset s.at (suc begin) less both.0, short-on d s.offset s.at f.exit less both.1)

  -- what a short state leads to is short
  short-step : (d : Direction) (i : Instruction) (s : Whole) → Stands program s.at i → is_plain i ≡ true → (reads_character i ≡ true → ReadsPlaces (reading_of v) i s) → IsShort needs last d s
      → needs_at needs program s.at i ≡ true → Short d (successors program (input_of v) i d s)
  short-step d (code.jump a) s here plain reads less e = (short-on d s.offset s.at a less e, tt)
  short-step d (code.alt a) s here plain reads less e =
      let both = and_parts (covers needs s.at 0 (suc s.at)) (covers needs s.at 0 a) e in (short-on d s.offset s.at (suc s.at) less both.0, (short-on d s.offset s.at a less both.1, tt))
  short-step d (code.begin_group k) s here plain reads less e = (short-on d s.offset s.at (suc s.at) less e, tt)
  short-step d (code.end_group k) s here plain reads less e = (short-on d s.offset s.at (suc s.at) less e, tt)
  short-step d (code.reset_group k) s here plain reads less e = (short-on d s.offset s.at (suc s.at) less e, tt)
  short-step d (code.enter_loop f) s here plain reads less e =
      let both = short-choices d f s.at s less e in
      each-choices (IsShort needs last d) f s.at (entered (input_of v) d f s) both.0 both.1
  short-step d (code.loop_again begin) s here plain reads less e =
      each-again (IsShort needs last d) (fields_of (slice_get program.instructions begin)) begin s
      (λ f is. short-choices d f begin s less (subst (λ x. covers_iteration needs s.at begin x ≡ true) is e))
  short-step d (code.single_loop least most greedy) s here plain reads less e =
      each-single v all program suits d (IsShort needs last d) s least most greedy here (reads refl).0 (short-taken d s least (suc (suc s.at)) less e)
  short-step d (code.back k icase) s here plain reads less e = let none = leb-true (need needs s.at) 0 e in absurd (omega (arith, less, none))
  short-step d code.fail s here plain reads less e = tt
  short-step d code.goal s here plain reads less e = absurd (cc plain)
  short-step d (code.submatch kind first high continuation) s here plain reads less e = absurd (cc plain)
  short-step d i s here plain reads less e = each-moved v all program suits d (IsShort needs last d) s i refl (short-taken d s (taken_by i) (suc s.at) less e)

  -- what follows a lookaround at a short state is short; an atomic group needs nothing
  short-behind : (d : Direction) (kind : Submatch) (first high continuation : ℕ) (t : Whole) (q : Option Whole) → IsShort needs last d t
      → needs_at needs program t.at (code.submatch kind first high continuation) ≡ true → Short d (after_submatch kind first high continuation t q)
  short-behind d (lookaround true backward) first high continuation t None less e = (short-on d t.offset t.at continuation less e, tt)
  short-behind d (lookaround true backward) first high continuation t (Some w) less e = tt
  short-behind d (lookaround false backward) first high continuation t None less e = tt
  short-behind d (lookaround false backward) first high continuation t (Some w) less e = (short-on d t.offset t.at continuation less e, tt)
  short-behind d atomic first high continuation t q less e = let none = leb-true (need needs t.at) 0 e in absurd (omega (arith, less, none))

  -- States that are short have no answer, where each state that is met reads at places.
  shorts-fail : {dir : Direction} {ts : List Whole} {n : ℕ} {r : Option Whole} → Run program (input_of v) dir ts n r → Short dir ts
      → ((u : Whole) (i : Instruction) → Meets program (input_of v) dir ts u → Stands program u.at i → reads_character i ≡ true → ReadsPlaces (reading_of v) i u) → r ≡ None
  shorts-fail ends short reads = refl
  shorts-fail (finds {s = t} here) short reads =
      let none = leb-true (need needs t.at) 0 (each-passes (needs_at needs program) program tested t.at code.goal here) in
      let less = short.0 in
      absurd (omega (arith, less, none))
  shorts-fail (goes {dir = dir} {i = i} {s = t} {ss = ts} here plain next) short reads =
      let new : List Whole = successors program (input_of v) i dir t in
      shorts-fail next (each-append (IsShort needs last dir) new ts (short-step dir i t here plain (reads t i now here) short.0 (each-passes (needs_at needs program) program tested t.at i here)) short.1)
      (λ u j met. reads u j (later here plain met))
  shorts-fail (looks {dir = dir} {kind = kind} {first = low} {last = high} {continuation = continuation} {s = t} {ss = ts} {m = m} {q = q} here inner next) short reads =
      let new : List Whole = after_submatch kind low high continuation t q in
      shorts-fail next (each-append (IsShort needs last dir) new ts (short-behind dir kind low high continuation t q short.0 (each-passes (needs_at needs program) program tested t.at (code.submatch kind low high continuation) here)) short.1)
      (λ u j met. reads u j (behind here (m, inner) met))

  -- So a state that is tried where fewer units are left than it needs is dropped.
  pub short-dropped : (p : Spot) (h : Held) → room last (direction_of p.forward) p.offset < need needs p.at → (n : ℕ) (r : Option Whole)
      → IsTried program v n r (task program (input_of v) true p h) → Leads program (input_of v) 1 (task program (input_of v) true p h) (task program (input_of v) false p h)
  unfolding stands_for
  short-dropped p h less n r tries = leads-dropped program (input_of v) dir t work (by_come (tried_pushed program (input_of v) t work tries.comes.0 r tries.comes.2))
    where
      dir : Direction
      dir = direction_of p.forward

      t : Whole
      t = state_at p h

      work : Work
      work = stands_for program (input_of v) dir h.stack h.loops h.groups

      reads : (u : Whole) (i : Instruction) → Meets program (input_of v) dir (t ∷ []) u → Stands program u.at i → reads_character i ≡ true → ReadsPlaces (reading_of v) i u
      reads u i met = (leads-trying program (input_of v) dir t work).reads (reading_of v) tries.reads u i (meets_tried met)

      by_come : {m : ℕ} → Comes program (input_of v) dir (t ∷ []) (trying [] t work) m r → Fails program (input_of v) dir (t ∷ [])
      by_come (failed none run rest) = none
      by_come (succeeded {w = w} some run rest) = let e : ◌≡◌ {A = Option Whole} (Some w) None = shorts-fail some.1 (less, tt) reads in absurd (cc e)
