-- What the code works out of an address and an offset is whether one of the states answers to which its instruction leads.
use Rattle.std.specs.Prelude.{slice_get, slice_set, map, nat_lt, nat_le}
use Rattle.std.proofs.Common.{◌≡◌, ℕ, suc, ◌<◌, inl, inr, ◌&&◌, ◌||◌, Bool, true, false, List, [], ◌∷◌, length, get_or, Option, None, Some, if◌then◌else◌, refl, sym, ap, ap₂, ◌∙◌, subst, arith, get_or-set_same}
use Rattle.std.proofs.lemmas.Bool.{lt-ltb}
use Rattle.regress_meaning.specs.Meaning.{Direction}
use Rattle.regress_meaning.specs.Inputs.{Input}
use Rattle.regress_engine_insn.specs.Instructions.{LoopFields, Instruction, Program, Stands, surplus}
use Rattle.regress_engine_insn.specs.Instructions as code
use Rattle.regress_engine_runs.specs.States.{Marks, Whole}
use Rattle.regress_engine_runs.specs.Runs.{advance, choices, count_of, counted, entered, fields_of, is_plain, moved_to, one_more, ordered, room, successors}
use Rattle.regress_engine_runs.specs.Meets.{referred}
use Rattle.regress_engine_runs.specs.UndoStack.{whole, at_each}
use Rattle.regress_engine_search.proofs.InsnLemmas.{again-successors}
use Rattle.regress_engine_memory.specs.Flow.{Flow, Flows, IsFlow}
use Rattle.regress_engine_memory.proofs.Onward.{flows-unreferring}
use Rattle.regress_engine_memory.proofs.Unreferring.{advance-any, counted-any}
use Rattle.regress_engine_linear.specs.Ranks.{Ranking, Ranks, IsCycle, AreRanked, AreRunning, AreUnboundedOrOnce}
use Rattle.regress_engine_linear.specs.Answered.{again, answer_at, behind, one_answers, one_at}
use Rattle.regress_engine_linear.proofs.Running.{same-loop}
use Rattle.regress_engine_linear.proofs.Alike.{busy}

pub or-none : (a : Bool) → (a || false) ≡ a
or-none true = refl
or-none false = refl

module _ (told : ℕ → ℕ → Bool) (program : Program) (input : Input) (dir : Direction) (o : ℕ) (ls : List (ℕ × ℕ)) (gs : List Marks) where
  moved-answers : (at : ℕ) (x y : Option ℕ) → x ≡ y → one_answers told (moved_to (whole at o ls gs) x) ≡ behind told at y
  moved-answers at x y e = ap (λ z. one_answers told (moved_to (whole at o ls gs) z)) e ∙ same y
    where
      same : (y : Option ℕ) → one_answers told (moved_to (whole at o ls gs) y) ≡ behind told at y
      same None = refl
      same (Some q) = or-none (told (suc at) q)

  each-answers : (at : ℕ) (os : List ℕ) → one_answers told (at_each program input at ls gs os) ≡ one_at told at os
  each-answers at [] = refl
  each-answers at (q ∷ os) = ap (λ b. told at q || b) (each-answers at os)

  ordered-answers : (g m e : Bool) (s t : Whole) → one_answers told (ordered g m e s t) ≡ ((m && told s.at s.offset) || (e && told t.at t.offset))
  ordered-answers g m e s t = by_value g m e (told s.at s.offset) (told t.at t.offset) refl refl
    where
      by_value : (g m e a b : Bool) → told s.at s.offset ≡ a → told t.at t.offset ≡ b → one_answers told (ordered g m e s t) ≡ ((m && told s.at s.offset) || (e && told t.at t.offset))
      by_value true true true a b p q = ap (λ c. told s.at s.offset || c) (or-none (told t.at t.offset))
      by_value true true false a b p q = refl
      by_value true false true a b p q = or-none (told t.at t.offset)
      by_value true false false a b p q = refl
      by_value false true true true true p q = ap₂ (λ (x y : Bool). y || (x || false)) p q ∙ sym (ap₂ (λ (x y : Bool). x || y) p q)
      by_value false true true true false p q = ap₂ (λ (x y : Bool). y || (x || false)) p q ∙ sym (ap₂ (λ (x y : Bool). x || y) p q)
      by_value false true true false true p q = ap₂ (λ (x y : Bool). y || (x || false)) p q ∙ sym (ap₂ (λ (x y : Bool). x || y) p q)
      by_value false true true false false p q = ap₂ (λ (x y : Bool). y || (x || false)) p q ∙ sym (ap₂ (λ (x y : Bool). x || y) p q)
      by_value false true false a b p q = refl
      by_value false false true a b p q = or-none (told t.at t.offset)
      by_value false false false a b p q = refl

module _ (flow : Flow) (r : Ranking) (last : ℕ) (program : Program) (input : Input) (closed : IsFlow flow program) (ranked : AreRanked flow r program) (unbounded : AreUnboundedOrOnce last program)
    (dir : Direction) (told : ℕ → ℕ → Bool) where
  abbrev Running : Whole → Type 0
  Running s = AreRunning flow r program last dir s

  abbrev Is : Instruction → Whole → Type 0
  Is i s = one_answers told (successors program input i dir s) ≡ answer_at told program input dir i s.at s.offset

  -- a repetition goes on, by what its number of iterations allows
  choices-answer : (f : LoopFields) (begin : ℕ) (s : Whole) (m e : Bool) → nat_lt (count_of f.loop_id s) f.most ≡ m → nat_le f.least (count_of f.loop_id s) ≡ e
      → one_answers told (choices f begin s) ≡ ((m && told (suc begin) s.offset) || (e && told f.exit s.offset))
  choices-answer f begin s m e more out =
      ordered-answers told program input dir s.offset s.loops s.groups f.greedy (nat_lt (count_of f.loop_id s) f.most) (nat_le f.least (count_of f.loop_id s))
      (one_more f.loop_id begin s) (record s { at = f.exit })
      ∙ ap₂ (λ (x y : Bool). (x && told (suc begin) s.offset) || (y && told f.exit s.offset)) more out

  -- a repetition begins
  enter-answers : (f : LoopFields) (at o : ℕ) (ls : List (ℕ × ℕ)) (gs : List Marks) → f.loop_id < program.loops → Stands program at (code.enter_loop f) → Running (whole at o ls gs)
      → Is (code.enter_loop f) (whole at o ls gs)
  enter-answers f at o ls gs within here running =
      choices-answer f at (entered input dir f (whole at o ls gs)) true (nat_le f.least 0) (ap (λ n. nat_lt n f.most) none ∙ some)
      (ap (nat_le f.least) none)
    where
      begun : ℕ × ℕ
      begun = (surplus f.least (room (length input.units) dir o), o)

      cycle : IsCycle flow r at at f
      cycle = ranked at (code.enter_loop f) running.calm here

      some : nat_lt 0 f.most ≡ true
      some = lt-ltb 0 f.most (elim (unbounded at f here) [ inl most ↦ omega (arith, most) | inr once ↦ omega (arith, once) ])

      none : (get_or (slice_set ls f.loop_id begun) f.loop_id (0, 0)).0 ≡ 0
      none =
          let size = running.size in
          let least = cycle.least in
          let few : surplus f.least (room (length input.units) dir o) ≡ 0 = omega (arith, least) in
          ap (λ (x : ℕ × ℕ). x.0) (get_or-set_same ls f.loop_id begun (0, 0) (omega (arith, within, size))) ∙ few

  -- an iteration ends
  again-answers : (begin at o : ℕ) (ls : List (ℕ × ℕ)) (gs : List Marks) → Stands program at (code.loop_again begin) → Running (whole at o ls gs) → Is (code.loop_again begin) (whole at o ls gs)
  again-answers begin at o ls gs here running = by_flow (closed at (code.loop_again begin) running.calm here) (ranked at (code.loop_again begin) running.calm here)
    where
      s : Whole
      s = whole at o ls gs

      by_flow : Flows flow program at (code.loop_again begin) → Ranks flow r program at (code.loop_again begin) → Is (code.loop_again begin) s
      by_flow (g, stands, told', live, writes, hands) (f, there, cycle) =
          let same : g ≡ f = same-loop program begin g f stands there in
          let live-too : flow.live at f.loop_id ≡ true = subst (λ (x : LoopFields). flow.live at x.loop_id ≡ true) same live in
          let one = busy flow r last program input closed ranked unbounded dir f at begin o (get_or ls f.loop_id (0, 0)) there cycle (running.loops f.loop_id live-too) in
          ap (one_answers told) (again-successors program input dir s begin f there)
          ∙ ap (λ (b : Bool). one_answers told (if b then [] else choices f begin s)) one.0
          ∙ choices-answer f begin s (nat_lt 1 f.most) true one.1 one.2
          ∙ ap (λ (x : Option Instruction). again told o begin (fields_of x)) (sym there)

  -- It is whether one of those has an answer to which the instruction leads.
  pub answers-are : (i : Instruction) (at o : ℕ) (ls : List (ℕ × ℕ)) (gs : List Marks) → Stands program at i → is_plain i ≡ true → Running (whole at o ls gs)
      → ((f : LoopFields) → i ≡ code.enter_loop f → f.loop_id < program.loops) → Is i (whole at o ls gs)
  answers-are code.goal at o ls gs here plain running fits = absurd (cc plain)
  answers-are code.fail at o ls gs here plain running fits = refl
  answers-are (code.back k icase) at o ls gs here plain running fits = absurd (ranked at (code.back k icase) running.calm here)
  answers-are (code.submatch kind low high continuation) at o ls gs here plain running fits = absurd (cc plain)
  answers-are (code.jump a) at o ls gs here plain running fits = or-none (told a o)
  answers-are (code.alt a) at o ls gs here plain running fits = ap (λ b. told (suc at) o || b) (or-none (told a o))
  answers-are (code.begin_group k) at o ls gs here plain running fits = or-none (told (suc at) o)
  answers-are (code.end_group k) at o ls gs here plain running fits = or-none (told (suc at) o)
  answers-are (code.reset_group k) at o ls gs here plain running fits = or-none (told (suc at) o)
  answers-are (code.enter_loop f) at o ls gs here plain running fits = enter-answers f at o ls gs (fits f refl) here running
  answers-are (code.loop_again begin) at o ls gs here plain running fits = again-answers begin at o ls gs here running
  answers-are (code.single_loop least most greedy) at o ls gs here plain running fits =
      by_body (slice_get program.instructions (suc at)) (closed at (code.single_loop least most greedy) running.calm here).1
    where
      by_body : (x : Option Instruction) → ((i : Instruction) → x ≡ Some i → referred i ≡ None)
          → one_answers told (elim x [ None ↦ [] | Some i ↦ map (λ q. whole (suc (suc at)) q ls gs) (counted program input least most greedy i dir gs o) ])
          ≡ elim x [ None ↦ false | Some i ↦ one_at told (suc (suc at)) (counted program input least most greedy i dir [] o) ]
      by_body None calm = refl
      by_body (Some i) calm =
          each-answers told program input dir o ls gs (suc (suc at)) (counted program input least most greedy i dir gs o)
          ∙ ap (one_at told (suc (suc at))) (counted-any program input i dir gs [] (calm i refl) least most greedy o)
  answers-are i at o ls gs here plain running fits =
      moved-answers told program input dir o ls gs at (advance program input i dir gs o) (advance program input i dir [] o)
      (advance-any program input i dir gs [] o (flows-unreferring flow program at i (closed at i running.calm here)))
