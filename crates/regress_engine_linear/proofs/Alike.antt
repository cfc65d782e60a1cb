-- States at one address and offset run alike where the loops of both are under way.
use Rattle.std.specs.Prelude.{slice_get, slice_set, nat_lt, nat_le}
use Rattle.std.proofs.Common.{◌≡◌, ℕ, suc, ◌+◌, ◌<◌, ◌≤◌, ◌⊎◌, inl, inr, ◌&&◌, ◌==◌, Bool, true, false, List, [], ◌∷◌, length, get_or, Option, None, Some, if◌then◌else◌, refl, sym, ap, ap₂, ◌∙◌, subst, arith, get_or-set_same}
use Rattle.std.proofs.lemmas.Bool.{false_from_ne_true, lt-ltb, ltb-true, ne_eqb}
use Rattle.std.proofs.lemmas.Bool.Decides.{nat_tests}
use Rattle.regress_meaning.specs.Meaning.{Direction}
use Rattle.regress_meaning.specs.Inputs.{Input}
use Rattle.regress_engine_insn.specs.Instructions.{LoopFields, Instruction, Program, Stands, surplus}
use Rattle.regress_engine_insn.specs.Instructions as code
use Rattle.regress_engine_runs.specs.States.{Marks, Whole}
use Rattle.regress_engine_runs.specs.Runs.{advance, choices, count_of, counted, is_idle, is_plain, moved_to, one_more, ordered, room, successors}
use Rattle.regress_engine_runs.specs.Meets.{referred}
use Rattle.regress_engine_runs.specs.UndoStack.{whole, at_each}
use Rattle.regress_engine_search.proofs.InsnLemmas.{again-successors}
use Rattle.regress_engine_memory.specs.Flow.{Flow, Flows, IsFlow}
use Rattle.regress_engine_memory.proofs.Onward.{flows-unreferring, further-past, past-differs}
use Rattle.regress_engine_memory.proofs.Unreferring.{advance-any, counted-any}
use Rattle.regress_engine_linear.specs.Ranks.{Ranking, Ranks, IsCycle, AreRanked, AreRunning, AreUnboundedOrOnce, IsRunning}
use Rattle.regress_engine_linear.proofs.Running.{running-ends, same-loop}

-- as many states stand at the same addresses and offsets
abbrev pub StandAlike : List Whole → List Whole → Type 0
StandAlike [] [] = Unit {0}
StandAlike (s ∷ ss) [] = ⊥
StandAlike [] (t ∷ ts) = ⊥
StandAlike (s ∷ ss) (t ∷ ts) = (s.at ≡ t.at) × (s.offset ≡ t.offset) × StandAlike ss ts

alike-ordered : (g m o : Bool) (s t u v : Whole) → (s.at ≡ u.at) × (s.offset ≡ u.offset) → (t.at ≡ v.at) × (t.offset ≡ v.offset) → StandAlike (ordered g m o s t) (ordered g m o u v)
alike-ordered true true true s t u v first second = (first.0, first.1, (second.0, second.1, tt))
alike-ordered true true false s t u v first second = (first.0, first.1, tt)
alike-ordered true false true s t u v first second = (second.0, second.1, tt)
alike-ordered true false false s t u v first second = tt
alike-ordered false true true s t u v first second = (second.0, second.1, (first.0, first.1, tt))
alike-ordered false true false s t u v first second = (first.0, first.1, tt)
alike-ordered false false true s t u v first second = (second.0, second.1, tt)
alike-ordered false false false s t u v first second = tt

module _ (program : Program) (input : Input) (o : ℕ) (ls ms : List (ℕ × ℕ)) (gs hs : List Marks) where
  alike-moved : (at : ℕ) (x y : Option ℕ) → x ≡ y → StandAlike (moved_to (whole at o ls gs) x) (moved_to (whole at o ms hs) y)
  alike-moved at x y e = subst (λ z. StandAlike (moved_to (whole at o ls gs) z) (moved_to (whole at o ms hs) y)) (sym e) (same y)
    where
      same : (x : Option ℕ) → StandAlike (moved_to (whole at o ls gs) x) (moved_to (whole at o ms hs) x)
      same None = tt
      same (Some q) = (refl, refl, tt)

  alike-each : (b : ℕ) (os : List ℕ) → StandAlike (at_each program input b ls gs os) (at_each program input b ms hs os)
  alike-each b [] = tt
  alike-each b (q ∷ os) = (refl, refl, alike-each b os)

  alike-bodies : (dir : Direction) (at least most : ℕ) (greedy : Bool) (x : Option Instruction) → ((i : Instruction) → x ≡ Some i → referred i ≡ None)
      → StandAlike (elim x [ None ↦ [] | Some i ↦ at_each program input at ls gs (counted program input least most greedy i dir gs o) ])
      (elim x [ None ↦ [] | Some i ↦ at_each program input at ms hs (counted program input least most greedy i dir hs o) ])
  alike-bodies dir at least most greedy None calm = tt
  alike-bodies dir at least most greedy (Some i) calm =
      subst (λ os. StandAlike (at_each program input at ls gs os) (at_each program input at ms hs (counted program input least most greedy i dir hs o)))
      (sym (counted-any program input i dir gs hs (calm i refl) least most greedy o)) (alike-each at (counted program input least most greedy i dir hs o))

  -- a repetition goes on alike where it may as often
  alike-choices : (f : LoopFields) (at begin : ℕ) → nat_lt (get_or ls f.loop_id (0, 0)).0 f.most ≡ nat_lt (get_or ms f.loop_id (0, 0)).0 f.most
      → nat_le f.least (get_or ls f.loop_id (0, 0)).0 ≡ nat_le f.least (get_or ms f.loop_id (0, 0)).0 → StandAlike (choices f begin (whole at o ls gs)) (choices f begin (whole at o ms hs))
  alike-choices f at begin more out =
      let s : Whole = whole at o ls gs in
      let t : Whole = whole at o ms hs in
      subst (λ (x : Bool × Bool). StandAlike (ordered f.greedy x.0 x.1 (one_more f.loop_id begin s) (record s { at = f.exit })) (choices f begin t)) (sym (ap₂ (λ (a b : Bool). (a, b)) more out))
      (alike-ordered f.greedy (nat_lt (count_of f.loop_id t) f.most) (nat_le f.least (count_of f.loop_id t)) (one_more f.loop_id begin s) (record s { at = f.exit })
      (one_more f.loop_id begin t) (record t { at = f.exit }) (refl, refl) (refl, refl))

module _ (flow : Flow) (r : Ranking) (last : ℕ) (program : Program) (input : Input) (closed : IsFlow flow program) (ranked : AreRanked flow r program) (unbounded : AreUnboundedOrOnce last program)
    (dir : Direction) where
  abbrev Running : Whole → Type 0
  Running s = AreRunning flow r program last dir s

  -- an iteration that is under way may end, and more may begin where a repetition has more than one
  pub busy : (f : LoopFields) (at begin o : ℕ) (x : ℕ × ℕ) → Stands program begin (code.enter_loop f) → IsCycle flow r at begin f → IsRunning r last dir at o f.loop_id x
      → ((nat_lt f.least x.0 && (x.1 == o)) ≡ false) × (nat_lt x.0 f.most ≡ nat_lt 1 f.most) × (nat_le f.least x.0 ≡ true)
  busy f at begin o x there cycle running = (idle, more (unbounded begin f there), out)
    where
      few : x.0 + room last dir x.1 ≤ suc last
      few = running.few

      begun : 1 ≤ x.0
      begun = running.begun

      more : (suc last < f.most) ⊎ (f.most ≡ 1) → nat_lt x.0 f.most ≡ nat_lt 1 f.most
      more (inl most) = lt-ltb x.0 f.most (omega (arith, few, most)) ∙ sym (lt-ltb 1 f.most (omega (arith, begun, few, most)))
      more (inr once) = false_from_ne_true (nat_lt x.0 f.most) (λ e. let less = ltb-true x.0 f.most e in absurd (omega (arith, less, once, begun)))
          ∙ sym (false_from_ne_true (nat_lt 1 f.most) (λ e. let less = ltb-true 1 f.most e in absurd (omega (arith, less, once))))

      differs : x.1 ≡ o → ⊥
      differs = past-differs dir x.1 o (further-past last dir x.1 o (running-ends r last dir at begin o f x flow cycle running))

      idle : (nat_lt f.least x.0 && (x.1 == o)) ≡ false
      idle = by_test (nat_lt f.least x.0) (ne_eqb x.1 o differs)
        where
          by_test : (b : Bool) → (x.1 == o) ≡ false → (b && (x.1 == o)) ≡ false
          by_test true e = e
          by_test false e = refl

      out : nat_le f.least x.0 ≡ true
      out = let least = cycle.least in let enough : f.least ≤ x.0 = omega (arith, least, begun) in grind (arith, nat_tests)

  -- what a plain instruction leads to stands alike
  pub shape-on : (i : Instruction) (at o : ℕ) (ls ms : List (ℕ × ℕ)) (gs hs : List Marks) → Stands program at i → is_plain i ≡ true
      → Running (whole at o ls gs) → Running (whole at o ms hs) → (fits : (f : LoopFields) → i ≡ code.enter_loop f → f.loop_id < program.loops)
      → StandAlike (successors program input i dir (whole at o ls gs)) (successors program input i dir (whole at o ms hs))
  shape-on code.goal at o ls ms gs hs here plain first second fits = absurd (cc plain)
  shape-on code.fail at o ls ms gs hs here plain first second fits = tt
  shape-on (code.back k icase) at o ls ms gs hs here plain first second fits = absurd (ranked at (code.back k icase) first.calm here)
  shape-on (code.submatch kind low high continuation) at o ls ms gs hs here plain first second fits = absurd (cc plain)
  shape-on (code.jump a) at o ls ms gs hs here plain first second fits = (refl, refl, tt)
  shape-on (code.alt a) at o ls ms gs hs here plain first second fits = (refl, refl, (refl, refl, tt))
  shape-on (code.begin_group k) at o ls ms gs hs here plain first second fits = (refl, refl, tt)
  shape-on (code.end_group k) at o ls ms gs hs here plain first second fits = (refl, refl, tt)
  shape-on (code.reset_group k) at o ls ms gs hs here plain first second fits = (refl, refl, tt)
  shape-on (code.enter_loop f) at o ls ms gs hs here plain first second fits =
      alike-choices program input o (set ls) (set ms) gs hs f at at (ap (λ (x : ℕ × ℕ). nat_lt x.0 f.most) same) (ap (λ (x : ℕ × ℕ). nat_le f.least x.0) same)
    where
      begun : ℕ × ℕ
      begun = (surplus f.least (room (length input.units) dir o), o)

      set : List (ℕ × ℕ) → List (ℕ × ℕ)
      set loops = slice_set loops f.loop_id begun

      it : (loops : List (ℕ × ℕ)) → length loops ≡ program.loops → get_or (set loops) f.loop_id (0, 0) ≡ begun
      it loops size = let within = fits f refl in get_or-set_same loops f.loop_id begun (0, 0) (omega (arith, within, size))

      same : get_or (set ls) f.loop_id (0, 0) ≡ get_or (set ms) f.loop_id (0, 0)
      same = it ls first.size ∙ sym (it ms second.size)
  shape-on (code.loop_again begin) at o ls ms gs hs here plain first second fits = by_flow (closed at (code.loop_again begin) first.calm here) (ranked at (code.loop_again begin) first.calm here)
    where
      s : Whole
      s = whole at o ls gs

      t : Whole
      t = whole at o ms hs

      by_flow : Flows flow program at (code.loop_again begin) → Ranks flow r program at (code.loop_again begin)
          → StandAlike (successors program input (code.loop_again begin) dir s) (successors program input (code.loop_again begin) dir t)
      by_flow (g, stands, told, live, writes, hands) (f, there, cycle) =
          let same : g ≡ f = same-loop program begin g f stands there in
          let live-too : flow.live at f.loop_id ≡ true = subst (λ (x : LoopFields). flow.live at x.loop_id ≡ true) same live in
          let one = busy f at begin o (get_or ls f.loop_id (0, 0)) there cycle (first.loops f.loop_id live-too) in
          let two = busy f at begin o (get_or ms f.loop_id (0, 0)) there cycle (second.loops f.loop_id live-too) in
          subst (λ xs. StandAlike xs (successors program input (code.loop_again begin) dir t)) (sym (again-successors program input dir s begin f there))
          (subst (StandAlike (if is_idle f s then [] else choices f begin s)) (sym (again-successors program input dir t begin f there))
          (subst (λ b. StandAlike (if b then [] else choices f begin s) (if is_idle f t then [] else choices f begin t)) (sym one.0)
          (subst (λ b. StandAlike (choices f begin s) (if b then [] else choices f begin t)) (sym two.0)
          (alike-choices program input o ls ms gs hs f at begin (one.1 ∙ sym two.1) (one.2 ∙ sym two.2)))))
  shape-on (code.single_loop least most greedy) at o ls ms gs hs here plain first second fits =
      alike-bodies program input o ls ms gs hs dir (suc (suc at)) least most greedy (slice_get program.instructions (suc at)) (closed at (code.single_loop least most greedy) first.calm here).1
  shape-on i at o ls ms gs hs here plain first second fits =
      alike-moved program input o ls ms gs hs at (advance program input i dir gs o) (advance program input i dir hs o)
      (advance-any program input i dir gs hs o (flows-unreferring flow program at i (closed at i first.calm here)))
