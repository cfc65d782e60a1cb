-- Where runs end is told by where those end to which an instruction leads.
use Rattle.std.specs.Prelude.{is_some, option_map}
use Rattle.std.proofs.Common.{◌≡◌, ℕ, suc, ◌+◌, ◌<◌, ◌≤◌, ◌⊎◌, inr, Bool, true, false, List, [], ◌∷◌, length, Option, None, Some, if◌then◌else◌, refl, sym, ap, ◌∙◌, subst, append-nil, arith}
use Rattle.regress_meaning.specs.Meaning.{Direction}
use Rattle.regress_meaning.specs.Inputs.{Input}
use Rattle.regress_front_nodes.specs.Trees.{lookaround, atomic}
use Rattle.regress_engine_input.specs.Views.{View, AreOfKind, direction_of, input_of}
use Rattle.regress_engine_insn.specs.Instructions.{Instruction, Program, Stands}
use Rattle.regress_engine_insn.specs.Instructions as code
use Rattle.regress_engine_runs.specs.States.{Marks, Whole, mixed}
use Rattle.regress_engine_runs.specs.Runs.{Run, after_submatch, looks}
use Rattle.regress_engine_runs.specs.Runs.{ends as no-more}
use Rattle.regress_engine_runs.specs.Meets.{behind, inside}
use Rattle.regress_engine_runs.proofs.Computed.{one_run}
use Rattle.regress_engine_runs.proofs.Parts.{meets-first}
use Rattle.regress_engine_runs.specs.UndoStack.{whole}
use Rattle.regress_engine_search.specs.Search.{Suits}
use Rattle.regress_engine_memory.specs.Flow.{Flow}
use Rattle.regress_engine_memory.specs.Under.{IsFurther}
use Rattle.regress_engine_linear.proofs.EndsBeyond.{atomic-beyond, atomic-lower}
use Rattle.regress_engine_linear.proofs.Running.{running-behind, running-inside}
use Rattle.regress_engine_linear.specs.Answered.{Ends, IsAnswered, ReadsAlong, answer_at, is_single}
use Rattle.regress_engine_linear.specs.RankTables.{Heights, forward_at, level_at, outside_at, rank_at, ranking_of}
use Rattle.regress_engine_linear.specs.Ranks.{AreRunning, Inside, IsBeyond, Lowers, Ranking, is_even}
use Rattle.regress_engine_ways.specs.Ways.{IsEndedAt, IsOnWay, MayPass, end_at, end_from, end_if, is_entered, led, marked, station, told_if, value_at}
use Rattle.regress_engine_ways.specs.declared.station.Station.{Station}
use Rattle.regress_engine_ways.proofs.OnWay.{at-goal, atomic-into, ends-way, look-into, on-way, told-here}

-- of a one-character loop it is not told by where runs end
pub single-value : (told : ℕ → ℕ → Bool) (ends : ℕ → ℕ → Option ℕ) (program : Program) (input : Input) (dir : Direction) (at o least most : ℕ) (greedy : Bool) (i : Instruction)
    → code.single_loop least most greedy ≡ i → value_at told ends program input dir i at o ≡ answer_at told program input dir i at o
single-value told ends program input dir at o least most greedy i e =
    subst (λ k. value_at told ends program input dir k at o ≡ answer_at told program input dir k at o) e refl

-- further on than an offset, or there at an address that is ranked lower
abbrev pub IsAhead : (h : Heights) → (last : ℕ) → Direction → (at o b q : ℕ) → Type 0
IsAhead h last dir at o b q = IsFurther last dir o q ⊎ ((q ≡ o) × (rank_at h b < rank_at h at))

-- Where runs end from what is ahead of an address and an offset, inside of an atomic group on the same level, is so.
abbrev pub AreEndsAhead : (flow : Flow) → (h : Heights) → Program → (v : View) → Direction → (ends : ℕ → ℕ → Option ℕ) → (at o : ℕ) → Type 0
AreEndsAhead flow h program v dir ends at o = (b q : ℕ) → IsAhead h (length v.units) dir at o b q → b < length h.ranks → q ≤ length v.units → level_at h b ≡ level_at h at
    → outside_at h b < length h.ranks → IsEndedAt flow h program v dir b q (ends b q)

module _ (flow : Flow) (h : Heights) (v : View) (all : AreOfKind v.kind v.units) (program : Program) (suits : Suits program v) (may : MayPass flow h program v) (dir : Direction)
    (told : ℕ → ℕ → Bool) (Past : (at o : ℕ) → Type 0)
    (right : (at o : ℕ) → at < length h.ranks → o ≤ length v.units → direction_of (forward_at h at) ≡ dir → Past at o → IsAnswered flow (ranking_of h) program v dir at o (told at o))
    (past : (s u : Whole) → Past s.at s.offset → IsBeyond (ranking_of h) (length v.units) dir s u → level_at h u.at ≡ level_at h s.at → Past u.at u.offset)
    (hs : List Marks) (ends : ℕ → ℕ → Option ℕ) (at o : ℕ) (p : Past at o) (ended : AreEndsAhead flow h program v dir ends at o)
    (there : at < length h.ranks) (lies : o ≤ length v.units) (way-in : direction_of (forward_at h at) ≡ dir) (within : outside_at h at < length h.ranks) where
  abbrev r : Ranking
  r = ranking_of h

  -- where a way goes on that has the answer, it is told where it ends
  from-way : (w : Whole) (b q : ℕ) (gs : List Marks) → IsOnWay flow h program v dir w b q gs → IsAhead h (length v.units) dir at o b q → level_at h b ≡ level_at h at
      → outside_at h b < length h.ranks → Some w.offset ≡ ends b q
  from-way w b q gs way ahead level inside' =
      ended b q ahead way.there way.within level inside' way.loops gs way.running way.reads way.steps (Some w) way.run

  module _ (w : Whole) (gs : List Marks) (way : IsOnWay flow h program v dir w at o gs) where
    abbrev End : Instruction → Option ℕ
    End i = end_at told ends program (input_of v) dir hs i at o

    on : (i : Instruction) → Stands program at i → (i ≡ code.goal → ⊥) → is_entered i ≡ false → (l : Option Station) → led told program (input_of v) dir hs i at o ≡ l
        → Some w.offset ≡ end_from ends l
    on i here other out None e = absurd (other (ends-way flow h v all program suits may dir told Past right past w at o gs way p hs i here e))
    on i here other out (Some x) e =
        let (next, ls, beyond, same, level) = on-way flow h v all program suits may dir told Past right past w at o gs way p hs i here out x e in
        from-way w x.at x.offset (marked dir i o gs) next beyond level (subst (λ n. n < length h.ranks) (sym same) within)

    by-look : (negated backward : Bool) (low high continuation : ℕ) → Stands program at (code.submatch (lookaround negated backward) low high continuation)
        → (b : Bool) → is_entered (code.submatch (lookaround negated backward) low high continuation) ≡ b → Some w.offset ≡ ends continuation o
    by-look negated backward low high continuation here false e =
        on (code.submatch (lookaround negated backward) low high continuation) here (λ g. absurd (cc g)) e (Some (station continuation o)) refl
    by-look true backward low high continuation here true e = absurd (cc e)
    by-look false backward low high continuation here true e =
        let (t, inner, outer, beyond) = look-into flow h v all program suits may dir told Past right past w at o gs way p hs backward low high continuation here in
        let lowers = (may.ranked at (code.submatch (lookaround false backward) low high continuation) way.running.calm here).0 in
        from-way w continuation o (mixed 0 low high t.groups gs) outer beyond lowers.level (subst (λ n. n < length h.ranks) (sym lowers.same) within)

    -- Of an atomic group it ends where it does behind the end of its contents.
    by-atomic : (low high continuation : ℕ) → Stands program at (code.submatch atomic low high continuation) → Some w.offset ≡ end_if ends continuation (ends (suc at) o)
    by-atomic low high continuation here =
        from-way w continuation t.offset (mixed 0 low high t.groups gs) into.2 into.3 both.0.level (subst (λ n. n < length h.ranks) (sym both.0.same) within)
        ∙ ap (end_if ends continuation) (from-way t (suc at) o gs into.1 (inr (refl, atomic-lower r at continuation both.1)) (both.1.level refl)
        (subst (λ n. n < length h.ranks) (sym (both.1.outside refl)) both.0.within))
      where
        both : Lowers r 1 at continuation × Inside r atomic at continuation
        both = may.ranked at (code.submatch atomic low high continuation) way.running.calm here

        into : (t : Whole) × IsOnWay flow h program v dir t (suc at) o gs × IsOnWay flow h program v dir w continuation t.offset (mixed 0 low high t.groups gs)
            × IsBeyond r (length v.units) dir (whole at o way.loops gs) (whole continuation t.offset way.loops (mixed 0 low high t.groups gs))
        into = atomic-into flow h v all program suits may dir told Past right past w at o gs way p hs low high continuation here

        t : Whole
        t = into.0

    end-way : (i : Instruction) → Stands program at i → is_single i ≡ false → Some w.offset ≡ End i
    end-way code.goal here plain = ap (λ (u : Whole). Some u.offset) (at-goal flow h v all program suits may dir told Past right past w at o gs way p hs here)
    end-way (code.submatch atomic low high continuation) here plain = by-atomic low high continuation here
    end-way (code.submatch (lookaround negated backward) low high continuation) here plain =
        by-look negated backward low high continuation here (is_entered (code.submatch (lookaround negated backward) low high continuation)) refl
    end-way (code.single_loop least most greedy) here plain = absurd (cc plain)
    end-way i here plain = on i here (λ e. absurd (cc e)) refl (led told program (input_of v) dir hs i at o) refl

  -- Where runs end by an end that is so for each that has an answer.
  pub ended-by : (end : Option ℕ) → ((w : Whole) (gs : List Marks) → IsOnWay flow h program v dir w at o gs → Some w.offset ≡ end)
      → IsEndedAt flow h program v dir at o (if told at o then end else None)
  ended-by end is loops groups running reads n a run = by_answer a run (right at o there lies way-in p loops groups running reads)
    where
      by_answer : (a : Option Whole) → Run program (input_of v) dir (whole at o loops groups ∷ []) n a → Ends program (input_of v) dir (whole at o loops groups ∷ []) (told at o)
          → option_map (λ (w : Whole). w.offset) a ≡ (if told at o then end else None)
      by_answer None run (m, q, other, some) =
          let same : q ≡ None = (one_run program (input_of v) other run).1 in
          sym (ap (λ (b : Bool). if b then end else None) (sym some ∙ ap is_some same))
      by_answer (Some w) run (m, q, other, some) =
          let same : q ≡ Some w = (one_run program (input_of v) other run).1 in
          let way : IsOnWay flow h program v dir w at o groups =
          record { loops = loops; steps = n; running = running; there = there; within = lies; reads = reads; run = run } in
          is w groups way ∙ sym (ap (λ (b : Bool). if b then end else None) (sym some ∙ ap is_some same))

  -- It is told by the instruction, but of a one-character loop.
  pub end-here : (i : Instruction) → Stands program at i → is_single i ≡ false
      → IsEndedAt flow h program v dir at o (if told at o then end_at told ends program (input_of v) dir hs i at o else None)
  end-here i here plain = ended-by (end_at told ends program (input_of v) dir hs i at o) (λ w gs way. end-way w gs way i here plain)

module _ (flow : Flow) (h : Heights) (v : View) (all : AreOfKind v.kind v.units) (program : Program) (suits : Suits program v) (may : MayPass flow h program v) (dir : Direction)
    (told : ℕ → ℕ → Bool) (ends : ℕ → ℕ → Option ℕ) (at o : ℕ) (ended : AreEndsAhead flow h program v dir ends at o) (low high continuation : ℕ)
    (here : Stands program at (code.submatch atomic low high continuation)) (lies : o ≤ length v.units)
    (right : (b q : ℕ) → IsAhead h (length v.units) dir at o b q → b < length h.ranks → q ≤ length v.units → level_at h b ≡ level_at h at
    → IsAnswered flow (ranking_of h) program v dir b q (told b q)) where
  abbrev r' : Ranking
  r' = ranking_of h

  -- Of an atomic group it is told by where its contents end.
  pub atomic-answers : IsAnswered flow r' program v dir at o (told_if told continuation (ends (suc at) o))
  atomic-answers loops groups running along =
      by_run (right (suc at) o ahead both.1.within lies (both.1.level refl) loops groups live reads)
    where
      s : Whole
      s = whole at o loops groups

      both : Lowers r' 1 at continuation × Inside r' atomic at continuation
      both = may.ranked at (code.submatch atomic low high continuation) running.calm here

      ahead : IsAhead h (length v.units) dir at o (suc at) o
      ahead = inr (refl, atomic-lower r' at continuation both.1)

      live : AreRunning flow r' program (length v.units) dir (whole (suc at) o loops groups)
      live = running-inside flow r' v all program suits may.closed may.ranked dir atomic low high continuation s running here

      reads : ReadsAlong program v dir (whole (suc at) o loops groups ∷ [])
      reads u j met = along u j (inside here met)

      Answer : Bool → Type 0
      Answer b = Ends program (input_of v) dir (s ∷ []) b

      is-end : (m : ℕ) (q : Option Whole) → Run program (input_of v) dir (whole (suc at) o loops groups ∷ []) m q → option_map (λ (t : Whole). t.offset) q ≡ ends (suc at) o
      is-end m q run =
          ended (suc at) o ahead both.1.within lies (both.1.level refl) (subst (λ n. n < length h.ranks) (sym (both.1.outside refl)) both.0.within) loops groups live reads m q run

      goes-on : (m : ℕ) (t : Whole) → Run program (input_of v) dir (whole (suc at) o loops groups ∷ []) m (Some t) → Answer (told continuation t.offset)
      goes-on m t run =
          let ms : List Marks = mixed 0 low high t.groups groups in
          let (on, low') = atomic-beyond flow r' v all program suits may.closed may.ranked dir low high continuation s running here m (Some t) run reads in
          let (n, a, next, is) = right continuation t.offset (on ms) both.0.within low' both.0.level loops ms
          (running-behind flow r' v all program suits may.closed may.ranked dir atomic low high continuation s running here t.offset ms low' (on ms))
          (λ u j met. along u j (behind here (m, run) (meets-first program (input_of v) met []))) in
          (suc (m + n), a, looks {m = m} {n = n} {q = Some t} {r = a} here run (subst (λ xs. Run program (input_of v) dir xs n a) (sym (append-nil (after_submatch atomic low high continuation s (Some t)))) next), is)

      by_answer : (m : ℕ) (q : Option Whole) → Run program (input_of v) dir (whole (suc at) o loops groups ∷ []) m q → Answer (told_if told continuation (ends (suc at) o))
      by_answer m None run =
          subst Answer (ap (told_if told continuation) (is-end m None run)) (suc (m + 0), None, looks {m = m} {n = 0} {q = None} {r = None} here run no-more, refl)
      by_answer m (Some t) run = subst Answer (ap (told_if told continuation) (is-end m (Some t) run)) (goes-on m t run)

      by_run : Ends program (input_of v) dir (whole (suc at) o loops groups ∷ []) (told (suc at) o) → Answer (told_if told continuation (ends (suc at) o))
      by_run (m, q, run, some) = by_answer m q run
