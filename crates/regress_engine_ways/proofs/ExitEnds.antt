-- Where runs end from the exits of a one-character loop is told by where they end from each.
use Rattle.std.specs.Prelude.{map, option_map, reverse, slice_get}
use Rattle.std.specs.List.{AllByRecursion}
use Rattle.std.specs.Option.{option_or}
use Rattle.std.proofs.Common.{◌≡◌, ℕ, zero, suc, ◌+◌, ◌-◌, ◌<◌, ◌≤◌, ◌⊎◌, inl, inr, Bool, true, false, List, [], ◌∷◌, ◌++◌, length, Option, None, Some, if◌then◌else◌, refl, sym, ap, ◌∙◌, subst, arith}
use Rattle.std.proofs.lemmas.List.{map-append, reverse-append}
use Rattle.regress_meaning.specs.Meaning.{Direction}
use Rattle.regress_engine_input.specs.Views.{View, AreOfKind, input_of, reading_of}
use Rattle.regress_engine_insn.specs.Instructions.{Instruction, Program, Stands}
use Rattle.regress_engine_insn.specs.Instructions as code
use Rattle.regress_engine_runs.specs.States.{Marks, Whole}
use Rattle.regress_engine_runs.specs.Runs.{Run, advance, after_times, as_far, counted, given_back, one_by_one, room, successors}
use Rattle.regress_engine_runs.specs.Meets.{IsAtPlace, now}
use Rattle.regress_engine_runs.specs.UndoStack.{at_each, whole}
use Rattle.regress_engine_runs.proofs.Parts.{Split, meets-first, meets-others, run-splits}
use Rattle.regress_engine_runs.proofs.RunViews.{run_none}
use Rattle.regress_engine_search.specs.Search.{Suits}
use Rattle.regress_engine_search.proofs.GivenBack.{given-back}
use Rattle.regress_engine_memory.specs.Flow.{Flow}
use Rattle.regress_engine_memory.proofs.Taking.{advance-takes, one-takes, taking-unreferring}
use Rattle.regress_engine_memory.proofs.Unreferring.{counted-any}
use Rattle.regress_engine_linear.specs.Answered.{IsRepeated, ReadsAlong}
use Rattle.regress_engine_linear.specs.RankTables.{Heights, ranking_of}
use Rattle.regress_engine_linear.specs.Ranks.{AreRunning}
use Rattle.regress_engine_linear.proofs.AnswerLemmas.{reads-on, run-onward}
use Rattle.regress_engine_ways.proofs.ExitAnswers.{after-there, body-before, body-here}
use Rattle.regress_engine_ways.proofs.ExitWays.{ones-last, ones-more}
use Rattle.regress_engine_linear.proofs.Running.{running-step}
use Rattle.regress_engine_ways.specs.Ways.{AreBeyondEndedAt, AreEndedAt, AreEndedFrom, AreExitsEndedAt, AreNearEndedAt, IsEndedAt, MayPass, in_order, preferred, preferred_of}

-- what holds of each of some states and others holds of each of both
each-parts : (P : Whole → Type 0) (xs ys : List Whole) → AllByRecursion P (xs ++ ys) → AllByRecursion P xs × AllByRecursion P ys
each-parts P [] ys each = (tt, each)
each-parts P (x ∷ xs) ys each = let (first, others) = each-parts P xs ys each.1 in ((each.0, first), others)

or-none : (x : Option ℕ) → option_or x None ≡ x
or-none None = refl
or-none (Some e) = refl

module _ (flow : Flow) (h : Heights) (v : View) (program : Program) (dir : Direction) where
  abbrev Ended : List Whole → Option ℕ → Type 0
  Ended ss end = AreEndedAt flow h program v dir ss end

  pub none-ended : Ended [] None
  none-ended live reads n a run = ap (option_map (λ (w : Whole). w.offset)) (run_none program (input_of v) run).1

  pub one-ended : (u : Whole) (end : Option ℕ) → IsEndedAt flow h program v dir u.at u.offset end → Ended (u ∷ []) end
  one-ended u end ended live reads n a run = ended u.loops u.groups live.0 reads n a run

  -- a run over some states and others ends where it does over the first, if it has an answer there, else over the others
  pub both-ended : (xs ys : List Whole) (e f : Option ℕ) → Ended xs e → Ended ys f → Ended (xs ++ ys) (option_or e f)
  both-ended xs ys e f first others live reads n a run = by_split (run-splits program (input_of v) dir xs ys n a run)
    where
      parts : AllByRecursion (AreRunning flow (ranking_of h) program (length v.units) dir) xs × AllByRecursion (AreRunning flow (ranking_of h) program (length v.units) dir) ys
      parts = each-parts (AreRunning flow (ranking_of h) program (length v.units) dir) xs ys live

      along : ReadsAlong program v dir xs
      along u i met = reads u i (meets-first program (input_of v) met ys)

      by_split : Split program (input_of v) dir xs ys n a → option_map (λ (w : Whole). w.offset) a ≡ option_or e f
      by_split (None, l, run', (k, count, rest)) =
          others parts.1 (λ u i met. reads u i (meets-others program (input_of v) run' refl ys u met)) k a rest
          ∙ ap (λ x. option_or x f) (first parts.0 along l None run')
      by_split (Some w, l, run', (same, count)) =
          ap (option_map (λ (w : Whole). w.offset)) same
          ∙ ap (λ x. option_or x f) (first parts.0 along l (Some w) run')

  module _ (at : ℕ) (greedy : Bool) (loops : List (ℕ × ℕ)) (groups : List Marks) where
    abbrev exits : List ℕ → List Whole
    exits os = at_each program (input_of v) (suc (suc at)) loops groups (in_order greedy os)

    -- of an exit and those behind it
    pub exit-ended : (o : ℕ) (os : List ℕ) (here beyond : Option ℕ) → IsEndedAt flow h program v dir (suc (suc at)) o here → Ended (exits os) beyond
        → Ended (exits (o ∷ os)) (preferred greedy here beyond)
    exit-ended o os here beyond is rest = by_greedy greedy rest
      where
        one : Ended (whole (suc (suc at)) o loops groups ∷ []) here
        one = one-ended (whole (suc (suc at)) o loops groups) here is

        by_greedy : (g : Bool) → Ended (at_each program (input_of v) (suc (suc at)) loops groups (in_order g os)) beyond
            → Ended (at_each program (input_of v) (suc (suc at)) loops groups (in_order g (o ∷ os))) (preferred g here beyond)
        by_greedy false rest = both-ended (whole (suc (suc at)) o loops groups ∷ []) (at_each program (input_of v) (suc (suc at)) loops groups os) here beyond one rest
        by_greedy true rest =
            subst (λ (ss : List Whole). Ended ss (option_or beyond here))
            (sym (ap (at_each program (input_of v) (suc (suc at)) loops groups) (reverse-append (o ∷ []) os) ∙ map-append (λ q. whole (suc (suc at)) q loops groups) (reverse os) (o ∷ [])))
            (both-ended (at_each program (input_of v) (suc (suc at)) loops groups (reverse os)) (whole (suc (suc at)) o loops groups ∷ []) beyond here rest one)

    pub no-exit-ended : Ended (exits []) None
    no-exit-ended = by_greedy greedy
      where
        by_greedy : (g : Bool) → Ended (at_each program (input_of v) (suc (suc at)) loops groups (in_order g [])) None
        by_greedy false = none-ended
        by_greedy true = none-ended

    -- of some exits, by each
    pub exits-ended : (ends : ℕ → Option ℕ) (os : List ℕ) → AllByRecursion (λ o. IsEndedAt flow h program v dir (suc (suc at)) o (ends o)) os
        → Ended (exits os) (preferred_of ends greedy os)
    exits-ended ends [] each = no-exit-ended
    exits-ended ends (o ∷ os) each = exit-ended o os (ends o) (preferred_of ends greedy os) each.0 (exits-ended ends os each.1)

  module _ (i : Instruction) (repeated : (at : ℕ) × IsRepeated program at i) where
    abbrev next : ℕ → Option ℕ
    next o = advance program (input_of v) i dir [] o

    -- of all exits from an offset on, by the one there and those behind it
    pub all-ended : (at : ℕ) (greedy : Bool) (o : ℕ) (here beyond : Option ℕ) → IsEndedAt flow h program v dir (suc (suc at)) o here
        → AreBeyondEndedAt flow h program v dir at greedy i o beyond → AreExitsEndedAt flow h program v dir at greedy i o (preferred greedy here beyond)
    all-ended at greedy o here beyond is rest n few loops groups = by_next (next o) refl rest
      where
        Exits : List ℕ → Option ℕ → Type 0
        Exits os end = Ended (at_each program (input_of v) (suc (suc at)) loops groups (in_order greedy os)) end

        by_next : (x : Option ℕ) → next o ≡ x → AreEndedFrom flow h program v dir at greedy i x beyond
            → Exits (one_by_one program (input_of v) n i dir [] o) (preferred greedy here beyond)
        by_next None e none =
            subst (λ os. Exits os (preferred greedy here beyond)) (sym (ones-last program (input_of v) i dir [] n o (inr e)))
            (subst (λ y. Exits (o ∷ []) (preferred greedy here y)) (sym none)
            (exit-ended at greedy loops groups o [] here None is (no-exit-ended at greedy loops groups)))
        by_next (Some q) e behind =
            let left = (advance-takes v program i dir [] o q (taking-unreferring i repeated.1.1) e).1 in
            let one = one-takes i repeated.1.1 in
            let some : n ≡ 0 → ⊥ = λ none. omega (arith, few, left, one, none) in
            subst (λ os. Exits os (preferred greedy here beyond)) (sym (ones-more program (input_of v) i dir [] n o q some e))
            (exit-ended at greedy loops groups o (one_by_one program (input_of v) (n - 1) i dir [] q) here beyond is
            (behind (n - 1) (omega (arith, few, left, one)) loops groups))

module _ (flow : Flow) (h : Heights) (v : View) (all : AreOfKind v.kind v.units) (program : Program) (suits : Suits program v) (may : MayPass flow h program v) (dir : Direction)
    (at o least most : ℕ) (greedy : Bool) (here : Stands program at (code.single_loop least most greedy)) (i : Instruction) (repeated : IsRepeated program at i)
    (place : IsAtPlace (reading_of v) o) where
  abbrev near : Option ℕ
  near = after_times program (input_of v) least i dir [] o

  -- So it is told where runs end from a one-character loop: from the exits behind its least number.
  pub single-ended : (end : Option ℕ) → AreNearEndedAt flow h program v dir at greedy i (most - least) near end
      → IsEndedAt flow h program v dir at o end
  single-ended end told loops groups running reads n a run =
      let (m, on) = run-onward program (input_of v) dir (code.single_loop least most greedy) s n a here refl run in
      subst (λ ss. Ended flow h v program dir ss end) (sym states) exits
      (running-step flow (ranking_of h) v all program suits may.closed may.ranked dir s (code.single_loop least most greedy) running here refl (reads s (code.single_loop least most greedy) now here))
      (reads-on flow (ranking_of h) v all program suits may.closed may.ranked dir (code.single_loop least most greedy) s here refl reads) m a on
    where
      s : Whole
      s = whole at o loops groups

      offsets : Option ℕ → List ℕ
      offsets x = elim x [ None ↦ [] | Some q ↦ in_order greedy (one_by_one program (input_of v) (most - least) i dir [] q) ]

      by_near : (x : Option ℕ) → near ≡ x → counted program (input_of v) least most greedy i dir [] o ≡ offsets x
      by_near None e =
          ap (λ (x : Option ℕ). elim x [
            | None ↦ []
            | Some q ↦ if greedy then given_back (input_of v) dir q (as_far program (input_of v) (most - least) i dir [] q) else one_by_one program (input_of v) (most - least) i dir [] q
          ]) e
      by_near (Some q) e =
          ap (λ (x : Option ℕ). elim x [
            | None ↦ []
            | Some q ↦ if greedy then given_back (input_of v) dir q (as_far program (input_of v) (most - least) i dir [] q) else one_by_one program (input_of v) (most - least) i dir [] q
          ]) e
          ∙ by_greedy greedy
        where
          by_greedy : (g : Bool) → (if g then given_back (input_of v) dir q (as_far program (input_of v) (most - least) i dir [] q) else one_by_one program (input_of v) (most - least) i dir [] q)
              ≡ in_order g (one_by_one program (input_of v) (most - least) i dir [] q)
          by_greedy true =
              given-back v all program suits dir [] (suc (suc at)) i (most - least) q
              (body-here v all program suits dir at i repeated q (after-there v all program suits dir at i repeated least o q place e).1) (body-before v all program suits dir at i repeated)
          by_greedy false = refl

      states : successors program (input_of v) (code.single_loop least most greedy) dir s ≡ at_each program (input_of v) (suc (suc at)) loops groups (offsets near)
      states =
          ap (λ (x : Option Instruction). elim x [
            | None ↦ []
            | Some j ↦ map (λ q. record s { at = suc (suc at); offset = q }) (counted program (input_of v) least most greedy j dir groups o)
          ]) repeated.0
          ∙ ap (at_each program (input_of v) (suc (suc at)) loops groups)
          (counted-any program (input_of v) i dir groups [] (taking-unreferring i repeated.1) least most greedy o ∙ by_near near refl)

      by_told : (x : Option ℕ) → AreNearEndedAt flow h program v dir at greedy i (most - least) x end
          → Ended flow h v program dir (at_each program (input_of v) (suc (suc at)) loops groups (offsets x)) end
      by_told None none = subst (Ended flow h v program dir []) (sym none) (none-ended flow h v program dir)
      by_told (Some q) ended = ended loops groups

      exits : Ended flow h v program dir (at_each program (input_of v) (suc (suc at)) loops groups (offsets near)) end
      exits = by_told near told
