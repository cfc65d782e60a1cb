-- Runs from states at one address and offset are alike where all loops are under way, whatever their data and the groups.
use Rattle.std.specs.Prelude.{IfSome, get_or}
use Rattle.std.specs.List.{AllByRecursion}
use Rattle.std.proofs.Common.{◌≡◌, ℕ, suc, ◌<◌, ◌⊎◌, true, false, List, [], ◌∷◌, ◌++◌, length, Option, None, Some, refl, sym, ap, ap₂, subst}
use Rattle.regress_meaning.specs.Meaning.{Direction}
use Rattle.regress_front_nodes.specs.Trees.{Submatch, lookaround, atomic}
use Rattle.regress_front_nodes.specs.TreeMeaning.{submatch_direction}
use Rattle.regress_engine_input.specs.Views.{View, AreOfKind, input_of, reading_of}
use Rattle.regress_engine_insn.specs.Instructions.{LoopFields, Instruction, Program, Stands}
use Rattle.regress_engine_insn.specs.Instructions as code
use Rattle.regress_engine_runs.specs.States.{Marks, Whole, unset, range_of, onward, mixed}
use Rattle.regress_engine_runs.specs.Runs.{Run, ends, finds, goes, looks, after_submatch, is_plain, successors}
use Rattle.regress_engine_runs.specs.Meets.{Meets, now, later, inside, behind, referred, reads_character, ReadsPlaces, AreAtPlaces, IsAtPlace}
use Rattle.regress_engine_runs.specs.UndoStack.{Fails, whole}
use Rattle.regress_engine_search.specs.Search.{Suits}
use Rattle.regress_engine_memory.specs.Flow.{Flow, IsFlow}
use Rattle.regress_engine_memory.specs.Agreeing.{EndAlike}
use Rattle.regress_engine_memory.specs.Under.{IsFurther}
use Rattle.regress_engine_memory.proofs.Onward.{flows-unreferring}
use Rattle.regress_engine_linear.specs.Ranks.{Ranking, AreRanked, AreRunning, AreUnboundedOrOnce, AreBeside, AllBeside, FailsAnyhow}
use Rattle.regress_engine_linear.proofs.EndsBeyond.{GoesOn, Leaves, behind-beyond, behind-lies, contents-leave}
use Rattle.regress_engine_linear.proofs.Running.{running-behind, running-inside, running-step}
use Rattle.regress_engine_linear.proofs.Alike.{StandAlike, shape-on}

module _ (flow : Flow) (r : Ranking) (v : View) (all : AreOfKind v.kind v.units) (program : Program) (suits : Suits program v) (closed : IsFlow flow program) (ranked : AreRanked flow r program)
    (unbounded : AreUnboundedOrOnce (length v.units) program) where
  abbrev last : ℕ
  last = length v.units

  abbrev Live : Direction → Whole → Type 0
  Live dir s = AreRunning flow r program last dir s

  abbrev Both : Direction → Whole → Whole → Type 0
  Both dir s t = AreBeside flow r program last dir s t

  abbrev AllBoth : Direction → List Whole → List Whole → Type 0
  AllBoth dir ss ts = AllBeside flow r program last dir ss ts

  both-append : (dir : Direction) (xs ys ss ts : List Whole) → AllBoth dir xs ys → AllBoth dir ss ts → AllBoth dir (xs ++ ss) (ys ++ ts)
  both-append dir [] [] ss ts first rest = rest
  both-append dir (x ∷ xs) [] ss ts first rest = absurd first
  both-append dir [] (y ∷ ys) ss ts first rest = absurd first
  both-append dir (x ∷ xs) (y ∷ ys) ss ts first rest = (first.0, both-append dir xs ys ss ts first.1 rest)

  both-all : (dir : Direction) (xs ys : List Whole) → StandAlike xs ys → AllByRecursion (Live dir) xs → AllByRecursion (Live dir) ys → AllBoth dir xs ys
  both-all dir [] [] shape first second = tt
  both-all dir (x ∷ xs) [] shape first second = absurd shape
  both-all dir [] (y ∷ ys) shape first second = absurd shape
  both-all dir (x ∷ xs) (y ∷ ys) shape first second =
      (record { at = shape.0; offset = shape.1; first = first.0; second = second.0 }, both-all dir xs ys shape.2 first.1 second.1)

  -- a state reads what another at the same offset does
  reads-too : (i : Instruction) (s t : Whole) → referred i ≡ None → s.offset ≡ t.offset → ReadsPlaces (reading_of v) i t → ReadsPlaces (reading_of v) i s
  reads-too i s t calm same reads = (subst (IsAtPlace (reading_of v)) (sym same) reads.0, by_group (referred i) calm)
    where
      by_group : (x : Option ℕ) → x ≡ None → IfSome x (λ k. IfSome (range_of (get_or s.groups k unset)) (AreAtPlaces (reading_of v)))
      by_group None e = tt
      by_group (Some k) e = absurd (cc e)

  -- what states beside each other lead to stand beside each other
  both-step : (dir : Direction) (i : Instruction) (s t : Whole) → Both dir s t → Stands program t.at i → is_plain i ≡ true → (reads_character i ≡ true → ReadsPlaces (reading_of v) i t)
      → AllBoth dir (successors program (input_of v) i dir s) (successors program (input_of v) i dir t)
  both-step dir i s t both here plain reads =
      both-all dir (successors program (input_of v) i dir s) (successors program (input_of v) i dir t) shape
      (running-step flow r v all program suits closed ranked dir s i both.first there plain (λ e. reads-too i s t (flows-unreferring flow program t.at i (closed t.at i both.second.calm here)) both.offset (reads e)))
      (running-step flow r v all program suits closed ranked dir t i both.second here plain reads)
    where
      there : Stands program s.at i
      there = subst (λ a. Stands program a i) (sym both.at) here

      moved : Live dir (whole t.at t.offset s.loops s.groups)
      moved = subst (λ (x : ℕ × ℕ). Live dir (whole x.0 x.1 s.loops s.groups)) (ap₂ (λ (a o : ℕ). (a, o)) both.at both.offset) both.first

      fits : (f : LoopFields) → i ≡ code.enter_loop f → f.loop_id < program.loops
      fits f is = (suits.closed t.at (code.enter_loop f) (subst (λ j. Stands program t.at j) is here)).0

      shape : StandAlike (successors program (input_of v) i dir s) (successors program (input_of v) i dir t)
      shape =
          subst (λ (x : ℕ × ℕ). StandAlike (successors program (input_of v) i dir (whole x.0 x.1 s.loops s.groups)) (successors program (input_of v) i dir t))
          (ap₂ (λ (a o : ℕ). (a, o)) (sym both.at) (sym both.offset))
          (shape-on flow r last program (input_of v) closed ranked unbounded dir i t.at t.offset s.loops t.loops s.groups t.groups here plain moved both.second fits)

  -- ---- lookarounds and atomic groups

  -- what follows them, by answers that end alike: the second one leaves contents
  both-behind : (dir : Direction) (kind : Submatch) (low high continuation : ℕ) (s t : Whole) (p q : Option Whole) → EndAlike p q → s.offset ≡ t.offset
      → IfSome q (λ w. Leaves r last (submatch_direction kind dir) (suc t.at) t.offset w.offset)
      → ((o : ℕ) (gs hs : List Marks) → GoesOn r last kind dir t.at t.offset o → Both dir (whole continuation o s.loops gs) (whole continuation o t.loops hs))
      → AllBoth dir (after_submatch kind low high continuation s p) (after_submatch kind low high continuation t q)
  both-behind dir kind low high continuation s t p q alike here within on = by_answers kind p q alike within on
    where
      -- at offsets that are the same
      both : (On : ℕ → Type 0) → ((o : ℕ) (gs hs : List Marks) → On o → Both dir (whole continuation o s.loops gs) (whole continuation o t.loops hs)) → (a b : ℕ) (gs hs : List Marks) → a ≡ b → On b
          → Both dir (whole continuation a s.loops gs) (whole continuation b t.loops hs)
      both On each a b gs hs same onwards = subst (λ c. Both dir (whole continuation c s.loops gs) (whole continuation b t.loops hs)) (sym same) (each b gs hs onwards)

      by_answers : (kind : Submatch) (p q : Option Whole) → EndAlike p q → IfSome q (λ w. Leaves r last (submatch_direction kind dir) (suc t.at) t.offset w.offset)
          → ((o : ℕ) (gs hs : List Marks) → GoesOn r last kind dir t.at t.offset o → Both dir (whole continuation o s.loops gs) (whole continuation o t.loops hs))
          → AllBoth dir (after_submatch kind low high continuation s p) (after_submatch kind low high continuation t q)
      by_answers (lookaround true backward) None None same within each = (both (λ o. o ≡ t.offset) each s.offset t.offset s.groups t.groups here refl, tt)
      by_answers (lookaround true backward) (Some v) (Some w) same within each = tt
      by_answers (lookaround false backward) None None same within each = tt
      by_answers (lookaround false backward) (Some v) (Some w) same within each =
          (both (λ o. o ≡ t.offset) each s.offset t.offset (mixed 0 low high v.groups s.groups) (mixed 0 low high w.groups t.groups) here refl, tt)
      by_answers atomic None None same within each = tt
      by_answers atomic (Some v) (Some w) same within each =
          (both (Leaves r last dir (suc t.at) t.offset) each v.offset w.offset (mixed 0 low high v.groups s.groups) (mixed 0 low high w.groups t.groups) same within, tt)
      by_answers _ (Some v) None same within each = absurd same
      by_answers _ None (Some w) same within each = absurd same

  -- each state that is met reads at places
  abbrev Reads : Direction → List Whole → Type 0
  Reads dir ts = (u : Whole) (i : Instruction) → Meets program (input_of v) dir ts u → Stands program u.at i → reads_character i ≡ true → ReadsPlaces (reading_of v) i u

  -- States beside each other run alike: in as many steps, and where there is an answer to one at the same offset.
  pub beside-run : {dir : Direction} {ts : List Whole} {n : ℕ} {a : Option Whole} → Run program (input_of v) dir ts n a → Reads dir ts → (ss : List Whole) → AllBoth dir ss ts
      → (q : Option Whole) × Run program (input_of v) dir ss n q × EndAlike q a
  beside-run ends reads [] both = (None, ends, tt)
  beside-run ends reads (s ∷ ss) both = absurd both
  beside-run (finds here) reads [] both = absurd both
  beside-run (finds {s = t} here) reads (s ∷ ss) both = (Some s, finds (subst (λ a. Stands program a code.goal) (sym both.0.at) here), both.0.offset)
  beside-run (goes here plain next) reads [] both = absurd both
  beside-run (goes {dir = dir} {i = i} {s = t} {ss = ts} here plain next) reads (s ∷ ss) both =
      let (q, run, same) = beside-run next (λ u j met. reads u j (later here plain met)) (successors program (input_of v) i dir s ++ ss)
      (both-append dir (successors program (input_of v) i dir s) (successors program (input_of v) i dir t) ss ts (both-step dir i s t both.0 here plain (reads t i now here)) both.1) in
      (q, goes (subst (λ a. Stands program a i) (sym both.0.at) here) plain run, same)
  beside-run (looks here inner next) reads [] both = absurd both
  beside-run (looks {dir = dir} {kind = kind} {first = low} {last = high} {continuation = continuation} {s = t} {ss = ts} {m = m} {q = a} here inner next) reads (s ∷ ss) both =
      let i : Instruction = code.submatch kind low high continuation in
      let there : Stands program s.at i = subst (λ a. Stands program a i) (sym both.0.at) here in
      let into : Both (submatch_direction kind dir) (onward s) (onward t) = record {
        at = ap suc both.0.at;
        offset = both.0.offset;
        first = running-inside flow r v all program suits closed ranked dir kind low high continuation s both.0.first there;
        second = running-inside flow r v all program suits closed ranked dir kind low high continuation t both.0.second here;
      } in
      let (p, found, alike) = beside-run inner (λ u j met. reads u j (inside here met)) (onward s ∷ []) (into, tt) in
      let within = contents-leave flow r v all program suits closed ranked dir kind low high continuation t both.0.second here m a inner (λ u j met. reads u j (inside here met)) in
      let beside : (o : ℕ) (gs hs : List Marks) → GoesOn r last kind dir t.at t.offset o → Both dir (whole continuation o s.loops gs) (whole continuation o t.loops hs) = λ o gs hs on.
      let beyond = behind-beyond flow r v all program suits closed ranked kind dir low high continuation t both.0.second.calm here o hs on in
      let lies = behind-lies r last kind dir t.at t.offset o both.0.second.inside on in
      record {
        at = refl;
        offset = refl;
        first = running-behind flow r v all program suits closed ranked dir kind low high continuation s both.0.first there o gs lies
            (subst (λ a. IsFurther last dir s.offset o ⊎ ((o ≡ s.offset) × (r.rank continuation < r.rank a))) (sym both.0.at)
            (subst (λ e. IsFurther last dir e o ⊎ ((o ≡ e) × (r.rank continuation < r.rank t.at))) (sym both.0.offset) beyond));
        second = running-behind flow r v all program suits closed ranked dir kind low high continuation t both.0.second here o hs lies beyond;
      } in
      let (q, run, same) = beside-run next (λ u j met. reads u j (behind here (m, inner) met)) (after_submatch kind low high continuation s p ++ ss)
      (both-append dir (after_submatch kind low high continuation s p) (after_submatch kind low high continuation t a) ss ts
      (both-behind dir kind low high continuation s t p a alike both.0.offset within beside) both.1) in
      (q, looks there found run, same)

  -- What fails once where its loops are under way fails whatever they are.
  pub fails-anyhow : (dir : Direction) (at o : ℕ) (ms : List (ℕ × ℕ)) (hs : List Marks) → Live dir (whole at o ms hs) → Reads dir (whole at o ms hs ∷ [])
      → Fails program (input_of v) dir (whole at o ms hs ∷ []) → FailsAnyhow flow r program (input_of v) last dir at o
  fails-anyhow dir at o ms hs mine reads fails loops groups other =
      let both : Both dir (whole at o loops groups) (whole at o ms hs) = record { at = refl; offset = refl; first = other; second = mine } in
      let (q, run, same) = beside-run fails.1 reads (whole at o loops groups ∷ []) (both, tt) in
      (fails.0, subst (λ (x : Option Whole). Run program (input_of v) dir (whole at o loops groups ∷ []) fails.0 x) (none q same) run)
    where
      none : (q : Option Whole) → EndAlike q None → q ≡ None
      none None e = refl
      none (Some w) e = absurd e
