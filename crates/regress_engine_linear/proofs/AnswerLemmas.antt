-- Whether a run has an answer is told by what is told of the states that it leads to.
use Rattle.std.specs.Prelude.{is_some, not}
use Rattle.std.specs.List.{AllByRecursion}
use Rattle.std.proofs.Common.{◌≡◌, ℕ, suc, ◌+◌, ◌&&◌, ◌||◌, Bool, true, false, if◌then◌else◌, List, [], ◌∷◌, length, Option, None, Some, refl, sym, ap, ◌∙◌, subst, append-nil}
use Rattle.regress_meaning.specs.Meaning.{Direction}
use Rattle.regress_meaning.specs.Inputs.{Input}
use Rattle.regress_engine_input.specs.Views.{View, AreOfKind, input_of}
use Rattle.regress_front_nodes.specs.Trees.{lookaround}
use Rattle.regress_front_nodes.specs.TreeMeaning.{submatch_direction}
use Rattle.regress_engine_insn.specs.Instructions.{Instruction, Program, Stands}
use Rattle.regress_engine_insn.specs.Instructions as code
use Rattle.regress_engine_runs.specs.States.{Marks, Whole, mixed}
use Rattle.regress_engine_runs.specs.Runs.{Run, ends, goes, looks, after_submatch, is_plain, successors}
use Rattle.regress_engine_runs.specs.Meets.{behind, inside, later, now}
use Rattle.regress_engine_runs.specs.UndoStack.{whole}
use Rattle.regress_engine_runs.proofs.Parts.{meets-first, meets-others, none-then, run-behind, some-then}
use Rattle.regress_engine_runs.proofs.Computed.{one_run}
use Rattle.regress_engine_runs.proofs.RunViews.{run_goes}
use Rattle.regress_engine_search.specs.Search.{Suits}
use Rattle.regress_engine_memory.specs.Flow.{Flow, IsFlow}
use Rattle.regress_engine_linear.specs.Ranks.{Ranking, AreRanked, AreRunning}
use Rattle.regress_engine_linear.specs.Answered.{Ends, IsAnswered, ReadsAlong, first_told, one_answers}
use Rattle.regress_engine_linear.proofs.EndsBeyond.{behind-beyond}
use Rattle.regress_engine_linear.proofs.Running.{running-behind, running-inside, running-step}

module _ (program : Program) (input : Input) (dir : Direction) where
  abbrev EndsIn : List Whole → Bool → Type 0
  EndsIn ss b = Ends program input dir ss b

  -- a run over one state and then others, which are come to where the first has no answer
  ends-cons : (u : Whole) (us : List Whole) (b c : Bool) → EndsIn (u ∷ []) b → ((n : ℕ) → Run program input dir (u ∷ []) n None → EndsIn us c) → EndsIn (u ∷ us) (b || c)
  ends-cons u us b c (n, Some w, run, some) rest = (n, Some w, some-then program input run w refl us, ap (λ d. d || c) some)
  ends-cons u us b c (n, None, run, some) rest =
      let (m, a, next, is) = rest n run in (n + m, a, none-then program input run refl us m a next, is ∙ ap (λ d. d || c) some)

  -- a run from a state whose instruction leads to others
  ends-on : (i : Instruction) (s : Whole) (b : Bool) → Stands program s.at i → is_plain i ≡ true → EndsIn (successors program input i dir s) b → EndsIn (s ∷ []) b
  ends-on i s b here plain (n, a, run, is) =
      (suc n, a, goes here plain (subst (λ xs. Run program input dir xs n a) (sym (append-nil (successors program input i dir s))) run), is)

  -- The runs of some states one behind another: each is come to where those before it have no answer.
  abbrev pub EachEnds : (told : ℕ → ℕ → Bool) → List Whole → Type 0
  EachEnds told [] = Unit {0}
  EachEnds told (u ∷ us) = EndsIn (u ∷ []) (told u.at u.offset) × ((n : ℕ) → Run program input dir (u ∷ []) n None → EachEnds told us)

  -- a run over them
  ends-all : (told : ℕ → ℕ → Bool) (us : List Whole) → EachEnds told us → EndsIn us (one_answers told us)
  ends-all told [] each = (0, None, ends, refl)
  ends-all told (u ∷ us) each = ends-cons u us (told u.at u.offset) (one_answers told us) each.0 (λ n run. ends-all told us (each.1 n run))

  -- Where some states have an answer, the first of which it is told has it.
  pub first-has : (told : ℕ → ℕ → Bool) (us : List Whole) → EachEnds told us → (n : ℕ) (a : Option Whole) → Run program input dir us n a
      → (w : Whole) → first_told told us ≡ Some w → (m : ℕ) × Run program input dir (w ∷ []) m a
  first-has told [] each n a run w is = absurd (cc is)
  first-has told (u ∷ us) each n a run w is = by_told (told u.at u.offset) each.0 is (λ k none l rest still. first-has told us (each.1 k none) l a rest w still)
    where
      by_answer : (m : ℕ) (q : Option Whole) → Run program input dir (u ∷ []) m q → is_some q ≡ true → (k : ℕ) × Run program input dir (u ∷ []) k a
      by_answer m None first e = absurd (cc e)
      by_answer m (Some x) first e =
          let same = (one_run program input (some-then program input first x refl us) run).1 in (m, subst (Run program input dir (u ∷ []) m) same first)

      by_none : (m : ℕ) (q : Option Whole) → Run program input dir (u ∷ []) m q → is_some q ≡ false → first_told told us ≡ Some w
          → ((k : ℕ) → Run program input dir (u ∷ []) k None → (l : ℕ) → Run program input dir us l a → first_told told us ≡ Some w → (j : ℕ) × Run program input dir (w ∷ []) j a)
          → (j : ℕ) × Run program input dir (w ∷ []) j a
      by_none m (Some x) first e still go = absurd (cc e)
      by_none m None first e still go = let (k, count, rest) = run-behind program input dir (u ∷ []) us m n a first run in go m first k rest still

      by_told : (b : Bool) → EndsIn (u ∷ []) b → (if b then Some u else first_told told us) ≡ Some w
          → ((k : ℕ) → Run program input dir (u ∷ []) k None → (l : ℕ) → Run program input dir us l a → first_told told us ≡ Some w → (j : ℕ) × Run program input dir (w ∷ []) j a)
          → (m : ℕ) × Run program input dir (w ∷ []) m a
      by_told true (m, q, first, some) e go = let same : u ≡ w = cc in let (k, it) = by_answer m q first some in (k, subst (λ x. Run program input dir (x ∷ []) k a) same it)
      by_told false (m, q, first, some) e go = by_none m q first some e go

  -- what follows the first state of a run that is plain
  pub run-onward : (i : Instruction) (s : Whole) (n : ℕ) (a : Option Whole) → Stands program s.at i → is_plain i ≡ true → Run program input dir (s ∷ []) n a
      → (m : ℕ) × Run program input dir (successors program input i dir s) m a
  run-onward i s n a here plain run =
      let (m, count, rest) = run_goes program input i here plain run in (m, subst (λ xs. Run program input dir xs m a) (append-nil (successors program input i dir s)) rest)

module _ (flow : Flow) (r : Ranking) (v : View) (all : AreOfKind v.kind v.units) (program : Program) (suits : Suits program v) (closed : IsFlow flow program) (ranked : AreRanked flow r program)
    (dir : Direction) where
  abbrev last : ℕ
  last = length v.units

  abbrev Live : Whole → Type 0
  Live s = AreRunning flow r program last dir s

  -- what is told of an address and an offset is so
  abbrev Told : (ℕ → ℕ → Bool) → Whole → Type 0
  Told told u = IsAnswered flow r program v dir u.at u.offset (told u.at u.offset)

  -- so their runs end, if what they come to reads at places
  pub ends-each : (told : ℕ → ℕ → Bool) (us : List Whole) → AllByRecursion (Told told) us → AllByRecursion Live us → ReadsAlong program v dir us
      → EachEnds program (input_of v) dir told us
  ends-each told [] each running reads = tt
  ends-each told (u ∷ us) each running reads = (
    each.0 u.loops u.groups running.0 (λ x i met. reads x i (meets-first program (input_of v) met us)),
    λ n run. ends-each told us each.1 running.1 (λ x i met. reads x i (meets-others program (input_of v) run refl us x met)),
  )

  -- what a state leads to is come to from it
  pub reads-on : (i : Instruction) (s : Whole) → Stands program s.at i → is_plain i ≡ true → ReadsAlong program v dir (s ∷ []) → ReadsAlong program v dir (successors program (input_of v) i dir s)
  reads-on i s here plain reads u j met = reads u j (later here plain (meets-first program (input_of v) met []))

  -- Of an address it is told by what is told of those to which its instruction leads, from each state that is under way.
  pub answers-by : (told : ℕ → ℕ → Bool) (at o : ℕ) (i : Instruction) (b : Bool) → Stands program at i → is_plain i ≡ true
      → ((loops : List (ℕ × ℕ)) (groups : List Marks) → Live (whole at o loops groups) → AllByRecursion (Told told) (successors program (input_of v) i dir (whole at o loops groups))
      × (one_answers told (successors program (input_of v) i dir (whole at o loops groups)) ≡ b))
      → IsAnswered flow r program v dir at o b
  answers-by told at o i b here plain leads loops groups running reads =
      let s : Whole = whole at o loops groups in
      let us : List Whole = successors program (input_of v) i dir s in
      let (each, is) = leads loops groups running in
      let (n, a, run, some) = ends-all program (input_of v) dir told us
      (ends-each told us each (running-step flow r v all program suits closed ranked dir s i running here plain (reads s i now here)) (reads-on i s here plain reads)) in
      ends-on program (input_of v) dir i s b here plain (n, a, run, some ∙ is)

  -- Of a lookaround it is told by its contents and by where it goes on.
  pub look-answers : (negated backward : Bool) (low high continuation at o : ℕ) (c d : Bool) → Stands program at (code.submatch (lookaround negated backward) low high continuation)
      → IsAnswered flow r program v (submatch_direction (lookaround negated backward) dir) (suc at) o c
      → IsAnswered flow r program v dir continuation o d → IsAnswered flow r program v dir at o ((if negated then not c else c) && d)
  look-answers negated backward low high continuation at o c d here inner behind' loops groups running reads =
      let s : Whole = whole at o loops groups in
      let (m, q, run, some) =
      inner loops groups (running-inside flow r v all program suits closed ranked dir (lookaround negated backward) low high continuation s running here) (λ u j met. reads u j (inside here met)) in
      let (n, a, next, is) = by_answer negated c q here some
      (λ u j met. reads u j (behind here (m, run) (meets-first program (input_of v) met []))) in
      (suc (m + n), a, looks {m = m} {n = n} {q = q} {r = a} here run (subst (λ xs. Run program (input_of v) dir xs n a) (sym (append-nil (after_submatch (lookaround negated backward) low high continuation s q))) next), is)
    where
      s : Whole
      s = whole at o loops groups

      -- it goes on, with some groups
      on : (b : Bool) → Stands program at (code.submatch (lookaround b backward) low high continuation) → (hs : List Marks) → ReadsAlong program v dir (whole continuation o loops hs ∷ [])
          → Ends program (input_of v) dir (whole continuation o loops hs ∷ []) d
      on b there hs along = behind' loops hs (running-behind flow r v all program suits closed ranked dir (lookaround b backward) low high continuation s running there o hs running.inside
          (behind-beyond flow r v all program suits closed ranked (lookaround b backward) dir low high continuation s running.calm there o hs refl)) along

      by_answer : (b c : Bool) (q : Option Whole) → Stands program at (code.submatch (lookaround b backward) low high continuation) → is_some q ≡ c
          → ReadsAlong program v dir (after_submatch (lookaround b backward) low high continuation s q)
          → Ends program (input_of v) dir (after_submatch (lookaround b backward) low high continuation s q) ((if b then not c else c) && d)
      by_answer true true None there e along = absurd (cc e)
      by_answer true false None there e along = on true there groups along
      by_answer true true (Some w) there e along = (0, None, ends, refl)
      by_answer true false (Some w) there e along = absurd (cc e)
      by_answer false true None there e along = absurd (cc e)
      by_answer false false None there e along = (0, None, ends, refl)
      by_answer false true (Some w) there e along = on false there (mixed 0 low high w.groups groups) along
      by_answer false false (Some w) there e along = absurd (cc e)
