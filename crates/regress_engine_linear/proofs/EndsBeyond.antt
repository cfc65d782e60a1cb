-- Where contents end it goes on behind them beyond where they stand, also behind those of an atomic group.
use Rattle.std.specs.Prelude.{IfSome}
use Rattle.std.specs.List.{AllByRecursion}
use Rattle.std.proofs.Common.{◌≡◌, ℕ, suc, ◌<◌, ◌≤◌, ◌⊎◌, inl, inr, true, false, List, [], ◌∷◌, length, Option, Some, None, refl, sym, ap, ◌∙◌, subst, arith}
use Rattle.regress_meaning.specs.Meaning.{Direction}
use Rattle.regress_front_nodes.specs.Trees.{Submatch, lookaround, atomic}
use Rattle.regress_front_nodes.specs.TreeMeaning.{submatch_direction}
use Rattle.regress_engine_input.specs.Views.{View, AreOfKind, input_of, reading_of}
use Rattle.regress_engine_insn.specs.Instructions.{Instruction, Program, Stands}
use Rattle.regress_engine_insn.specs.Instructions as code
use Rattle.regress_engine_runs.specs.States.{Marks, Whole, mixed, onward}
use Rattle.regress_engine_runs.specs.UndoStack.{whole}
use Rattle.regress_engine_runs.specs.Runs.{Run, after_submatch, ends, finds, goes, looks, successors}
use Rattle.regress_engine_runs.specs.Meets.{Meets, behind, inside, later, now, reads_character, ReadsPlaces}
use Rattle.regress_engine_search.specs.Search.{Suits}
use Rattle.regress_engine_memory.specs.Flow.{Flow, IsFlow}
use Rattle.regress_engine_memory.specs.Under.{IsFurther}
use Rattle.regress_engine_memory.proofs.EachState.{each-append}
use Rattle.regress_engine_linear.specs.Ranks.{Ranking, Lowers, Inside, AreRanked, AreRunning, IsBeyond}
use Rattle.regress_engine_linear.proofs.Beyond.{leads-beyond}
use Rattle.regress_engine_linear.proofs.Running.{further-on, running-behind, running-inside, running-step}

-- Contents that begin at an address and an offset end at another offset, in the text: where it goes on outside of their atomic group that is
-- further on, or at a lower rank.
abbrev pub Leaves : Ranking → (last : ℕ) → Direction → (at o q : ℕ) → Type 0
Leaves r last dir at o q = (q ≤ last) × (r.outside at < r.count → IsFurther last dir o q ⊎ ((q ≡ o) × (r.rank (r.outside at) < r.rank at)))

-- The offset at which it goes on behind what is matched by itself at an address and an offset: the same, or where the contents of an atomic
-- group end.
abbrev pub GoesOn : Ranking → (last : ℕ) → Submatch → Direction → (at o q : ℕ) → Type 0
GoesOn r last (lookaround negated backward) dir at o q = q ≡ o
GoesOn r last atomic dir at o q = Leaves r last dir (suc at) o q

-- that offset lies in the text
pub behind-lies : (r : Ranking) (last : ℕ) (kind : Submatch) (dir : Direction) (at o q : ℕ) → o ≤ last → GoesOn r last kind dir at o q → q ≤ last
behind-lies r last (lookaround negated backward) dir at o q low same = subst (λ p. p ≤ last) (sym same) low
behind-lies r last atomic dir at o q low leaves = leaves.0

-- the contents of an atomic group are ranked lower than where it stands
pub atomic-lower : (r : Ranking) (at continuation : ℕ) → Inside r atomic at continuation → r.rank (suc at) < r.rank at
atomic-lower r at continuation contents = by_rank contents.rank
  where
    by_rank : ((r.level (suc at) ≡ r.level at) × (r.rank (suc at) < r.rank at)) ⊎ (r.level at < r.level (suc at)) → r.rank (suc at) < r.rank at
    by_rank (inl (same, less)) = less
    by_rank (inr deeper) = let same = contents.level refl in absurd (omega (arith, deeper, same))

module _ (flow : Flow) (r : Ranking) (v : View) (all : AreOfKind v.kind v.units) (program : Program) (suits : Suits program v) (closed : IsFlow flow program) (ranked : AreRanked flow r program) where
  abbrev last : ℕ
  last = length v.units

  abbrev Live : Direction → Whole → Type 0
  Live dir s = AreRunning flow r program last dir s

  abbrev Reads : Direction → List Whole → Type 0
  Reads dir ts = (u : Whole) (i : Instruction) → Meets program (input_of v) dir ts u → Stands program u.at i → reads_character i ≡ true → ReadsPlaces (reading_of v) i u

  -- no further back than an address and an offset, nor there at a higher rank
  abbrev IsFrom : Direction → (at o b q : ℕ) → Type 0
  IsFrom dir at o b q = IsFurther last dir o q ⊎ ((q ≡ o) × (r.rank b ≤ r.rank at))

  from-on : (dir : Direction) (at o b q c p : ℕ) → IsFrom dir at o b q → IsFurther last dir q p ⊎ ((p ≡ q) × (r.rank c < r.rank b)) → IsFrom dir at o c p
  from-on dir at o b q c p (inl past) (inl further) = inl (further-on last dir o q p past further)
  from-on dir at o b q c p (inl past) (inr (same, less)) = inl (subst (IsFurther last dir o) (sym same) past)
  from-on dir at o b q c p (inr (here, low)) (inl further) = inl (subst (λ e. IsFurther last dir e p) here further)
  from-on dir at o b q c p (inr (here, low)) (inr (same, less)) = inr (same ∙ here, omega (arith, low, less))

  -- such a state is under way, in the same atomic group
  record Held (dir : Direction) (at o : ℕ) (u : Whole) : Type 0 where
    live : Live dir u
    place : IsFrom dir at o u.at u.offset
    same : r.outside u.at ≡ r.outside at

  held-each : (dir : Direction) (at o : ℕ) (s : Whole) → Held dir at o s → (us : List Whole) → AllByRecursion (Live dir) us
      → AllByRecursion (λ u. IsBeyond r last dir s u × (u.at < r.count) × (r.level u.at ≡ r.level s.at) × (r.outside u.at ≡ r.outside s.at)) us → AllByRecursion (Held dir at o) us
  held-each dir at o s held [] live on = tt
  held-each dir at o s held (u ∷ us) live on = (
    record { live = live.0; place = from-on dir at o s.at s.offset u.at u.offset held.place on.0.0; same = on.0.3 ∙ held.same },
    held-each dir at o s held us live.1 on.1,
  )

  -- behind what is matched by itself it goes on beyond
  pub behind-beyond : (kind : Submatch) (dir : Direction) (low high continuation : ℕ) (s : Whole) → flow.calm s.at ≡ true → Stands program s.at (code.submatch kind low high continuation)
      → (q : ℕ) (groups : List Marks) → GoesOn r last kind dir s.at s.offset q → IsBeyond r last dir s (whole continuation q s.loops groups)
  behind-beyond (lookaround negated backward) dir low high continuation s calm here q groups same =
      inr (same, by_rank (ranked s.at (code.submatch (lookaround negated backward) low high continuation) calm here).0.rank)
    where
      by_rank : (1 ≤ 0) ⊎ (r.rank continuation < r.rank s.at) → r.rank continuation < r.rank s.at
      by_rank (inl never) = absurd (omega (arith, never))
      by_rank (inr less) = less
  behind-beyond atomic dir low high continuation s calm here q groups leaves = by_place (leaves.1 (subst (λ b. b < r.count) (sym out) both.0.within))
    where
      both : Lowers r 1 s.at continuation × Inside r atomic s.at continuation
      both = ranked s.at (code.submatch atomic low high continuation) calm here

      out : r.outside (suc s.at) ≡ continuation
      out = both.1.outside refl

      by_place : IsFurther last dir s.offset q ⊎ ((q ≡ s.offset) × (r.rank (r.outside (suc s.at)) < r.rank (suc s.at)))
          → IsFurther last dir s.offset q ⊎ ((q ≡ s.offset) × (r.rank continuation < r.rank s.at))
      by_place (inl further) = inl further
      by_place (inr (same, less)) =
          let e = ap r.rank out in
          let low' = atomic-lower r s.at continuation both.1 in
          inr (same, omega (arith, less, e, low'))

  -- what holds of each state behind it
  pub after-each : (P : Whole → Type 0) (kind : Submatch) (dir : Direction) (low high continuation : ℕ) (s : Whole) (a : Option Whole)
      → IfSome a (λ w. Leaves r last (submatch_direction kind dir) (suc s.at) s.offset w.offset)
      → ((q : ℕ) (groups : List Marks) → GoesOn r last kind dir s.at s.offset q → P (whole continuation q s.loops groups)) → AllByRecursion P (after_submatch kind low high continuation s a)
  after-each P (lookaround true backward) dir low high continuation s None leaves holds = (holds s.offset s.groups refl, tt)
  after-each P (lookaround true backward) dir low high continuation s (Some w) leaves holds = tt
  after-each P (lookaround false backward) dir low high continuation s None leaves holds = tt
  after-each P (lookaround false backward) dir low high continuation s (Some w) leaves holds = (holds s.offset (mixed 0 low high w.groups s.groups) refl, tt)
  after-each P atomic dir low high continuation s None leaves holds = tt
  after-each P atomic dir low high continuation s (Some w) leaves holds = (holds w.offset (mixed 0 low high w.groups s.groups) leaves, tt)

  -- at the begin of contents
  held-inside : (dir : Direction) (kind : Submatch) (low high continuation : ℕ) (s : Whole) → Live dir s → Stands program s.at (code.submatch kind low high continuation)
      → Held (submatch_direction kind dir) (suc s.at) s.offset (onward s)
  held-inside dir kind low high continuation s live here =
      record { live = running-inside flow r v all program suits closed ranked dir kind low high continuation s live here; place = inr (refl, omega arith); same = refl }

  -- At a goal it goes on outside beyond where the run began.
  held-leaves : (dir : Direction) (at o : ℕ) (s : Whole) → Held dir at o s → Stands program s.at code.goal → Leaves r last dir at o s.offset
  held-leaves dir at o s held here = (held.live.inside, λ within. by_place (lower within) held.place)
    where
      lower : r.outside at < r.count → r.rank (r.outside at) < r.rank s.at
      lower within =
          let less = ranked s.at code.goal held.live.calm here (subst (λ b. b < r.count) (sym held.same) within) in
          let e = ap r.rank held.same in
          omega (arith, less, e)

      by_place : r.rank (r.outside at) < r.rank s.at → IsFrom dir at o s.at s.offset → IsFurther last dir o s.offset ⊎ ((s.offset ≡ o) × (r.rank (r.outside at) < r.rank at))
      by_place less (inl further) = inl further
      by_place less (inr (same, low)) = inr (same, omega (arith, less, low))

  ends-beyond : {dir : Direction} {ss : List Whole} {n : ℕ} {a : Option Whole} → Run program (input_of v) dir ss n a → Reads dir ss → (at o : ℕ) → AllByRecursion (Held dir at o) ss
      → IfSome a (λ w. Leaves r last dir at o w.offset)
  ends-beyond ends reads at o held = tt
  ends-beyond (finds {dir = dir} {s = s} here) reads at o held = held-leaves dir at o s held.0 here
  ends-beyond (goes {dir = dir} {i = i} {s = s} {ss = ss} here plain next) reads at o held =
      let us : List Whole = successors program (input_of v) i dir s in
      ends-beyond next (λ u j met. reads u j (later here plain met)) at o
      (each-append (Held dir at o) us ss
      (held-each dir at o s held.0 us (running-step flow r v all program suits closed ranked dir s i held.0.live here plain (reads s i now here))
      (leads-beyond flow r v all program suits closed ranked dir s i held.0.live.calm here plain (reads s i now here))) held.1)
  ends-beyond (looks {dir = dir} {kind = kind} {first = low} {last = high} {continuation = continuation} {s = s} {ss = ss} {m = m} {q = a} here inner next) reads at o held =
      let within = ends-beyond inner (λ u j met. reads u j (inside here met)) (suc s.at) s.offset (held-inside dir kind low high continuation s held.0.live here, tt) in
      let lowers = (ranked s.at (code.submatch kind low high continuation) held.0.live.calm here).0 in
      ends-beyond next (λ u j met. reads u j (behind here (m, inner) met)) at o
      (each-append (Held dir at o) (after_submatch kind low high continuation s a) ss
      (after-each (Held dir at o) kind dir low high continuation s a within (λ q groups on.
      let beyond = behind-beyond kind dir low high continuation s held.0.live.calm here q groups on in
      record {
        live = running-behind flow r v all program suits closed ranked dir kind low high continuation s held.0.live here q groups
            (behind-lies r last kind dir s.at s.offset q held.0.live.inside on) beyond;
        place = from-on dir at o s.at s.offset continuation q held.0.place beyond;
        same = lowers.same ∙ held.0.same;
      })) held.1)

  -- So do the contents of what is matched by itself.
  pub contents-leave : (dir : Direction) (kind : Submatch) (low high continuation : ℕ) (s : Whole) → Live dir s → Stands program s.at (code.submatch kind low high continuation)
      → (m : ℕ) (a : Option Whole) → Run program (input_of v) (submatch_direction kind dir) (onward s ∷ []) m a → Reads (submatch_direction kind dir) (onward s ∷ [])
      → IfSome a (λ w. Leaves r last (submatch_direction kind dir) (suc s.at) s.offset w.offset)
  contents-leave dir kind low high continuation s live here m a run reads =
      ends-beyond run reads (suc s.at) s.offset (held-inside dir kind low high continuation s live here, tt)

  -- behind an atomic group it goes on beyond, and in the text
  pub atomic-beyond : (dir : Direction) (low high continuation : ℕ) (s : Whole) → Live dir s → Stands program s.at (code.submatch atomic low high continuation)
      → (m : ℕ) (a : Option Whole) → Run program (input_of v) dir (onward s ∷ []) m a → Reads dir (onward s ∷ [])
      → IfSome a (λ w. ((groups : List Marks) → IsBeyond r last dir s (whole continuation w.offset s.loops groups)) × (w.offset ≤ last))
  atomic-beyond dir low high continuation s live here m a run reads = by_answer a (contents-leave dir atomic low high continuation s live here m a run reads)
    where
      by_answer : (a : Option Whole) → IfSome a (λ w. Leaves r last dir (suc s.at) s.offset w.offset)
          → IfSome a (λ w. ((groups : List Marks) → IsBeyond r last dir s (whole continuation w.offset s.loops groups)) × (w.offset ≤ last))
      by_answer None leaves = tt
      by_answer (Some w) leaves = (λ groups. behind-beyond atomic dir low high continuation s live.calm here w.offset groups leaves, leaves.0)
