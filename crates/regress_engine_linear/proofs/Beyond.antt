-- What a state leads to is beyond it, so that no run comes back to where it was.
use Rattle.std.specs.Prelude.{slice_get}
use Rattle.std.specs.List.{AllByRecursion}
use Rattle.std.proofs.Common.{◌≡◌, ℕ, suc, ◌<◌, ◌⊎◌, true, List, [], ◌∷◌, length, refl, subst}
use Rattle.regress_meaning.specs.Meaning.{Direction}
use Rattle.regress_engine_input.specs.Views.{View, AreOfKind, input_of, reading_of}
use Rattle.regress_engine_insn.specs.Instructions.{LoopFields, Instruction, Program, Stands}
use Rattle.regress_engine_insn.specs.Instructions as code
use Rattle.regress_engine_runs.specs.States.{Whole}
use Rattle.regress_engine_runs.specs.Runs.{entered, fields_of, is_plain, one_more, successors}
use Rattle.regress_engine_runs.specs.Meets.{reads_character, ReadsPlaces}
use Rattle.regress_engine_search.specs.Search.{Suits}
use Rattle.regress_engine_memory.specs.Flow.{Flow, IsFlow}
use Rattle.regress_engine_memory.specs.Needs.{taken_by}
use Rattle.regress_engine_memory.specs.Under.{IsFurther}
use Rattle.regress_engine_memory.proofs.EachState.{each-choices, each-again}
use Rattle.regress_engine_memory.proofs.Onward.{Takes, takes-none, flows-unreferring}
use Rattle.regress_engine_memory.proofs.Taking.{each-moved, each-single}
use Rattle.regress_engine_linear.specs.Ranks.{Ranking, Lowers, IsCycle, Ranks, AreRanked, IsBeyond}
use Rattle.regress_engine_linear.proofs.Running.{beyond-by, fields-stand, same-loop}

-- what holds of each of some states, where more does
pub each-weaker : (P Q : Whole → Type 0) → ((u : Whole) → P u → Q u) → (us : List Whole) → AllByRecursion P us → AllByRecursion Q us
each-weaker P Q leads [] each = tt
each-weaker P Q leads (u ∷ us) each = (leads u each.0, each-weaker P Q leads us each.1)

module _ (flow : Flow) (r : Ranking) (v : View) (all : AreOfKind v.kind v.units) (program : Program) (suits : Suits program v) (closed : IsFlow flow program) (ranked : AreRanked flow r program)
    (dir : Direction) where
  abbrev last : ℕ
  last = length v.units

  -- what is led to is beyond, is there, and is of the same level, in the same atomic group
  abbrev pub On : Whole → Whole → Type 0
  On s u = IsBeyond r last dir s u × (u.at < r.count) × (r.level u.at ≡ r.level s.at) × (r.outside u.at ≡ r.outside s.at)

  -- by what is taken
  taking : (s : Whole) (taken to q : ℕ) → Lowers r taken s.at to → Takes last dir taken s.offset q
      → (IsFurther last dir s.offset q ⊎ ((q ≡ s.offset) × (r.rank to < r.rank s.at))) × (to < r.count) × (r.level to ≡ r.level s.at) × (r.outside to ≡ r.outside s.at)
  taking s taken to q lowers takes = (beyond-by r last dir taken s.at to s.offset q lowers takes, lowers.within, lowers.level, lowers.same)

  -- at the same offset
  lower : (s : Whole) (to : ℕ) → Lowers r 0 s.at to
      → (IsFurther last dir s.offset s.offset ⊎ ((s.offset ≡ s.offset) × (r.rank to < r.rank s.at))) × (to < r.count) × (r.level to ≡ r.level s.at)
      × (r.outside to ≡ r.outside s.at)
  lower s to lowers = taking s 0 to s.offset lowers (takes-none last dir s.offset s.offset refl)

  -- Each state that an instruction leads to is so.
  pub leads-beyond : (s : Whole) (i : Instruction) → flow.calm s.at ≡ true → Stands program s.at i → is_plain i ≡ true → (reads_character i ≡ true → ReadsPlaces (reading_of v) i s)
      → AllByRecursion (On s) (successors program (input_of v) i dir s)
  leads-beyond s code.goal calm here plain reads = absurd (cc plain)
  leads-beyond s code.fail calm here plain reads = tt
  leads-beyond s (code.back k icase) calm here plain reads = absurd (ranked s.at (code.back k icase) calm here)
  leads-beyond s (code.submatch kind first high continuation) calm here plain reads = absurd (cc plain)
  leads-beyond s (code.jump a) calm here plain reads = (lower s a (ranked s.at (code.jump a) calm here), tt)
  leads-beyond s (code.alt a) calm here plain reads =
      let lowers = ranked s.at (code.alt a) calm here in (lower s (suc s.at) lowers.0, (lower s a lowers.1, tt))
  leads-beyond s (code.begin_group k) calm here plain reads = (lower s (suc s.at) (ranked s.at (code.begin_group k) calm here), tt)
  leads-beyond s (code.end_group k) calm here plain reads = (lower s (suc s.at) (ranked s.at (code.end_group k) calm here), tt)
  leads-beyond s (code.reset_group k) calm here plain reads = (lower s (suc s.at) (ranked s.at (code.reset_group k) calm here), tt)
  leads-beyond s (code.enter_loop f) calm here plain reads =
      let cycle = ranked s.at (code.enter_loop f) calm here in
      each-choices (On s) f s.at (entered (input_of v) dir f s) (lower s (suc s.at) cycle.more) (lower s f.exit cycle.out)
  leads-beyond s (code.loop_again begin) calm here plain reads =
      each-again (On s) (fields_of (slice_get program.instructions begin)) begin s (λ f is. by_cycle f (fields-stand (slice_get program.instructions begin) f is) (ranked s.at (code.loop_again begin) calm here))
    where
      by_cycle : (f : LoopFields) → Stands program begin (code.enter_loop f) → Ranks flow r program s.at (code.loop_again begin) → On s (one_more f.loop_id begin s) × On s (record s { at = f.exit })
      by_cycle f there (g, stands, cycle) =
          let mine : IsCycle flow r s.at begin f = subst (IsCycle flow r s.at begin) (same-loop program begin g f stands there) cycle in
          (lower s (suc begin) mine.more, lower s f.exit mine.out)
  leads-beyond s (code.single_loop least most greedy) calm here plain reads =
      each-single v all program suits dir (On s) s least most greedy here (reads refl).0
      (λ q takes. taking s least (suc (suc s.at)) q (ranked s.at (code.single_loop least most greedy) calm here) takes)
  leads-beyond s i calm here plain reads =
      each-moved v all program suits dir (On s) s i (flows-unreferring flow program s.at i (closed s.at i calm here))
      (λ q takes. taking s (taken_by i) (suc s.at) q (ranked s.at i calm here) takes)

  -- so it is beyond
  pub goes-beyond : (s : Whole) (i : Instruction) → flow.calm s.at ≡ true → Stands program s.at i → is_plain i ≡ true → (reads_character i ≡ true → ReadsPlaces (reading_of v) i s)
      → AllByRecursion (IsBeyond r last dir s) (successors program (input_of v) i dir s)
  goes-beyond s i calm here plain reads =
      each-weaker (On s) (IsBeyond r last dir s) (λ u on. on.0) (successors program (input_of v) i dir s) (leads-beyond s i calm here plain reads)
