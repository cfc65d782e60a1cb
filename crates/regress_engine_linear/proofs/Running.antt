-- What is under way stays so: loops that are live in a state are under way in each state that it leads to.
use Rattle.std.specs.Prelude.{slice_get, slice_set}
use Rattle.std.specs.List.{AllByRecursion}
use Rattle.std.proofs.Common.{◌≡◌, ℕ, suc, ◌+◌, ◌<◌, ◌≤◌, ◌⊎◌, inl, inr, true, List, [], ◌∷◌, length, get_or, Option, Some, refl, sym, ap, ◌∙◌, subst, arith, get_or-set_same, get_or-set_other, length-set}
use Rattle.std.proofs.lemmas.Bool.{cases_eq}
use Rattle.regress_meaning.specs.Meaning.{Direction, Forward, Backward}
use Rattle.regress_engine_input.specs.Views.{View, AreOfKind, direction_of, input_of, reading_of}
use Rattle.regress_engine_insn.specs.Instructions.{LoopFields, Instruction, Program, Stands, surplus}
use Rattle.regress_engine_insn.specs.Instructions as code
use Rattle.regress_engine_runs.specs.States.{Marks, Whole, onward}
use Rattle.regress_engine_runs.specs.UndoStack.{whole}
use Rattle.regress_front_nodes.specs.Trees.{Submatch}
use Rattle.regress_front_nodes.specs.TreeMeaning.{submatch_direction}
use Rattle.regress_engine_runs.specs.Runs.{entered, fields_of, is_plain, one_more, room, successors}
use Rattle.regress_engine_runs.specs.Meets.{reads_character, ReadsPlaces}
use Rattle.regress_engine_search.specs.Search.{Suits}
use Rattle.regress_engine_memory.specs.Flow.{Flow, Flows, Hands, Writes, IsFlow}
use Rattle.regress_engine_memory.specs.Needs.{taken_by}
use Rattle.regress_engine_memory.specs.Under.{IsFurther}
use Rattle.regress_engine_memory.proofs.EachState.{each-choices, each-again}
use Rattle.regress_engine_memory.proofs.Onward.{Takes, room-less, takes-none, flows-unreferring}
use Rattle.regress_engine_memory.proofs.Taking.{each-moved, each-single}
use Rattle.regress_engine_linear.specs.Ranks.{Ranking, Lowers, IsBeyond, IsCycle, Ranks, AreRanked, IsRunning, AreRunning, is_even}
use Rattle.regress_engine_linear.proofs.Within.{each-lies}

-- where a repetition is told of an instruction it stands
pub fields-stand : (x : Option Instruction) (f : LoopFields) → fields_of x ≡ Some f → x ≡ Some (code.enter_loop f)
fields-stand (Some (code.enter_loop g)) f e = let same : g ≡ f = cc in ap (λ h. Some (code.enter_loop h)) same
fields-stand _ f e = absurd (cc e)

-- one repetition begins at an address
pub same-loop : (program : Program) (begin : ℕ) (g f : LoopFields) → Stands program begin (code.enter_loop g) → Stands program begin (code.enter_loop f) → g ≡ f
same-loop program begin g f one other = let e : Some (code.enter_loop g) ≡ Some (code.enter_loop f) = sym one ∙ other in cc

-- further on than what is further on
pub further-on : (last : ℕ) (dir : Direction) (a b c : ℕ) → IsFurther last dir a b → IsFurther last dir b c → IsFurther last dir a c
further-on last Forward a b c (past, low) (past', low') = (omega arith, low)
further-on last Backward a b c past past' = omega arith

-- where something is taken, or the rank is lower
pub beyond-by : (r : Ranking) (last : ℕ) (dir : Direction) (taken at to o q : ℕ) → Lowers r taken at to → Takes last dir taken o q
    → IsFurther last dir o q ⊎ ((q ≡ o) × (r.rank to < r.rank at))
beyond-by r last dir taken at to o q lowers takes = by_place takes.0 lowers.rank
  where
    by_place : (q ≡ o) ⊎ IsFurther last dir o q → (1 ≤ taken) ⊎ (r.rank to < r.rank at) → IsFurther last dir o q ⊎ ((q ≡ o) × (r.rank to < r.rank at))
    by_place (inr further) lower = inl further
    by_place (inl same) (inl some) = let left = takes.1 in let e = ap (room last dir) same in absurd (omega (arith, some, left, e))
    by_place (inl same) (inr less) = inr (same, less)

-- ---- the data of a loop

module _ (r : Ranking) (last : ℕ) (dir : Direction) where
  -- it is under way where something is taken, or at a lower rank
  running-on : (at to o q id : ℕ) (x : ℕ × ℕ) → IsFurther last dir o q ⊎ ((q ≡ o) × (r.rank to < r.rank at)) → IsRunning r last dir at o id x → IsRunning r last dir to q id x
  running-on at to o q id x beyond running = record { begun = running.begun; few = running.few; place = by_place running.place beyond }
    where
      Place : ℕ → ℕ → Type 0
      Place a p = ((x.1 ≡ p) × (r.rank a ≤ r.top id)) ⊎ IsFurther last dir x.1 p

      by_place : Place at o → IsFurther last dir o q ⊎ ((q ≡ o) × (r.rank to < r.rank at)) → Place to q
      by_place (inl (here, low)) (inr (same, less)) = inl (here ∙ sym same, omega (arith, low, less))
      by_place (inl (here, low)) (inl further) = inr (subst (λ e. IsFurther last dir e q) (sym here) further)
      by_place (inr past) (inr (same, less)) = inr (subst (IsFurther last dir x.1) (sym same) past)
      by_place (inr past) (inl further) = inr (further-on last dir x.1 o q past further)

  -- where an iteration ends it has taken something
  pub running-ends : (at begin o : ℕ) (f : LoopFields) (x : ℕ × ℕ) (flow : Flow) → IsCycle flow r at begin f → IsRunning r last dir at o f.loop_id x → IsFurther last dir x.1 o
  running-ends at begin o f x flow cycle running = by_place running.place cycle.more.rank
    where
      by_place : ((x.1 ≡ o) × (r.rank at ≤ r.top f.loop_id)) ⊎ IsFurther last dir x.1 o → (1 ≤ 0) ⊎ (r.rank (suc begin) < r.rank at) → IsFurther last dir x.1 o
      by_place (inr further) less = further
      by_place (inl (here, low)) (inl never) = absurd (omega (arith, never))
      by_place (inl (here, low)) (inr less) = let top = cycle.top in absurd (omega (arith, low, less, top))

  -- one more iteration begins
  running-more : (begin o n id : ℕ) → n + room last dir o ≤ last → r.top id ≡ r.rank (suc begin) → IsRunning r last dir (suc begin) o id (suc n, o)
  running-more begin o n id few top = record { begun = omega arith; few = omega (arith, few); place = inl (refl, omega (arith, top)) }

-- ---- states

module _ (flow : Flow) (r : Ranking) (program : Program) (last : ℕ) (dir : Direction) where
  abbrev Running : Whole → Type 0
  Running s = AreRunning flow r program last dir s

  -- with the data of all loops as they are
  pub running-beyond : (s : Whole) (to q : ℕ) (groups : List Marks) → Running s → Hands flow s.at to → r.level to ≡ r.level s.at → q ≤ last
      → IsBeyond r last dir s (whole to q s.loops groups) → Running (whole to q s.loops groups)
  running-beyond s to q groups running hands level lies beyond = record {
    inside = lies;
    calm = hands.calm;
    way = ap (λ n. direction_of (is_even n)) level ∙ running.way;
    size = running.size;
    loops = λ id l. running-on r last dir s.at to s.offset q id (get_or s.loops id (0, 0)) beyond (running.loops id (hands.live id l));
  }

  pub running-handed : (s : Whole) (taken to q : ℕ) (groups : List Marks) → Running s → Hands flow s.at to → Lowers r taken s.at to → Takes last dir taken s.offset q → q ≤ last
      → Running (record { at = to; offset = q; loops = s.loops; groups = groups })
  running-handed s taken to q groups running hands lowers takes lies =
      running-beyond s to q groups running hands lowers.level lies (beyond-by r last dir taken s.at to s.offset q lowers takes)

  -- at the same offset
  running-there : (s : Whole) (to : ℕ) (groups : List Marks) → Running s → Hands flow s.at to → Lowers r 0 s.at to
      → Running (record { at = to; offset = s.offset; loops = s.loops; groups = groups })
  running-there s to groups running hands lowers =
      running-handed s 0 to s.offset groups running hands lowers (takes-none last dir s.offset s.offset refl) running.inside

  -- of states that lie in the text, where that is asked of them
  running-each : (us : List Whole) → AllByRecursion (λ u. u.offset ≤ last → Running u) us → AllByRecursion (λ u. u.offset ≤ last) us → AllByRecursion Running us
  running-each [] running lie = tt
  running-each (u ∷ us) running lie = (running.0 lie.0, running-each us running.1 lie.1)

  -- with other data of one loop, that is under way if it is live there
  running-written : (s : Whole) (id to : ℕ) (ms : List (ℕ × ℕ)) → length ms ≡ program.loops → ((k : ℕ) → (k ≡ id → ⊥) → get_or ms k (0, 0) ≡ get_or s.loops k (0, 0))
      → Running s → Writes flow id s.at to → Lowers r 0 s.at to → (flow.live to id ≡ true → IsRunning r last dir to s.offset id (get_or ms id (0, 0)))
      → Running (record s { at = to; loops = ms })
  running-written s id to ms size others running writes lowers new = record {
    inside = running.inside;
    calm = writes.calm;
    way = ap (λ n. direction_of (is_even n)) lowers.level ∙ running.way;
    size = size;
    loops = λ k l. by_loop k l (cases_eq k id);
  }
    where
      by_loop : (k : ℕ) → flow.live to k ≡ true → (k ≡ id) ⊎ (k ≡ id → ⊥) → IsRunning r last dir to s.offset k (get_or ms k (0, 0))
      by_loop k l (inl same) =
          subst (λ j. IsRunning r last dir to s.offset j (get_or ms j (0, 0))) (sym same) (new (subst (λ j. flow.live to j ≡ true) same l))
      by_loop k l (inr other) =
          subst (IsRunning r last dir to s.offset k) (sym (others k other))
          (running-on r last dir s.at to s.offset s.offset k (get_or s.loops k (0, 0)) (beyond-by r last dir 0 s.at to s.offset s.offset lowers (takes-none last dir s.offset s.offset refl))
          (running.loops k (writes.live k other l)))

-- ---- what an instruction leads to

module _ (flow : Flow) (r : Ranking) (v : View) (all : AreOfKind v.kind v.units) (program : Program) (suits : Suits program v) (closed : IsFlow flow program) (ranked : AreRanked flow r program)
    (dir : Direction) where
  abbrev last : ℕ
  last = length v.units

  abbrev Live : Whole → Type 0
  Live s = AreRunning flow r program last dir s

  -- what is written of a loop
  abbrev set : LoopFields → List (ℕ × ℕ) → ℕ × ℕ → List (ℕ × ℕ)
  set f loops x = slice_set loops f.loop_id x

  module _ (f : LoopFields) (within : f.loop_id < program.loops) (loops : List (ℕ × ℕ)) (size : length loops ≡ program.loops) (x : ℕ × ℕ) where
    it : get_or (set f loops x) f.loop_id (0, 0) ≡ x
    it = get_or-set_same loops f.loop_id x (0, 0) (omega (arith, within, size))

    others : (k : ℕ) → (k ≡ f.loop_id → ⊥) → get_or (set f loops x) k (0, 0) ≡ get_or loops k (0, 0)
    others k other = get_or-set_other loops f.loop_id k x (0, 0) other

    as-long : length (set f loops x) ≡ program.loops
    as-long = length-set loops f.loop_id x ∙ size

  -- a repetition begins
  enters : (s : Whole) (f : LoopFields) → Live s → Stands program s.at (code.enter_loop f)
      → Live (one_more f.loop_id s.at (entered (input_of v) dir f s)) × Live (record (entered (input_of v) dir f s) { at = f.exit })
  enters s f running here = (more, out)
    where
      cycle : IsCycle flow r s.at s.at f
      cycle = ranked s.at (code.enter_loop f) running.calm here

      within : f.loop_id < program.loops
      within = (suits.closed s.at (code.enter_loop f) here).0

      begun : ℕ × ℕ
      begun = (surplus f.least (room (length (input_of v).units) dir s.offset), s.offset)

      written : List (ℕ × ℕ)
      written = set f s.loops begun

      out : Live (record s { at = f.exit; loops = written })
      out = running-written flow r program last dir s f.loop_id f.exit written (as-long f within s.loops running.size begun) (others f within s.loops running.size begun) running
          (closed s.at (code.enter_loop f) running.calm here).2 cycle.out (λ l. absurd (cycle.left l))

      twice : ℕ × ℕ
      twice = (suc (get_or written f.loop_id (0, 0)).0, s.offset)

      first : twice ≡ (1, s.offset)
      first = ap (λ (x : ℕ × ℕ). (suc x.0, s.offset)) (it f within s.loops running.size begun) ∙ ap (λ (n : ℕ). (suc n, s.offset)) none
        where
          none : surplus f.least (room (length (input_of v).units) dir s.offset) ≡ 0
          none = let least = cycle.least in omega (arith, least)

      low : 0 + room last dir s.offset ≤ last
      low = by_way dir running.inside
        where
          by_way : (d : Direction) → s.offset ≤ last → 0 + room last d s.offset ≤ last
          by_way Forward lies = omega arith
          by_way Backward lies = omega (arith, lies)

      more : Live (record s { at = suc s.at; loops = set f written twice })
      more =
          running-written flow r program last dir s f.loop_id (suc s.at) (set f written twice)
          (as-long f within written (as-long f within s.loops running.size begun) twice)
          (λ k other. others f within written (as-long f within s.loops running.size begun) twice k other ∙ others f within s.loops running.size begun k other)
          running (closed s.at (code.enter_loop f) running.calm here).1 cycle.more
          (λ l. subst (IsRunning r last dir (suc s.at) s.offset f.loop_id) (sym (it f within written (as-long f within s.loops running.size begun) twice ∙ first))
          (running-more r last dir s.at s.offset 0 f.loop_id low cycle.top))

  -- one more iteration and the exit, where one ends
  goes-on : (s : Whole) (begin : ℕ) (f : LoopFields) → Live s → f.loop_id < program.loops → flow.live s.at f.loop_id ≡ true → Writes flow f.loop_id s.at (suc begin) → Hands flow s.at f.exit
      → IsCycle flow r s.at begin f → Live (one_more f.loop_id begin s) × Live (record s { at = f.exit })
  goes-on s begin f running within live writes hands cycle = (
    running-written flow r program last dir s f.loop_id (suc begin) (set f s.loops new) (as-long f within s.loops running.size new) (others f within s.loops running.size new) running writes cycle.more
        (λ l. subst (IsRunning r last dir (suc begin) s.offset f.loop_id) (sym (it f within s.loops running.size new)) (running-more r last dir begin s.offset x.0 f.loop_id room-left cycle.top)),
    running-there flow r program last dir s f.exit s.groups running hands cycle.out,
  )
    where
      x : ℕ × ℕ
      x = get_or s.loops f.loop_id (0, 0)

      new : ℕ × ℕ
      new = (suc x.0, s.offset)

      mine : IsRunning r last dir s.at s.offset f.loop_id x
      mine = running.loops f.loop_id live

      room-left : x.0 + room last dir s.offset ≤ last
      room-left =
          let less = room-less last dir x.1 s.offset (running-ends r last dir s.at begin s.offset f x flow cycle mine) in
          let few = mine.few in
          omega (arith, less, few)

  -- an iteration ends
  ends-on : (s : Whole) (begin : ℕ) (f : LoopFields) → Live s → Stands program s.at (code.loop_again begin) → Stands program begin (code.enter_loop f)
      → Live (one_more f.loop_id begin s) × Live (record s { at = f.exit })
  ends-on s begin f running here there = by_flow (closed s.at (code.loop_again begin) running.calm here) (ranked s.at (code.loop_again begin) running.calm here)
    where
      by_flow : Flows flow program s.at (code.loop_again begin) → Ranks flow r program s.at (code.loop_again begin) → Live (one_more f.loop_id begin s) × Live (record s { at = f.exit })
      by_flow (g, stands, told, live, writes, hands) (h, stands', cycle) =
          let in_flow : g ≡ f = same-loop program begin g f stands there in
          let in_ranks : h ≡ f = same-loop program begin h f stands' there in
          goes-on s begin f running (suits.closed begin (code.enter_loop f) there).0 (subst (λ (x : LoopFields). flow.live s.at x.loop_id ≡ true) in_flow live)
          (subst (λ (x : LoopFields). Writes flow x.loop_id s.at (suc begin)) in_flow writes) (subst (λ (x : LoopFields). Hands flow s.at x.exit) in_flow hands)
          (subst (IsCycle flow r s.at begin) in_ranks cycle)

  -- each state that an instruction leads to lies in the text
  all-lie : (s : Whole) (i : Instruction) → Live s → Stands program s.at i → is_plain i ≡ true → (reads_character i ≡ true → ReadsPlaces (reading_of v) i s)
      → AllByRecursion (λ u. u.offset ≤ last) (successors program (input_of v) i dir s)
  all-lie s i running here plain reads =
      each-lies v all program suits dir i s (flows-unreferring flow program s.at i (closed s.at i running.calm here)) here plain running.inside (λ is. (reads is).0)

  -- Each state that an instruction leads to is under way.
  pub running-step : (s : Whole) (i : Instruction) → Live s → Stands program s.at i → is_plain i ≡ true → (reads_character i ≡ true → ReadsPlaces (reading_of v) i s)
      → AllByRecursion Live (successors program (input_of v) i dir s)
  running-step s code.goal running here plain reads = absurd (cc plain)
  running-step s code.fail running here plain reads = tt
  running-step s (code.back k icase) running here plain reads = absurd (ranked s.at (code.back k icase) running.calm here)
  running-step s (code.submatch kind first high continuation) running here plain reads = absurd (cc plain)
  running-step s (code.jump a) running here plain reads =
      (running-there flow r program last dir s a s.groups running (closed s.at (code.jump a) running.calm here) (ranked s.at (code.jump a) running.calm here), tt)
  running-step s (code.alt a) running here plain reads =
      let hands = closed s.at (code.alt a) running.calm here in
      let lowers = ranked s.at (code.alt a) running.calm here in (
        running-there flow r program last dir s (suc s.at) s.groups running hands.0 lowers.0,
        (running-there flow r program last dir s a s.groups running hands.1 lowers.1, tt),
      )
  running-step s (code.begin_group k) running here plain reads =
      (running-there flow r program last dir s (suc s.at) _ running (closed s.at (code.begin_group k) running.calm here) (ranked s.at (code.begin_group k) running.calm here), tt)
  running-step s (code.end_group k) running here plain reads =
      (running-there flow r program last dir s (suc s.at) _ running (closed s.at (code.end_group k) running.calm here) (ranked s.at (code.end_group k) running.calm here), tt)
  running-step s (code.reset_group k) running here plain reads =
      (running-there flow r program last dir s (suc s.at) _ running (closed s.at (code.reset_group k) running.calm here) (ranked s.at (code.reset_group k) running.calm here), tt)
  running-step s (code.enter_loop f) running here plain reads =
      let both = enters s f running here in each-choices Live f s.at (entered (input_of v) dir f s) both.0 both.1
  running-step s (code.loop_again begin) running here plain reads =
      each-again Live (fields_of (slice_get program.instructions begin)) begin s (λ f is. ends-on s begin f running here (fields-stand (slice_get program.instructions begin) f is))
  running-step s (code.single_loop least most greedy) running here plain reads =
      running-each flow r program last dir (successors program (input_of v) (code.single_loop least most greedy) dir s)
      (each-single v all program suits dir (λ u. u.offset ≤ last → Live u) s least most greedy here (reads refl).0
      (λ q takes. running-handed flow r program last dir s least (suc (suc s.at)) q s.groups running (closed s.at (code.single_loop least most greedy) running.calm here).0
      (ranked s.at (code.single_loop least most greedy) running.calm here) takes))
      (all-lie s (code.single_loop least most greedy) running here plain reads)
  running-step s i running here plain reads =
      running-each flow r program last dir (successors program (input_of v) i dir s)
      (each-moved v all program suits dir (λ u. u.offset ≤ last → Live u) s i (flows-unreferring flow program s.at i (closed s.at i running.calm here))
      (λ q takes. running-handed flow r program last dir s (taken_by i) (suc s.at) q s.groups running (closed s.at i running.calm here) (ranked s.at i running.calm here) takes))
      (all-lie s i running here plain reads)

  -- ---- lookarounds and atomic groups

  module _ (kind : Submatch) (low high continuation : ℕ) (s : Whole) (running : Live s) (here : Stands program s.at (code.submatch kind low high continuation)) where
    -- inside nothing is live
    pub running-inside : AreRunning flow r program last (submatch_direction kind dir) (onward s)
    running-inside =
        let anew = (closed s.at (code.submatch kind low high continuation) running.calm here).0 in
        record {
          inside = running.inside;
          calm = anew.calm;
          way = (ranked s.at (code.submatch kind low high continuation) running.calm here).1.way ∙ ap (submatch_direction kind) running.way;
          size = running.size;
          loops = λ id l. absurd (anew.silent id l);
        }

    -- behind them the loops outside are as they were
    pub running-behind : (o : ℕ) (groups : List Marks) → o ≤ last → IsBeyond r last dir s (whole continuation o s.loops groups) → Live (whole continuation o s.loops groups)
    running-behind o groups lies beyond =
        running-beyond flow r program last dir s continuation o groups running (closed s.at (code.submatch kind low high continuation) running.calm here).1
        (ranked s.at (code.submatch kind low high continuation) running.calm here).0.level lies beyond
