-- From each state of the way on it goes where a run has the same answer.
use Rattle.std.specs.Prelude.{IfSome, map, nat_lt, nat_le, not, slice_get, slice_set}
use Rattle.std.specs.List.{AllByRecursion}
use Rattle.std.proofs.Common.{◌≡◌, ◌⊎◌, inl, inr, ℕ, suc, ◌+◌, ◌-◌, ◌<◌, ◌≤◌, Bool, true, false, List, [], ◌∷◌, length, get_or, Option, None, Some, if◌then◌else◌, refl, sym, ap, ◌∙◌, subst, arith, append-nil, get_or-set_same}
use Rattle.std.proofs.lemmas.Bool.{lt-ltb}
use Rattle.std.proofs.lemmas.Bool.Decides.{nat_tests}
use Rattle.std.proofs.lemmas.Option.{slice_get_within}
use Rattle.regress_meaning.specs.Meaning.{Direction}
use Rattle.regress_meaning.specs.Inputs.{Input}
use Rattle.regress_front_nodes.specs.Trees.{Submatch, lookaround, atomic}
use Rattle.regress_front_nodes.specs.TreeMeaning.{submatch_direction}
use Rattle.regress_engine_input.specs.Views.{View, AreOfKind, direction_of, input_of, reading_of}
use Rattle.regress_engine_insn.specs.Instructions.{LoopFields, Instruction, Program, Stands, surplus}
use Rattle.regress_engine_insn.specs.Instructions as code
use Rattle.regress_engine_runs.specs.States.{Marks, Whole, mixed, onward}
use Rattle.regress_engine_runs.specs.Runs.{Run, advance, after_submatch, choices, count_of, counted, entered, fields_of, is_idle, is_plain, moved_to, one_more, ordered, room, successors}
use Rattle.regress_engine_runs.specs.Closed.{Fits, takes_character}
use Rattle.regress_engine_runs.specs.Meets.{IsAtPlace, ReadsPlaces, behind, inside, now, reads_character}
use Rattle.regress_engine_runs.specs.UndoStack.{whole, at_each}
use Rattle.regress_engine_runs.proofs.Computed.{one_run}
use Rattle.regress_engine_runs.proofs.MixedGroups.{mixed-none}
use Rattle.regress_engine_runs.proofs.Parts.{meets-first, meets-others, run-behind, some-then}
use Rattle.regress_engine_runs.proofs.RunViews.{AtLook, one_stands, run_found, run_looks, run_none}
use Rattle.regress_engine_search.specs.Ready.{IsBody, IsReady, is_simple}
use Rattle.regress_engine_search.specs.Search.{Suits}
use Rattle.regress_engine_search.proofs.InsnLemmas.{again-successors}
use Rattle.regress_engine_search.proofs.ReadyLemmas.{simple-ready}
use Rattle.regress_engine_memory.specs.Flow.{Flow, Flows}
use Rattle.regress_engine_memory.proofs.Onward.{flows-unreferring}
use Rattle.regress_engine_memory.proofs.Taking.{taking-unreferring}
use Rattle.regress_engine_memory.proofs.Unreferring.{advance-any, counted-any}
use Rattle.regress_engine_linear.specs.Ranks.{Ranking, Ranks, IsCycle, AreRunning, IsBeyond}
use Rattle.regress_engine_linear.specs.RankTables.{ArePlaced, Heights, forward_at, level_at, ranking_of}
use Rattle.regress_engine_linear.specs.Answered.{Ends, IsAnswered, ReadsAlong, exit_at, first_at}
use Rattle.regress_engine_linear.specs.Linear.{IsLinear, too_long}
use Rattle.regress_engine_ways.specs.Ways.{IsOnWay, MayPass, again_at, either_of, first_of, is_entered, led, marked, station_at, written_by}
use Rattle.regress_engine_ways.specs.declared.station.Station.{Station}
use Rattle.regress_engine_ways.proofs.ExitWays.{each-both, exit-is}
use Rattle.regress_engine_linear.proofs.Alike.{busy}
use Rattle.regress_engine_linear.proofs.AnswerLemmas.{reads-on, run-onward}
use Rattle.regress_engine_linear.proofs.Beyond.{each-weaker, leads-beyond}
use Rattle.regress_engine_linear.proofs.EndsBeyond.{atomic-beyond, behind-beyond}
use Rattle.regress_engine_linear.proofs.Running.{running-behind, running-inside, running-step, same-loop}
use Rattle.regress_engine_linear.proofs.Within.{each-lies}
use Rattle.regress_engine_linear.proofs.WorkLemmas.{reads-there}

pub single-led : (told : ℕ → ℕ → Bool) (program : Program) (input : Input) (dir : Direction) (hs : List Marks) (at o least most : ℕ) (greedy : Bool) (j : Instruction) → Stands program (at + 1) j
    → station_at (at + 2) (exit_at told program input dir hs least most greedy j (at + 2) o) ≡ led told program input dir hs (code.single_loop least most greedy) at o
single-led told program input dir hs at o least most greedy j stands =
    let one : at + 1 ≡ suc at = omega arith in
    let two : at + 2 ≡ suc (suc at) = omega arith in
    ap (λ k. station_at k (exit_at told program input dir hs least most greedy j k o)) two
    ∙ sym (ap (λ (x : Option Instruction). elim x [ None ↦ None | Some i ↦ station_at (suc (suc at)) (exit_at told program input dir hs least most greedy i (suc (suc at)) o) ])
    (subst (λ b. Stands program b j) one stands))

-- ways through a linear program may be followed
pub may-pass : (flow : Flow) (h : Heights) (program : Program) (v : View) → IsLinear flow h program → suc (length v.units) < too_long → MayPass flow h program v
may-pass flow h program v linear short = record {
  closed = linear.flows;
  ranked = linear.ranked;
  placed = subst (ArePlaced h) (sym linear.count) linear.placed;
  unbounded = λ at f here. elim (linear.unbounded at f here) [ inl most ↦ inl (omega (arith, most, short)) | inr once ↦ inr once ];
  unreferring = λ at i here. flows-unreferring flow program at i (linear.flows at i (linear.calm at (slice_get_within program.instructions at i here)) here);
  leaves = linear.leaves;
}

-- a group whose marks are written is there
pub written-fits : (program : Program) (at : ℕ) (i : Instruction) (k : ℕ) → Fits program at i → written_by i ≡ Some k → k < program.groups
written-fits program at (code.begin_group j) k fits e = let same : j ≡ k = cc in subst (λ n. n < program.groups) same fits
written-fits program at (code.end_group j) k fits e = let same : j ≡ k = cc in subst (λ n. n < program.groups) same fits
written-fits program at (code.reset_group j) k fits e = let same : j ≡ k = cc in subst (λ n. n < program.groups) same fits
written-fits program at _ k fits e = absurd (cc e)

module _ (flow : Flow) (h : Heights) (v : View) (all : AreOfKind v.kind v.units) (program : Program) (suits : Suits program v) (may : MayPass flow h program v) (dir : Direction)
    (told : ℕ → ℕ → Bool) (Past : (at o : ℕ) → Type 0)
    (right : (at o : ℕ) → at < length h.ranks → o ≤ length v.units → direction_of (forward_at h at) ≡ dir → Past at o → IsAnswered flow (ranking_of h) program v dir at o (told at o))
    (past : (s u : Whole) → Past s.at s.offset → IsBeyond (ranking_of h) (length v.units) dir s u → level_at h u.at ≡ level_at h s.at → Past u.at u.offset) where
  abbrev last : ℕ
  last = length v.units

  abbrev r : Ranking
  r = ranking_of h

  abbrev input : Input
  input = input_of v

  abbrev Live : Whole → Type 0
  Live u = AreRunning flow r program last dir u

  -- it stands at an address that is told of, and lies in the text
  abbrev Lies : Whole → Type 0
  Lies u = (u.at < length h.ranks) × (u.offset ≤ last)

  pub told-there : (u : Whole) → Live u → Lies u → Past u.at u.offset → IsAnswered flow r program v dir u.at u.offset (told u.at u.offset)
  told-there u live lies p = right u.at u.offset lies.0 lies.1 live.way p

  module _ (w s : Whole) (p : Past s.at s.offset) where
    -- a run over some states has the answer, and reads at places
    abbrev Rest : List Whole → Type 0
    Rest us = (m : ℕ) × Run program input dir us m (Some w) × ReadsAlong program v dir us

    -- what is so of each state that the instruction leads to
    abbrev Good : Whole → Type 0
    Good u = Live u × (IsBeyond r last dir s u × Lies u) × (r.outside u.at ≡ r.outside s.at) × (r.level u.at ≡ r.level s.at)

    -- a state at an address and an offset, with some groups, whose run has the answer
    abbrev Comes : (at o : ℕ) → List Marks → Type 0
    Comes at o gs = (loops : List (ℕ × ℕ)) × Rest (whole at o loops gs ∷ []) × Good (whole at o loops gs)

    abbrev pub Leads : Option Station → List Marks → Type 0
    Leads None gs = ⊥
    Leads (Some x) gs = Comes x.at x.offset gs

    none-left : Rest [] → ⊥
    none-left (m, run, reads) = let e = (run_none program input run).1 in absurd (cc e)

    -- The first of some states has the answer where it is told so, else the others have it.
    first-or-rest : (u : Whole) (us : List Whole) → Good u → Rest (u ∷ us) → ((told u.at u.offset ≡ true) × Rest (u ∷ [])) ⊎ ((told u.at u.offset ≡ false) × Rest us)
    first-or-rest u us good (m, run, reads) = by_end (told u.at u.offset) refl (told-there u good.0 good.1.1 (past s u p good.1.0 good.3) u.loops u.groups good.0 along)
      where
        along : ReadsAlong program v dir (u ∷ [])
        along x i met = reads x i (meets-first program input met us)

        by_end : (b : Bool) → told u.at u.offset ≡ b → Ends program input dir (u ∷ []) b → ((told u.at u.offset ≡ true) × Rest (u ∷ [])) ⊎ ((told u.at u.offset ≡ false) × Rest us)
        by_end true e (k, None, first, some) = absurd (cc some)
        by_end true e (k, Some y, first, some) =
            let same = (one_run program input (some-then program input first y refl us) run).1 in inl (e, (k, subst (λ z. Run program input dir (u ∷ []) k z) same first, along))
        by_end false e (k, Some y, first, some) = absurd (cc some)
        by_end false e (k, None, first, some) =
            let (n, count, rest) = run-behind program input dir (u ∷ []) us k m (Some w) first run in
            inr (e, (n, rest, λ x i met. reads x i (meets-others program input first refl us x met)))

    -- of two states
    two : (near far o : ℕ) (ls ms : List (ℕ × ℕ)) (gs : List Marks) → Good (whole near o ls gs) → Good (whole far o ms gs) → Rest (whole near o ls gs ∷ whole far o ms gs ∷ [])
        → Comes (first_of told o near far) o gs
    two near far o ls ms gs good other rest = by_told (first-or-rest (whole near o ls gs) (whole far o ms gs ∷ []) good rest)
      where
        by_told : ((told near o ≡ true) × Rest (whole near o ls gs ∷ [])) ⊎ ((told near o ≡ false) × Rest (whole far o ms gs ∷ [])) → Comes (first_of told o near far) o gs
        by_told (inl (e, first)) = subst (λ b. Comes (if b then near else far) o gs) (sym e) (ls, first, good)
        by_told (inr (e, second)) = subst (λ b. Comes (if b then near else far) o gs) (sym e) (ms, second, other)

    -- of one more iteration and the exit
    choice : (greedy out : Bool) (more exit o : ℕ) (ls ms : List (ℕ × ℕ)) (gs : List Marks)
        → AllByRecursion Good (ordered greedy true out (whole more o ls gs) (whole exit o ms gs)) → Rest (ordered greedy true out (whole more o ls gs) (whole exit o ms gs))
        → Comes (if out then either_of told greedy o more exit else more) o gs
    choice true true more exit o ls ms gs good rest = two more exit o ls ms gs good.0 good.1.0 rest
    choice true false more exit o ls ms gs good rest = (ls, rest, good.0)
    choice false true more exit o ls ms gs good rest = two exit more o ms ls gs good.0 good.1.0 rest
    choice false false more exit o ls ms gs good rest = (ls, rest, good.0)

    chosen : (f : LoopFields) (begin : ℕ) (t : Whole) (out : Bool) → nat_lt (count_of f.loop_id t) f.most ≡ true → nat_le f.least (count_of f.loop_id t) ≡ out
        → AllByRecursion Good (choices f begin t) → Rest (choices f begin t) → Comes (if out then either_of told f.greedy t.offset (suc begin) f.exit else suc begin) t.offset t.groups
    chosen f begin t out more-is out-is good rest =
        choice f.greedy out (suc begin) f.exit t.offset (slice_set t.loops f.loop_id (suc (count_of f.loop_id t), t.offset)) t.loops t.groups
        (by_tests (AllByRecursion Good) good) (by_tests Rest rest)
      where
        one : Whole
        one = one_more f.loop_id begin t

        by_tests : (P : List Whole → Type 0) → P (choices f begin t) → P (ordered f.greedy true out one (record t { at = f.exit }))
        by_tests P x =
            subst (λ (b : Bool). P (ordered f.greedy true b one (record t { at = f.exit }))) out-is
            (subst (λ (b : Bool). P (ordered f.greedy b (nat_le f.least (count_of f.loop_id t)) one (record t { at = f.exit }))) more-is x)

    -- of the exit alone
    outward : (greedy : Bool) (one exit : Whole) → AllByRecursion Good (ordered greedy false true one exit) → Rest (ordered greedy false true one exit) → Good exit × Rest (exit ∷ [])
    outward true one exit good rest = (good.0, rest)
    outward false one exit good rest = (good.0, rest)

    -- where an iteration ends
    goes-on : (f : LoopFields) (begin : ℕ) (t : Whole) (more : Bool) → nat_lt (count_of f.loop_id t) f.most ≡ more → nat_le f.least (count_of f.loop_id t) ≡ true
        → AllByRecursion Good (choices f begin t) → Rest (choices f begin t) → Comes (if more then either_of told f.greedy t.offset (suc begin) f.exit else f.exit) t.offset t.groups
    goes-on f begin t true more-is out-is good rest = chosen f begin t true more-is out-is good rest
    goes-on f begin t false more-is out-is good rest =
        let (fine, on) = outward f.greedy one (record t { at = f.exit }) (by_tests (AllByRecursion Good) good) (by_tests Rest rest) in (t.loops, on, fine)
      where
        one : Whole
        one = one_more f.loop_id begin t

        by_tests : (P : List Whole → Type 0) → P (choices f begin t) → P (ordered f.greedy false true one (record t { at = f.exit }))
        by_tests P x =
            subst (λ (b : Bool). P (ordered f.greedy false b one (record t { at = f.exit }))) out-is
            (subst (λ (b : Bool). P (ordered f.greedy b (nat_le f.least (count_of f.loop_id t)) one (record t { at = f.exit }))) more-is x)

    -- of the exits of a one-character loop
    each-goes : (to : ℕ) (ls : List (ℕ × ℕ)) (gs : List Marks) (os : List ℕ) → AllByRecursion Good (at_each program input to ls gs os) → Rest (at_each program input to ls gs os)
        → Leads (station_at to (first_at told to os)) gs
    each-goes to ls gs [] good rest = absurd (none-left rest)
    each-goes to ls gs (o ∷ os) good rest = by_told (first-or-rest (whole to o ls gs) (at_each program input to ls gs os) good.0 rest) (each-goes to ls gs os good.1)
      where
        by_told : ((told to o ≡ true) × Rest (whole to o ls gs ∷ [])) ⊎ ((told to o ≡ false) × Rest (at_each program input to ls gs os))
            → (Rest (at_each program input to ls gs os) → Leads (station_at to (first_at told to os)) gs) → Leads (station_at to (if told to o then Some o else first_at told to os)) gs
        by_told (inl (e, first)) others = subst (λ b. Leads (station_at to (if b then Some o else first_at told to os)) gs) (sym e) (ls, first, good.0)
        by_told (inr (e, rest)) others = subst (λ b. Leads (station_at to (if b then Some o else first_at told to os)) gs) (sym e) (others rest)

    -- of what takes characters
    moved-goes : (at o : ℕ) (ls : List (ℕ × ℕ)) (gs : List Marks) (x y : Option ℕ) → x ≡ y → AllByRecursion Good (moved_to (whole at o ls gs) x) → Rest (moved_to (whole at o ls gs) x)
        → Leads (station_at (suc at) y) gs
    moved-goes at o ls gs x y e good rest = subst (λ z. Leads (station_at (suc at) z) gs) e (same x good rest)
      where
        same : (x : Option ℕ) → AllByRecursion Good (moved_to (whole at o ls gs) x) → Rest (moved_to (whole at o ls gs) x) → Leads (station_at (suc at) x) gs
        same None good rest = absurd (none-left rest)
        same (Some q) good rest = (ls, rest, good.0)

  module _ (w : Whole) (at o : ℕ) (gs : List Marks) (way : IsOnWay flow h program v dir w at o gs) (p : Past at o) (hs : List Marks) where
    abbrev s : Whole
    s = whole at o way.loops gs

    abbrev GoodHere : Whole → Type 0
    GoodHere u = Good w s p u

    abbrev LeadsOn : Instruction → Type 0
    LeadsOn i = Leads w s p (led told program input dir hs i at o) (marked dir i o gs)

    pub place-here : (i : Instruction) → Stands program at i → reads_character i ≡ true → IsAtPlace (reading_of v) o
    place-here i here reads = (way.reads s i now here reads).0

    -- a repetition begins
    enters : (f : LoopFields) → Stands program at (code.enter_loop f) → AllByRecursion GoodHere (choices f at (entered input dir f s)) → Rest w s p (choices f at (entered input dir f s))
        → LeadsOn (code.enter_loop f)
    enters f here good rest =
        chosen w s p f at (entered input dir f s) (nat_le f.least 0) (ap (λ n. nat_lt n f.most) none ∙ some) (ap (nat_le f.least) none) good rest
      where
        begun : ℕ × ℕ
        begun = (surplus f.least (room (length input.units) dir o), o)

        cycle : IsCycle flow r at at f
        cycle = may.ranked at (code.enter_loop f) way.running.calm here

        some : nat_lt 0 f.most ≡ true
        some = lt-ltb 0 f.most (elim (may.unbounded at f here) [ inl most ↦ omega (arith, most) | inr once ↦ omega (arith, once) ])

        none : count_of f.loop_id (entered input dir f s) ≡ 0
        none =
            let size = way.running.size in
            let least = cycle.least in
            let within = (suits.closed at (code.enter_loop f) here).0 in
            let few : surplus f.least (room (length input.units) dir o) ≡ 0 = omega (arith, least) in
            ap (λ (x : ℕ × ℕ). x.0) (get_or-set_same way.loops f.loop_id begun (0, 0) (omega (arith, within, size))) ∙ few

    -- an iteration ends
    goes-again : (begin : ℕ) → Stands program at (code.loop_again begin) → AllByRecursion GoodHere (successors program input (code.loop_again begin) dir s)
        → Rest w s p (successors program input (code.loop_again begin) dir s) → LeadsOn (code.loop_again begin)
    goes-again begin here good rest = by_flow (may.closed at (code.loop_again begin) way.running.calm here) (may.ranked at (code.loop_again begin) way.running.calm here)
      where
        by_flow : Flows flow program at (code.loop_again begin) → Ranks flow r program at (code.loop_again begin) → LeadsOn (code.loop_again begin)
        by_flow (g, stands, told', live, writes, hands) (f, there, cycle) =
            let same : g ≡ f = same-loop program begin g f stands there in
            let live-too : flow.live at f.loop_id ≡ true = subst (λ (x : LoopFields). flow.live at x.loop_id ≡ true) same live in
            let one = busy flow r last program input may.closed may.ranked may.unbounded dir f at begin o (get_or way.loops f.loop_id (0, 0)) there cycle (way.running.loops f.loop_id live-too) in
            let are = again-successors program input dir s begin f there in
            subst (λ (x : Option Instruction). Leads w s p (again_at told o begin (fields_of x)) gs) (sym there)
            (goes-on w s p f begin s (nat_lt 1 f.most) one.1 one.2 (by_idle f (AllByRecursion GoodHere) are one.0 good) (by_idle f (Rest w s p) are one.0 rest))
          where
            by_idle : (f : LoopFields) (P : List Whole → Type 0) → successors program input (code.loop_again begin) dir s ≡ (if is_idle f s then [] else choices f begin s)
                → is_idle f s ≡ false → P (successors program input (code.loop_again begin) dir s) → P (choices f begin s)
            by_idle f P are idle x = subst (λ (b : Bool). P (if b then [] else choices f begin s)) idle (subst P are x)

    -- a one-character loop
    goes-single : (least most : ℕ) (greedy : Bool) → Stands program at (code.single_loop least most greedy)
        → AllByRecursion GoodHere (successors program input (code.single_loop least most greedy) dir s)
        → Rest w s p (successors program input (code.single_loop least most greedy) dir s) → LeadsOn (code.single_loop least most greedy)
    goes-single least most greedy here = by_body (slice_get program.instructions (suc at)) refl
      where
        by_body : (x : Option Instruction) → slice_get program.instructions (suc at) ≡ x
            → AllByRecursion GoodHere (elim x [ None ↦ [] | Some i ↦ map (λ q. record s { at = suc (suc at); offset = q }) (counted program input least most greedy i dir gs o) ])
            → Rest w s p (elim x [ None ↦ [] | Some i ↦ map (λ q. record s { at = suc (suc at); offset = q }) (counted program input least most greedy i dir gs o) ])
            → Leads w s p (elim x [ None ↦ None | Some i ↦ station_at (suc (suc at)) (exit_at told program input dir hs least most greedy i (suc (suc at)) o) ]) gs
        by_body None e good rest = absurd (none-left w s p rest)
        by_body (Some j) e good rest =
            let (i, stands, takes, order) = suits.closed at (code.single_loop least most greedy) here in
            let same : i ≡ j = one_stands program input (suc at) i j stands e in
            let takes' : takes_character j ≡ true = ap takes_character (sym same) ∙ takes in
            let before : suc at ≡ suc (suc at) - 1 = omega arith in
            let there : Stands program (suc (suc at) - 1) j = subst (λ b. Stands program b j) before e in
            let body : IsBody program v (suc (suc at)) o = (j, there, takes', place-here (code.single_loop least most greedy) here refl, omega arith) in
            subst (λ x. Leads w s p (station_at (suc (suc at)) x) gs)
            (ap (first_at told (suc (suc at))) (counted-any program input j dir gs hs (taking-unreferring j takes') least most greedy o)
            ∙ sym (exit-is v all program suits dir hs (suc (suc at)) j there takes' told (suc (suc at)) least most greedy o body))
            (each-goes w s p (suc (suc at)) way.loops gs (counted program input least most greedy j dir gs o) good rest)

    by_kind : (i : Instruction) → Stands program at i → is_plain i ≡ true → AllByRecursion GoodHere (successors program input i dir s) → Rest w s p (successors program input i dir s) → LeadsOn i
    by_kind code.goal here plain good rest = absurd (cc plain)
    by_kind code.fail here plain good rest = absurd (none-left w s p rest)
    by_kind (code.back k icase) here plain good rest = absurd (may.ranked at (code.back k icase) way.running.calm here)
    by_kind (code.submatch kind low high continuation) here plain good rest = absurd (cc plain)
    by_kind (code.jump b) here plain good rest = (way.loops, rest, good.0)
    by_kind (code.alt b) here plain good rest = two w s p (suc at) b o way.loops way.loops gs good.0 good.1.0 rest
    by_kind (code.begin_group k) here plain good rest = (way.loops, rest, good.0)
    by_kind (code.end_group k) here plain good rest = (way.loops, rest, good.0)
    by_kind (code.reset_group k) here plain good rest = (way.loops, rest, good.0)
    by_kind (code.enter_loop f) here plain good rest = enters f here good rest
    by_kind (code.loop_again begin) here plain good rest = goes-again begin here good rest
    by_kind (code.single_loop least most greedy) here plain good rest = goes-single least most greedy here good rest
    by_kind i here plain good rest =
        moved-goes w s p at o way.loops gs (advance program input i dir gs o) (advance program input i dir hs o)
        (advance-any program input i dir gs hs o (may.unreferring at i here)) good rest

    plain-on : (i : Instruction) → Stands program at i → is_plain i ≡ true → LeadsOn i
    plain-on i here plain = by_kind i here plain good rest
      where
        us : List Whole
        us = successors program input i dir s

        reads : reads_character i ≡ true → ReadsPlaces (reading_of v) i s
        reads = way.reads s i now here

        On : Whole → Type 0
        On u = IsBeyond r last dir s u × (u.at < length h.ranks) × (r.level u.at ≡ r.level at) × (r.outside u.at ≡ r.outside at)

        In : Whole → Type 0
        In u = u.offset ≤ last

        good : AllByRecursion GoodHere us
        good =
            each-weaker (λ u. Live u × (On u × In u)) GoodHere (λ u both. (both.0, (both.1.0.0, (both.1.0.1, both.1.1)), both.1.0.3, both.1.0.2)) us
            (each-both Live (λ u. On u × In u) us (running-step flow r v all program suits may.closed may.ranked dir s i way.running here plain reads)
            (each-both On In us (leads-beyond flow r v all program suits may.closed may.ranked dir s i way.running.calm here plain reads)
            (each-lies v all program suits dir i s (may.unreferring at i here) here plain way.within (place-here i here))))

        rest : Rest w s p (successors program input i dir s)
        rest =
            let (m, run) = run-onward program input dir i s way.steps (Some w) here plain way.run in
            (m, run, reads-on flow r v all program suits may.closed may.ranked dir i s here plain way.reads)

    comes-way : (b q : ℕ) (ms : List Marks) → Comes w s p b q ms → IsOnWay flow h program v dir w b q ms
    comes-way b q ms (loops, (m, run, reads), (live, (beyond, lies), same, level)) =
        record { loops = loops; steps = m; running = live; there = lies.0; within = lies.1; reads = reads; run = run }

    -- at what is matched by itself
    module _ (kind : Submatch) (low high continuation : ℕ) (here : Stands program at (code.submatch kind low high continuation)) where
      abbrev look : Instruction
      look = code.submatch kind low high continuation

      -- behind it, beyond
      good : (q : ℕ) → q ≤ last → (ms : List Marks) → IsBeyond r last dir s (whole continuation q way.loops ms) → Good w s p (whole continuation q way.loops ms)
      good q lies ms beyond =
          let lowers = (may.ranked at look way.running.calm here).0 in (
            running-behind flow r v all program suits may.closed may.ranked dir kind low high continuation s way.running here q ms lies beyond,
            (beyond, (lowers.within, lies)),
            lowers.same,
            lowers.level,
          )

      -- a run of the contents, and the rest behind it
      look-runs : (q : Option Whole) × ((m : ℕ) × Run program input (submatch_direction kind dir) (onward s ∷ []) m q) × Rest w s p (after_submatch kind low high continuation s q)
      look-runs = by_parts (run_looks program input look here refl (λ e. absurd (cc e)) way.run)
        where
          by_parts : AtLook program input dir s [] way.steps (Some w) look
              → (q : Option Whole) × ((m : ℕ) × Run program input (submatch_direction kind dir) (onward s ∷ []) m q) × Rest w s p (after_submatch kind low high continuation s q)
          by_parts (q, m, k, count, inner, next) = (
            q,
            (m, inner),
            (
              k,
              subst (λ us. Run program input dir us k (Some w)) (append-nil (after_submatch kind low high continuation s q)) next,
              λ u j met. way.reads u j (behind here (m, inner) (meets-first program input met [])),
            ),
          )

      -- the way into them
      anew : (t : Whole) (m : ℕ) → Run program input (submatch_direction kind dir) (onward s ∷ []) m (Some t) → IsOnWay flow h program v (submatch_direction kind dir) t (suc at) o gs
      anew t m run = record {
        loops = way.loops;
        steps = m;
        running = running-inside flow r v all program suits may.closed may.ranked dir kind low high continuation s way.running here;
        there = (may.ranked at look way.running.calm here).1.within;
        within = way.within;
        reads = λ u j met. way.reads u j (inside here met);
        run = run;
      }

    -- behind a lookaround, at its offset
    good-look : (negated backward : Bool) (low high continuation : ℕ) → Stands program at (code.submatch (lookaround negated backward) low high continuation) → (ms : List Marks)
        → Good w s p (whole continuation o way.loops ms)
    good-look negated backward low high continuation here ms =
        good (lookaround negated backward) low high continuation here o way.within ms
        (behind-beyond flow r v all program suits may.closed may.ranked (lookaround negated backward) dir low high continuation s way.running.calm here o ms refl)

    -- past a lookaround
    look-past : (negated backward : Bool) (low high continuation : ℕ) → Stands program at (code.submatch (lookaround negated backward) low high continuation)
        → is_entered (code.submatch (lookaround negated backward) low high continuation) ≡ false → Comes w s p continuation o gs
    look-past negated backward low high continuation here past' =
        let (q, inner, rest) = look-runs (lookaround negated backward) low high continuation here in
        by_answer negated q here past' (good-look negated backward low high continuation here) rest
      where
        by_answer : (negated : Bool) (q : Option Whole) → Stands program at (code.submatch (lookaround negated backward) low high continuation)
            → is_entered (code.submatch (lookaround negated backward) low high continuation) ≡ false → ((ms : List Marks) → Good w s p (whole continuation o way.loops ms))
            → Rest w s p (after_submatch (lookaround negated backward) low high continuation s q) → Comes w s p continuation o gs
        by_answer true None there plain fine rest = (way.loops, rest, fine gs)
        by_answer true (Some t) there plain fine rest = absurd (none-left w s p rest)
        by_answer false None there plain fine rest = absurd (none-left w s p rest)
        by_answer false (Some t) there plain fine rest =
            let none : high ≤ low = grind (arith, nat_tests, plain) in
            subst (λ (ms : List Marks). Comes w s p continuation o ms) (mixed-none 0 low high t.groups gs none) (way.loops, rest, fine (mixed 0 low high t.groups gs))

    -- into the contents of one, and behind it with the groups inside that these have written
    pub look-into : (backward : Bool) (low high continuation : ℕ) → Stands program at (code.submatch (lookaround false backward) low high continuation)
        → (t : Whole) × IsOnWay flow h program v (direction_of (not backward)) t (suc at) o gs × IsOnWay flow h program v dir w continuation o (mixed 0 low high t.groups gs)
        × IsBeyond r last dir s (whole continuation o way.loops (mixed 0 low high t.groups gs))
    look-into backward low high continuation here =
        let (q, (m, inner), rest) = look-runs (lookaround false backward) low high continuation here in by_answer q m inner rest
      where
        turned : (b : Bool) → submatch_direction (lookaround false b) dir ≡ direction_of (not b)
        turned true = refl
        turned false = refl

        by_answer : (q : Option Whole) (m : ℕ) → Run program input (submatch_direction (lookaround false backward) dir) (onward s ∷ []) m q
            → Rest w s p (after_submatch (lookaround false backward) low high continuation s q)
            → (t : Whole) × IsOnWay flow h program v (direction_of (not backward)) t (suc at) o gs × IsOnWay flow h program v dir w continuation o (mixed 0 low high t.groups gs)
            × IsBeyond r last dir s (whole continuation o way.loops (mixed 0 low high t.groups gs))
        by_answer None m inner rest = absurd (none-left w s p rest)
        by_answer (Some t) m inner rest =
            let ms : List Marks = mixed 0 low high t.groups gs in
            let fine = good-look false backward low high continuation here ms in (
              t,
              subst (λ d. IsOnWay flow h program v d t (suc at) o gs) (turned backward) (anew (lookaround false backward) low high continuation here t m inner),
              comes-way continuation o ms (way.loops, rest, fine),
              fine.1.0,
            )

    -- into the contents of one, and behind it
    pub atomic-into : (low high continuation : ℕ) → Stands program at (code.submatch atomic low high continuation)
        → (t : Whole) × IsOnWay flow h program v dir t (suc at) o gs × IsOnWay flow h program v dir w continuation t.offset (mixed 0 low high t.groups gs)
        × IsBeyond r last dir s (whole continuation t.offset way.loops (mixed 0 low high t.groups gs))
    atomic-into low high continuation here =
        let (q, (m, inner), rest) = look-runs atomic low high continuation here in
        by_answer q m inner rest
        (atomic-beyond flow r v all program suits may.closed may.ranked dir low high continuation s way.running here m q inner (λ u j met. way.reads u j (inside here met)))
      where
        by_answer : (q : Option Whole) (m : ℕ) → Run program input dir (onward s ∷ []) m q → Rest w s p (after_submatch atomic low high continuation s q)
            → IfSome q (λ t. ((ms : List Marks) → IsBeyond r last dir s (whole continuation t.offset way.loops ms)) × (t.offset ≤ last))
            → (t : Whole) × IsOnWay flow h program v dir t (suc at) o gs × IsOnWay flow h program v dir w continuation t.offset (mixed 0 low high t.groups gs)
            × IsBeyond r last dir s (whole continuation t.offset way.loops (mixed 0 low high t.groups gs))
        by_answer None m inner rest on = absurd (none-left w s p rest)
        by_answer (Some t) m inner rest (on, lies) =
            let ms : List Marks = mixed 0 low high t.groups gs in (
              t,
              anew atomic low high continuation here t m inner,
              comes-way continuation t.offset ms (way.loops, rest, good atomic low high continuation here t.offset lies ms (on ms)),
              on ms,
            )

    -- From each state but that of the goal the way leads on, but into the contents of a lookaround.
    pub leads-on : (i : Instruction) → Stands program at i → (i ≡ code.goal → ⊥) → is_entered i ≡ false → LeadsOn i
    leads-on code.goal here other out = absurd (other refl)
    leads-on (code.submatch (lookaround negated backward) low high continuation) here other out =
        look-past negated backward low high continuation here out
    leads-on (code.submatch atomic low high continuation) here other out = absurd (cc out)
    leads-on i here other out = plain-on i here refl

    -- it stays on its way, and comes nearer
    pub on-way : (i : Instruction) → Stands program at i → is_entered i ≡ false → (x : Station) → led told program input dir hs i at o ≡ Some x
        → IsOnWay flow h program v dir w x.at x.offset (marked dir i o gs) × (ls : List (ℕ × ℕ)) × IsBeyond r last dir s (whole x.at x.offset ls (marked dir i o gs))
        × (r.outside x.at ≡ r.outside at) × (r.level x.at ≡ r.level at)
    on-way i here out x e =
        let comes = subst (λ (y : Option Station). Leads w s p y (marked dir i o gs)) e (leads-on i here other out) in
        (comes-way x.at x.offset (marked dir i o gs) comes, comes.0, comes.2.1.0, comes.2.2, comes.2.3)
      where
        other : i ≡ code.goal → ⊥
        other is = let never : None ≡ Some x = sym (ap (λ j. led told program input dir hs j at o) is) ∙ e in absurd (cc never)

    -- it leads nowhere from the goal alone
    pub ends-way : (i : Instruction) → Stands program at i → led told program input dir hs i at o ≡ None → i ≡ code.goal
    ends-way code.goal here e = refl
    ends-way (code.submatch kind low high continuation) here e = absurd (cc e)
    ends-way i here e = absurd (subst (λ (y : Option Station). Leads w s p y (marked dir i o gs)) e (plain-on i here refl))

    -- there the run has come to its answer
    pub at-goal : Stands program at code.goal → w ≡ s
    at-goal here = let e = (run_found program input here way.run).1 in cc

    -- it is told that it has an answer
    pub told-here : told at o ≡ true
    told-here = by_end (told-there s way.running (way.there, way.within) p way.loops gs way.running way.reads)
      where
        by_end : Ends program input dir (s ∷ []) (told at o) → told at o ≡ true
        by_end (k, Some t, run, some) = sym some
        by_end (k, None, run, some) = let never = (one_run program input run way.run).1 in absurd (cc never)

    -- what stands there may be asked
    pub ready-here : length hs ≡ program.groups → (i : Instruction) → Stands program at i → is_simple i ≡ true → IsReady program v i hs o
    ready-here count i here simple =
        simple-ready program v suits i (whole at o [] hs) here simple count
        (λ reads. reads-there v i (whole at o [] hs) (may.unreferring at i here) (way.reads s i now here reads).0)
