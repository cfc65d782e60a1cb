-- A walk along what is told to have an answer goes on, comes nearer to its end, and has its answer there.
use Rattle.std.specs.Prelude.{nat_lt, not, slice_get}
use Rattle.std.proofs.Common.{◌≡◌, inl, inr, ℕ, suc, ◌+◌, ◌-◌, ◌*◌, ◌<◌, ◌≤◌, ◌&&◌, Bool, true, false, List, [], ◌∷◌, drop, length, Option, None, Some, if◌then◌else◌, refl, sym, ap, ◌∙◌, subst, arith}
use Rattle.std.proofs.lemmas.Bool.{and_parts, leb-true, lt-ltb, ltb-true}
use Rattle.regress_meaning.specs.Meaning.{Direction, Forward}
use Rattle.regress_front_nodes.specs.Trees.{Submatch, lookaround, atomic}
use Rattle.regress_engine_input.specs.Views.{View, AreOfKind, direction_of, input_of, reading_of}
use Rattle.regress_engine_insn.specs.Instructions.{Instruction, Program, Stands}
use Rattle.regress_engine_insn.specs.Instructions as code
use Rattle.regress_engine_runs.specs.States.{Marks, Whole, first_state, mixed}
use Rattle.regress_engine_runs.specs.Runs.{room}
use Rattle.regress_engine_runs.specs.Closed.{takes_character}
use Rattle.regress_engine_runs.specs.Items.{Answers as EndsIn}
use Rattle.regress_engine_runs.specs.Meets.{IsAtPlace, reads_character}
use Rattle.regress_engine_runs.specs.UndoStack.{whole}
use Rattle.regress_engine_runs.proofs.RunViews.{one_stands}
use Rattle.regress_engine_search.specs.Ready.{IsReady, is_simple}
use Rattle.regress_engine_search.specs.Search.{Suits}
use Rattle.regress_engine_search.specs.Answering.{IsAnswer}
use Rattle.regress_engine_search.proofs.SkipLemmas.{place-lies}
use Rattle.regress_engine_memory.specs.Flow.{Flow}
use Rattle.regress_engine_linear.specs.Ranks.{AreRunning, Inside, IsBeyond, Lowers, asked_less}
use Rattle.regress_engine_linear.specs.RankTables.{Heights, forward_at, level_at, outside_at, rank_at, ranking_of}
use Rattle.regress_engine_linear.specs.Answered.{Ends, IsAnswered, ReadsAlong, is_single}
use Rattle.regress_engine_answers.specs.AnswerTables.{told_by}
use Rattle.regress_engine_linear.specs.Linear.{AreLeaving, AreLoopFree, StayInside, is_text_start, is_visited_once, lead_back, loop_size, repeats_inside}
use Rattle.regress_engine_ways.specs.Ways.{AreKept, IsOnWay, is_entered, led, marked, station}
use Rattle.regress_engine_walks.specs.Walked.{AreAlone, AreContents, AreExitsTold, GoesOutside, IsInside, IsWithin, MayWalk, Walk, Walks, are_atomic, entered, far, far_inside, frame, goes, have_loops, inside_forward, offset_behind, returns, sizes_from}
use Rattle.regress_engine_answers.specs.declared.answers.Answers.{Answers}
use Rattle.regress_engine_walks.specs.declared.walker.Frame.{Frame}
use Rattle.regress_engine_ways.specs.declared.station.Station.{Station}
use Rattle.regress_engine_linear.proofs.EndsBeyond.{atomic-lower}
use Rattle.regress_engine_linear.proofs.PassageLemmas.{fits-inside, stays-fits, through-of}
use Rattle.regress_engine_search.proofs.MixedLemmas.{mixed-length, mixed-outside, mixed-same}
use Rattle.regress_engine_linear.proofs.FromStart.{running-first}
use Rattle.regress_engine_ways.proofs.Through.{kept-on, through}
use Rattle.regress_engine_ways.proofs.Staying.{kept-inside, staying}
use Rattle.regress_engine_ways.proofs.OnWay.{atomic-into, place-here, ready-here, at-goal, ends-way, look-into, on-way, told-there}
use Rattle.regress_engine_walks.proofs.AtStart.{begins-at-start}
use Rattle.regress_engine_walks.proofs.MayWalk.{exits-told-of}
use Rattle.regress_engine_walks.proofs.Nearer.{Holds, free-left, loops-around, loops-le, loops-left, loops-nearer, nearer-once, outside-left, outside-nearer}
use Rattle.regress_engine_walks.proofs.Sizes.{sizes-here, sizes-le, sizes-led}

station-is : (at o : ℕ) (x : Station) → Some (station at o) ≡ Some x → station at o ≡ x
station-is at o x e = cc

walk-is : (x y : Walk) → Some x ≡ Some y → x ≡ y
walk-is x y e = cc

module _ (flow : Flow) (h : Heights) (v : View) (all : AreOfKind v.kind v.units) (program : Program) (suits : Suits program v) (a : Answers) (may : MayWalk flow h program v a) where
  abbrev Goes : (start : ℕ) → List Frame → (forward : Bool) → (at o : ℕ) → List Marks → Type 0
  Goes start frames forward at o gs = Walks flow h program v start frames forward at o gs

  abbrev left : (start : ℕ) → List Frame → (at o : ℕ) → ℕ
  left start frames at o = far h program v start frames at o

  abbrev Anywhere : (at o : ℕ) → Type 0
  Anywhere at o = Unit {0}

  abbrev last : ℕ
  last = length v.units

  right : (dir : Direction) (at o : ℕ) → at < length h.ranks → o ≤ last → direction_of (forward_at h at) ≡ dir → Anywhere at o
      → IsAnswered flow (ranking_of h) program v dir at o (told_by a at o)
  right dir at o there low way anywhere = subst (λ d. IsAnswered flow (ranking_of h) program v d at o (told_by a at o)) way (may.right at o there low)

  past : (dir : Direction) (s u : Whole) → Anywhere s.at s.offset → IsBeyond (ranking_of h) last dir s u → level_at h u.at ≡ level_at h s.at → Anywhere u.at u.offset
  past dir s u anywhere beyond level = tt

  abbrev Way : (forward : Bool) → Whole → (at o : ℕ) → List Marks → Type 0
  Way forward w at o gs = IsOnWay flow h program v (direction_of forward) w at o gs

  -- it is on its way
  pub walk-way : (start : ℕ) (frames : List Frame) (forward : Bool) (at o : ℕ) (gs : List Marks) → Goes start frames forward at o gs → (w : Whole) × Way forward w at o gs
  walk-way start [] true at o gs (is, (w, way, ends)) = (w, way)
  walk-way start [] false at o gs (is, (w, way, ends)) = absurd (cc is)
  walk-way start (f ∷ fs) forward at o gs (w, before, way, inside, outside, around, alone, rest) = (w, way)

  -- outside of lookarounds it is read forward
  walk-forward : (start : ℕ) (frames : List Frame) (forward : Bool) (at o : ℕ) (gs : List Marks) → Goes start frames forward at o gs → are_atomic frames ≡ true → forward ≡ true
  walk-forward start [] forward at o gs (is, (w, way, ends)) plain = is
  walk-forward start (f ∷ fs) forward at o gs (w, before, way, inside, outside, around, alone, rest) plain =
      let (stays, others) = and_parts (not f.returns) (are_atomic fs) plain in
      (outside (not-so f.returns stays)).0 ∙ walk-forward start fs f.forward f.continuation (offset_behind f w.offset) (mixed 0 inside.first inside.last w.groups before) rest others
    where
      not-so : (b : Bool) → not b ≡ true → b ≡ false
      not-so true e = absurd (cc e)
      not-so false e = refl

  -- how it is read at an address that it comes to
  read-there : (forward : Bool) (w : Whole) (at o : ℕ) (gs : List Marks) → Way forward w at o gs → direction_of (forward_at h at) ≡ direction_of forward
  read-there forward w at o gs way = way.running.way

  -- ---- the contents around

  abbrev InAll : (start : ℕ) → List Frame → (b : ℕ) → Type 0
  InAll start frames b = Holds h program v may.pass.placed start frames b

  further-in : (fs : List Frame) (b c : ℕ) → IsWithin fs b → b < c → IsWithin fs c
  further-in [] b c within less = tt
  further-in (f ∷ fs) b c within less = omega (arith, within, less)

  -- what lies between where the innermost contents begin and where the walk is lies in all that are around
  all-around : (start : ℕ) (fs : List Frame) (forward : Bool) (at o : ℕ) (gs : List Marks) → Goes start fs forward at o gs → (b : ℕ) → IsWithin fs b → b < at → InAll start fs b
  all-around start [] forward at o gs walks b within less = tt
  all-around start (f ∷ fs) forward at o gs (w, before, way, inside, outside, around, alone, rest) b within less =
      let ahead = inside.ahead in (
        (within, omega (arith, less, ahead)),
        all-around start fs f.forward f.continuation (offset_behind f w.offset) (mixed 0 inside.first inside.last w.groups before) rest b
            (further-in fs f.opened b around within) (omega (arith, less, ahead)),
      )

  -- and so does what lies in the innermost
  all-inside : (start : ℕ) (f : Frame) (fs : List Frame) (forward : Bool) (at o : ℕ) (gs : List Marks) → Goes start (f ∷ fs) forward at o gs → (b : ℕ) → f.opened < b → b < f.continuation
      → InAll start (f ∷ fs) b
  all-inside start f fs forward at o gs (w, before, way, inside, outside, around, alone, rest) b after ahead = (
    (after, ahead),
    all-around start fs f.forward f.continuation (offset_behind f w.offset) (mixed 0 inside.first inside.last w.groups before) rest b (further-in fs f.opened b around after) ahead,
  )

  all-here : (start : ℕ) (frames : List Frame) (forward : Bool) (at o : ℕ) (gs : List Marks) → Goes start frames forward at o gs → InAll start frames at
  all-here start [] forward at o gs walks = tt
  all-here start (f ∷ fs) forward at o gs walks = let (w, before, way, inside, outside, around, alone, rest) = walks in all-inside start f fs forward at o gs walks at inside.after inside.ahead

  -- the run from the begin has an answer
  walk-answer : (start : ℕ) (frames : List Frame) (forward : Bool) (at o : ℕ) (gs : List Marks) → Goes start frames forward at o gs → (w : Whole) × EndsIn program (input_of v) start (Some w)
  walk-answer start [] forward at o gs (is, (w, way, ends)) = (w, ends)
  walk-answer start (f ∷ fs) forward at o gs (w, before, way, inside, outside, around, alone, rest) =
      walk-answer start fs f.forward f.continuation (offset_behind f w.offset) (mixed 0 inside.first inside.last w.groups before) rest

  -- inside of contents a walk comes nearer
  nearer-inside : (start : ℕ) (f : Frame) (fs : List Frame) (forward : Bool) (at o : ℕ) (gs : List Marks) → Goes start (f ∷ fs) forward at o gs → (u : Whole)
      → direction_of (forward_at h u.at) ≡ direction_of forward → IsBeyond (ranking_of h) last (direction_of forward) (whole at o [] []) u → u.at < length h.ranks
      → sizes_from program u.at ≤ sizes_from program at → (have_loops program (f ∷ fs) ≡ false → at < u.at) → f.opened < u.at → u.at < f.continuation
      → left start (f ∷ fs) u.at u.offset < left start (f ∷ fs) at o
  nearer-inside start f fs forward at o gs walks u read beyond there sizes more after less = by_kind (have_loops program (f ∷ fs)) refl
    where
      by_kind : (b : Bool) → have_loops program (f ∷ fs) ≡ b → left start (f ∷ fs) u.at u.offset < left start (f ∷ fs) at o
      by_kind true have =
          loops-nearer h program v may.pass.placed start (f ∷ fs) have (direction_of forward) at o u
          (let (w, way) = walk-way start (f ∷ fs) forward at o gs walks in read-there forward w at o gs way) read
          (λ plain. ap direction_of (walk-forward start (f ∷ fs) forward at o gs walks plain))
          (all-here start (f ∷ fs) forward at o gs walks) (all-inside start f fs forward at o gs walks u.at after less) beyond there sizes
      by_kind false none =
          let further = more none in
          let here = free-left h program v may.pass.placed start f fs at o none in
          let on = free-left h program v may.pass.placed start f fs u.at u.offset none in
          omega (arith, further, less, here, on)

  -- there are contents
  contents-some : (loops singles : Bool) (look first high continuation : ℕ) → AreContents loops singles program look first high continuation → suc look < continuation
  contents-some true singles look first high continuation free = free.some
  contents-some false singles look first high continuation free = free.some

  -- where an instruction inside leads is inside, and further where they have no loops
  stays-in : (loops singles : Bool) (look first high continuation : ℕ) → AreContents loops singles program look first high continuation → (dir : Direction) (hs : List Marks)
      (at o : ℕ) (i : Instruction) → look < at → at < continuation → Stands program at i → (x : Station) → led (told_by a) program (input_of v) dir hs i at o ≡ Some x
      → (look < x.at) × (x.at < continuation) × (loops ≡ false → at < x.at)
  stays-in true singles look first high continuation free dir hs at o i after ahead here x e =
      let (low, less) = staying program look first high continuation free (told_by a) (input_of v) dir hs at o after x i here ahead e in (low, less, λ never. absurd (cc never))
  stays-in false singles look first high continuation free dir hs at o i after ahead here x e =
      let (more, less) = through singles first high continuation (told_by a) program (input_of v) dir hs at o x i (free.leads at i after ahead here) e in
      (omega (arith, after, more), less, λ deep. more)

  -- and what it writes
  keeps-in : (loops singles : Bool) (look first high continuation : ℕ) → AreContents loops singles program look first high continuation → (dir : Direction)
      (at o : ℕ) (i : Instruction) (new old : List Marks) → look < at → at < continuation → Stands program at i → AreKept first high new old → AreKept first high (marked dir i o new) old
  keeps-in true singles look first high continuation free dir at o i new old after ahead here kept =
      kept-inside first high look continuation dir at o i new old (free.stays at i after ahead here) kept
  keeps-in false singles look first high continuation free dir at o i new old after ahead here kept =
      kept-on singles first high continuation dir at o i new old (free.leads at i after ahead here) kept

  -- what is matched by itself there ends inside, and its groups are inside
  fits-in : (loops singles : Bool) (look first high continuation : ℕ) → AreContents loops singles program look first high continuation → (at : ℕ) (kind : Submatch) (low up behind : ℕ)
      → look < at → at < continuation → Stands program at (code.submatch kind low up behind) → (behind < continuation) × (first ≤ low) × (up ≤ high)
  fits-in true singles look first high continuation free at kind low up behind after ahead here =
      let (further, inside, from, upto) = stays-fits kind at low up behind first high look continuation (free.stays at (code.submatch kind low up behind) after ahead here) in
      (inside, from, upto)
  fits-in false singles look first high continuation free at kind low up behind after ahead here =
      fits-inside singles kind at low up behind first high continuation (free.leads at (code.submatch kind low up behind) after ahead here)

  -- Where an instruction leads on the walk goes on, and comes nearer.
  walk-on : (start : ℕ) (frames : List Frame) (forward : Bool) (at o : ℕ) (gs hs : List Marks) → Goes start frames forward at o gs → (i : Instruction) → Stands program at i → is_entered i ≡ false
      → (x : Station) → led (told_by a) program (input_of v) (direction_of forward) hs i at o ≡ Some x
      → Goes start frames forward x.at x.offset (marked (direction_of forward) i o gs) × (left start frames x.at x.offset < left start frames at o)
  walk-on start [] false at o gs hs (is, (w, way, ends)) i here out x e = absurd (cc is)
  walk-on start [] true at o gs hs (is, (w, way, ends)) i here out x e =
      let (on, ls, beyond, same, level) = on-way flow h v all program suits may.pass Forward (told_by a) Anywhere (right Forward) (past Forward) w at o gs way tt hs i here out x e in (
        (refl, (w, on, ends)),
        outside-nearer h program v may.pass.placed start at o (whole x.at x.offset ls (marked Forward i o gs)) beyond on.there
            (sizes-led program flow h v may.pass (told_by a) (input_of v) Forward hs at o i here x e),
      )
  walk-on start (f ∷ fs) forward at o gs hs (w, before, way, inside, outside, around, alone, rest) i here out x e =
      let dir = direction_of forward in
      let loops = have_loops program (f ∷ fs) in
      let (low, less, more) = stays-in loops inside.singles f.opened inside.first inside.last f.continuation inside.free dir hs at o i inside.after inside.ahead here x e in
      let (on, ls, beyond, same, level) = on-way flow h v all program suits may.pass dir (told_by a) Anywhere (right dir) (past dir) w at o gs way tt hs i here out x e in
      let still : IsInside program loops f.opened f.continuation x.at (marked dir i o gs) before = record {
        first = inside.first;
        last = inside.last;
        singles = inside.singles;
        free = inside.free;
        after = low;
        ahead = less;
        kept = keeps-in loops inside.singles f.opened inside.first inside.last f.continuation inside.free dir at o i gs before inside.after inside.ahead here inside.kept;
      } in
      let outwards : GoesOutside h f forward x.at = λ away. ((outside away).0, same ∙ (outside away).1) in (
        (w, before, on, still, outwards, around, alone, rest),
        nearer-inside start f fs forward at o gs (w, before, way, inside, outside, around, alone, rest) (whole x.at x.offset ls (marked dir i o gs))
            (read-there forward w x.at x.offset (marked dir i o gs) on) beyond on.there (sizes-led program flow h v may.pass (told_by a) (input_of v) dir hs at o i here x e) more low less,
      )

  -- Into contents the walk goes on, and comes nearer.
  module _ (start : ℕ) (forward : Bool) (at o : ℕ) (gs : List Marks) (kind : Submatch) (low high continuation : ℕ) (here : Stands program at (code.submatch kind low high continuation)) where
    abbrev new : Frame
    new = frame at continuation o forward (returns kind)

    -- a way into them, and one behind them
    abbrev Into : Whole → Type 0
    Into w = (t : Whole) × Way (inside_forward kind forward) t (suc at) o gs × Way forward w continuation (offset_behind new t.offset) (mixed 0 low high t.groups gs)

    -- what they are inside of others, and that the walk comes nearer there
    pub record Enters (frames : List Frame) : Type 0 where
      pub singles : Bool
      pub free : AreContents (have_loops program (new ∷ frames)) singles program at low high continuation
      pub alone : AreAlone program new frames
      pub closer : left start (new ∷ frames) (suc at) o < left start frames at o

    walk-into : (frames : List Frame) → Goes start frames forward at o gs → Enters frames
        → outside_at h continuation ≡ outside_at h at → (kind ≡ atomic → outside_at h (suc at) ≡ continuation) → ((w : Whole) → Way forward w at o gs → Into w)
        → Goes start (new ∷ frames) (inside_forward kind forward) (suc at) o gs × (left start (new ∷ frames) (suc at) o < left start frames at o)
    walk-into frames walks enters same leads-out into = by_frames frames refl walks
      where
        alone : AreAlone program new frames
        alone = enters.alone

        closer : left start (new ∷ frames) (suc at) o < left start frames at o
        closer = enters.closer

        some : suc at < continuation
        some = contents-some (have_loops program (new ∷ frames)) enters.singles at low high continuation enters.free

        inside-now : IsInside program (have_loops program (new ∷ frames)) at continuation (suc at) gs gs
        inside-now = record { first = low; last = high; singles = enters.singles; free = enters.free; after = omega arith; ahead = some; kept = (refl, λ k out. refl) }

        outside-new : (kind : Submatch) → (kind ≡ atomic → outside_at h (suc at) ≡ continuation)
            → GoesOutside h (frame at continuation o forward (returns kind)) (inside_forward kind forward) (suc at)
        outside-new (lookaround negated backward) out away = absurd (cc away)
        outside-new atomic out away = (refl, out refl)

        within-now : (fs : List Frame) → Goes start fs forward at o gs → IsWithin fs at
        within-now [] on = tt
        within-now (f ∷ fs) (w, before, way, inside, outside, around, alone', rest) = inside.after

        around-new : IsWithin frames at
        around-new = within-now frames walks

        by_base : frames ≡ [] → forward ≡ true → (w : Whole) → Way forward w at o gs → EndsIn program (input_of v) start (Some w)
            → Goes start (new ∷ frames) (inside_forward kind forward) (suc at) o gs × (left start (new ∷ frames) (suc at) o < left start frames at o)
        by_base none is w way ends =
            let (t, inner, outer) = into w way in (
              (
                t,
                gs,
                inner,
                inside-now,
                outside-new kind leads-out,
                around-new,
                alone,
                subst (λ fs. Goes start fs forward continuation (offset_behind new t.offset) (mixed 0 low high t.groups gs)) (sym none)
                    (is, (w, subst (λ b. IsOnWay flow h program v (direction_of b) w continuation (offset_behind new t.offset) (mixed 0 low high t.groups gs)) is outer, ends)),
              ),
              closer,
            )

        by_frame : (f : Frame) (fs : List Frame) → frames ≡ f ∷ fs → Goes start (f ∷ fs) forward at o gs
            → Goes start (new ∷ frames) (inside_forward kind forward) (suc at) o gs × (left start (new ∷ frames) (suc at) o < left start frames at o)
        by_frame f fs are (w, before, way, inside, outside, around, alone-there, rest) =
            let (t, inner, outer) = into w way in
            let (less, low', high') =
            fits-in (have_loops program (f ∷ fs)) inside.singles f.opened inside.first inside.last f.continuation inside.free at kind low high continuation inside.after inside.ahead here in
            let after = inside.after in
            let still : IsInside program (have_loops program (f ∷ fs)) f.opened f.continuation continuation (mixed 0 low high t.groups gs) before = record {
              first = inside.first;
              last = inside.last;
              singles = inside.singles;
              free = inside.free;
              after = omega (arith, after, some);
              ahead = less;
              kept = (
                mixed-length low high 0 t.groups gs ∙ inside.kept.0,
                λ k out. mixed-outside low high 0 k t.groups gs (λ x y. out (omega (arith, x, low')) (omega (arith, y, high'))) ∙ inside.kept.1 k out,
              );
            } in
            let outwards : GoesOutside h f forward continuation = λ away. ((outside away).0, same ∙ (outside away).1) in (
              (
                t,
                gs,
                inner,
                inside-now,
                outside-new kind leads-out,
                around-new,
                alone,
                subst (λ fs. Goes start fs forward continuation (offset_behind new t.offset) (mixed 0 low high t.groups gs)) (sym are) (w, before, outer, still, outwards, around, alone-there, rest),
              ),
              closer,
            )

        by_frames : (fs : List Frame) → frames ≡ fs → Goes start fs forward at o gs
            → Goes start (new ∷ frames) (inside_forward kind forward) (suc at) o gs × (left start (new ∷ frames) (suc at) o < left start frames at o)
        by_frames [] none (is, (w, way, ends)) = by_base none is w (subst (λ b. IsOnWay flow h program v (direction_of b) w at o gs) (sym is) way) ends
        by_frames (f ∷ fs) are on = by_frame f fs are on

  -- Where contents end the walk goes on behind them, and comes nearer.
  walk-out : (start : ℕ) (f : Frame) (fs : List Frame) (forward : Bool) (at o : ℕ) (gs : List Marks) → Goes start (f ∷ fs) forward at o gs → Stands program at code.goal
      → Goes start fs f.forward f.continuation (offset_behind f o) gs × (left start fs f.continuation (offset_behind f o) < left start (f ∷ fs) at o)
  walk-out start f fs forward at o gs (w, before, way, inside, outside, around, alone, rest) here =
      let dir = direction_of forward in
      let same = at-goal flow h v all program suits may.pass dir (told_by a) Anywhere (right dir) (past dir) w at o gs way tt gs here in
      let groups : w.groups ≡ gs = ap (λ (u : Whole). u.groups) same in
      let offset : w.offset ≡ o = ap (λ (u : Whole). u.offset) same in
      let on : Goes start fs f.forward f.continuation (offset_behind f o) gs =
      subst (λ q. Goes start fs f.forward f.continuation (offset_behind f q) gs) offset
      (subst (Goes start fs f.forward f.continuation (offset_behind f w.offset))
      (ap (λ ms. mixed 0 inside.first inside.last ms before) groups
      ∙ mixed-same inside.first inside.last 0 gs before inside.kept.0 (λ k out. inside.kept.1 k (λ low high. out (omega (arith, low)) (omega (arith, high))))) rest) in
      (on, by_kind (have_loops program (f ∷ fs)) f.returns refl refl on)
    where
      -- where contents have no loops the offset counts for nothing
      same-left : (gs' : List Frame) → have_loops program gs' ≡ false → (b p q : ℕ) → left start gs' b p ≡ left start gs' b q
      same-left [] none b p q = absurd (cc none)
      same-left (g ∷ gs') none b p q = free-left h program v may.pass.placed start g gs' b p none ∙ sym (free-left h program v may.pass.placed start g gs' b q none)

      returned : (b : Bool) → f.returns ≡ b → offset_behind f o ≡ (if b then f.offset else o)
      returned b is = ap (λ (x : Bool). if x then f.offset else o) is

      in-left : (b : Bool) → have_loops program (f ∷ fs) ≡ true → f.returns ≡ b
          → left start (f ∷ fs) at o ≡ (if b then left start fs f.continuation f.offset + far_inside h program v f at o else left start fs at o)
      in-left b have is =
          loops-left h program v may.pass.placed start f fs at o have
          ∙ ap (λ (x : Bool). if x then left start fs f.continuation f.offset + far_inside h program v f at o else left start fs at o) is

      by_kind : (b c : Bool) → have_loops program (f ∷ fs) ≡ b → f.returns ≡ c → Goes start fs f.forward f.continuation (offset_behind f o) gs
          → left start fs f.continuation (offset_behind f o) < left start (f ∷ fs) at o
      by_kind true true have turns on =
          let e = in-left true have turns in
          let q = ap (left start fs f.continuation) (returned true turns) in
          omega (arith, e, q)
      by_kind true false have turns on =
          let e = in-left false have turns in
          let q = ap (left start fs f.continuation) (returned false turns) in
          let (w', way') = walk-way start fs f.forward f.continuation (offset_behind f o) gs on in
          let (same-way, out) = outside turns in
          let lower = may.pass.ranked at code.goal way.running.calm here (subst (λ n. n < length h.ranks) (sym out) way'.there) in
          let ranks = ap (rank_at h) out in
          let read = read-there f.forward w' f.continuation (offset_behind f o) gs way' ∙ ap direction_of (sym same-way) in
          let less = loops-nearer h program v may.pass.placed start fs (sym (loops-around h program v may.pass.placed start f fs turns) ∙ have) (direction_of forward) at o (whole f.continuation o [] [])
          (read-there forward w at o gs way) read
          (λ plain. ap direction_of (walk-forward start (f ∷ fs) forward at o gs (w, before, way, inside, outside, around, alone, rest) (ap (λ (b : Bool). not b && are_atomic fs) turns ∙ plain)))
          (all-around start fs f.forward f.continuation (offset_behind f o) gs on at (further-in fs f.opened at around inside.after) inside.ahead)
          (all-here start fs f.forward f.continuation (offset_behind f o) gs on) (inr (refl, omega (arith, lower, ranks))) way'.there
          (let ahead = inside.ahead in sizes-le program at f.continuation (omega (arith, ahead))) in
          omega (arith, e, q, less)
      by_kind false true none turns on =
          let e = free-left h program v may.pass.placed start f fs at o none in
          let q = ap (left start fs f.continuation) (returned true turns) in
          let ahead = inside.ahead in
          omega (arith, e, q, ahead)
      by_kind false false none turns on =
          let e = free-left h program v may.pass.placed start f fs at o none in
          let q = ap (left start fs f.continuation) (returned false turns) in
          let same = same-left fs (sym (loops-around h program v may.pass.placed start f fs turns) ∙ none) f.continuation o f.offset in
          let ahead = inside.ahead in
          omega (arith, e, q, same, ahead)

  -- What is matched by itself in contents without loops has none either.
  free-inside : (singles : Bool) (opened first up end : ℕ) → AreLoopFree program singles opened first up end → (at low high continuation : ℕ) → opened < at → continuation < end
      → StayInside program at low high continuation → AreLoopFree program singles at low high continuation
  free-inside singles opened first up end free at low high continuation after less closed = record {
    some = closed.some;
    leads = λ b i behind ahead there.
        through-of singles first up end low high at continuation b i
        (free.leads b i (omega (arith, after, behind)) (omega (arith, ahead, less)) there) (closed.stays b i behind ahead there);
  }

  module _ (start : ℕ) (forward : Bool) (at o : ℕ) (gs : List Marks) where
    -- into contents without loops, inside of others that have none
    closer-free : (kind : Submatch) (continuation : ℕ) (f : Frame) (fs : List Frame) → have_loops program (frame at continuation o forward (returns kind) ∷ f ∷ fs) ≡ false
        → have_loops program (f ∷ fs) ≡ false → suc at < continuation → continuation < f.continuation
        → left start (frame at continuation o forward (returns kind) ∷ f ∷ fs) (suc at) o < left start (f ∷ fs) at o
    closer-free kind continuation f fs none outer some less =
        let here = free-left h program v may.pass.placed start (frame at continuation o forward (returns kind)) (f ∷ fs) (suc at) o none in
        let on = free-left h program v may.pass.placed start f fs continuation o outer in
        let was = free-left h program v may.pass.placed start f fs at o outer in
        omega (arith, here, on, was, some, less)

    -- an atomic group
    enters-atomic : (frames : List Frame) → Goes start frames forward at o gs → (low high continuation : ℕ) (here : Stands program at (code.submatch atomic low high continuation))
        → Inside (ranking_of h) atomic at continuation → Enters start forward at o gs atomic low high continuation here frames
    enters-atomic frames walks low high continuation here inner = by_loops (have_loops program frames) refl
      where
        closed : StayInside program at low high continuation
        closed = may.pass.leaves at low high continuation atomic here

        new' : Frame
        new' = frame at continuation o forward false

        all-next : (fs : List Frame) → Goes start fs forward at o gs → InAll start fs (suc at)
        all-next [] on = tt
        all-next (f ∷ fs) on =
            let (w, before, way, inside, outside, around, alone, rest) = on in
            let after = inside.after in
            let some = closed.some in
            let less = (fits-in (have_loops program (f ∷ fs)) inside.singles f.opened inside.first inside.last f.continuation inside.free at atomic low high continuation inside.after inside.ahead here).0 in
            all-inside start f fs forward at o gs on (suc at) (omega (arith, after)) (omega (arith, some, less))

        alone-new : (fs : List Frame) → Goes start fs forward at o gs → AreAlone program new' fs
        alone-new [] on have deep b i behind ahead there = absurd (cc deep)
        alone-new (f ∷ fs) (w, before, way, inside, outside, around, alone, rest) have deep b i behind ahead there =
            let after = inside.after in
            let less = (fits-in (have_loops program (f ∷ fs)) inside.singles f.opened inside.first inside.last f.continuation inside.free at atomic low high continuation inside.after inside.ahead here).0 in
            alone have deep b i (omega (arith, after, behind)) (omega (arith, ahead, less)) there

        free-in : (fs : List Frame) → Goes start fs forward at o gs → have_loops program fs ≡ false → Enters start forward at o gs atomic low high continuation here fs
        free-in [] on none = absurd (cc none)
        free-in (f ∷ fs) (w, before, way, inside, outside, around, alone, rest) none =
            let less = (fits-in (have_loops program (f ∷ fs)) inside.singles f.opened inside.first inside.last f.continuation inside.free at atomic low high continuation inside.after inside.ahead here).0 in
            let free : AreLoopFree program inside.singles f.opened inside.first inside.last f.continuation
            = subst (λ b. AreContents b inside.singles program f.opened inside.first inside.last f.continuation) none inside.free in
            record {
              singles = inside.singles;
              free = subst (λ b. AreContents b inside.singles program at low high continuation) (sym none)
                  (free-inside inside.singles f.opened inside.first inside.last f.continuation free at low high continuation inside.after less closed);
              alone = λ have. absurd (let x = sym have ∙ none in cc x);
              closer = closer-free atomic continuation f fs none none closed.some less;
            }

        by_loops : (b : Bool) → have_loops program frames ≡ b → Enters start forward at o gs atomic low high continuation here frames
        by_loops true have =
            let (w, way) = walk-way start frames forward at o gs walks in
            let read = read-there forward w at o gs way in
            let same = loops-left h program v may.pass.placed start new' frames (suc at) o have in
            let less = loops-nearer h program v may.pass.placed start frames have (direction_of forward) at o (whole (suc at) o [] []) read (inner.way ∙ read)
            (λ plain. ap direction_of (walk-forward start frames forward at o gs walks plain)) (all-here start frames forward at o gs walks) (all-next frames walks)
            (inr (refl, atomic-lower (ranking_of h) at continuation inner)) inner.within (sizes-le program at (suc at) (omega arith)) in
            record {
              singles = false;
              free = subst (λ b. AreContents b false program at low high continuation) (sym have) closed;
              alone = alone-new frames walks;
              closer = omega (arith, same, less);
            }
        by_loops false none = free-in frames walks none

    -- a lookaround that leaves groups
    enters-look : IsAtPlace (reading_of v) start → (frames : List Frame) → Goes start frames forward at o gs → (backward : Bool) (low high continuation : ℕ)
        (here : Stands program at (code.submatch (lookaround false backward) low high continuation)) → low < high → rank_at h continuation < rank_at h at
        → Enters start forward at o gs (lookaround false backward) low high continuation here frames
    enters-look place frames walks backward low high continuation here some lower = by_kind (are_atomic frames) (repeats_inside program at continuation) refl refl
      where
        new' : Frame
        new' = frame at continuation o forward true

        leaving : AreLeaving (repeats_inside program at continuation) h program at low high continuation
        leaving = may.pass.leaves at low high continuation (lookaround false backward) here some

        leaves-as : (c : Bool) → repeats_inside program at continuation ≡ c → AreLeaving c h program at low high continuation
        leaves-as c has = subst (λ b. AreLeaving b h program at low high continuation) has leaving

        unlike : (b : Bool) → b ≡ true → b ≡ false → ⊥
        unlike b is is' = let x = sym is ∙ is' in cc x

        -- outside of lookarounds, with loops
        once : are_atomic frames ≡ true → repeats_inside program at continuation ≡ true → Enters start forward at o gs (lookaround false backward) low high continuation here frames
        once plain has =
            let m = leaves-as true has in
            let have : have_loops program (new' ∷ frames) ≡ true = ap (λ (x : Bool). x && repeats_inside program at continuation) plain ∙ has in
            let (w, way) = walk-way start frames forward at o gs walks in
            let (answer, ends) = walk-answer start frames forward at o gs walks in
            let starts = (and_parts (is_text_start (slice_get program.instructions 0)) (nat_lt at (lead_back (suc at) (drop (suc at) program.instructions))) m.once).0 in
            let begins = begins-at-start v all program starts start place answer ends in
            let size : loop_size program at (code.submatch (lookaround false backward) low high continuation) ≡ continuation - at
            = ap (λ (x : Bool). if x && repeats_inside program at continuation then continuation - at else 0) (lt-ltb low high some) ∙ ap (λ (x : Bool). if x then continuation - at else 0) has in
            let one = sizes-here program at (code.submatch (lookaround false backward) low high continuation) here in
            let inner-some = m.stay.some in
            let fewer = sizes-le program (suc at) continuation (omega (arith, inner-some)) in
            let same = loops-left h program v may.pass.placed start new' frames (suc at) o have in
            let was = outside-left h program v may.pass.placed start frames plain at o in
            let on = outside-left h program v may.pass.placed start frames plain continuation o in
            let less = nearer-once h program v may.pass.placed start at o continuation new' begins refl refl m.stay.some way.within lower (omega (arith, size, one, fewer)) in
            record {
              singles = false;
              free = subst (λ b. AreContents b false program at low high continuation) (sym have) m.stay;
              alone = λ have' deep b i after ahead there. m.alone b i after ahead there;
              closer = omega (arith, same, was, on, less);
            }

        -- and without
        often : are_atomic frames ≡ true → repeats_inside program at continuation ≡ false → Enters start forward at o gs (lookaround false backward) low high continuation here frames
        often plain has =
            let (free, ranks) = leaves-as false has in
            let none : have_loops program (new' ∷ frames) ≡ false = ap (λ (x : Bool). x && repeats_inside program at continuation) plain ∙ has in
            let same = free-left h program v may.pass.placed start new' frames (suc at) o none in
            let was = outside-left h program v may.pass.placed start frames plain at o in
            let on = outside-left h program v may.pass.placed start frames plain continuation o in
            let inner-some = free.some in
            let few = loops-le h program v may.pass.placed start at continuation (sizes-le program at continuation (omega (arith, inner-some))) in
            record {
              singles = is_visited_once program at;
              free = subst (λ b. AreContents b (is_visited_once program at) program at low high continuation) (sym none) free;
              alone = λ have. absurd (unlike (have_loops program (new' ∷ frames)) have none);
              closer = omega (arith, same, was, on, ranks, inner-some, few);
            }

        -- inside of a lookaround
        deep-in : (fs : List Frame) → Goes start fs forward at o gs → are_atomic fs ≡ false → Enters start forward at o gs (lookaround false backward) low high continuation here fs
        deep-in [] on deep = absurd (cc deep)
        deep-in (f ∷ fs) (w, before, way, inside, outside, around, alone, rest) deep = by_loops (have_loops program (f ∷ fs)) refl
          where
            none-new : have_loops program (new' ∷ f ∷ fs) ≡ false
            none-new = ap (λ (x : Bool). x && repeats_inside program at continuation) deep

            less : continuation < f.continuation
            less = (fits-in (have_loops program (f ∷ fs)) inside.singles f.opened inside.first inside.last f.continuation inside.free at (lookaround false backward) low high continuation inside.after inside.ahead here).0

            enters : (singles : Bool) → AreLoopFree program singles at low high continuation → have_loops program (f ∷ fs) ≡ false
                → Enters start forward at o gs (lookaround false backward) low high continuation here (f ∷ fs)
            enters singles free none = record {
              singles = singles;
              free = subst (λ b. AreContents b singles program at low high continuation) (sym none-new) free;
              alone = λ have. absurd (unlike (have_loops program (new' ∷ f ∷ fs)) have none-new);
              closer = closer-free (lookaround false backward) continuation f fs none-new none free.some less;
            }

            by_inner : (c : Bool) → repeats_inside program at continuation ≡ c → have_loops program (f ∷ fs) ≡ false
                → Enters start forward at o gs (lookaround false backward) low high continuation here (f ∷ fs)
            by_inner true has none =
                let free : AreLoopFree program inside.singles f.opened inside.first inside.last f.continuation
                = subst (λ b. AreContents b inside.singles program f.opened inside.first inside.last f.continuation) none inside.free in
                enters inside.singles (free-inside inside.singles f.opened inside.first inside.last f.continuation free at low high continuation inside.after less (leaves-as true has).stay) none
            by_inner false has none = enters (is_visited_once program at) (leaves-as false has).0 none

            by_loops : (b : Bool) → have_loops program (f ∷ fs) ≡ b → Enters start forward at o gs (lookaround false backward) low high continuation here (f ∷ fs)
            by_loops true have =
                let never = leb-true high low (alone have deep at (code.submatch (lookaround false backward) low high continuation) inside.after inside.ahead here) in
                absurd (omega (arith, never, some))
            by_loops false none = by_inner (repeats_inside program at continuation) refl none

        by_kind : (b c : Bool) → are_atomic frames ≡ b → repeats_inside program at continuation ≡ c → Enters start forward at o gs (lookaround false backward) low high continuation here frames
        by_kind true true plain has = once plain has
        by_kind true false plain has = often plain has
        by_kind false c deep has = deep-in frames walks deep

  -- So it goes on until it has come to its end.
  pub walk-goes : (start : ℕ) → IsAtPlace (reading_of v) start → (frames : List Frame) (forward : Bool) (at o : ℕ) (gs hs : List Marks) → Goes start frames forward at o gs → (i : Instruction) → Stands program at i → (y : Walk)
      → goes i (led (told_by a) program (input_of v) (direction_of forward) hs i at o) (record { at = at; offset = o; forward = forward; frames = frames }) ≡ Some y
      → Goes start y.frames y.forward y.at y.offset (marked (direction_of forward) i o gs) × (left start y.frames y.at y.offset < left start frames at o)
  walk-goes start place frames forward at o gs hs walks i here y e = by_led (led (told_by a) program (input_of v) (direction_of forward) hs i at o) refl e
    where
      now : Walk
      now = record { at = at; offset = o; forward = forward; frames = frames }

      Further : Walk → Type 0
      Further z = Goes start z.frames z.forward z.at z.offset (marked (direction_of forward) i o gs) × (left start z.frames z.at z.offset < left start frames at o)

      dir : Direction
      dir = direction_of forward

      ranked-there : (kind : Submatch) (low high continuation : ℕ) → Stands program at (code.submatch kind low high continuation)
          → Lowers (ranking_of h) (asked_less kind) at continuation × Inside (ranking_of h) kind at continuation
      ranked-there kind low high continuation there =
          may.pass.ranked at (code.submatch kind low high continuation) (walk-way start frames forward at o gs walks).1.running.calm there

      into : (i : Instruction) → Stands program at i → is_entered i ≡ true → Goes start (entered i now).frames (entered i now).forward (entered i now).at (entered i now).offset (marked dir i o gs)
          × (left start (entered i now).frames (entered i now).at (entered i now).offset < left start frames at o)
      into (code.submatch (lookaround false backward) low high continuation) there is =
          let lower = (ranked-there (lookaround false backward) low high continuation there).0 in
          let rank : rank_at h continuation < rank_at h at = elim lower.rank [ inl some ↦ absurd (omega (arith, some)) | inr less ↦ less ] in
          walk-into start forward at o gs (lookaround false backward) low high continuation there frames walks
          (enters-look start forward at o gs place frames walks backward low high continuation there (ltb-true low high is) rank) lower.same (λ e. absurd (cc e)) (λ w way.
          let (t, inner, outer, anywhere) = look-into flow h v all program suits may.pass dir (told_by a) Anywhere (right dir) (past dir) w at o gs way tt gs backward low high continuation there in
          (t, inner, outer))
      into (code.submatch (lookaround true backward) low high continuation) there is = absurd (cc is)
      into (code.submatch atomic low high continuation) there is =
          let (lower, inner) = ranked-there atomic low high continuation there in
          walk-into start forward at o gs atomic low high continuation there frames walks (enters-atomic start forward at o gs frames walks low high continuation there inner)
          lower.same inner.outside (λ w way.
          let (t, inner, outer, anywhere) = atomic-into flow h v all program suits may.pass dir (told_by a) Anywhere (right dir) (past dir) w at o gs way tt gs low high continuation there in
          (t, inner, outer))
      into j there is = absurd (cc is)

      on : (x : Station) → led (told_by a) program (input_of v) (direction_of forward) hs i at o ≡ Some x → (b : Bool) → is_entered i ≡ b
          → Further (if b then entered i now else record now { at = x.at; offset = x.offset })
      on x is true some = into i here some
      on x is false none = walk-on start frames forward at o gs hs walks i here none x is

      out : (frames : List Frame) → Goes start frames forward at o gs → i ≡ code.goal → elim frames [
        | [] ↦ None
        | f ∷ fs ↦ Some (record { at = f.continuation; offset = offset_behind f o; forward = f.forward; frames = fs })
      ] ≡ Some y → Goes start y.frames y.forward y.at y.offset (marked (direction_of forward) i o gs) × (left start y.frames y.at y.offset < left start frames at o)
      out [] walks' is none = absurd (cc none)
      out (f ∷ fs) walks' is some =
          let behind : Walk = record { at = f.continuation; offset = offset_behind f o; forward = f.forward; frames = fs } in
          let same : behind ≡ y = walk-is behind y some in
          subst (λ (z : Walk). Goes start z.frames z.forward z.at z.offset (marked (direction_of forward) i o gs) × (left start z.frames z.at z.offset < left start (f ∷ fs) at o)) same
          (subst (λ j. Goes start fs f.forward f.continuation (offset_behind f o) (marked (direction_of forward) j o gs) × (left start fs f.continuation (offset_behind f o) < left start (f ∷ fs) at o)) (sym is)
          (walk-out start f fs forward at o gs walks' (subst (Stands program at) is here)))

      by_led : (l : Option Station) → led (told_by a) program (input_of v) (direction_of forward) hs i at o ≡ l → goes i l now ≡ Some y → Further y
      by_led (Some x) is some =
          let next : Walk = if is_entered i then entered i now else record now { at = x.at; offset = x.offset } in
          subst (λ (z : Walk). Further z) (walk-is next y some)
          (on x is (is_entered i) refl)
      by_led None is none =
          let (w, way) = walk-way start frames forward at o gs walks in
          out frames walks (ends-way flow h v all program suits may.pass (direction_of forward) (told_by a) Anywhere (right (direction_of forward)) (past (direction_of forward)) w at o gs way tt hs i here is) none

  -- There the run has its answer.
  pub walk-ends : (start : ℕ) (frames : List Frame) (forward : Bool) (at o : ℕ) (gs hs : List Marks) → Goes start frames forward at o gs → (i : Instruction) → Stands program at i
      → goes i (led (told_by a) program (input_of v) (direction_of forward) hs i at o) (record { at = at; offset = o; forward = forward; frames = frames }) ≡ None
      → IsAnswer program (input_of v) start (Some o) (marked (direction_of forward) i o gs)
  walk-ends start (f ∷ fs) forward at o gs hs walks i here e = by_led (led (told_by a) program (input_of v) (direction_of forward) hs i at o) e
    where
      by_led : (l : Option Station) → goes i l (record { at = at; offset = o; forward = forward; frames = f ∷ fs }) ≡ None
          → IsAnswer program (input_of v) start (Some o) (marked (direction_of forward) i o gs)
      by_led None none = absurd (cc none)
      by_led (Some x) none = absurd (cc none)
  walk-ends start [] false at o gs hs (is, (w, way, ends)) i here e = absurd (cc is)
  walk-ends start [] true at o gs hs (is, (w, way, ends)) i here e = by_led (led (told_by a) program (input_of v) Forward hs i at o) refl e
    where
      by_led : (l : Option Station) → led (told_by a) program (input_of v) Forward hs i at o ≡ l → goes i l (record { at = at; offset = o; forward = true; frames = [] }) ≡ None
          → IsAnswer program (input_of v) start (Some o) (marked Forward i o gs)
      by_led (Some x) led-is none = absurd (cc none)
      by_led None led-is none =
          let goal = ends-way flow h v all program suits may.pass Forward (told_by a) Anywhere (right Forward) (past Forward) w at o gs way tt hs i here led-is in
          let same = at-goal flow h v all program suits may.pass Forward (told_by a) Anywhere (right Forward) (past Forward) w at o gs way tt hs (subst (Stands program at) goal here) in
          subst (λ j. IsAnswer program (input_of v) start (Some o) (marked Forward j o gs)) (sym goal)
          (w, ends, ap (λ (u : Whole). u.offset) same, ap (λ (u : Whole). u.groups) same)

  -- so far it has come at least
  pub end-left : (start : ℕ) (frames : List Frame) (forward : Bool) (at o : ℕ) (i : Instruction) (l : Option Station) → goes i l (record { at = at; offset = o; forward = forward; frames = frames }) ≡ None
      → room (length v.units) Forward o * length h.order ≤ left start frames at o
  end-left start [] forward at o i l e = omega arith
  end-left start (f ∷ fs) forward at o i None e = absurd (cc e)
  end-left start (f ∷ fs) forward at o i (Some x) e = absurd (cc e)

  -- what is told of the exits of a one-character loop that stands there is so
  pub walk-exits : (start : ℕ) (frames : List Frame) (forward : Bool) (at o : ℕ) (gs hs : List Marks) → Goes start frames forward at o gs → (i : Instruction) → Stands program at i
      → (j : Instruction) → is_single i ≡ true → Stands program (at + 1) j → AreExitsTold program v (direction_of forward) hs a j at (at + 2)
  walk-exits start frames forward at o gs hs walks i here j single stands = by_kind i here single
    where
      by_way : (b c : Bool) → direction_of b ≡ direction_of c → b ≡ c
      by_way true true e = refl
      by_way false false e = refl
      by_way true false e = absurd (cc e)
      by_way false true e = absurd (cc e)

      on : (w : Whole) × Way forward w at o gs
      on = walk-way start frames forward at o gs walks

      read : forward_at h at ≡ forward
      read = by_way (forward_at h at) forward on.1.running.way

      by_kind : (i : Instruction) → Stands program at i → is_single i ≡ true → AreExitsTold program v (direction_of forward) hs a j at (at + 2)
      by_kind (code.single_loop least most greedy) there e =
          let (k, there', takes, order) = suits.closed at (code.single_loop least most greedy) there in
          let one : at + 1 ≡ suc at = omega arith in
          let same : k ≡ j = one_stands program (input_of v) (suc at) k j there' (subst (λ b. Stands program b j) one stands) in
          exits-told-of flow h program v a at (λ q lies. may.exits at q on.1.there lies) all forward read least most greedy j there (ap takes_character (sym same) ∙ takes) stands hs
      by_kind _ there e = absurd (cc e)

  -- at its begin it is on its way
  pub walk-begins : (start : ℕ) → IsAtPlace (reading_of v) start → ReadsAlong program v Forward (first_state program start ∷ []) → told_by a 0 start ≡ true
      → Goes start [] true 0 start (first_state program start).groups
  walk-begins start place reads has = (refl, by_end (told-there flow h v all program suits may.pass Forward (told_by a) Anywhere (right Forward) (past Forward) s live (may.there, place-lies v all start place) tt s.loops s.groups live reads))
    where
      s : Whole
      s = first_state program start

      live : AreRunning flow (ranking_of h) program (length v.units) Forward s
      live = running-first flow (ranking_of h) v all program suits may.pass.closed may.pass.ranked may.calm may.forward may.silent start (place-lies v all start place)

      by_end : Ends program (input_of v) Forward (s ∷ []) (told_by a 0 start)
          → (w : Whole) × IsOnWay flow h program v Forward w 0 start s.groups × EndsIn program (input_of v) start (Some w)
      by_end (n, None, run, some) = absurd (cc (some, has))
      by_end (n, Some w, run, some) = (
        w,
        record { loops = s.loops; steps = n; running = live; there = may.there; within = place-lies v all start place; reads = reads; run = run },
        (n, run),
      )

  -- what stands there may be asked
  pub walk-ready : (start : ℕ) (frames : List Frame) (forward : Bool) (at o : ℕ) (gs hs : List Marks) → Goes start frames forward at o gs → length hs ≡ program.groups → (i : Instruction) → Stands program at i
      → (is_simple i ≡ true → IsReady program v i hs o) × (reads_character i ≡ true → IsAtPlace (reading_of v) o)
  walk-ready start frames forward at o gs hs walks count i here =
      let dir = direction_of forward in
      let (w, way) = walk-way start frames forward at o gs walks in (
        ready-here flow h v all program suits may.pass dir (told_by a) Anywhere (right dir) (past dir) w at o gs way tt hs count i here,
        place-here flow h v all program suits may.pass dir (told_by a) Anywhere (right dir) (past dir) w at o gs way tt hs i here,
      )
