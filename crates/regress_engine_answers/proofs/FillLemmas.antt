-- How a table of answers is filled: what is worked out of an address and an offset is so, and the rest stays so.
use Rattle.std.specs.List.{AllByRecursion}
use Rattle.std.proofs.Common.{◌≡◌, ℕ, zero, suc, ◌+◌, ◌-◌, ◌<◌, ◌≤◌, ◌⊎◌, ◌&&◌, ◌||◌, ◌==◌, inl, inr, Bool, true, false, List, [], ◌∷◌, length, Option, None, Some, refl, sym, ap, ap₂, ◌∙◌, subst, arith}
use Rattle.std.proofs.lemmas.Bool.{cases_eq, cases_lt}
use Rattle.std.proofs.lemmas.Option.{slice_get_within}
use Rattle.regress_meaning.specs.Meaning.{Direction}
use Rattle.regress_engine_input.specs.Views.{View, AreOfKind, direction_of, input_of, reading_of}
use Rattle.regress_front_nodes.specs.Trees.{Submatch, lookaround, atomic}
use Rattle.regress_front_nodes.specs.TreeMeaning.{submatch_direction}
use Rattle.regress_engine_insn.specs.Instructions.{Instruction, Program, Stands}
use Rattle.regress_engine_insn.specs.Instructions as code
use Rattle.regress_engine_runs.specs.Closed.{takes_character}
use Rattle.regress_engine_runs.specs.States.{Marks, Whole}
use Rattle.regress_engine_runs.specs.Runs.{advance, finds, is_plain, one_by_one, room, successors}
use Rattle.regress_engine_runs.specs.Meets.{now, referred, reads_character, IsAtPlace}
use Rattle.regress_engine_runs.specs.UndoStack.{whole}
use Rattle.regress_engine_runs.proofs.RunViews.{one_stands}
use Rattle.regress_engine_search.specs.Ready.{IsBody}
use Rattle.regress_engine_search.specs.Search.{Suits}
use Rattle.regress_engine_search.proofs.ReadyLemmas.{body-next}
use Rattle.regress_engine_search.proofs.SkipLemmas.{place-lies}
use Rattle.regress_engine_memory.specs.Flow.{Flow}
use Rattle.regress_engine_memory.specs.Under.{IsFurther}
use Rattle.regress_engine_memory.proofs.Onward.{flows-unreferring, room-less}
use Rattle.regress_engine_memory.proofs.Taking.{advance-takes, one-takes, taking-unreferring}
use Rattle.regress_engine_linear.specs.Answered.{AreExitsRight, IsAnswered, answer_at, exits_at, exits_value_at, one_at, one_beyond}
use Rattle.regress_engine_answers.specs.AnswerTables.{ends_by, exit_ends_by, exits_by, told_by}
use Rattle.regress_engine_answers.specs.Filled.{IsEndRight, IsExitEndRight, IsExitRight, IsFilled, IsFilledTo, IsPast, IsPlaced, IsRight, way_of}
use Rattle.regress_engine_ways.specs.Ways.{AreBeyondEndedAt, IsEndedAt, value_at}
use Rattle.regress_engine_linear.specs.Linear.{IsLinear, too_long}
use Rattle.regress_engine_linear.specs.Ranks.{Ranking, AreUnboundedOrOnce, Inside, IsBeyond, Lowers, is_even}
use Rattle.regress_engine_linear.specs.RankTables.{Heights, IsBefore, address_at, forward_at, index_at, level_at, outside_at, rank_at, ranking_of}
use Rattle.regress_engine_linear.specs.Levels.{IsLevel}
use Rattle.regress_engine_linear.specs.declared.levels.Level.{Level}
use Rattle.regress_engine_linear.proofs.LevelLemmas.{index-lower, index-of}
use Rattle.regress_engine_answers.specs.declared.answers.Answers.{Answers}
use Rattle.regress_engine_linear.proofs.AnswerLemmas.{answers-by, look-answers}
use Rattle.regress_engine_linear.proofs.Beyond.{leads-beyond}
use Rattle.regress_engine_linear.proofs.EndsBeyond.{atomic-lower}
use Rattle.regress_engine_ways.proofs.ExitAnswers.{exits-told}
use Rattle.regress_engine_linear.proofs.Formulas.{answers-are}
use Rattle.regress_engine_linear.proofs.Running.{further-on}
use Rattle.regress_engine_linear.proofs.Within.{each-lies}
use Rattle.regress_engine_ways.proofs.Ends.{AreEndsAhead, atomic-answers}
use Rattle.regress_engine_ways.proofs.OnWay.{may-pass}
use Rattle.regress_engine_search.specs.Places.{offset_of}
use Rattle.regress_engine_linear.proofs.WorkLemmas.{bit-elsewhere, bit-here, room-end, exits-value-is, reads-there}

below : (x y : ℕ) → x < suc y → (x ≡ y → ⊥) → x < y
below x y less other = elim (cases_eq x y) [ inl e ↦ absurd (other e) | inr e ↦ omega (arith, less, e) ]

module _ (flow : Flow) (h : Heights) (v : View) (all : AreOfKind v.kind v.units) (program : Program) (suits : Suits program v) (linear : IsLinear flow h program)
    (short : suc (length v.units) < too_long) where
  abbrev last : ℕ
  last = length v.units

  abbrev r : Ranking
  r = ranking_of h

  pub unbounded : AreUnboundedOrOnce last program
  unbounded at f here = elim (linear.unbounded at f here) [ inl most ↦ inl (omega (arith, most, short)) | inr once ↦ inr once ]

  pub stands-within : (at : ℕ) (i : Instruction) → Stands program at i → at < length program.instructions
  stands-within at i here = slice_get_within program.instructions at i here

  pub calm-there : (at : ℕ) (i : Instruction) → Stands program at i → flow.calm at ≡ true
  calm-there at i here = linear.calm at (stands-within at i here)

  pub unreferring-there : (at : ℕ) (i : Instruction) → Stands program at i → referred i ≡ None
  unreferring-there at i here = flows-unreferring flow program at i (linear.flows at i (calm-there at i here) here)

  -- what stands in the order is there
  address-there : (k : ℕ) → k < length h.order → address_at h k < length h.ranks
  address-there k within = let there = linear.placed.there k within in subst (λ n. address_at h k < n) (sym linear.count) there

  -- ---- where nothing is worked out

  past-later : (l : Level) (k o b q : ℕ) → IsPast flow h program v l k o b q → IsPast flow h program v l (suc k) o b q
  past-later l k o b q (inl less) = inl less
  past-later l k o b q (inr (low, inl less)) = inr (low, inl less)
  past-later l k o b q (inr (low, inr (same, less))) = inr (low, inr (same, omega (arith, less)))

  -- what stands at an index is told of
  pub skipped : (a : Answers) (l : Level) (k o : ℕ) → IsFilled flow h program v a l k o
      → ((b : ℕ) → b < length h.ranks → index_at h b ≡ k → (IsRight flow h program v a b o × IsExitRight flow h program v a b o) × (IsEndRight flow h program v a b o × IsExitEndRight flow h program v a b o))
      → IsFilled flow h program v a l (suc k) o
  skipped a l k o filled told = record {
    right = λ b q within inside past. further (λ b q. IsRight flow h program v a b q × IsExitRight flow h program v a b q) filled.right (λ b within e. (told b within e).0) b q within inside past;
    fresh = λ b q inside unpast. filled.fresh b q inside (λ past. unpast (past-later l k o b q past));
    spots = filled.spots;
    ends = λ b q within inside past. further (λ b q. IsEndRight flow h program v a b q × IsExitEndRight flow h program v a b q) filled.ends (λ b within e. (told b within e).1) b q within inside past;
  }
    where
      further : (P : ℕ → ℕ → Type 0) → ((b q : ℕ) → b < length h.ranks → q ≤ last → IsPast flow h program v l k o b q → P b q) → ((b : ℕ) → b < length h.ranks → index_at h b ≡ k → P b o)
          → (b q : ℕ) → b < length h.ranks → q ≤ last → IsPast flow h program v l (suc k) o b q → P b q
      further P before here b q within inside (inl less) = before b q within inside (inl less)
      further P before here b q within inside (inr (low, inl less)) = before b q within inside (inr (low, inl less))
      further P before here b q within inside (inr (low, inr (same, less))) = by_index (cases_eq (index_at h b) k)
        where
          by_index : (index_at h b ≡ k) ⊎ (index_at h b ≡ k → ⊥) → P b q
          by_index (inl e) = subst (P b) (sym same) (here b within e)
          by_index (inr other) = before b q within inside (inr (low, inr (same, below (index_at h b) k less other)))

  -- what reads characters elsewhere than at a place is never come to
  pub never-come : (a : Answers) (b o : ℕ) (i : Instruction) → Stands program b i → reads_character i ≡ true → (IsAtPlace (reading_of v) o → ⊥)
      → (IsRight flow h program v a b o × IsExitRight flow h program v a b o) × (IsEndRight flow h program v a b o × IsExitEndRight flow h program v a b o)
  never-come a b o i here reads elsewhere = (
    (
      λ loops groups running along. absurd (elsewhere (along (whole b o loops groups) i now here reads).0),
      λ least most greedy body there stands place. absurd (elsewhere place),
    ),
    (
      λ within loops groups running along n end run. absurd (elsewhere (along (whole b o loops groups) i now here reads).0),
      λ within least most greedy body there stands place. absurd (elsewhere place),
    ),
  )

  -- one address has an index
  pub one-at : (k b : ℕ) → b < length h.ranks → index_at h b ≡ k → b ≡ address_at h k
  one-at k b within e = sym (linear.placed.address b (subst (λ n. b < n) linear.count within)) ∙ ap (address_at h) e

  -- ---- from one offset to the next

  room-one : (forward : Bool) (o q : ℕ) → o ≤ last → q ≤ last → room last (direction_of forward) o ≡ room last (direction_of forward) q → o ≡ q
  room-one true o q low low' e = omega (arith, low, low', e)
  room-one false o q low low' e = e

  pub next-offset : (a : Answers) (l : Level) (o q : ℕ) → o ≤ last → room last (direction_of l.forward) q ≡ suc (room last (direction_of l.forward) o)
      → IsFilled flow h program v a l l.to o → IsFilled flow h program v a l l.from q
  next-offset a l o q low next filled = record {
    right = λ b p within inside past. filled.right b p within inside (back b p inside past);
    ends = λ b p within inside past. filled.ends b p within inside (back b p inside past);
    fresh = λ b p inside unpast. filled.fresh b p inside (λ past. unpast (on b p past));
    spots = filled.spots;
  }
    where
      back : (b p : ℕ) → p ≤ last → IsPast flow h program v l l.from q b p → IsPast flow h program v l l.to o b p
      back b p inside (inl less) = inl less
      back b p inside (inr (within, inr (same, less))) = inl less
      back b p inside (inr (within, inl less)) = inr (
        within,
        elim (cases_eq (room last (direction_of l.forward) p) (room last (direction_of l.forward) o)) [
          | inl e ↦ inr (room-one l.forward p o inside low e, within)
          | inr other ↦ inl (omega (arith, less, next, other))
        ],
      )

      on : (b p : ℕ) → IsPast flow h program v l l.to o b p → IsPast flow h program v l l.from q b p
      on b p (inl less) = inl less
      on b p (inr (within, inl less)) = inr (within, inl (omega (arith, less, next)))
      on b p (inr (within, inr (same, less))) = let e = ap (room last (direction_of l.forward)) same in inr (within, inl (omega (arith, e, next)))

  -- ---- from one level to the next

  -- where a level begins none of it is told of
  pub level-begins : (a : Answers) (l : Level) → IsFilledTo flow h program v a l.from → IsFilled flow h program v a l l.from (offset_of l.forward last 0)
  level-begins a l filled = record {
    right = λ b q within inside past. filled.right b q within inside (before b q inside past);
    ends = λ b q within inside past. filled.ends b q within inside (before b q inside past);
    fresh = λ b q inside unpast. filled.fresh b q inside (λ less. unpast (inl less));
    spots = filled.spots;
  }
    where
      none : (forward : Bool) (q : ℕ) → q ≤ last → room last (direction_of forward) q < room last (direction_of forward) (offset_of forward last 0) → ⊥
      none true q inside less = omega (arith, less, inside)
      none false q inside less = omega (arith, less)

      before : (b q : ℕ) → q ≤ last → IsPast flow h program v l l.from (offset_of l.forward last 0) b q → index_at h b < l.from
      before b q inside (inl less) = less
      before b q inside (inr (within, inl less)) = absurd (none l.forward q inside less)
      before b q inside (inr (within, inr (same, less))) = less

  -- where its last offset is done all of it is
  pub level-ends : (a : Answers) (l : Level) → l.from < l.to → IsFilled flow h program v a l l.to (offset_of l.forward last last) → IsFilledTo flow h program v a l.to
  level-ends a l some filled = record {
    right = λ b q within inside less. filled.right b q within inside (inr (less, past b q inside less));
    ends = λ b q within inside less. filled.ends b q within inside (inr (less, past b q inside less));
    fresh = λ b q inside unpast. filled.fresh b q inside (λ past. unpast (before b q past));
    spots = filled.spots;
  }
    where
      end : ℕ
      end = offset_of l.forward last last

      lies : (forward : Bool) → offset_of forward last last ≤ last
      lies true = omega arith
      lies false = omega arith

      whole-text : (forward : Bool) → room last (direction_of forward) (offset_of forward last last) ≡ last
      whole-text true = omega arith
      whole-text false = refl

      past : (b q : ℕ) → q ≤ last → index_at h b < l.to
          → (room last (direction_of l.forward) q < room last (direction_of l.forward) end) ⊎ ((q ≡ end) × (index_at h b < l.to))
      past b q inside less = elim (cases_eq (room last (direction_of l.forward) q) (room last (direction_of l.forward) end)) [
        | inl e ↦ inr (room-one l.forward q end inside (lies l.forward) e, less)
        | inr other ↦ inl (let most = room-end last (direction_of l.forward) q inside in let all-done = whole-text l.forward in omega (arith, most, all-done, other))
      ]

      before : (b q : ℕ) → IsPast flow h program v l l.to end b q → index_at h b < l.to
      before b q (inl less) = omega (arith, less, some)
      before b q (inr (within, rest)) = within

  module _ (a : Answers) (l : Level) (level : IsLevel h l) (k o : ℕ) (filled : IsFilled flow h program v a l k o) (from : l.from ≤ k) (to : k < l.to) (lies : o ≤ last) where
    abbrev at : ℕ
    at = address_at h k

    abbrev forward : Bool
    forward = l.forward

    abbrev dir : Direction
    dir = direction_of forward

    k-within : k < length h.order
    k-within = let low = level.within in omega (arith, to, low)

    pub within-ranks : at < length h.ranks
    within-ranks = address-there k k-within

    pub index : index_at h at ≡ k
    index = index-of h (length program.instructions) linear.placed k k-within

    pub way : forward_at h at ≡ forward
    way = level.way k from to

    abbrev told : ℕ → ℕ → Bool
    told = told_by a

    abbrev Told : Whole → Type 0
    Told u = IsAnswered flow r program v dir u.at u.offset (told u.at u.offset)

    -- what is worked out before is told of at the same offset
    before-right : (b : ℕ) → b < length h.ranks → IsBefore h b at → IsRight flow h program v a b o × IsExitRight flow h program v a b o
    before-right b within before =
        let less = index-lower h (length program.instructions) linear.placed b at (subst (λ n. b < n) linear.count within) (subst (λ n. at < n) linear.count within-ranks) before in
        filled.right b o within lies (inr (omega (arith, less, index, to), inr (refl, omega (arith, less, index))))

    -- and of its level what is further on
    further-right : (b q : ℕ) → b < length h.ranks → level_at h b ≡ level_at h at → q ≤ last → IsFurther last dir o q → IsRight flow h program v a b q × IsExitRight flow h program v a b q
    further-right b q within same inside further =
        filled.right b q within inside (inr ((level.all k b from to within same).1, inl (room-less last dir o q further)))

    -- so what is ranked lower, or further on, is told of
    pub to-right : (b q : ℕ) → b < length h.ranks → level_at h b ≡ level_at h at → q ≤ last → (IsFurther last dir o q ⊎ ((q ≡ o) × (rank_at h b < rank_at h at)))
        → IsAnswered flow r program v dir b q (told b q)
    to-right b q within same inside beyond =
        subst (λ d. IsAnswered flow r program v (direction_of d) b q (told b q)) (ap is_even same ∙ way) (by_place beyond).0
      where
        by_place : IsFurther last dir o q ⊎ ((q ≡ o) × (rank_at h b < rank_at h at)) → IsRight flow h program v a b q × IsExitRight flow h program v a b q
        by_place (inl further) = further-right b q within same inside further
        by_place (inr (there, less)) = subst (λ x. IsRight flow h program v a b x × IsExitRight flow h program v a b x) (sym there) (before-right b within (inr (sym same, less)))

    each-told : (loops : List (ℕ × ℕ)) (groups : List Marks) (us : List Whole)
        → AllByRecursion (λ u. IsBeyond r last dir (whole at o loops groups) u × (u.at < length h.ranks) × (level_at h u.at ≡ level_at h at) × (outside_at h u.at ≡ outside_at h at)) us
        → AllByRecursion (λ u. u.offset ≤ last) us → AllByRecursion Told us
    each-told loops groups [] on inside = tt
    each-told loops groups (u ∷ us) on inside =
        (to-right u.at u.offset on.0.1 on.0.2 inside.0 on.0.0, each-told loops groups us on.1 inside.1)

    plain-right : (i : Instruction) → Stands program at i → is_plain i ≡ true → (reads_character i ≡ true → IsAtPlace (reading_of v) o)
        → IsAnswered flow r program v dir at o (answer_at told program (input_of v) dir i at o)
    plain-right i here plain reads =
        answers-by flow r v all program suits linear.flows linear.ranked dir told at o i (answer_at told program (input_of v) dir i at o) here plain (λ loops groups running.
        let s : Whole = whole at o loops groups in (
          each-told loops groups (successors program (input_of v) i dir s)
              (leads-beyond flow r v all program suits linear.flows linear.ranked dir s i (calm-there at i here) here plain (λ is. reads-there v i s (unreferring-there at i here) (reads is)))
              (each-lies v all program suits dir i s (unreferring-there at i here) here plain lies reads),
          answers-are flow r last program (input_of v) linear.flows linear.ranked unbounded dir told i at o loops groups here plain running
              (λ f e. (suits.closed at (code.enter_loop f) (subst (Stands program at) e here)).0),
        ))

    -- contents of a lookaround
    inside-right : (kind : Submatch) (continuation : ℕ) → Inside r kind at continuation → IsAnswered flow r program v (submatch_direction kind dir) (suc at) o (told (suc at) o)
    inside-right kind continuation inside =
        subst (λ d. IsAnswered flow r program v d (suc at) o (told (suc at) o)) (inside.way ∙ ap (λ b. submatch_direction kind (direction_of b)) way)
        (before-right (suc at) inside.within (before inside.rank)).0
      where
        before : ((level_at h (suc at) ≡ level_at h at) × (rank_at h (suc at) < rank_at h at)) ⊎ (level_at h at < level_at h (suc at)) → IsBefore h (suc at) at
        before (inl (same, less)) = inr (sym same, less)
        before (inr deeper) = inl deeper

    -- and so is where runs end from what is, inside of an atomic group
    pub ends-ahead : AreEndsAhead flow h program v dir (ends_by a) at o
    ends-ahead b q beyond within lies' same inside =
        subst (λ d. IsEndedAt flow h program v (direction_of d) b q (ends_by a b q)) (ap is_even same ∙ way) (by_place beyond inside)
      where
        by_place : IsFurther last dir o q ⊎ ((q ≡ o) × (rank_at h b < rank_at h at)) → IsEndRight flow h program v a b q
        by_place (inl further) = (filled.ends b q within lies' (inr ((level.all k b from to within same).1, inl (room-less last dir o q further)))).0
        by_place (inr (there, less)) =
            let before = index-lower h (length program.instructions) linear.placed b at (subst (λ n. b < n) linear.count within) (subst (λ n. at < n) linear.count within-ranks) (inr (sym same, less)) in
            (filled.ends b q within lies' (inr (omega (arith, before, index, to), inr (there, omega (arith, before, index))))).0

    -- an atomic group
    atomic-right : (low high continuation : ℕ) → Stands program at (code.submatch atomic low high continuation)
        → IsAnswered flow r program v dir at o (value_at told (ends_by a) program (input_of v) dir (code.submatch atomic low high continuation) at o)
    atomic-right low high continuation here =
        atomic-answers flow h v all program suits (may-pass flow h program v linear short) dir told (ends_by a) at o ends-ahead low high continuation here lies
        (λ b q beyond within inside same. to-right b q within same inside beyond)

    -- What is worked out is so.
    pub value-right : (i : Instruction) → Stands program at i → (reads_character i ≡ true → IsAtPlace (reading_of v) o)
        → IsAnswered flow r program v dir at o (value_at told (ends_by a) program (input_of v) dir i at o)
    value-right code.goal here reads = λ loops groups running along. (1, Some (whole at o loops groups), finds here, refl)
    value-right (code.submatch (lookaround negated backward) low high continuation) here reads =
        let (lower, inside) = linear.ranked at (code.submatch (lookaround negated backward) low high continuation) (calm-there at (code.submatch (lookaround negated backward) low high continuation) here) here in
        look-answers flow r v all program suits linear.flows linear.ranked dir negated backward low high continuation at o (told (suc at) o) (told continuation o) here
        (inside-right (lookaround negated backward) continuation inside) (to-right continuation o lower.within lower.level lies (inr (refl, by_rank lower.rank)))
      where
        by_rank : (1 ≤ 0) ⊎ (rank_at h continuation < rank_at h at) → rank_at h continuation < rank_at h at
        by_rank (inl never) = absurd (omega (arith, never))
        by_rank (inr less) = less
    value-right (code.submatch atomic low high continuation) here reads = atomic-right low high continuation here
    value-right i here reads = plain-right i here refl reads

    -- what is told of the exits of a one-character loop
    module _ (least most : ℕ) (greedy : Bool) (i : Instruction) (here : Stands program at (code.single_loop least most greedy)) (there : Stands program (suc at) i)
        (place : IsAtPlace (reading_of v) o) where
      takes : takes_character i ≡ true
      takes =
          let (j, stands, taking, order) = suits.closed at (code.single_loop least most greedy) here in
          subst (λ x. takes_character x ≡ true) (one_stands program (input_of v) (suc at) j i stands there) taking

      body : IsBody program v (suc (suc at)) o
      body = (i, subst (λ b. Stands program b i) (let e : suc at ≡ suc (suc at) - 1 = omega arith in e) there, takes, place, omega arith)

      next-on : (q : ℕ) → advance program (input_of v) i dir [] o ≡ Some q → (room last dir q < room last dir o) × IsAtPlace (reading_of v) q
      next-on q e =
          let left = (advance-takes v program i dir [] o q (taking-unreferring i takes) e).1 in
          let one = one-takes i takes in
          let next = body-next v all program suits (suc (suc at)) o q i dir [] body (subst (λ b. Stands program b i) (let e : suc at ≡ suc (suc at) - 1 = omega arith in e) there) e in
          (omega (arith, left, one), next.3)

      pub exits-right : exits_at told (exits_by a at) at (advance program (input_of v) i dir [] o) ≡ one_beyond told program v dir at i o
      exits-right = by_value (advance program (input_of v) i dir [] o) refl
        where
          by_value : (x : Option ℕ) → advance program (input_of v) i dir [] o ≡ x
              → exits_at told (exits_by a at) at x ≡ elim x [ None ↦ false | Some q ↦ one_at told (suc (suc at)) (one_by_one program (input_of v) last i dir [] q) ]
          by_value None e = refl
          by_value (Some q) e =
              let on = next-on q e in
              let inside = place-lies v all q on.1 in
              let known = (filled.right at q within-ranks inside (inr (omega (arith, index, to), inl on.0))).1 least most greedy i here there on.1 in
              let known' = subst (λ d. exits_by a at q ≡ one_beyond told program v (direction_of d) at i q) way known in
              ap (λ b. told (suc (suc at)) q || b) known' ∙ sym (exits-told v program dir i takes told (suc (suc at)) last q (room-end last dir q inside))

    -- what is told of exits further on
    pub exits-known : AreExitsRight told (exits_by a) program v dir at o
    exits-known least most greedy body here there q place further =
        let known = (further-right at q within-ranks refl (place-lies v all q place) further).1 least most greedy body here there place in
        subst (λ d. exits_by a at q ≡ one_beyond told program v (direction_of d) at body q) way known

    -- ---- the table with what was worked out

    module _ (a' : Answers) (value exit : Bool) (told-is : (b q : ℕ) → told_by a' b q ≡ (told_by a b q || (((b == at) && (o == q)) && value)))
        (exits-are : (b q : ℕ) → exits_by a' b q ≡ (exits_by a b q || (((b == at) && (o == q)) && exit))) where
      pub told-same : (b q : ℕ) → (b ≡ at → q ≡ o → ⊥) → told_by a' b q ≡ told_by a b q
      told-same b q other = told-is b q ∙ bit-elsewhere at o b q (told_by a b q) value other

      exits-same' : (b q : ℕ) → (b ≡ at → q ≡ o → ⊥) → exits_by a' b q ≡ exits_by a b q
      exits-same' b q other = exits-are b q ∙ bit-elsewhere at o b q (exits_by a b q) exit other

      not-past : IsPast flow h program v l k o at o → ⊥
      not-past (inl less) = omega (arith, less, index, from)
      not-past (inr (low, inl less)) = omega (arith, less)
      not-past (inr (low, inr (same, less))) = omega (arith, less, index)

      -- what is told of another address is told as before
      ones-other : (b : ℕ) → (b ≡ at → ⊥) → (os : List ℕ) → one_at (told_by a') b os ≡ one_at told b os
      ones-other b other [] = refl
      ones-other b other (q ∷ os) = ap₂ (λ x y. x || y) (told-same b q (λ e f. other e)) (ones-other b other os)

      -- the exits of what is at the offset or further on are told as before
      ones-same : (i : Instruction) → takes_character i ≡ true → (d : Direction) → d ≡ dir → (b n q : ℕ) → room last dir q < room last dir o
          → one_at (told_by a') b (one_by_one program (input_of v) n i d [] q) ≡ one_at told b (one_by_one program (input_of v) n i d [] q)
      unfolding one_by_one
      ones-same i taking d is b zero q less = ap (λ x. x || false) (told-same b q (λ e f. let same = ap (room last dir) f in omega (arith, same, less)))
      ones-same i taking d is b (suc n) q less =
          ap₂ (λ x y. x || y) (told-same b q (λ e f. let same = ap (room last dir) f in omega (arith, same, less)))
          (by_value (advance program (input_of v) i d [] q) refl (ones-same i taking d is b n))
        where
          rest_of : Option ℕ → List ℕ
          rest_of x = elim x [ None ↦ [] | Some p ↦ one_by_one program (input_of v) n i d [] p ]

          by_value : (x : Option ℕ) → advance program (input_of v) i d [] q ≡ x
              → ((p : ℕ) → room last dir p < room last dir o → one_at (told_by a') b (one_by_one program (input_of v) n i d [] p) ≡ one_at told b (one_by_one program (input_of v) n i d [] p))
              → one_at (told_by a') b (rest_of x) ≡ one_at told b (rest_of x)
          by_value None e rest = refl
          by_value (Some p) e rest =
              let left = (advance-takes v program i dir [] q p (taking-unreferring i taking) (subst (λ x. advance program (input_of v) i x [] q ≡ Some p) is e)).1 in
              rest p (omega (arith, left, less))

      -- one of the exits behind at least one more character, where each of them is told as before
      behind-by : (i : Instruction) (d : Direction) (b q : ℕ)
          → ((p : ℕ) → advance program (input_of v) i d [] q ≡ Some p
          → one_at (told_by a') (suc (suc b)) (one_by_one program (input_of v) last i d [] p) ≡ one_at told (suc (suc b)) (one_by_one program (input_of v) last i d [] p))
          → one_beyond (told_by a') program v d b i q ≡ one_beyond told program v d b i q
      behind-by i d b q each = by_value (advance program (input_of v) i d [] q) refl
        where
          pick : (ℕ → ℕ → Bool) → Option ℕ → Bool
          pick t x = elim x [ None ↦ false | Some p ↦ one_at t (suc (suc b)) (one_by_one program (input_of v) last i d [] p) ]

          by_value : (x : Option ℕ) → advance program (input_of v) i d [] q ≡ x → pick (told_by a') x ≡ pick told x
          by_value None e = refl
          by_value (Some p) e = each p e

      behind-same : (i : Instruction) → takes_character i ≡ true → (d : Direction) → d ≡ dir → (b q : ℕ) → room last dir q ≤ room last dir o
          → one_beyond (told_by a') program v d b i q ≡ one_beyond told program v d b i q
      behind-same i taking d is b q less =
          behind-by i d b q (λ p e.
          let left = (advance-takes v program i dir [] q p (taking-unreferring i taking) (subst (λ x. advance program (input_of v) i x [] q ≡ Some p) is e)).1 in
          let one = one-takes i taking in
          ones-same i taking d is (suc (suc b)) last p (omega (arith, left, one, less)))

      -- what is told of another pair stays so
      keeps : (b q : ℕ) → (b ≡ at → q ≡ o → ⊥) → IsRight flow h program v a b q × IsExitRight flow h program v a b q
          → ((least most : ℕ) (greedy : Bool) (i : Instruction) → Stands program b (code.single_loop least most greedy) → takes_character i ≡ true
          → one_beyond (told_by a') program v (way_of flow h program v b) b i q ≡ one_beyond told program v (way_of flow h program v b) b i q)
          → IsRight flow h program v a' b q × IsExitRight flow h program v a' b q
      keeps b q other (right, exits) same = (
        subst (λ x. IsAnswered flow r program v (way_of flow h program v b) b q x) (sym (told-same b q other)) right,
        λ least most greedy i here there place.
            let (j, stands, taking, order) = suits.closed b (code.single_loop least most greedy) here in
            let takes = subst (λ x. takes_character x ≡ true) (one_stands program (input_of v) (suc b) j i stands there) taking in
            exits-same' b q other ∙ exits least most greedy i here there place ∙ sym (same least most greedy i here takes),
      )

      -- of the level
      keeps-level : (b q : ℕ) → (b ≡ at → q ≡ o → ⊥) → forward_at h b ≡ forward → room last dir q ≤ room last dir o → IsRight flow h program v a b q × IsExitRight flow h program v a b q
          → IsRight flow h program v a' b q × IsExitRight flow h program v a' b q
      keeps-level b q other way' less known =
          keeps b q other known (λ least most greedy i here takes. behind-same i takes (way_of flow h program v b) (ap direction_of way') b q less)

      -- of a deeper level, where the exits stand too
      keeps-deeper : (b q : ℕ) → b < length h.ranks → index_at h b < l.from → IsRight flow h program v a b q × IsExitRight flow h program v a b q
          → IsRight flow h program v a' b q × IsExitRight flow h program v a' b q
      keeps-deeper b q within less known =
          keeps b q (λ e f. let same = ap (index_at h) e in omega (arith, same, less, index, from)) known (λ least most greedy i here takes.
          let lowers = linear.ranked b (code.single_loop least most greedy) (calm-there b (code.single_loop least most greedy) here) here in
          behind-by i (way_of flow h program v b) b q (λ p e. ones-other (suc (suc b))
          (λ same. let low = (level.all k b from to within (sym lowers.level ∙ ap (level_at h) same)).0 in omega (arith, low, less))
          (one_by_one program (input_of v) last i (way_of flow h program v b) [] p)))

      -- So it is filled further.
      pub filled-on : IsAnswered flow r program v dir at o value → ((i : Instruction) × Stands program at i × (reads_character i ≡ true → IsAtPlace (reading_of v) o))
          → ((least most : ℕ) (greedy : Bool) (i : Instruction) → Stands program at (code.single_loop least most greedy) → Stands program (suc at) i → IsAtPlace (reading_of v) o
          → exit ≡ one_beyond told program v dir at i o)
          → ((b q : ℕ) → (b ≡ at → q ≡ o → ⊥) → (ends_by a' b q ≡ ends_by a b q) × (exit_ends_by a' b q ≡ exit_ends_by a b q))
          → IsEndRight flow h program v a' at o × IsExitEndRight flow h program v a' at o
          → IsFilled flow h program v a' l (suc k) o
      filled-on is spot exits ends-same ends-here = record {
        right = λ b q within inside past. right b q within inside past (cases_lt (index_at h b) l.from);
        fresh = λ b q inside unpast.
            let other : b ≡ at → q ≡ o → ⊥ = λ e f. unpast (let same = ap (index_at h) e in inr (omega (arith, same, index, to), inr (f, omega (arith, same, index)))) in
            let still : IsPast flow h program v l k o b q → ⊥ = λ past. unpast (past-later l k o b q past) in
            let known = filled.fresh b q inside still in
            (told-same b q other ∙ known.0, exits-same' b q other ∙ known.1);
        spots = spots;
        ends = λ b q within inside past. ends b q within inside past;
      }
        where
          keeps-ends : (b q : ℕ) → (b ≡ at → q ≡ o → ⊥) → IsEndRight flow h program v a b q × IsExitEndRight flow h program v a b q
              → IsEndRight flow h program v a' b q × IsExitEndRight flow h program v a' b q
          keeps-ends b q other (right, exits) =
              let (same, same') = ends-same b q other in (
                λ within. subst (IsEndedAt flow h program v (way_of flow h program v b) b q) (sym same) (right within),
                λ within least most greedy body here there place.
                    subst (AreBeyondEndedAt flow h program v (way_of flow h program v b) b greedy body q) (sym same') (exits within least most greedy body here there place),
              )

          ends : (b q : ℕ) → b < length h.ranks → q ≤ last → IsPast flow h program v l (suc k) o b q → IsEndRight flow h program v a' b q × IsExitEndRight flow h program v a' b q
          ends b q within inside (inl less) = keeps-ends b q (λ e f. let same = ap (index_at h) e in omega (arith, same, less, index, from)) (filled.ends b q within inside (inl less))
          ends b q within inside (inr (low, inl less)) =
              keeps-ends b q (λ e f. let same = ap (room last dir) f in omega (arith, same, less)) (filled.ends b q within inside (inr (low, inl less)))
          ends b q within inside (inr (low, inr (same, less))) = by_index (cases_eq (index_at h b) k)
            where
              by_index : (index_at h b ≡ k) ⊎ (index_at h b ≡ k → ⊥) → IsEndRight flow h program v a' b q × IsExitEndRight flow h program v a' b q
              by_index (inl e) =
                  subst (λ x. IsEndRight flow h program v a' x q × IsExitEndRight flow h program v a' x q) (sym (one-at k b within e))
                  (subst (λ x. IsEndRight flow h program v a' at x × IsExitEndRight flow h program v a' at x) (sym same) ends-here)
              by_index (inr other) =
                  keeps-ends b q (λ e f. other (ap (index_at h) e ∙ index)) (filled.ends b q within inside (inr (low, inr (same, below (index_at h b) k less other))))

          spots : IsPlaced program v a'
          spots b q told-now = elim (cases_eq b at) [
            | inr other ↦ filled.spots b q (sym (told-same b q (λ e f. other e)) ∙ told-now)
            | inl e ↦ elim (cases_eq q o) [
              | inr other ↦ filled.spots b q (sym (told-same b q (λ e' f. other f)) ∙ told-now)
              | inl f ↦ subst (λ x. (i : Instruction) × Stands program x i × (reads_character i ≡ true → IsAtPlace (reading_of v) q)) (sym e)
                  (subst (λ x. (i : Instruction) × Stands program at i × (reads_character i ≡ true → IsAtPlace (reading_of v) x)) (sym f) spot)
            ]
          ]

          here-right : IsRight flow h program v a' at o × IsExitRight flow h program v a' at o
          here-right =
              let fresh = filled.fresh at o lies not-past in (
                subst (λ x. IsAnswered flow r program v (way_of flow h program v at) at o x) (sym (told-is at o ∙ bit-here at o (told_by a at o) value fresh.0))
                    (subst (λ d. IsAnswered flow r program v (direction_of d) at o value) (sym way) is),
                λ least most greedy i here there place.
                    exits-are at o ∙ bit-here at o (exits_by a at o) exit fresh.1 ∙ exits least most greedy i here there place
                    ∙ subst (λ d. one_beyond told program v dir at i o ≡ one_beyond (told_by a') program v (direction_of d) at i o) (sym way)
                    (sym (behind-same i (takes least most greedy i here there place) dir refl at o (omega arith))),
              )

          way-there : (b : ℕ) → b < length h.ranks → l.from ≤ index_at h b → index_at h b < l.to → forward_at h b ≡ forward
          way-there b within low high = ap (forward_at h) (one-at (index_at h b) b within refl) ∙ level.way (index_at h b) low high

          right : (b q : ℕ) → b < length h.ranks → q ≤ last → IsPast flow h program v l (suc k) o b q → (index_at h b < l.from) ⊎ (l.from ≤ index_at h b)
              → IsRight flow h program v a' b q × IsExitRight flow h program v a' b q
          right b q within inside past (inl less) = keeps-deeper b q within less (filled.right b q within inside (inl less))
          right b q within inside (inl less) (inr high) = absurd (omega (arith, less, high))
          right b q within inside (inr (low, inl less)) (inr high) =
              keeps-level b q (λ e f. let same = ap (room last dir) f in omega (arith, same, less)) (way-there b within high low) (omega (arith, less))
              (filled.right b q within inside (inr (low, inl less)))
          right b q within inside (inr (low, inr (same, less))) (inr high) = by_index (cases_eq (index_at h b) k)
            where
              by_index : (index_at h b ≡ k) ⊎ (index_at h b ≡ k → ⊥) → IsRight flow h program v a' b q × IsExitRight flow h program v a' b q
              by_index (inl e) =
                  subst (λ x. IsRight flow h program v a' x q × IsExitRight flow h program v a' x q) (sym (one-at k b within e))
                  (subst (λ x. IsRight flow h program v a' at x × IsExitRight flow h program v a' at x) (sym same) here-right)
              by_index (inr other) =
                  let room-same = ap (room last dir) same in
                  let lower : index_at h b < k = below (index_at h b) k less other in
                  keeps-level b q (λ e f. other (ap (index_at h) e ∙ index)) (way-there b within high low) (omega (arith, room-same))
                  (filled.right b q within inside (inr (low, inr (same, lower))))

    -- So it is where an address is worked out by the instruction that stands there.
    pub worked : (i : Instruction) → Stands program at i → (reads_character i ≡ true → IsAtPlace (reading_of v) o) → (a' : Answers)
        → ((b q : ℕ) → told_by a' b q ≡ (told_by a b q || (((b == at) && (o == q)) && value_at told (ends_by a) program (input_of v) dir i at o)))
        → ((b q : ℕ) → exits_by a' b q ≡ (exits_by a b q || (((b == at) && (o == q)) && exits_value_at told (exits_by a) program (input_of v) dir i at o)))
        → ((b q : ℕ) → (b ≡ at → q ≡ o → ⊥) → (ends_by a' b q ≡ ends_by a b q) × (exit_ends_by a' b q ≡ exit_ends_by a b q))
        → IsEndRight flow h program v a' at o × IsExitEndRight flow h program v a' at o
        → IsFilled flow h program v a' l (suc k) o
    worked i here reads a' told-is exits-are ends-same ends-here =
        filled-on a' (value_at told (ends_by a) program (input_of v) dir i at o) (exits_value_at told (exits_by a) program (input_of v) dir i at o) told-is exits-are (value-right i here reads) (i, here, reads)
        (λ least most greedy body single there place.
        let one : suc at ≡ at + 1 = omega arith in
        exits-value-is v program suits at least most greedy single told (exits_by a) dir o body (subst (λ b. Stands program b body) one there) i here
        ∙ exits-right least most greedy body single there place) ends-same ends-here
