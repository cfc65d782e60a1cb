-- Where runs end inside of an atomic group is kept right.
use Rattle.std.specs.Prelude.{nat_lt, slice_get}
use Rattle.std.specs.Global.{Vec}
use Rattle.std.specs.List.{AllByRecursion}
use Rattle.std.proofs.Common.{◌≡◌, ℕ, zero, suc, ◌+◌, ◌-◌, ◌<◌, ◌≤◌, ◌⊎◌, ◌&&◌, ◌||◌, ◌==◌, inl, inr, Bool, true, false, List, [], ◌∷◌, length, Option, None, Some, if◌then◌else◌, refl, sym, ap, ◌∙◌, subst, arith}
use Rattle.std.proofs.lemmas.Bool.{cases_lt, eqb-false, eqb-true, lt-ltb}
use Rattle.regress_meaning.specs.Meaning.{Direction}
use Rattle.regress_engine_input.specs.Views.{View, AreOfKind, direction_of, input_of, reading_of}
use Rattle.regress_engine_insn.specs.Instructions.{Instruction, Program, Stands}
use Rattle.regress_engine_insn.specs.Instructions as code
use Rattle.regress_engine_runs.specs.Closed.{takes_character}
use Rattle.regress_engine_runs.specs.Meets.{IsAtPlace, reads_character}
use Rattle.regress_engine_runs.specs.Runs.{advance, after_times, one_by_one, room}
use Rattle.regress_engine_runs.specs.States.{Marks, Whole}
use Rattle.regress_engine_runs.specs.UndoStack.{at_each}
use Rattle.regress_engine_runs.proofs.RunViews.{one_stands}
use Rattle.regress_engine_search.specs.Search.{Suits}
use Rattle.regress_engine_search.proofs.SkipLemmas.{place-lies}
use Rattle.regress_engine_memory.specs.Flow.{Flow}
use Rattle.regress_engine_memory.specs.declared.bits.Bits.{Bits}
use Rattle.regress_engine_memory.specs.Under.{IsFurther}
use Rattle.regress_engine_memory.proofs.Onward.{Takes, room-less, takes-one, takes-then}
use Rattle.regress_engine_memory.proofs.Taking.{after-on}
use Rattle.regress_engine_linear.specs.Answered.{IsAnswered, IsRepeated, exits_value_at, is_single}
use Rattle.regress_engine_linear.specs.Levels.{IsLevel}
use Rattle.regress_engine_linear.specs.Linear.{IsLinear, too_long}
use Rattle.regress_engine_linear.specs.RankTables.{Heights, address_at, forward_at, level_at, outside_at, rank_at, ranking_of}
use Rattle.regress_engine_linear.specs.Ranks.{IsBeyond, Lowers, Ranking}
use Rattle.regress_engine_linear.specs.declared.levels.Level.{Level}
use Rattle.regress_engine_ways.proofs.ExitAnswers.{after-there, body-before, body-here, further-next, next-there}
use Rattle.regress_engine_linear.proofs.Running.{further-on}
use Rattle.regress_engine_linear.proofs.WorkLemmas.{bit-elsewhere, bit-here, room-end}
use Rattle.regress_engine_ways.specs.Ways.{AreBeyondEndedAt, AreEndedAt, AreEndedFrom, AreExitsEndedAt, AreNearEndedAt, IsEndedAt, end_at, end_beyond, end_near, in_order, preferred, preferred_of, value_at}
use Rattle.regress_engine_ways.proofs.Ends.{AreEndsAhead, IsAhead, end-here}
use Rattle.regress_engine_ways.proofs.ExitEnds.{all-ended, exits-ended, single-ended}
use Rattle.regress_engine_ways.proofs.OnWay.{may-pass}
use Rattle.regress_engine_answers.specs.AnswerTables.{ends_by, exit_ends_by, exits_by, in_set, kept_in, told_by}
use Rattle.regress_engine_answers.specs.Ended.{IsEndKept, single_beyond, single_end}
use Rattle.regress_engine_answers.specs.Filled.{IsEndRight, IsExitEndRight, IsFilled, IsPast, way_of}
use Rattle.regress_engine_answers.specs.declared.answers.Answers.{Answers}
use Rattle.regress_engine_answers.proofs.FillLemmas.{calm-there, ends-ahead, index, to-right, value-right, way, within-ranks, worked}

-- What holds at an offset, and so of the next where it holds of one, holds of each that is come to one by one.
ones-each : (program : Program) (v : View) (dir : Direction) (i : Instruction) (P : ℕ → Type 0) → ((p q : ℕ) → P p → advance program (input_of v) i dir [] p ≡ Some q → P q)
    → (n p : ℕ) → P p → AllByRecursion P (one_by_one program (input_of v) n i dir [] p)
unfolding one_by_one
ones-each program v dir i P on zero p here = (here, tt)
ones-each program v dir i P on (suc n) p here = (here, by_next (advance program (input_of v) i dir [] p) refl (ones-each program v dir i P on n))
  where
    by_next : (x : Option ℕ) → advance program (input_of v) i dir [] p ≡ x → ((q : ℕ) → P q → AllByRecursion P (one_by_one program (input_of v) n i dir [] q))
        → AllByRecursion P (elim x [ None ↦ [] | Some q ↦ one_by_one program (input_of v) n i dir [] q ])
    by_next None e rest = tt
    by_next (Some q) e rest = rest q (on p q here e)

each-map : (P Q : ℕ → Type 0) → ((p : ℕ) → P p → Q p) → (os : List ℕ) → AllByRecursion P os → AllByRecursion Q os
each-map P Q on [] each = tt
each-map P Q on (o ∷ os) each = (on o each.0, each-map P Q on os each.1)

module _ (flow : Flow) (h : Heights) (v : View) (all : AreOfKind v.kind v.units) (program : Program) (suits : Suits program v) (linear : IsLinear flow h program)
    (short : suc (length v.units) < too_long) (a : Answers) (l : Level) (level : IsLevel h l) (k o : ℕ) (filled : IsFilled flow h program v a l k o) (from : l.from ≤ k) (to : k < l.to)
    (lies : o ≤ length v.units) where
  abbrev last : ℕ
  last = length v.units

  abbrev r : Ranking
  r = ranking_of h

  abbrev at : ℕ
  at = address_at h k

  abbrev dir : Direction
  dir = direction_of l.forward

  there : at < length h.ranks
  there = within-ranks flow h v all program suits linear short a l level k o filled from to lies

  way-in : forward_at h at ≡ l.forward
  way-in = way flow h v all program suits linear short a l level k o filled from to lies

  unpast : IsPast flow h program v l k o at o → ⊥
  unpast (inl less) = let e = index flow h v all program suits linear short a l level k o filled from to lies in omega (arith, less, e, from)
  unpast (inr (low, inl less)) = omega (arith, less)
  unpast (inr (low, inr (same, less))) = let e = index flow h v all program suits linear short a l level k o filled from to lies in omega (arith, less, e)

  module _ (a1 : Answers) (ends-same : a1.ends ≡ a.ends) (exit-ends-same : a1.exit_ends ≡ a.exit_ends) (within : outside_at h at < length h.ranks) where
    ahead : AreEndsAhead flow h program v dir (ends_by a1) at o
    ahead = subst (λ rows. AreEndsAhead flow h program v dir (λ b q. kept_in rows b q) at o) (sym ends-same) (ends-ahead flow h v all program suits linear short a l level k o filled from to lies)

    -- of what is no one-character loop
    module _ (i : Instruction) (here : Stands program at i) (reads : reads_character i ≡ true → IsAtPlace (reading_of v) o)
        (told-is : (b q : ℕ) → told_by a1 b q ≡ (told_by a b q || (((b == at) && (o == q)) && value_at (told_by a) (ends_by a) program (input_of v) dir i at o))) where
      abbrev value : Bool
      value = value_at (told_by a) (ends_by a) program (input_of v) dir i at o

      -- the address and the offset, or what is ahead of them, on the same level
      abbrev Past : (b q : ℕ) → Type 0
      Past b q = (level_at h b ≡ level_at h at) × (((b ≡ at) × (q ≡ o)) ⊎ IsAhead h last dir at o b q)

      right : (b q : ℕ) → b < length h.ranks → q ≤ last → direction_of (forward_at h b) ≡ dir → Past b q → IsAnswered flow r program v dir b q (told_by a1 b q)
      right b q low inside way' (same, inl (e, f)) =
          subst (λ x. IsAnswered flow r program v dir x q (told_by a1 x q)) (sym e)
          (subst (λ y. IsAnswered flow r program v dir at y (told_by a1 at y)) (sym f)
          (subst (IsAnswered flow r program v dir at o) (sym (told-is at o ∙ bit-here at o (told_by a at o) value fresh.0))
          (value-right flow h v all program suits linear short a l level k o filled from to lies i here reads)))
        where
          fresh : (told_by a at o ≡ false) × (exits_by a at o ≡ false)
          fresh = filled.fresh at o lies unpast
      right b q low inside way' (same, inr far) =
          subst (IsAnswered flow r program v dir b q) (sym (told-is b q ∙ bit-elsewhere at o b q (told_by a b q) value (other far)))
          (to-right flow h v all program suits linear short a l level k o filled from to lies b q low same inside far)
        where
          other : IsAhead h last dir at o b q → b ≡ at → q ≡ o → ⊥
          other (inl further) e f = let less = room-less last dir o q further in let same = ap (room last dir) f in omega (arith, less, same)
          other (inr (same, less)) e f = let same = ap (rank_at h) e in omega (arith, less, same)

      past-on : (s u : Whole) → Past s.at s.offset → IsBeyond r last dir s u → level_at h u.at ≡ level_at h s.at → Past u.at u.offset
      past-on s u (same, far) beyond level' = (level' ∙ same, inr (by_place far beyond))
        where
          by_place : ((s.at ≡ at) × (s.offset ≡ o)) ⊎ IsAhead h last dir at o s.at s.offset → IsBeyond r last dir s u → IsAhead h last dir at o u.at u.offset
          by_place (inl (e, f)) (inl further) = inl (subst (λ x. IsFurther last dir x u.offset) f further)
          by_place (inl (e, f)) (inr (here', less)) = let same = ap (rank_at h) e in inr (here' ∙ f, omega (arith, less, same))
          by_place (inr (inl past)) (inl further) = inl (further-on last dir o s.offset u.offset past further)
          by_place (inr (inl past)) (inr (here', less)) = inl (subst (IsFurther last dir o) (sym here') past)
          by_place (inr (inr (here', less))) (inl further) = inl (subst (λ x. IsFurther last dir x u.offset) here' further)
          by_place (inr (inr (here', less))) (inr (here'', less')) = inr (here'' ∙ here', omega (arith, less, less'))

      pub plain-ended : (hs : List Marks) → is_single i ≡ false
          → IsEndedAt flow h program v dir at o (if told_by a1 at o then end_at (told_by a1) (ends_by a1) program (input_of v) dir hs i at o else None)
      plain-ended hs plain =
          end-here flow h v all program suits (may-pass flow h program v linear short) dir (told_by a1) Past right past-on hs (ends_by a1) at o (refl, inl (refl, refl)) ahead
          there lies (ap direction_of way-in) within i here plain

    -- of a one-character loop
    module _ (least most : ℕ) (greedy : Bool) (i : Instruction) (here : Stands program at (code.single_loop least most greedy)) (stands : Stands program (suc at) i)
        (place : IsAtPlace (reading_of v) o) where
      repeated : IsRepeated program at i
      repeated =
          let (j, there', taking, order) = suits.closed at (code.single_loop least most greedy) here in
          (stands, subst (λ x. takes_character x ≡ true) (one_stands program (input_of v) (suc at) j i there' stands) taking)

      lowers : Lowers r least at (suc (suc at))
      lowers = linear.ranked at (code.single_loop least most greedy) (calm-there flow h v all program suits linear short at (code.single_loop least most greedy) here) here

      two : suc (suc at) ≡ at + 2
      two = omega arith

      -- behind as many characters as it needs an exit is ahead
      exit-ahead : (p : ℕ) → Takes last dir least o p → IsAhead h last dir at o (suc (suc at)) p
      exit-ahead p (inr further, less) = inl further
      exit-ahead p (inl same, less) = inr (same, by_rank lowers.rank)
        where
          by_rank : (1 ≤ least) ⊎ (rank_at h (suc (suc at)) < rank_at h at) → rank_at h (suc (suc at)) < rank_at h at
          by_rank (inl some) = let e = ap (room last dir) same in absurd (omega (arith, some, less, e))
          by_rank (inr lower) = lower

      -- where runs end from it is kept
      exit-ended : (p : ℕ) → IsAtPlace (reading_of v) p → IsAhead h last dir at o (suc (suc at)) p → IsEndedAt flow h program v dir (suc (suc at)) p (ends_by a1 (at + 2) p)
      exit-ended p place' far =
          subst (λ b. IsEndedAt flow h program v dir (suc (suc at)) p (ends_by a1 b p)) two
          (ahead (suc (suc at)) p far lowers.within (place-lies v all p place') lowers.level (subst (λ n. n < length h.ranks) (sym lowers.same) within))

      -- and from those behind it
      beyond-further : (p : ℕ) → IsAtPlace (reading_of v) p → IsFurther last dir o p → AreBeyondEndedAt flow h program v dir at greedy i p (exit_ends_by a1 at p)
      beyond-further p place' further =
          subst (λ rows. AreBeyondEndedAt flow h program v dir at greedy i p (kept_in rows at p)) (sym exit-ends-same)
          (subst (λ b. AreBeyondEndedAt flow h program v (direction_of b) at greedy i p (exit_ends_by a at p)) way-in
          ((filled.ends at p there (place-lies v all p place')
          (inr (let e = index flow h v all program suits linear short a l level k o filled from to lies in omega (arith, e, to), inl (room-less last dir o p further)))).1
          within least most greedy i here stands place'))

      further-takes : (p q : ℕ) → advance program (input_of v) i dir [] p ≡ Some q → IsFurther last dir p q
      further-takes p q e = further-next v all program suits dir at i repeated p q e

      pub beyond-ended : AreBeyondEndedAt flow h program v dir at greedy i o (single_beyond program v dir a1 at greedy i o)
      beyond-ended = by_next (advance program (input_of v) i dir [] o) refl
        where
          by_next : (x : Option ℕ) → advance program (input_of v) i dir [] o ≡ x
              → AreEndedFrom flow h program v dir at greedy i x (end_beyond (ends_by a1 (at + 2)) (exit_ends_by a1 at) greedy x)
          by_next None e = refl
          by_next (Some q) e =
              let further = further-takes o q e in
              let place' = next-there v all program suits dir at i repeated o place (Some q) (sym e) in
              all-ended flow h v program dir i (at, repeated) at greedy q (ends_by a1 (at + 2) q) (exit_ends_by a1 at q) (exit-ended q place' (inl further)) (beyond-further q place' further)

      abbrev Exits : ℕ → ℕ → Option ℕ → Type 0
      Exits n q end = (loops : List (ℕ × ℕ)) (groups : List Marks)
          → AreEndedAt flow h program v dir (at_each program (input_of v) (suc (suc at)) loops groups (in_order greedy (one_by_one program (input_of v) n i dir [] q))) end

      abbrev exit_ends_here : ℕ → Option ℕ
      exit_ends_here q = if q == o then single_beyond program v dir a1 at greedy i o else exit_ends_by a1 at q

      -- from so many characters on, of which there are few
      few-ended : (n q : ℕ) → IsAtPlace (reading_of v) q → Takes last dir least o q → Exits n q (preferred_of (ends_by a1 (at + 2)) greedy (one_by_one program (input_of v) n i dir [] q))
      few-ended n q place' takes loops groups =
          exits-ended flow h v program dir at greedy loops groups (ends_by a1 (at + 2)) (one_by_one program (input_of v) n i dir [] q)
          (each-map (λ p. IsAtPlace (reading_of v) p × Takes last dir least o p) (λ p. IsEndedAt flow h program v dir (suc (suc at)) p (ends_by a1 (at + 2) p))
          (λ p both. exit-ended p both.0 (exit-ahead p both.1)) (one_by_one program (input_of v) n i dir [] q)
          (ones-each program v dir i (λ p. IsAtPlace (reading_of v) p × Takes last dir least o p)
          (λ p p' both e. (
            next-there v all program suits dir at i repeated p both.0 (Some p') (sym e),
            takes-then last dir least 1 least o p p' (omega arith) both.1 (takes-one last dir p p' (further-takes p p' e)),
          )) n q (place', takes)))

      -- from as many as there are
      all-from : (q : ℕ) → IsAtPlace (reading_of v) q → Takes last dir least o q
          → AreExitsEndedAt flow h program v dir at greedy i q (preferred greedy (ends_by a1 (at + 2) q) (exit_ends_here q))
      all-from q place' takes =
          all-ended flow h v program dir i (at, repeated) at greedy q (ends_by a1 (at + 2) q) (exit_ends_here q) (exit-ended q place' (exit-ahead q takes)) (by_place (q == o) refl takes.0)
        where
          by_place : (b : Bool) → (q == o) ≡ b → (q ≡ o) ⊎ IsFurther last dir o q
              → AreBeyondEndedAt flow h program v dir at greedy i q (if b then single_beyond program v dir a1 at greedy i o else exit_ends_by a1 at q)
          by_place true same on =
              subst (λ x. AreBeyondEndedAt flow h program v dir at greedy i x (single_beyond program v dir a1 at greedy i o)) (sym (eqb-true q o same)) beyond-ended
          by_place false other (inl same) = absurd (eqb-false q o other same)
          by_place false other (inr further) = beyond-further q place' further

      pub loop-ended : IsEndedAt flow h program v dir at o (single_end program v dir a1 at least most greedy i o)
      loop-ended =
          single-ended flow h v all program suits (may-pass flow h program v linear short) dir at o least most greedy here i repeated place (single_end program v dir a1 at least most greedy i o)
          (by_near (after_times program (input_of v) least i dir [] o) refl)
        where
          end_of : Option ℕ → Option ℕ
          end_of x = end_near (ends_by a1 (at + 2)) exit_ends_here program (input_of v) dir greedy i (most - least) last x

          by_times : (b : Bool) (q : ℕ) → nat_lt (most - least) last ≡ b → IsAtPlace (reading_of v) q → Takes last dir least o q
              → Exits (most - least) q (if b then preferred_of (ends_by a1 (at + 2)) greedy (one_by_one program (input_of v) (most - least) i dir [] q)
              else preferred greedy (ends_by a1 (at + 2) q) (exit_ends_here q))
          by_times true q few place' takes = few-ended (most - least) q place' takes
          by_times false q many place' takes =
              let low = room-end last dir q (place-lies v all q place') in
              all-from q place' takes (most - least) (by_order (cases_lt (most - least) last) low)
            where
              by_order : ((most - least) < last) ⊎ (last ≤ (most - least)) → room last dir q ≤ last → room last dir q ≤ most - least
              by_order (inl less) low = let never : true ≡ false = sym (lt-is less) ∙ many in absurd (cc never)
                where
                  lt-is : (most - least) < last → nat_lt (most - least) last ≡ true
                  lt-is less = lt-ltb (most - least) last less
              by_order (inr enough) low = omega (arith, enough, low)

          by_near : (x : Option ℕ) → after_times program (input_of v) least i dir [] o ≡ x → AreNearEndedAt flow h program v dir at greedy i (most - least) x (end_of x)
          by_near None e = refl
          by_near (Some q) e =
              let on = after-on v all program suits dir [] (suc (suc at)) i (body-before v all program suits dir at i repeated) repeated.1 least o q
              (body-here v all program suits dir at i repeated o place) e in
              by_times (nat_lt (most - least) last) q refl (after-there v all program suits dir at i repeated least o q place e).1 on.0

  -- ---- the table with what was worked out, and where runs end

  module _ (i : Instruction) (here : Stands program at i) (reads : reads_character i ≡ true → IsAtPlace (reading_of v) o) (a1 : Answers)
      (told-is : (b q : ℕ) → told_by a1 b q ≡ (told_by a b q || (((b == at) && (o == q)) && value_at (told_by a) (ends_by a) program (input_of v) dir i at o)))
      (exits-are : (b q : ℕ) → exits_by a1 b q ≡ (exits_by a b q || (((b == at) && (o == q)) && exits_value_at (told_by a) (exits_by a) program (input_of v) dir i at o)))
      (ends-same : a1.ends ≡ a.ends) (exit-ends-same : a1.exit_ends ≡ a.exit_ends) where
    -- outside of atomic groups nothing is kept
    pub worked-outside : (outside_at h at < length h.ranks → ⊥) → IsFilled flow h program v a1 l (suc k) o
    worked-outside out =
        worked flow h v all program suits linear short a l level k o filled from to lies i here reads a1 told-is exits-are
        (λ b q other. (ap (λ rows. kept_in rows b q) ends-same, ap (λ rows. kept_in rows b q) exit-ends-same))
        (λ within. absurd (out within), λ within. absurd (out within))

    module _ (a2 : Answers) (offsets : a2.offsets ≡ a1.offsets) (exits : a2.exits ≡ a1.exits) (hs : List Marks) (kept : IsEndKept program v dir hs at o a1 a2) where
      ends-right : IsEndRight flow h program v a2 at o × IsExitEndRight flow h program v a2 at o
      ends-right = (
        λ within. subst (λ b. IsEndedAt flow h program v (direction_of b) at o (ends_by a2 at o)) (sym way-in) (by_kind within i here told-is reads),
        λ within least most greedy body single stands place.
            subst (λ b. AreBeyondEndedAt flow h program v (direction_of b) at greedy body o (exit_ends_by a2 at o)) (sym way-in)
            (subst (AreBeyondEndedAt flow h program v dir at greedy body o) (sym (kept.single least most greedy body single stands).0)
            (beyond-ended a1 ends-same exit-ends-same within least most greedy body single stands place)),
      )
        where
          by_kind : outside_at h at < length h.ranks → (i : Instruction) → Stands program at i
              → ((b q : ℕ) → told_by a1 b q ≡ (told_by a b q || (((b == at) && (o == q)) && value_at (told_by a) (ends_by a) program (input_of v) dir i at o)))
              → (reads_character i ≡ true → IsAtPlace (reading_of v) o) → IsEndedAt flow h program v dir at o (ends_by a2 at o)
          by_kind within (code.single_loop least most greedy) single told-is' reads' =
              let (j, stands, takes, order) = suits.closed at (code.single_loop least most greedy) single in
              subst (IsEndedAt flow h program v dir at o) (sym (kept.single least most greedy j single stands).1)
              (loop-ended a1 ends-same exit-ends-same within least most greedy j single stands (reads' refl))
          by_kind within i there' told-is' reads' =
              subst (IsEndedAt flow h program v dir at o) (sym (kept.plain i there' refl)) (plain-ended a1 ends-same exit-ends-same within i there' reads' told-is' hs refl)

      pub worked-inside : IsFilled flow h program v a2 l (suc k) o
      worked-inside =
          worked flow h v all program suits linear short a l level k o filled from to lies i here reads a2
          (λ b q. ap (λ (os : Vec Bits). in_set (slice_get os.items b) q) offsets ∙ told-is b q)
          (λ b q. ap (λ (os : Vec Bits). in_set (slice_get os.items b) q) exits ∙ exits-are b q)
          (λ b q other. (kept.ends b q other ∙ ap (λ rows. kept_in rows b q) ends-same, kept.exit_ends b q other ∙ ap (λ rows. kept_in rows b q) exit-ends-same))
          ends-right
