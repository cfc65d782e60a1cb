-- A state that is under one that has no answer has none.
use Rattle.std.specs.Prelude.{slice_get, slice_set, nat_lt, nat_le, IfSome}
use Rattle.std.proofs.Common.{◌≡◌, ℕ, suc, ◌+◌, ◌<◌, ◌≤◌, ◌⊎◌, inl, inr, ◌&&◌, ◌==◌, Bool, true, false, List, [], ◌∷◌, ◌++◌, length, get_or, Option, Some, None, if◌then◌else◌, refl, sym, ap, ap₂, ◌∙◌, subst, arith, length-set}
use Rattle.std.proofs.lemmas.Bool.{lt-ltb, le-ltb, ne_eqb, eq-eqb}
use Rattle.std.proofs.lemmas.Bool.Decides.{nat_tests}
use Rattle.regress_meaning.specs.Meaning.{Direction}
use Rattle.regress_meaning.specs.Inputs.{Input}
use Rattle.regress_front_nodes.specs.Trees.{Submatch, lookaround, atomic}
use Rattle.regress_front_nodes.specs.TreeMeaning.{submatch_direction}
use Rattle.regress_engine_insn.specs.Instructions.{LoopFields, Instruction, Program, Stands, surplus}
use Rattle.regress_engine_insn.specs.Instructions as code
use Rattle.regress_engine_runs.specs.States.{Marks, Whole, onward, mixed}
use Rattle.regress_engine_runs.specs.Runs.{room, Run, ends, finds, goes, looks, successors, after_submatch, moved_to, ordered, choices, one_more, count_of, is_idle, advance, counted}
use Rattle.regress_engine_runs.specs.Meets.{now, later, inside, behind, referred}
use Rattle.regress_engine_runs.specs.UndoStack.{Fails, IsPast, whole, at_each}
use Rattle.regress_engine_search.proofs.InsnLemmas.{again-successors}
use Rattle.regress_engine_memory.specs.Flow.{Flow, Hands, IsToldOf, Flows, IsFlow}
use Rattle.regress_engine_memory.specs.Agreeing.{Agrees, EndAlike}
use Rattle.regress_engine_memory.specs.Under.{IsFurther, IsOnward, AreOnward, HasMoved, IsLoose, Covers, IsUnder, AreUnder}
use Rattle.regress_engine_memory.specs.Keys.{IsSteady}
use Rattle.regress_engine_memory.proofs.LoopData.{set-both}
use Rattle.regress_engine_memory.proofs.Unreferring.{advance-any, counted-any}
use Rattle.regress_engine_memory.proofs.SameRuns.{same-run}
use Rattle.regress_engine_memory.proofs.Onward.{room-less, past-on, further-past, past-differs, flows-unreferring, ends-onward}

-- an iteration that has begun here past the least number is idle
idle-here : (least o : ℕ) (x : ℕ × ℕ) → least < x.0 → x.1 ≡ o → (nat_lt least x.0 && (x.1 == o)) ≡ true
idle-here least o x past here = ap₂ (λ (a b : Bool). a && b) (lt-ltb least x.0 past) (eq-eqb x.1 o here)

-- one that has taken something, or that is not past it, is not
busy : (least : ℕ) (dir : Direction) (o : ℕ) (y : ℕ × ℕ) → (y.0 ≤ least) ⊎ IsPast dir y.1 o → (nat_lt least y.0 && (y.1 == o)) ≡ false
busy least dir o y (inl few) = ap (λ (b : Bool). b && (y.1 == o)) (le-ltb least y.0 few)
busy least dir o y (inr past) = by_test (nat_lt least y.0) (ne_eqb y.1 o (past-differs dir y.1 o past))
  where
    by_test : (b : Bool) → (y.1 == o) ≡ false → (b && (y.1 == o)) ≡ false
    by_test true e = e
    by_test false e = refl

module _ (flow : Flow) (last : ℕ) (dir : Direction) where
  abbrev Under : Whole → Whole → Type 0
  Under s t = IsUnder flow last dir s t

  abbrev AllUnder : List Whole → List Whole → Type 0
  AllUnder ss ts = AreUnder flow last dir ss ts

  -- ---- some states under some others

  pub under-none : (ts : List Whole) → AllUnder [] ts
  under-none [] = tt
  under-none (t ∷ ts) = tt

  pub under-more : (t : Whole) (ss ts : List Whole) → AllUnder ss ts → AllUnder ss (t ∷ ts)
  under-more t [] ts rest = tt
  under-more t (s ∷ ss) ts rest = inr rest

  pub under-skip : (xs ss ts : List Whole) → AllUnder ss ts → AllUnder ss (xs ++ ts)
  under-skip [] ss ts rest = rest
  under-skip (x ∷ xs) ss ts rest = under-more x ss (xs ++ ts) (under-skip xs ss ts rest)

  pub under-append : (ys xs ss ts : List Whole) → AllUnder xs ys → AllUnder ss ts → AllUnder (xs ++ ss) (ys ++ ts)
  under-append [] [] ss ts first rest = rest
  under-append [] (x ∷ xs) ss ts first rest = absurd first
  under-append (y ∷ ys) [] ss ts first rest = under-more y ss (ys ++ ts) (under-append ys [] ss ts (under-none ys) rest)
  under-append (y ∷ ys) (x ∷ xs) ss ts (inl both) rest = inl (both.0, under-append ys xs ss ts both.1 rest)
  under-append (y ∷ ys) (x ∷ xs) ss ts (inr skipped) rest = inr (under-append ys (x ∷ xs) ss ts skipped rest)

  -- the same tests
  under-ordered : (g m o : Bool) (s t u v : Whole) → Under s u → Under t v → AllUnder (ordered g m o s t) (ordered g m o u v)
  under-ordered true true true s t u v first second = inl (first, inl (second, tt))
  under-ordered true true false s t u v first second = inl (first, tt)
  under-ordered true false true s t u v first second = inl (second, tt)
  under-ordered true false false s t u v first second = tt
  under-ordered false true true s t u v first second = inl (second, inl (first, tt))
  under-ordered false true false s t u v first second = inl (first, tt)
  under-ordered false false true s t u v first second = inl (second, tt)
  under-ordered false false false s t u v first second = tt

  -- both may be done by the second
  under-both : (g m o : Bool) (s t u v : Whole) → Under s u → Under t v → AllUnder (ordered g m o s t) (ordered g true true u v)
  under-both true true true s t u v first second = inl (first, inl (second, tt))
  under-both true true false s t u v first second = inl (first, tt)
  under-both true false true s t u v first second = inr (inl (second, tt))
  under-both true false false s t u v first second = tt
  under-both false true true s t u v first second = inl (second, inl (first, tt))
  under-both false true false s t u v first second = inr (inl (first, tt))
  under-both false false true s t u v first second = inl (second, tt)
  under-both false false false s t u v first second = tt

  under-idle : (b : Bool) (ss ts : List Whole) → AllUnder ss ts → AllUnder (if b then [] else ss) (if b then [] else ts)
  under-idle true ss ts both = tt
  under-idle false ss ts both = both

  -- ---- the data of loops

  -- further on
  moved-on : (id o q : ℕ) (y : ℕ × ℕ) → IsFurther last dir o q → HasMoved flow last id dir o y → HasMoved flow last id dir q y
  moved-on id o q y further (inl few) = inl few
  moved-on id o q y further (inr past) = inr (past-on last dir y.1 o q past further)

  covers-on : (id o q : ℕ) (x y : ℕ × ℕ) → IsOnward last dir o q → Covers flow last id dir o x y → Covers flow last id dir q x y
  covers-on id o q x y (inl same) covers = subst (λ p. Covers flow last id dir p x y) (sym same) covers
  covers-on id o q x y (inr further) (inl same) = inl same
  covers-on id o q x y (inr further) (inr (inl even)) = inr (inl (record { counts = even.counts; moved = moved-on id o q y further even.moved }))
  covers-on id o q x y (inr further) (inr (inr (inl loose))) =
      let less = room-less last dir o q further in
      let more = loose.more in
      inr (inr (inl (record { begun = loose.begun; enough = loose.enough; more = omega (arith, less, more); moved = moved-on id o q y further loose.moved })))
  covers-on id o q x y (inr further) (inr (inr (inr fresh))) =
      let less = room-less last dir o q further in
      let more = fresh.more in
      let begun = fresh.begun in
      let past : IsPast dir y.1 q = subst (λ e. IsPast dir e q) (sym fresh.entered) (further-past last dir o q further) in
      inr (inr (inl (record { begun = omega (arith, begun); enough = fresh.enough; more = omega (arith, less, more); moved = inr past })))

  -- one more iteration begins of both
  covers-begun : (id o : ℕ) (x y : ℕ × ℕ) → IsLoose flow last id dir o x y → Covers flow last id dir o (suc x.0, o) (suc y.0, o)
  covers-begun id o x y loose =
      let begun = loose.begun in
      let enough = loose.enough in
      let more = loose.more in
      inr (inr (inr (record { begun = omega (arith, begun); here = refl; enough = omega (arith, enough); more = omega (arith, more); entered = refl })))

  module _ (program : Program) (input : Input) (o : ℕ) (ls ms : List (ℕ × ℕ)) (gs hs : List Marks) (size : length ls ≡ length ms) where
    abbrev Data : ℕ → Type 0
    Data id = Covers flow last id dir o (get_or ls id (0, 0)) (get_or ms id (0, 0))

    -- one more iteration, by what holds of the data of its loop then
    more-under : (id at begin : ℕ) → flow.calm (suc begin) ≡ true → ((k : ℕ) → (k ≡ id → ⊥) → flow.live (suc begin) k ≡ true → Data k)
        → Covers flow last id dir o (suc (get_or ls id (0, 0)).0, o) (suc (get_or ms id (0, 0)).0, o)
        → Under (one_more id begin (whole at o ls gs)) (one_more id begin (whole at o ms hs))
    more-under id at begin calm others covers =
        let x : ℕ × ℕ = (suc (get_or ls id (0, 0)).0, o) in
        let y : ℕ × ℕ = (suc (get_or ms id (0, 0)).0, o) in
        record {
          calm = calm;
          at = refl;
          offset = refl;
          size = length-set ls id x ∙ size ∙ sym (length-set ms id y);
          loops = λ k l. set-both (Covers flow last k dir o) ls ms id k x y size (λ z. inl refl) (λ e. subst (λ j. Covers flow last j dir o x y) (sym e) covers) (λ ne. others k ne l);
        }

    out-under : (at exit : ℕ) → flow.calm exit ≡ true → ((k : ℕ) → flow.live exit k ≡ true → Data k) → Under (whole exit o ls gs) (whole exit o ms hs)
    out-under at exit calm others = record { calm = calm; at = refl; offset = refl; size = size; loops = others }

    -- a repetition goes on where as many iterations have begun
    same-choices : (f : LoopFields) (at begin : ℕ) → (get_or ls f.loop_id (0, 0)).0 ≡ (get_or ms f.loop_id (0, 0)).0
        → flow.calm (suc begin) ≡ true → ((k : ℕ) → (k ≡ f.loop_id → ⊥) → flow.live (suc begin) k ≡ true → Data k)
        → flow.calm f.exit ≡ true → ((k : ℕ) → flow.live f.exit k ≡ true → Data k)
        → AllUnder (choices f begin (whole at o ls gs)) (choices f begin (whole at o ms hs))
    same-choices f at begin entries calm others calm-out out =
        let s : Whole = whole at o ls gs in
        let t : Whole = whole at o ms hs in
        let id : ℕ = f.loop_id in
        let count : count_of id s ≡ count_of id t = entries in
        let are : ◌≡◌ {A = ℕ × ℕ} (suc (get_or ls id (0, 0)).0, o) (suc (get_or ms id (0, 0)).0, o) = ap (λ (n : ℕ). (suc n, o)) count in
        let more : Under (one_more id begin s) (one_more id begin t) = more-under id at begin calm others (inl are) in
        let leaves : Under (record s { at = f.exit }) (record t { at = f.exit }) = out-under at f.exit calm-out out in
        subst (λ n. AllUnder (ordered f.greedy (nat_lt n f.most) (nat_le f.least n) (one_more id begin s) (record s { at = f.exit })) (choices f begin t)) (sym count)
        (under-ordered f.greedy (nat_lt (count_of id t) f.most) (nat_le f.least (count_of id t)) (one_more id begin s) (record s { at = f.exit }) (one_more id begin t) (record t { at = f.exit }) more leaves)

    -- or where nothing keeps the second data from anything
    loose-choices : (f : LoopFields) (at begin : ℕ) → IsToldOf flow f → IsLoose flow last f.loop_id dir o (get_or ls f.loop_id (0, 0)) (get_or ms f.loop_id (0, 0))
        → flow.calm (suc begin) ≡ true → ((k : ℕ) → (k ≡ f.loop_id → ⊥) → flow.live (suc begin) k ≡ true → Data k)
        → flow.calm f.exit ≡ true → ((k : ℕ) → flow.live f.exit k ≡ true → Data k)
        → AllUnder (choices f begin (whole at o ls gs)) (choices f begin (whole at o ms hs))
    loose-choices f at begin told loose calm others calm-out out =
        let s : Whole = whole at o ls gs in
        let t : Whole = whole at o ms hs in
        let id : ℕ = f.loop_id in
        let least = told.least in
        let most = told.most in
        let enough = loose.enough in
        let room-left = loose.more in
        let may-more : nat_lt (count_of id t) f.most ≡ true = lt-ltb (count_of id t) f.most (omega (arith, most, room-left)) in
        let may-out : nat_le f.least (count_of id t) ≡ true = let few : f.least ≤ count_of id t = omega (arith, least, enough) in grind (arith, nat_tests) in
        let more : Under (one_more id begin s) (one_more id begin t) = more-under id at begin calm others (covers-begun id o (get_or ls id (0, 0)) (get_or ms id (0, 0)) loose) in
        let leaves : Under (record s { at = f.exit }) (record t { at = f.exit }) = out-under at f.exit calm-out out in
        subst (λ b. AllUnder (choices f begin s) (ordered f.greedy b (nat_le f.least (count_of id t)) (one_more id begin t) (record t { at = f.exit }))) (sym may-more)
        (subst (λ b. AllUnder (choices f begin s) (ordered f.greedy true b (one_more id begin t) (record t { at = f.exit }))) (sym may-out)
        (under-both f.greedy (nat_lt (count_of id s) f.most) (nat_le f.least (count_of id s)) (one_more id begin s) (record s { at = f.exit }) (one_more id begin t) (record t { at = f.exit }) more leaves))

    module _ (at : ℕ) (entries : (id : ℕ) → flow.live at id ≡ true → Data id) where
      handed : (b : ℕ) → Hands flow at b → (gs' hs' : List Marks) → Under (whole b o ls gs') (whole b o ms hs')
      handed b hands gs' hs' = record { calm = hands.calm; at = refl; offset = refl; size = size; loops = λ id l. entries id (hands.live id l) }

      -- at an offset further on
      handed-on : (b q : ℕ) → IsOnward last dir o q → Hands flow at b → Under (whole b q ls gs) (whole b q ms hs)
      handed-on b q on hands = record {
        calm = hands.calm;
        at = refl;
        offset = refl;
        size = size;
        loops = λ id l. covers-on id o q (get_or ls id (0, 0)) (get_or ms id (0, 0)) on (entries id (hands.live id l));
      }

      moved : Hands flow at (suc at) → (x : Option ℕ) → AreOnward last dir o (moved_to (whole at o ms hs) x) → AllUnder (moved_to (whole at o ls gs) x) (moved_to (whole at o ms hs) x)
      moved hands None on = tt
      moved hands (Some q) on = inl (handed-on (suc at) q on.0 hands, tt)

      moved-any : Hands flow at (suc at) → (x y : Option ℕ) → x ≡ y → AreOnward last dir o (moved_to (whole at o ms hs) y) → AllUnder (moved_to (whole at o ls gs) x) (moved_to (whole at o ms hs) y)
      moved-any hands x y e on = subst (λ z. AllUnder (moved_to (whole at o ls gs) z) (moved_to (whole at o ms hs) y)) (sym e) (moved hands y on)

      each : (b : ℕ) → Hands flow at b → (os : List ℕ) → AreOnward last dir o (at_each program input b ms hs os) → AllUnder (at_each program input b ls gs os) (at_each program input b ms hs os)
      each b hands [] on = tt
      each b hands (q ∷ os) on = inl (handed-on b q on.0 hands, each b hands os on.1)

      bodies : (least most : ℕ) (greedy : Bool) → Hands flow at (suc (suc at)) → (x : Option Instruction) → ((i : Instruction) → x ≡ Some i → referred i ≡ None)
          → AreOnward last dir o (elim x [ None ↦ [] | Some i ↦ at_each program input (suc (suc at)) ms hs (counted program input least most greedy i dir hs o) ])
          → AllUnder (elim x [ None ↦ [] | Some i ↦ at_each program input (suc (suc at)) ls gs (counted program input least most greedy i dir gs o) ])
          (elim x [ None ↦ [] | Some i ↦ at_each program input (suc (suc at)) ms hs (counted program input least most greedy i dir hs o) ])
      bodies least most greedy hands None calm on = tt
      bodies least most greedy hands (Some i) calm on =
          subst (λ os. AllUnder (at_each program input (suc (suc at)) ls gs os) (at_each program input (suc (suc at)) ms hs (counted program input least most greedy i dir hs o)))
          (sym (counted-any program input i dir gs hs (calm i refl) least most greedy o))
          (each (suc (suc at)) hands (counted program input least most greedy i dir hs o) on)

      ends-iteration : (begin : ℕ) → Flows flow program at (code.loop_again begin)
          → AllUnder (successors program input (code.loop_again begin) dir (whole at o ls gs)) (successors program input (code.loop_again begin) dir (whole at o ms hs))
      ends-iteration begin (f, there, told, live, writes, hands) =
          subst (λ xs. AllUnder xs (successors program input (code.loop_again begin) dir t)) (sym (again-successors program input dir s begin f there))
          (subst (AllUnder (if is_idle f s then [] else choices f begin s)) (sym (again-successors program input dir t begin f there))
          (by_data (entries f.loop_id live)))
        where
          s : Whole
          s = whole at o ls gs

          t : Whole
          t = whole at o ms hs

          x : ℕ × ℕ
          x = get_or ls f.loop_id (0, 0)

          y : ℕ × ℕ
          y = get_or ms f.loop_id (0, 0)

          others : (k : ℕ) → (k ≡ f.loop_id → ⊥) → flow.live (suc begin) k ≡ true → Data k
          others k ne l = entries k (writes.live k ne l)

          out : (k : ℕ) → flow.live f.exit k ≡ true → Data k
          out k l = entries k (hands.live k l)

          by_idle : (b : Bool) → AllUnder (choices f begin s) (choices f begin t) → AllUnder (if b then [] else choices f begin s) (choices f begin t)
          by_idle true rest = under-none (choices f begin t)
          by_idle false rest = rest

          is-busy : HasMoved flow last f.loop_id dir o (get_or ms f.loop_id (0, 0)) → is_idle f t ≡ false
          is-busy (inl few) = let least = told.least in busy f.least dir o (get_or ms f.loop_id (0, 0)) (inl (omega (arith, few, least)))
          is-busy (inr past) = busy f.least dir o (get_or ms f.loop_id (0, 0)) (inr past)

          by_data : Covers flow last f.loop_id dir o (get_or ls f.loop_id (0, 0)) (get_or ms f.loop_id (0, 0))
              → AllUnder (if is_idle f s then [] else choices f begin s) (if is_idle f t then [] else choices f begin t)
          by_data (inl same) =
              let idle : is_idle f s ≡ is_idle f t = ap (λ (x : ℕ × ℕ). nat_lt f.least x.0 && (x.1 == o)) same in
              subst (λ b. AllUnder (if b then [] else choices f begin s) (if is_idle f t then [] else choices f begin t)) (sym idle)
              (under-idle (is_idle f t) (choices f begin s) (choices f begin t) (same-choices f at begin (ap (λ (x : ℕ × ℕ). x.0) same) writes.calm others hands.calm out))
          by_data (inr (inl even)) =
              subst (λ b. AllUnder (if is_idle f s then [] else choices f begin s) (if b then [] else choices f begin t)) (sym (is-busy even.moved))
              (by_idle (is_idle f s) (same-choices f at begin even.counts writes.calm others hands.calm out))
          by_data (inr (inr (inl loose))) =
              subst (λ b. AllUnder (if is_idle f s then [] else choices f begin s) (if b then [] else choices f begin t)) (sym (is-busy loose.moved))
              (by_idle (is_idle f s) (loose-choices f at begin told loose writes.calm others hands.calm out))
          by_data (inr (inr (inr fresh))) =
              let least = told.least in
              let begun = fresh.begun in
              let idle : is_idle f s ≡ true = idle-here f.least o (get_or ls f.loop_id (0, 0)) (omega (arith, begun, least)) fresh.here in
              subst (λ b. AllUnder (if b then [] else choices f begin s) (if is_idle f t then [] else choices f begin t)) (sym idle)
              (under-none (if is_idle f t then [] else choices f begin t))

  -- The successors of a state are under those of one that it is under.
  pub under-on : (program : Program) (input : Input) (o : ℕ) (ls ms : List (ℕ × ℕ)) (gs hs : List Marks) → length ls ≡ length ms → (at : ℕ)
      → ((id : ℕ) → flow.live at id ≡ true → Covers flow last id dir o (get_or ls id (0, 0)) (get_or ms id (0, 0))) → (i : Instruction) → Flows flow program at i
      → AreOnward last dir o (successors program input i dir (whole at o ms hs))
      → AllUnder (successors program input i dir (whole at o ls gs)) (successors program input i dir (whole at o ms hs))
  under-on program input o ls ms gs hs size at entries code.goal flows on = tt
  under-on program input o ls ms gs hs size at entries code.fail flows on = tt
  under-on program input o ls ms gs hs size at entries (code.submatch kind first high continuation) flows on = tt
  under-on program input o ls ms gs hs size at entries (code.back k icase) flows on = absurd flows
  under-on program input o ls ms gs hs size at entries (code.jump a) flows on = inl (handed program input o ls ms gs hs size at entries a flows gs hs, tt)
  under-on program input o ls ms gs hs size at entries (code.alt a) flows on =
      inl (handed program input o ls ms gs hs size at entries (suc at) flows.0 gs hs, inl (handed program input o ls ms gs hs size at entries a flows.1 gs hs, tt))
  under-on program input o ls ms gs hs size at entries (code.begin_group k) flows on = inl (handed program input o ls ms gs hs size at entries (suc at) flows _ _, tt)
  under-on program input o ls ms gs hs size at entries (code.end_group k) flows on = inl (handed program input o ls ms gs hs size at entries (suc at) flows _ _, tt)
  under-on program input o ls ms gs hs size at entries (code.reset_group k) flows on = inl (handed program input o ls ms gs hs size at entries (suc at) flows _ _, tt)
  under-on program input o ls ms gs hs size at entries (code.enter_loop f) (told, writes, leaves) on =
      let begun : ℕ × ℕ = (surplus f.least (room (length input.units) dir o), o) in
      let id : ℕ = f.loop_id in
      let other : (k : ℕ) → ((k ≡ id → ⊥) → Covers flow last k dir o (get_or ls k (0, 0)) (get_or ms k (0, 0)))
      → Covers flow last k dir o (get_or (slice_set ls id begun) k (0, 0)) (get_or (slice_set ms id begun) k (0, 0)) =
      λ k there. set-both (Covers flow last k dir o) ls ms id k begun begun size (λ z. inl refl) (λ e. inl refl) there in
      let same : get_or (slice_set ls id begun) id (0, 0) ≡ get_or (slice_set ms id begun) id (0, 0) =
      set-both (λ x y. x ≡ y) ls ms id id begun begun size (λ z. refl) (λ e. refl) (λ ne. absurd (ne refl)) in
      same-choices program input o (slice_set ls id begun) (slice_set ms id begun) gs hs (length-set ls id begun ∙ size ∙ sym (length-set ms id begun)) f at at (ap (λ (x : ℕ × ℕ). x.0) same)
      writes.calm (λ k ne l. other k (λ ne'. entries k (writes.live k ne l)))
      leaves.calm (λ k l. other k (λ ne. entries k (leaves.live k ne l)))
  under-on program input o ls ms gs hs size at entries (code.loop_again begin) flows on = ends-iteration program input o ls ms gs hs size at entries begin flows
  under-on program input o ls ms gs hs size at entries (code.single_loop least most greedy) flows on =
      bodies program input o ls ms gs hs size at entries least most greedy flows.0 (slice_get program.instructions (suc at)) flows.1 on
  under-on program input o ls ms gs hs size at entries i flows on =
      moved-any program input o ls ms gs hs size at entries flows (advance program input i dir gs o) (advance program input i dir hs o) (advance-any program input i dir gs hs o refl) on

  -- what follows a lookaround or an atomic group, by answers that end alike: the second one ends onward
  under-behind : (kind : Submatch) (first high continuation : ℕ) (s t : Whole) (p q : Option Whole) → EndAlike p q → s.offset ≡ t.offset
      → IfSome q (λ w. IsOnward last (submatch_direction kind dir) t.offset w.offset)
      → ((o : ℕ) (gs hs : List Marks) → IsOnward last dir t.offset o → Under (whole continuation o s.loops gs) (whole continuation o t.loops hs))
      → AllUnder (after_submatch kind first high continuation s p) (after_submatch kind first high continuation t q)
  under-behind kind first high continuation s t p q alike here within on = by_answers kind p q alike within
    where
      -- at offsets that are the same
      both : (a b : ℕ) (gs hs : List Marks) → a ≡ b → IsOnward last dir t.offset b → Under (whole continuation a s.loops gs) (whole continuation b t.loops hs)
      both a b gs hs same onwards = subst (λ c. Under (whole continuation c s.loops gs) (whole continuation b t.loops hs)) (sym same) (on b gs hs onwards)

      by_answers : (kind : Submatch) (p q : Option Whole) → EndAlike p q → IfSome q (λ w. IsOnward last (submatch_direction kind dir) t.offset w.offset)
          → AllUnder (after_submatch kind first high continuation s p) (after_submatch kind first high continuation t q)
      by_answers (lookaround true backward) None None same within = inl (both s.offset t.offset s.groups t.groups here (inl refl), tt)
      by_answers (lookaround true backward) (Some v) (Some w) same within = tt
      by_answers (lookaround false backward) None None same within = tt
      by_answers (lookaround false backward) (Some v) (Some w) same within =
          inl (both s.offset t.offset (mixed 0 first high v.groups s.groups) (mixed 0 first high w.groups t.groups) here (inl refl), tt)
      by_answers atomic None None same within = tt
      by_answers atomic (Some v) (Some w) same within = inl (both v.offset w.offset (mixed 0 first high v.groups s.groups) (mixed 0 first high w.groups t.groups) same within, tt)
      by_answers _ (Some v) None same within = absurd same
      by_answers _ None (Some w) same within = absurd same

module _ (flow : Flow) (last : ℕ) (program : Program) (input : Input) (closed : IsFlow flow program) where
  -- the same, where the states are told otherwise
  under-step : (dir : Direction) (i : Instruction) (s t : Whole) → IsUnder flow last dir s t → Stands program t.at i → AreOnward last dir t.offset (successors program input i dir t)
      → AreUnder flow last dir (successors program input i dir s) (successors program input i dir t)
  under-step dir i s t both here on =
      subst (λ (x : ℕ × ℕ). AreUnder flow last dir (successors program input i dir (whole x.0 x.1 s.loops s.groups)) (successors program input i dir t))
      (ap₂ (λ (a o : ℕ). (a, o)) (sym both.at) (sym both.offset))
      (under-on flow last dir program input t.offset s.loops t.loops s.groups t.groups both.size t.at both.loops i (closed t.at i both.calm here) on)

  -- behind a lookaround or an atomic group the data of loops outside are as they were, and cover each other further on
  under-outside : (dir : Direction) (kind : Submatch) (first high continuation : ℕ) (s t : Whole) → IsUnder flow last dir s t → Stands program t.at (code.submatch kind first high continuation)
      → (o : ℕ) (gs hs : List Marks) → IsOnward last dir t.offset o → IsUnder flow last dir (whole continuation o s.loops gs) (whole continuation o t.loops hs)
  under-outside dir kind first high continuation s t both here o gs hs on =
      let (anew, hands) = closed t.at (code.submatch kind first high continuation) both.calm here in
      record {
        calm = hands.calm;
        at = refl;
        offset = refl;
        size = both.size;
        loops = λ id l. covers-on flow last dir id t.offset o (get_or s.loops id (0, 0)) (get_or t.loops id (0, 0)) on (both.loops id (hands.live id l));
      }

  -- inside, nothing is asked of the loops: states agree
  under-inside : (dir : Direction) (kind : Submatch) (first high continuation : ℕ) (s t : Whole) → IsUnder flow last dir s t → Stands program t.at (code.submatch kind first high continuation)
      → Agrees flow (onward s) (onward t)
  under-inside dir kind first high continuation s t both here =
      let (anew, hands) = closed t.at (code.submatch kind first high continuation) both.calm here in
      record { calm = anew.calm; at = ap suc both.at; offset = both.offset; size = both.size; loops = λ id l. absurd (anew.silent id l) }

  -- States that are under some that have no answer have none.
  pub less-fails : {dir : Direction} {ts : List Whole} {n : ℕ} {r : Option Whole} → Run program input dir ts n r → r ≡ None → IsSteady program input last dir ts
      → (ss : List Whole) → AreUnder flow last dir ss ts → Fails program input dir ss
  less-fails run none steady [] under = (0, ends)
  less-fails ends none steady (s ∷ ss) under = absurd under
  less-fails (finds here) none steady (s ∷ ss) under = absurd (cc)
  less-fails (goes {dir = dir} {i = i} {s = t} {ss = ts} here plain next) none steady (s ∷ ss) (inl both) =
      let rest = less-fails next none (λ u j met. steady u j (later here plain met)) (successors program input i dir s ++ ss)
      (under-append flow last dir (successors program input i dir t) (successors program input i dir s) ss ts
      (under-step dir i s t both.0 here (steady t i now here plain (flows-unreferring flow program t.at i (closed t.at i both.0.calm here)) dir)) both.1) in
      (suc rest.0, goes (subst (λ a. Stands program a i) (sym both.0.at) here) plain rest.1)
  less-fails (goes {dir = dir} {i = i} {s = t} {ss = ts} here plain next) none steady (s ∷ ss) (inr skipped) =
      less-fails next none (λ u j met. steady u j (later here plain met)) (s ∷ ss) (under-skip flow last dir (successors program input i dir t) (s ∷ ss) ts skipped)
  less-fails (looks {dir = dir} {kind = kind} {first = first} {last = high} {continuation = continuation} {s = t} {ss = ts} {m = m} {q = q} here inner next) none steady (s ∷ ss) (inl both) =
      let u : IsUnder flow last dir s t = both.0 in
      let into : Agrees flow (onward s) (onward t) = under-inside dir kind first high continuation s t u here in
      let alone : Agrees flow (onward t) (onward t) = record { calm = into.calm; at = refl; offset = refl; size = refl; loops = λ id l. refl } in
      let (p, found, alike) = same-run flow program input closed inner (onward s ∷ []) (into, tt) in
      let within = ends-onward flow last program input closed inner t.offset (alone, tt) (inl refl, tt) (λ v j met. steady v j (inside here met)) in
      let rest = less-fails next none (λ v j met. steady v j (behind here (m, inner) met)) (after_submatch kind first high continuation s p ++ ss)
      (under-append flow last dir (after_submatch kind first high continuation t q) (after_submatch kind first high continuation s p) ss ts
      (under-behind flow last dir kind first high continuation s t p q alike u.offset within (under-outside dir kind first high continuation s t u here)) both.1) in
      (suc (m + rest.0), looks (subst (λ a. Stands program a (code.submatch kind first high continuation)) (sym u.at) here) found rest.1)
  less-fails (looks {dir = dir} {kind = kind} {first = first} {last = high} {continuation = continuation} {s = t} {ss = ts} {m = m} {q = q} here inner next) none steady (s ∷ ss) (inr skipped) =
      less-fails next none (λ v j met. steady v j (behind here (m, inner) met)) (s ∷ ss) (under-skip flow last dir (after_submatch kind first high continuation t q) (s ∷ ss) ts skipped)
