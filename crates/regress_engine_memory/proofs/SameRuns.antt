-- States that agree run alike.
use Rattle.std.specs.Prelude.{slice_get, slice_set, nat_lt, nat_le}
use Rattle.std.proofs.Common.{◌≡◌, ℕ, suc, ◌&&◌, ◌==◌, Bool, true, false, List, [], ◌∷◌, ◌++◌, length, get_or, Option, Some, None, if◌then◌else◌, refl, sym, ap, ap₂, ◌∙◌, subst, length-set}
use Rattle.regress_meaning.specs.Meaning.{Direction}
use Rattle.regress_meaning.specs.Inputs.{Input}
use Rattle.regress_front_nodes.specs.Trees.{Submatch, lookaround, atomic}
use Rattle.regress_engine_insn.specs.Instructions.{LoopFields, Instruction, Program, Stands, surplus}
use Rattle.regress_engine_insn.specs.Instructions as code
use Rattle.regress_engine_runs.specs.States.{Marks, Whole, onward, mixed}
use Rattle.regress_engine_runs.specs.Runs.{room, Run, ends, finds, goes, looks, successors, after_submatch, moved_to, ordered, choices, one_more, count_of, is_idle, advance, counted}
use Rattle.regress_engine_runs.specs.Meets.{referred}
use Rattle.regress_engine_runs.specs.UndoStack.{whole, at_each}
use Rattle.regress_engine_search.proofs.InsnLemmas.{again-successors}
use Rattle.regress_engine_memory.specs.Flow.{Flow, Hands, Flows, IsFlow}
use Rattle.regress_engine_memory.specs.Agreeing.{Agrees, AgreeAll, EndAlike}
use Rattle.regress_engine_memory.proofs.LoopData.{set-both}
use Rattle.regress_engine_memory.proofs.Unreferring.{advance-any, counted-any}

module _ (flow : Flow) where
  pub agree-append : (xs ys ss ts : List Whole) → AgreeAll flow xs ys → AgreeAll flow ss ts → AgreeAll flow (xs ++ ss) (ys ++ ts)
  agree-append [] [] ss ts both rest = rest
  agree-append (x ∷ xs) [] ss ts both rest = absurd both
  agree-append [] (y ∷ ys) ss ts both rest = absurd both
  agree-append (x ∷ xs) (y ∷ ys) ss ts both rest = (both.0, agree-append xs ys ss ts both.1 rest)

  agree-ordered : (g m o : Bool) (s t u v : Whole) → Agrees flow s u → Agrees flow t v → AgreeAll flow (ordered g m o s t) (ordered g m o u v)
  agree-ordered true true true s t u v first second = (first, (second, tt))
  agree-ordered true true false s t u v first second = (first, tt)
  agree-ordered true false true s t u v first second = (second, tt)
  agree-ordered true false false s t u v first second = tt
  agree-ordered false true true s t u v first second = (second, (first, tt))
  agree-ordered false true false s t u v first second = (first, tt)
  agree-ordered false false true s t u v first second = (second, tt)
  agree-ordered false false false s t u v first second = tt

  agree-idle : (b : Bool) (ss ts : List Whole) → AgreeAll flow ss ts → AgreeAll flow (if b then [] else ss) (if b then [] else ts)
  agree-idle true ss ts both = tt
  agree-idle false ss ts both = both

  module _ (program : Program) (input : Input) (dir : Direction) (o : ℕ) (ls ms : List (ℕ × ℕ)) (gs hs : List Marks) (size : length ls ≡ length ms) where
    -- the same repetition goes on alike, where its data are the same
    agree-choices : (f : LoopFields) (at begin : ℕ) → get_or ls f.loop_id (0, 0) ≡ get_or ms f.loop_id (0, 0)
        → flow.calm (suc begin) ≡ true → ((id : ℕ) → (id ≡ f.loop_id → ⊥) → flow.live (suc begin) id ≡ true → get_or ls id (0, 0) ≡ get_or ms id (0, 0))
        → flow.calm f.exit ≡ true → ((id : ℕ) → flow.live f.exit id ≡ true → get_or ls id (0, 0) ≡ get_or ms id (0, 0))
        → AgreeAll flow (choices f begin (whole at o ls gs)) (choices f begin (whole at o ms hs))
    agree-choices f at begin entries calm others calm-out out =
        let s : Whole = whole at o ls gs in
        let t : Whole = whole at o ms hs in
        let id : ℕ = f.loop_id in
        let count : count_of id s ≡ count_of id t = ap (λ (x : ℕ × ℕ). x.0) entries in
        let new : ℕ × ℕ = (suc (count_of id t), o) in
        let are : ◌≡◌ {A = ℕ × ℕ} (suc (count_of id s), o) new = ap (λ (n : ℕ). (suc n, o)) count in
        let more : Agrees flow (one_more id begin s) (one_more id begin t) = record {
          calm = calm;
          at = refl;
          offset = refl;
          size = length-set ls id (suc (count_of id s), o) ∙ size ∙ sym (length-set ms id new);
          loops = λ k l. ap (λ x. get_or (slice_set ls id x) k (0, 0)) are
              ∙ set-both (λ x y. x ≡ y) ls ms id k new new size (λ z. refl) (λ e. refl) (λ ne. others k ne l);
        } in
        let leaves : Agrees flow (record s { at = f.exit }) (record t { at = f.exit }) = record { calm = calm-out; at = refl; offset = refl; size = size; loops = out } in
        subst (λ n. AgreeAll flow (ordered f.greedy (nat_lt n f.most) (nat_le f.least n) (one_more id begin s) (record s { at = f.exit })) (choices f begin t)) (sym count)
        (agree-ordered f.greedy (nat_lt (count_of id t) f.most) (nat_le f.least (count_of id t)) (one_more id begin s) (record s { at = f.exit }) (one_more id begin t) (record t { at = f.exit }) more leaves)

    module _ (at : ℕ) (entries : (id : ℕ) → flow.live at id ≡ true → get_or ls id (0, 0) ≡ get_or ms id (0, 0)) where
      handed : (b q : ℕ) → Hands flow at b → (gs' hs' : List Marks) → Agrees flow (whole b q ls gs') (whole b q ms hs')
      handed b q hands gs' hs' = record { calm = hands.calm; at = refl; offset = refl; size = size; loops = λ id l. entries id (hands.live id l) }

      moved : Hands flow at (suc at) → (x : Option ℕ) → AgreeAll flow (moved_to (whole at o ls gs) x) (moved_to (whole at o ms hs) x)
      moved hands None = tt
      moved hands (Some q) = (handed (suc at) q hands gs hs, tt)

      moved-any : Hands flow at (suc at) → (x y : Option ℕ) → x ≡ y → AgreeAll flow (moved_to (whole at o ls gs) x) (moved_to (whole at o ms hs) y)
      moved-any hands x y e = subst (λ z. AgreeAll flow (moved_to (whole at o ls gs) z) (moved_to (whole at o ms hs) y)) (sym e) (moved hands y)

      each : (b : ℕ) → Hands flow at b → (os : List ℕ) → AgreeAll flow (at_each program input b ls gs os) (at_each program input b ms hs os)
      each b hands [] = tt
      each b hands (q ∷ os) = (handed b q hands gs hs, each b hands os)

      bodies : (least most : ℕ) (greedy : Bool) → Hands flow at (suc (suc at)) → (x : Option Instruction) → ((i : Instruction) → x ≡ Some i → referred i ≡ None)
          → AgreeAll flow (elim x [ None ↦ [] | Some i ↦ at_each program input (suc (suc at)) ls gs (counted program input least most greedy i dir gs o) ])
          (elim x [ None ↦ [] | Some i ↦ at_each program input (suc (suc at)) ms hs (counted program input least most greedy i dir hs o) ])
      bodies least most greedy hands None calm = tt
      bodies least most greedy hands (Some i) calm =
          subst (λ os. AgreeAll flow (at_each program input (suc (suc at)) ls gs os) (at_each program input (suc (suc at)) ms hs (counted program input least most greedy i dir hs o)))
          (sym (counted-any program input i dir gs hs (calm i refl) least most greedy o))
          (each (suc (suc at)) hands (counted program input least most greedy i dir hs o))

      ends-iteration : (begin : ℕ) → Flows flow program at (code.loop_again begin)
          → AgreeAll flow (successors program input (code.loop_again begin) dir (whole at o ls gs)) (successors program input (code.loop_again begin) dir (whole at o ms hs))
      ends-iteration begin (f, there, told, live, writes, hands) =
          let s : Whole = whole at o ls gs in
          let t : Whole = whole at o ms hs in
          let same = entries f.loop_id live in
          let idle : is_idle f s ≡ is_idle f t = ap (λ (x : ℕ × ℕ). nat_lt f.least x.0 && (x.1 == o)) same in
          let rest : AgreeAll flow (choices f begin s) (choices f begin t) =
          agree-choices f at begin same writes.calm (λ id ne l. entries id (writes.live id ne l)) hands.calm (λ id l. entries id (hands.live id l)) in
          subst (λ xs. AgreeAll flow xs (successors program input (code.loop_again begin) dir t)) (sym (again-successors program input dir s begin f there))
          (subst (AgreeAll flow (if is_idle f s then [] else choices f begin s)) (sym (again-successors program input dir t begin f there))
          (subst (λ b. AgreeAll flow (if b then [] else choices f begin s) (if is_idle f t then [] else choices f begin t)) (sym idle)
          (agree-idle (is_idle f t) (choices f begin s) (choices f begin t) rest)))

  -- The successors of states that agree do.
  pub agree-on : (program : Program) (input : Input) (dir : Direction) (o : ℕ) (ls ms : List (ℕ × ℕ)) (gs hs : List Marks) → length ls ≡ length ms → (at : ℕ)
      → ((id : ℕ) → flow.live at id ≡ true → get_or ls id (0, 0) ≡ get_or ms id (0, 0)) → (i : Instruction) → Flows flow program at i
      → AgreeAll flow (successors program input i dir (whole at o ls gs)) (successors program input i dir (whole at o ms hs))
  agree-on program input dir o ls ms gs hs size at entries code.goal flows = tt
  agree-on program input dir o ls ms gs hs size at entries code.fail flows = tt
  agree-on program input dir o ls ms gs hs size at entries (code.submatch kind first last continuation) flows = tt
  agree-on program input dir o ls ms gs hs size at entries (code.back k icase) flows = absurd flows
  agree-on program input dir o ls ms gs hs size at entries (code.jump a) flows = (handed program input dir o ls ms gs hs size at entries a o flows gs hs, tt)
  agree-on program input dir o ls ms gs hs size at entries (code.alt a) flows =
      (handed program input dir o ls ms gs hs size at entries (suc at) o flows.0 gs hs, (handed program input dir o ls ms gs hs size at entries a o flows.1 gs hs, tt))
  agree-on program input dir o ls ms gs hs size at entries (code.begin_group k) flows = (handed program input dir o ls ms gs hs size at entries (suc at) o flows _ _, tt)
  agree-on program input dir o ls ms gs hs size at entries (code.end_group k) flows = (handed program input dir o ls ms gs hs size at entries (suc at) o flows _ _, tt)
  agree-on program input dir o ls ms gs hs size at entries (code.reset_group k) flows = (handed program input dir o ls ms gs hs size at entries (suc at) o flows _ _, tt)
  agree-on program input dir o ls ms gs hs size at entries (code.enter_loop f) (told, writes, leaves) =
      let begun : ℕ × ℕ = (surplus f.least (room (length input.units) dir o), o) in
      let other : (id : ℕ) → ((id ≡ f.loop_id → ⊥) → get_or ls id (0, 0) ≡ get_or ms id (0, 0))
      → get_or (slice_set ls f.loop_id begun) id (0, 0) ≡ get_or (slice_set ms f.loop_id begun) id (0, 0) =
      λ id there. set-both (λ x y. x ≡ y) ls ms f.loop_id id begun begun size (λ z. refl) (λ e. refl) there in
      agree-choices program input dir o (slice_set ls f.loop_id begun) (slice_set ms f.loop_id begun) gs hs (length-set ls f.loop_id begun ∙ size ∙ sym (length-set ms f.loop_id begun)) f at at
      (other f.loop_id (λ ne. absurd (ne refl)))
      writes.calm (λ id ne l. other id (λ k. entries id (writes.live id ne l)))
      leaves.calm (λ id l. other id (λ ne. entries id (leaves.live id ne l)))
  agree-on program input dir o ls ms gs hs size at entries (code.loop_again begin) flows = ends-iteration program input dir o ls ms gs hs size at entries begin flows
  agree-on program input dir o ls ms gs hs size at entries (code.single_loop least most greedy) flows =
      bodies program input dir o ls ms gs hs size at entries least most greedy flows.0 (slice_get program.instructions (suc at)) flows.1
  agree-on program input dir o ls ms gs hs size at entries i flows =
      moved-any program input dir o ls ms gs hs size at entries flows (advance program input i dir gs o) (advance program input i dir hs o) (advance-any program input i dir gs hs o refl)

  -- what follows a lookaround or an atomic group, by answers that end alike
  pub agree-behind : (kind : Submatch) (first last continuation : ℕ) (s t : Whole) (p q : Option Whole) → EndAlike p q → s.offset ≡ t.offset
      → ((o : ℕ) (gs hs : List Marks) → Agrees flow (whole continuation o s.loops gs) (whole continuation o t.loops hs))
      → AgreeAll flow (after_submatch kind first last continuation s p) (after_submatch kind first last continuation t q)
  agree-behind kind first last continuation s t p q alike here on = by_answers kind p q alike
    where
      -- at offsets that are the same
      both : (a b : ℕ) (gs hs : List Marks) → a ≡ b → Agrees flow (whole continuation a s.loops gs) (whole continuation b t.loops hs)
      both a b gs hs same = subst (λ c. Agrees flow (whole continuation c s.loops gs) (whole continuation b t.loops hs)) (sym same) (on b gs hs)

      by_answers : (kind : Submatch) (p q : Option Whole) → EndAlike p q → AgreeAll flow (after_submatch kind first last continuation s p) (after_submatch kind first last continuation t q)
      by_answers (lookaround true backward) None None same = (both s.offset t.offset s.groups t.groups here, tt)
      by_answers (lookaround true backward) (Some v) (Some w) same = tt
      by_answers (lookaround false backward) None None same = tt
      by_answers (lookaround false backward) (Some v) (Some w) same =
          (both s.offset t.offset (mixed 0 first last v.groups s.groups) (mixed 0 first last w.groups t.groups) here, tt)
      by_answers atomic None None same = tt
      by_answers atomic (Some v) (Some w) same = (both v.offset w.offset (mixed 0 first last v.groups s.groups) (mixed 0 first last w.groups t.groups) same, tt)
      by_answers _ (Some v) None same = absurd same
      by_answers _ None (Some w) same = absurd same

  module _ (program : Program) (input : Input) (closed : IsFlow flow program) where
    -- the same, where the states are told otherwise
    pub agree-step : (dir : Direction) (i : Instruction) (s t : Whole) → Agrees flow s t → Stands program t.at i → AgreeAll flow (successors program input i dir s) (successors program input i dir t)
    agree-step dir i s t both here =
        subst (λ (x : ℕ × ℕ). AgreeAll flow (successors program input i dir (whole x.0 x.1 s.loops s.groups)) (successors program input i dir t))
        (ap₂ (λ (a o : ℕ). (a, o)) (sym both.at) (sym both.offset))
        (agree-on program input dir t.offset s.loops t.loops s.groups t.groups both.size t.at both.loops i (closed t.at i both.calm here))

    -- where the contents of a lookaround or an atomic group begin, nothing is asked of the loops
    pub agree-inside : (kind : Submatch) (first last continuation : ℕ) (s t : Whole) → Agrees flow s t → Stands program t.at (code.submatch kind first last continuation)
        → Agrees flow (onward s) (onward t)
    agree-inside kind first last continuation s t both here =
        let (anew, hands) = closed t.at (code.submatch kind first last continuation) both.calm here in
        record { calm = anew.calm; at = ap suc both.at; offset = both.offset; size = both.size; loops = λ id l. absurd (anew.silent id l) }

    -- and where it goes on what was asked of those outside, at whatever offset
    pub agree-outside : (kind : Submatch) (first last continuation : ℕ) (s t : Whole) → Agrees flow s t → Stands program t.at (code.submatch kind first last continuation)
        → (o : ℕ) (gs hs : List Marks) → Agrees flow (whole continuation o s.loops gs) (whole continuation o t.loops hs)
    agree-outside kind first last continuation s t both here o gs hs =
        let (anew, hands) = closed t.at (code.submatch kind first last continuation) both.calm here in
        record { calm = hands.calm; at = refl; offset = refl; size = both.size; loops = λ id l. both.loops id (hands.live id l) }

    -- where the second one stands the first one does
    stands-too : (s t : Whole) (i : Instruction) → Agrees flow s t → Stands program t.at i → Stands program s.at i
    stands-too s t i both here = subst (λ a. Stands program a i) (sym both.at) here

    -- States that agree run alike: in as many steps, and where there is an answer to one at the same offset.
    pub same-run : {dir : Direction} {ts : List Whole} {n : ℕ} {r : Option Whole} → Run program input dir ts n r → (ss : List Whole) → AgreeAll flow ss ts
        → (q : Option Whole) × Run program input dir ss n q × EndAlike q r
    same-run ends [] both = (None, ends, tt)
    same-run ends (s ∷ ss) both = absurd both
    same-run (finds here) [] both = absurd both
    same-run (finds {s = t} here) (s ∷ ss) both = (Some s, finds (stands-too s t code.goal both.0 here), both.0.offset)
    same-run (goes here plain next) [] both = absurd both
    same-run (goes {dir = dir} {i = i} {s = t} {ss = ts} here plain next) (s ∷ ss) both =
        let (q, run, same) = same-run next (successors program input i dir s ++ ss)
        (agree-append (successors program input i dir s) (successors program input i dir t) ss ts (agree-step dir i s t both.0 here) both.1) in
        (q, goes (stands-too s t i both.0 here) plain run, same)
    same-run (looks here inner next) [] both = absurd both
    same-run (looks {dir = dir} {kind = kind} {first = first} {last = last} {continuation = continuation} {s = t} {ss = ts} {q = r} here inner next) (s ∷ ss) both =
        let i : Instruction = code.submatch kind first last continuation in
        let (p, inside, alike) = same-run inner (onward s ∷ []) (agree-inside kind first last continuation s t both.0 here, tt) in
        let (q, run, same) = same-run next (after_submatch kind first last continuation s p ++ ss)
        (agree-append (after_submatch kind first last continuation s p) (after_submatch kind first last continuation t r) ss ts
        (agree-behind kind first last continuation s t p r alike both.0.offset (agree-outside kind first last continuation s t both.0 here)) both.1) in
        (q, looks (stands-too s t i both.0 here) inside run, same)
