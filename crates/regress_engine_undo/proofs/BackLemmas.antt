-- What is undone, and where it continues.
use Rattle.std.specs.Prelude.{get_or, slice_set, ◌^◌}
use Rattle.std.proofs.Common.{◌≡◌, ℕ, zero, suc, ◌+◌, ◌-◌, ◌<◌, ◌≤◌, Bool, true, false, List, [], ◌∷◌, length, Some, None, if◌then◌else◌, ◌⊎◌, refl, sym, ap, ◌∙◌, subst, arith}
use Rattle.std.proofs.lemmas.List.{length-set}
use Rattle.regress_meaning.specs.Inputs.{Input}
use Rattle.regress_engine_input.specs.Views.{View, direction_of, reading_of}
use Rattle.regress_engine_insn.specs.Instructions.{Program, Instruction, Stands, submatch}
use Rattle.regress_engine_runs.specs.States.{Whole, Marks}
use Rattle.regress_engine_runs.specs.Runs.{against, gap, advance, one_more}
use Rattle.regress_engine_runs.specs.Meets.{IsAtPlace}
use Rattle.regress_engine_runs.specs.UndoStack.{Undo, Frame, Work, old_loop, old_group, resume, iterate, give_back, take_on, frame, tried, whole, first_do, stands_for, at_each, MovesOn}
use Rattle.regress_engine_runs.proofs.UndoLemmas.{given_back_last, given_back_one, taken_on_last, taken_on_one}
use Rattle.regress_engine_search.specs.Ready.{IsBody}
use Rattle.regress_engine_search.specs.Tasks.{Task, Leads}
use Rattle.regress_engine_search.proofs.TaskLemmas.{leads-then, leads-same, leads-first, leads-exhausted, leads-tried}
use Rattle.regress_engine_undo.specs.declared.undo.Spot.{Spot}
use Rattle.regress_engine_undo.specs.Held.{Held, pushed, loop_written}
use Rattle.regress_engine_search.specs.Submatches.{is_negated}
use Rattle.regress_engine_search.proofs.SubmatchLemmas.{after-none}
use Rattle.regress_engine_undo.specs.Sound.{IsSound, IsHeld}
use Rattle.regress_engine_undo.specs.Tasks.{task, state_at}
use Rattle.regress_engine_undo.proofs.StepLemmas.{iterate-leads}
use Rattle.regress_engine_runs.proofs.Iterations.{back_to-none}

module _ (program : Program) (input : Input) where
  -- a record stands for a state and the rest
  pub resumed : (p : Spot) (h : Held) (u : Undo) (s : List Undo) (at o : ℕ)
      → stands_for program input (direction_of p.forward) (u ∷ h.stack) h.loops h.groups ≡ first_do (whole at o h.loops h.groups ∷ []) (stands_for program input (direction_of p.forward) s h.loops h.groups)
      → Leads program input 0 (task program input false p (pushed u h)) (task program input true (record p { at = at; offset = o }) (record h { stack = s }))
  resumed p h u s at o e =
      subst (λ (w : Work). Leads program input 0 (record { dir = direction_of p.forward; states = []; work = w }) (task program input true (record p { at = at; offset = o }) (record h { stack = s }))) (sym e)
      (leads-first program input (direction_of p.forward) [] (whole at o h.loops h.groups ∷ []) (stands_for program input (direction_of p.forward) s h.loops h.groups))

  pub resume-back : (p : Spot) (h : Held) (at o : ℕ) → Leads program input 0 (task program input false p (pushed (resume at o) h)) (task program input true (record p { at = at; offset = o }) h)
  unfolding stands_for
  resume-back p h at o = resumed p h (resume at o) h.stack at o refl

  -- what was tried has failed
  pub tried-back : (p : Spot) (h : Held) (at o : ℕ) → Leads program input 0 (task program input false p (pushed (tried at o) h)) (task program input false p h)
  unfolding stands_for
  tried-back p h at o =
      leads-tried program input (direction_of p.forward) (whole at o h.loops h.groups) (stands_for program input (direction_of p.forward) h.stack h.loops h.groups)

  pub old_loop-back : (p : Spot) (h k : Held) (id : ℕ) (x : ℕ × ℕ) → k ≡ record h { loops = slice_set h.loops id x }
      → Leads program input 0 (task program input false p (pushed (old_loop id x) h)) (task program input false p k)
  unfolding stands_for
  old_loop-back p h k id x is =
      subst (λ j. Leads program input 0 (task program input false p (pushed (old_loop id x) h)) (task program input false p j)) (sym is) (leads-same program input (task program input false p (pushed (old_loop id x) h)))

  pub old_group-back : (p : Spot) (h k : Held) (group : ℕ) (m : Marks) → k ≡ record h { groups = slice_set h.groups group m }
      → Leads program input 0 (task program input false p (pushed (old_group group m) h)) (task program input false p k)
  unfolding stands_for
  old_group-back p h k group m is =
      subst (λ j. Leads program input 0 (task program input false p (pushed (old_group group m) h)) (task program input false p j)) (sym is) (leads-same program input (task program input false p (pushed (old_group group m) h)))

  pub iterate-back : (p q : Spot) (h k : Held) (id begin o count : ℕ) → count ≡ (get_or h.loops id (0, 0)).0 → k ≡ loop_written id (count + 1, o) h → q ≡ record p { at = begin + 1; offset = o }
      → Leads program input 0 (task program input false p (pushed (iterate id begin o) h)) (task program input true q k)
  unfolding stands_for
  iterate-back p q h k id begin o count counted is same =
      let on : Spot = record p { offset = o } in
      subst (λ x. Leads program input 0 (task program input false p (pushed (iterate id begin o) h)) (task program input true x k)) (sym same)
      (leads-then program input 0 0
      (leads-first program input (direction_of p.forward) [] (one_more id begin (whole begin o h.loops h.groups) ∷ []) (stands_for program input (direction_of p.forward) h.stack h.loops h.groups))
      (iterate-leads on h k id count begin counted is program input))

  -- a lookaround or an atomic group whose contents have no answer
  pub submatch-back : (p q : Spot) (h : Held) (f : Frame) → f.outside ≡ direction_of q.forward → (is_negated f.kind ≡ true → q ≡ record { at = f.continuation; offset = f.offset; forward = q.forward })
      → Leads program input 0 (task program input false p (pushed (frame f) h)) (task program input (is_negated f.kind) q h)
  unfolding stands_for
  submatch-back p q h f turned placed = by_way (is_negated f.kind) refl
    where
      s : Whole
      s = whole f.at f.offset h.loops h.groups

      rest : Work
      rest = stands_for program input f.outside h.stack h.loops h.groups

      left : Bool → List Whole
      left b = if b then record s { at = f.continuation } ∷ [] else []

      inside_of : Work
      inside_of = stands_for program input (direction_of p.forward) (frame f ∷ h.stack) h.loops h.groups

      from : Task
      from = task program input false p (pushed (frame f) h)

      exhausted : Leads program input 0 (record { dir = direction_of p.forward; states = []; work = inside_of }) (record { dir = f.outside; states = left (is_negated f.kind); work = rest })
      exhausted =
          subst (λ (ss : List Whole). Leads program input 0 from (record { dir = f.outside; states = ss; work = rest })) (after-none f.kind f.first f.last f.continuation s)
          (leads-exhausted program input (direction_of p.forward) f s rest)

      -- the direction is that outside
      turn : (b : Bool) → is_negated f.kind ≡ b → Leads program input 0 from (record { dir = direction_of q.forward; states = left b; work = stands_for program input (direction_of q.forward) h.stack h.loops h.groups })
      turn b e =
          subst (λ d. Leads program input 0 from (record { dir = d; states = left b; work = stands_for program input d h.stack h.loops h.groups })) turned
          (subst (λ c. Leads program input 0 from (record { dir = f.outside; states = left c; work = rest })) e exhausted)

      by_way : (b : Bool) → is_negated f.kind ≡ b → Leads program input 0 from (task program input (is_negated f.kind) q h)
      by_way true e =
          subst (λ c. Leads program input 0 from (task program input c q h)) (sym e)
          (subst (λ (x : Spot). Leads program input 0 from (record { dir = direction_of q.forward; states = state_at x h ∷ []; work = stands_for program input (direction_of q.forward) h.stack h.loops h.groups })) (sym (placed e)) (turn true e))
      by_way false e = subst (λ c. Leads program input 0 from (task program input c q h)) (sym e) (turn false e)

  -- ---- one-character loops

  pub give_back-last : (p : Spot) (h : Held) (at near far : ℕ) → gap (direction_of p.forward) near far ≡ 0
      → Leads program input 0 (task program input false p (pushed (give_back at near far) h)) (task program input true (record p { at = at; offset = far }) h)
  give_back-last p h at near far e =
      resumed p h (give_back at near far) h.stack at far (given_back_last program input (direction_of p.forward) h.stack h.loops h.groups at near far e)

  pub give_back-none : (p : Spot) (h : Held) (at near far : ℕ) → input.next (against (direction_of p.forward)) far ≡ None
      → Leads program input 0 (task program input false p (pushed (give_back at near far) h)) (task program input true (record p { at = at; offset = far }) h)
  unfolding stands_for
  give_back-none p h at near far e =
      resumed p h (give_back at near far) h.stack at far
      (ap (λ os. first_do (at_each program input at h.loops h.groups os) (stands_for program input (direction_of p.forward) h.stack h.loops h.groups)) (back_to-none input (gap (direction_of p.forward) near far) (direction_of p.forward) near far e))

  pub give_back-more : (p : Spot) (h k : Held) (at near far c q : ℕ) → MovesOn input → 0 < gap (direction_of p.forward) near far → input.next (against (direction_of p.forward)) far ≡ Some (c, q)
      → k ≡ pushed (give_back at near q) h
      → Leads program input 0 (task program input false p (pushed (give_back at near far) h)) (task program input true (record p { at = at; offset = far }) k)
  give_back-more p h k at near far c q moves some e is =
      subst (λ x. Leads program input 0 (task program input false p (pushed (give_back at near far) h)) (task program input true (record p { at = at; offset = far }) x)) (sym is)
      (resumed p h (give_back at near far) (give_back at near q ∷ h.stack) at far (given_back_one program input (direction_of p.forward) h.stack h.loops h.groups moves at near far c q some e))

  pub take_on-last : (p : Spot) (h : Held) (at o left : ℕ) (i : Instruction) → Stands program (at - 1) i → (left ≡ 0) ⊎ (advance program input i (direction_of p.forward) h.groups o ≡ None)
      → Leads program input 0 (task program input false p (pushed (take_on at o left) h)) (task program input true (record p { at = at; offset = o }) h)
  take_on-last p h at o left i here way_out =
      resumed p h (take_on at o left) h.stack at o (taken_on_last program input (direction_of p.forward) h.stack h.loops h.groups at o left i here way_out)

  pub take_on-more : (p : Spot) (h k : Held) (at o left q : ℕ) (i : Instruction) → Stands program (at - 1) i → (left ≡ 0 → ⊥) → advance program input i (direction_of p.forward) h.groups o ≡ Some q
      → k ≡ pushed (take_on at q (left - 1)) h
      → Leads program input 0 (task program input false p (pushed (take_on at o left) h)) (task program input true (record p { at = at; offset = o }) k)
  take_on-more p h k at o zero q i here some e is = absurd (some refl)
  take_on-more p h k at o (suc left) q i here some e is =
      let same : suc left - 1 ≡ left = omega arith in
      subst (λ x. Leads program input 0 (task program input false p (pushed (take_on at o (suc left)) h)) (task program input true (record p { at = at; offset = o }) x)) (sym (is ∙ ap (λ n. pushed (take_on at q n) h) same))
      (resumed p h (take_on at o (suc left)) (take_on at q left ∷ h.stack) at o (taken_on_one program input (direction_of p.forward) h.stack h.loops h.groups at o left q i here e))

-- ---- what is held

module _ (program : Program) (v : View) where
  pub held-resume : (h : Held) (at o : ℕ) → IsHeld program v (pushed (resume at o) h) → IsHeld program v h
  unfolding IsSound
  held-resume h at o held = record { loops = held.loops; groups = held.groups; sound = held.sound }

  pub held-tried : (h : Held) (at o : ℕ) → IsHeld program v (pushed (tried at o) h) → IsHeld program v h
  unfolding IsSound
  held-tried h at o held = record { loops = held.loops; groups = held.groups; sound = held.sound }

  pub held-give_back : (h : Held) (at near far : ℕ) → IsHeld program v (pushed (give_back at near far) h) → IsAtPlace (reading_of v) far × IsHeld program v h
  unfolding IsSound
  held-give_back h at near far held = (held.sound.0, record { loops = held.loops; groups = held.groups; sound = held.sound.1 })

  pub give_back-held : (h k : Held) (at near far : ℕ) → k ≡ pushed (give_back at near far) h → IsAtPlace (reading_of v) far → IsHeld program v h → IsHeld program v k
  unfolding IsSound
  give_back-held h k at near far is place held = subst (IsHeld program v) (sym is) (record { loops = held.loops; groups = held.groups; sound = (place, held.sound) })

  pub held-take_on : (h : Held) (at o left : ℕ) → IsHeld program v (pushed (take_on at o left) h) → IsBody program v at o × IsHeld program v h
  unfolding IsSound
  held-take_on h at o left held = (held.sound.0, record { loops = held.loops; groups = held.groups; sound = held.sound.1 })

  pub take_on-held : (h k : Held) (at o left : ℕ) → k ≡ pushed (take_on at o left) h → IsBody program v at o → IsHeld program v h → IsHeld program v k
  unfolding IsSound
  take_on-held h k at o left is body held = subst (IsHeld program v) (sym is) (record { loops = held.loops; groups = held.groups; sound = (body, held.sound) })

  pub held-frame : (h : Held) (f : Frame) → IsHeld program v (pushed (frame f) h) → ((k : ℕ) → f.first ≤ k → k < f.last → k < program.groups) × IsHeld program v h
  unfolding IsSound
  held-frame h f held = (held.sound.0, record { loops = held.loops; groups = held.groups; sound = held.sound.2 })

  pub frame-held : (h k : Held) (f : Frame) → k ≡ pushed (frame f) h → ((k : ℕ) → f.first ≤ k → k < f.last → k < program.groups)
      → Stands program f.at (submatch f.kind f.first f.last f.continuation) → IsHeld program v h → IsHeld program v k
  unfolding IsSound
  frame-held h k f is groups here held = subst (IsHeld program v) (sym is) (record { loops = held.loops; groups = held.groups; sound = (groups, here, held.sound) })

  pub held-old_loop : (h k : Held) (id : ℕ) (x : ℕ × ℕ) → k ≡ record h { loops = slice_set h.loops id x } → IsHeld program v (pushed (old_loop id x) h) → IsHeld program v k
  unfolding IsSound
  held-old_loop h k id x is held =
      subst (IsHeld program v) (sym is) (record { loops = length-set h.loops id x ∙ held.loops; groups = held.groups; sound = held.sound.1 })

  pub old_loop-there : (h : Held) (id : ℕ) (x : ℕ × ℕ) → IsHeld program v (pushed (old_loop id x) h) → id < length h.loops
  unfolding IsSound
  old_loop-there h id x held = let there = held.sound.0 in let same = held.loops in omega (arith, there, same)

  pub held-old_group : (h k : Held) (group : ℕ) (m : Marks) → k ≡ record h { groups = slice_set h.groups group m } → IsHeld program v (pushed (old_group group m) h) → IsHeld program v k
  unfolding IsSound
  held-old_group h k group m is held =
      subst (IsHeld program v) (sym is) (record { loops = held.loops; groups = length-set h.groups group m ∙ held.groups; sound = held.sound.1 })

  pub old_group-there : (h : Held) (group : ℕ) (m : Marks) → IsHeld program v (pushed (old_group group m) h) → group < length h.groups
  unfolding IsSound
  old_group-there h group m held = let there = held.sound.0 in let same = held.groups in omega (arith, there, same)

  pub held-iterate : (h : Held) (id begin o : ℕ) → IsHeld program v (pushed (iterate id begin o) h)
      → (id < length h.loops) × ((get_or h.loops id (0, 0)).0 + 1 < 2 ^ 64) × (begin + 1 < 2 ^ 64) × IsHeld program v h
  unfolding IsSound
  held-iterate h id begin o held =
      let there = held.sound.0 in let same = held.loops in
      (omega (arith, there, same), held.sound.1, held.sound.2, record { loops = held.loops; groups = held.groups; sound = held.sound.3 })

-- a record, told otherwise
pub held-as : (program : Program) (v : View) (u x : Undo) (h : Held) → u ≡ x → IsHeld program v (pushed u h) → IsHeld program v (pushed x h)
held-as program v u x h e held = subst (λ y. IsHeld program v (pushed y h)) e held

pub leads-as : (program : Program) (input : Input) (u x : Undo) (p : Spot) (h : Held) (t : Task) → u ≡ x → Leads program input 0 (task program input false p (pushed x h)) t
    → Leads program input 0 (task program input false p (pushed u h)) t
leads-as program input u x p h t e leads = subst (λ y. Leads program input 0 (task program input false p (pushed y h)) t) (sym e) leads
