-- Each instruction's step.
use Rattle.std.specs.Prelude.{slice_set}
use Rattle.std.proofs.Common.{◌≡◌, ℕ, suc, ◌+◌, Bool, true, false, [], ◌∷◌, Some, None, if◌then◌else◌, refl, sym, ap, ◌∙◌, subst, arith}
use Rattle.regress_meaning.specs.Inputs.{Input}
use Rattle.regress_engine_input.specs.Views.{direction_of}
use Rattle.regress_engine_insn.specs.Instructions.{Instruction, Program, Stands, is_byte_seq}
use Rattle.regress_engine_insn.specs.Instructions as code
use Rattle.regress_engine_runs.specs.States.{Marks, Whole, onward}
use Rattle.regress_engine_runs.specs.Runs.{successors, is_plain, moved_to, advance, is_idle, choices}
use Rattle.regress_engine_runs.specs.UndoStack.{Frame, Work, frame, resume, stands_for}
use Rattle.regress_engine_search.specs.Ready.{is_simple}
use Rattle.regress_engine_search.specs.Tasks.{Task, Leads}
use Rattle.regress_engine_search.proofs.InsnLemmas.{simple-plain, simple-successors, again-successors}
use Rattle.regress_engine_search.proofs.TaskLemmas.{leads-then, leads-same, leads-later, leads-plain, leads-inside}
use Rattle.regress_engine_singles.specs.Failing.{IsDead}
use Rattle.regress_engine_singles.proofs.Failures.{leads-without}
use Rattle.regress_engine_singles.proofs.DeadLemmas.{leads-dead}
use Rattle.regress_engine_undo.specs.declared.undo.Spot.{Spot}
use Rattle.regress_engine_undo.specs.Held.{Held, pushed}
use Rattle.regress_engine_search.specs.Submatches.{reads_forward}
use Rattle.regress_engine_search.proofs.SubmatchLemmas.{direction_of-submatch}
use Rattle.regress_engine_undo.specs.Tasks.{task_of, task, state_at, GoesOn}
use Rattle.regress_engine_undo.proofs.StepLemmas.{fork-leads}
use Rattle.regress_engine_undo.proofs.BackLemmas.{resume-back}

module _ (program : Program) (input : Input) where
  -- a plain instruction, and what its successors are led to
  pub step-on : (i : Instruction) (p q : Spot) (h k : Held) (going : Bool) → Stands program p.at i → is_plain i ≡ true
      → Leads program input 0 (task_of program input (successors program input i (direction_of p.forward) (state_at p h)) p h) (task program input going q k)
      → Leads program input 1 (task program input true p h) (task program input going q k)
  step-on i p q h k going here plain on = leads-then program input 1 0 (leads-plain program input i (direction_of p.forward) (state_at p h) (stands_for program input (direction_of p.forward) h.stack h.loops h.groups) here plain) on

  pub jump-on : (p : Spot) (h : Held) (a : ℕ) → Stands program p.at (code.jump a) → Leads program input 1 (task program input true p h) (task program input true (record p { at = a }) h)
  jump-on p h a here = leads-plain program input (code.jump a) (direction_of p.forward) (state_at p h) (stands_for program input (direction_of p.forward) h.stack h.loops h.groups) here refl

  -- marks, told otherwise
  pub mark-on : (i : Instruction) (p q : Spot) (h k : Held) (group : ℕ) (m n : Marks) → Stands program p.at i → is_plain i ≡ true → m ≡ n
      → successors program input i (direction_of p.forward) (state_at p h) ≡ onward (record (state_at p h) { groups = slice_set h.groups group n }) ∷ []
      → GoesOn (onward (record (state_at p h) { groups = slice_set h.groups group m }) ∷ []) p h true q k
      → Leads program input 1 (task program input true p h) (task program input true q k)
  mark-on i p q h k group m n here plain same are on =
      step-on i p q h k true here plain
      (subst (λ ss. Leads program input 0 (task_of program input ss p h) (task program input true q k)) (sym are)
      (subst (λ x. Leads program input 0 (task_of program input (onward (record (state_at p h) { groups = slice_set h.groups group x }) ∷ []) p h) (task program input true q k)) same (on program input)))

  -- a lookaround or an atomic group begins
  pub submatch-on : (p q : Spot) (h k : Held) (f : Frame) → f.outside ≡ direction_of p.forward → f.at ≡ p.at → f.offset ≡ p.offset
      → Stands program p.at (code.submatch f.kind f.first f.last f.continuation) → k ≡ pushed (frame f) h → q ≡ record p { at = p.at + 1; forward = reads_forward f.kind p.forward }
      → Leads program input 1 (task program input true p h) (task program input true q k)
  unfolding stands_for
  submatch-on p q h k f turned at offset here pushes placed =
      subst (λ x. Leads program input 1 from (task program input true q x)) (sym pushes)
      (subst (λ x. Leads program input 1 from (task program input true x (pushed (frame f) h))) (sym placed)
      (subst (λ a. Leads program input 1 from (task program input true (record p { at = a; forward = reads_forward f.kind p.forward }) (pushed (frame f) h))) next begun))
    where
      from : Task
      from = task program input true p h

      next : suc p.at ≡ p.at + 1
      next = omega arith

      frame_here : Frame
      frame_here = record f { at = p.at; offset = p.offset; outside = direction_of p.forward }

      -- the state at the spot is that at the lookaround
      same_frame : frame_here ≡ f
      same_frame = (λ i. record f { at = sym at i; offset = sym offset i; outside = sym turned i })

      begun_here : Leads program input 1 from (task program input true (record p { at = suc p.at; forward = reads_forward f.kind p.forward }) (pushed (frame frame_here) h))
      begun_here =
          subst (λ d. Leads program input 1 from (record { dir = d; states = onward (state_at p h) ∷ []; work = stands_for program input d (frame frame_here ∷ h.stack) h.loops h.groups })) (direction_of-submatch f.kind p.forward)
          (leads-inside program input (state_at p h) (stands_for program input (direction_of p.forward) h.stack h.loops h.groups) frame_here here)

      begun : Leads program input 1 from (task program input true (record p { at = suc p.at; forward = reads_forward f.kind p.forward }) (pushed (frame f) h))
      begun = subst (λ x. Leads program input 1 from (task program input true (record p { at = suc p.at; forward = reads_forward f.kind p.forward }) (pushed (frame x) h))) same_frame begun_here

  -- what changes nothing but the offset
  pub take-none : (i : Instruction) (p : Spot) (h : Held) → Stands program p.at i → is_simple i ≡ true → advance program input i (direction_of p.forward) h.groups p.offset ≡ None
      → Leads program input 1 (task program input true p h) (task program input false p h)
  take-none i p h here simple none =
      step-on i p p h h false here (simple-plain i simple)
      (subst (λ ss. Leads program input 0 (task_of program input ss p h) (task program input false p h)) (sym (simple-successors program input i (direction_of p.forward) (state_at p h) simple ∙ ap (moved_to (state_at p h)) none))
      (leads-same program input (task program input false p h)))

  pub take-some : (i : Instruction) (p : Spot) (h : Held) (o : ℕ) → Stands program p.at i → is_simple i ≡ true → advance program input i (direction_of p.forward) h.groups p.offset ≡ Some o
      → Leads program input 1 (task program input true p h) (task program input true (record p { at = p.at + 1; offset = o }) h)
  take-some i p h o here simple some =
      let next : suc p.at ≡ p.at + 1 = omega arith in
      let q : Spot = record p { at = suc p.at; offset = o } in
      subst (λ a. Leads program input 1 (task program input true p h) (task program input true (record p { at = a; offset = o }) h)) next
      (step-on i p q h h true here (simple-plain i simple)
      (subst (λ ss. Leads program input 0 (task_of program input ss p h) (task program input true q h)) (sym (simple-successors program input i (direction_of p.forward) (state_at p h) simple ∙ ap (moved_to (state_at p h)) some))
      (leads-same program input (task program input true q h))))

module _ (program : Program) (input : Input) where
  -- the first of two ways leads nowhere
  pub first-dead : (p : Spot) (h : Held) (target : ℕ) → Stands program p.at (code.alt target) → IsDead program input (direction_of p.forward) (p.at + 1) p.offset
      → Leads program input 1 (task program input true p h) (task program input true (record p { at = target }) h)
  first-dead p h target here dead =
      let on : Spot = record p { at = p.at + 1 } in
      let k : Held = pushed (resume target p.offset) h in
      leads-then program input 1 0 (step-on program input (code.alt target) p on h k true here refl (fork-leads p h k target refl program input))
      (leads-then program input 0 0 (leads-dead program input (direction_of p.forward) (p.at + 1) p.offset h.loops h.groups (stands_for program input (direction_of p.forward) k.stack k.loops k.groups) dead)
      (resume-back program input on h target p.offset))

  -- the second of two ways leads nowhere
  pub second-dead : (p : Spot) (h : Held) (target : ℕ) → Stands program p.at (code.alt target) → IsDead program input (direction_of p.forward) target p.offset
      → Leads program input 1 (task program input true p h) (task program input true (record p { at = p.at + 1 }) h)
  second-dead p h target here dead =
      let s : Whole = state_at p h in
      let next : suc p.at ≡ p.at + 1 = omega arith in
      let work : Work = stands_for program input (direction_of p.forward) h.stack h.loops h.groups in
      step-on program input (code.alt target) p (record p { at = p.at + 1 }) h h true here refl
      (subst (λ a. Leads program input 0 (task_of program input (onward s ∷ record s { at = target } ∷ []) p h) (task program input true (record p { at = a }) h)) next
      (leads-then program input 0 0 (leads-later program input (direction_of p.forward) (onward s ∷ []) (record s { at = target } ∷ []) work)
      (leads-without program input (direction_of p.forward) (onward s ∷ []) (record s { at = target } ∷ []) work (dead h.loops h.groups))))

module _ (program : Program) (input : Input) where
  -- an iteration ends
  pub again-on-step : (p q : Spot) (h k : Held) (going : Bool) (begin : ℕ) (f : code.LoopFields) → Stands program p.at (code.loop_again begin) → Stands program begin (code.enter_loop f)
      → Leads program input 0 (task_of program input (if is_idle f (state_at p h) then [] else choices f begin (state_at p h)) p h) (task program input going q k)
      → Leads program input 1 (task program input true p h) (task program input going q k)
  again-on-step p q h k going begin f here there on =
      step-on program input (code.loop_again begin) p q h k going here refl
      (subst (λ ss. Leads program input 0 (task_of program input ss p h) (task program input going q k)) (sym (again-successors program input (direction_of p.forward) (state_at p h) begin f there)) on)
