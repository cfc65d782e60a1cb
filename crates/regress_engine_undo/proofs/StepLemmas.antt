-- What each step that changes what is held leads to.
use Rattle.std.specs.Prelude.{get_or, slice_set, nat_lt, nat_le, ◌^◌}
use Rattle.std.proofs.Common.{◌≡◌, ℕ, suc, ◌+◌, ◌<◌, ◌≤◌, ◌∷◌, [], List, Bool, true, false, if◌then◌else◌, length, refl, sym, ap, ◌∙◌, subst, arith}
use Rattle.std.proofs.lemmas.Bool.Decides.{nat_tests}
use Rattle.regress_engine_input.specs.Views.{direction_of}
use Rattle.regress_meaning.specs.Inputs.{Input}
use Rattle.regress_engine_insn.specs.Instructions.{LoopFields, Program}
use Rattle.regress_engine_runs.specs.States.{Whole, Marks, onward}
use Rattle.regress_engine_runs.specs.Runs.{count_of, one_more, ordered, choices, is_idle}
use Rattle.regress_engine_runs.specs.UndoStack.{Work, first_do, stands_for, resume, iterate}
use Rattle.regress_engine_search.specs.Tasks.{Task, Leads}
use Rattle.regress_engine_search.proofs.TaskLemmas.{leads-then, leads-same, leads-first, leads-later}
use Rattle.regress_engine_singles.specs.Failing.{IsDead}
use Rattle.regress_engine_singles.proofs.Failures.{leads-without}
use Rattle.regress_engine_singles.proofs.DeadLemmas.{leads-dead}
use Rattle.regress_engine_undo.specs.declared.undo.Spot.{Spot}
use Rattle.regress_engine_undo.specs.Held.{Held, loop_written, group_written, pushed}
use Rattle.regress_engine_undo.specs.Sound.{IsSound, IsHeld}
use Rattle.regress_engine_undo.specs.Tasks.{task_of, task, state_at, GoesOn, GoesOnPast, StaysSound}
use Rattle.regress_engine_undo.proofs.LeadLemmas.{leads-loop, leads-group}
use Rattle.regress_engine_undo.proofs.SoundLemmas.{held-loop, held-group}
use Rattle.regress_engine_runs.proofs.Choices.{choices-are, ordered-none, ordered-out, ordered-more}

-- one way now and one later
pub fork-leads : (p : Spot) (h k : Held) (target : ℕ) → k ≡ pushed (resume target p.offset) h
    → GoesOn (onward (state_at p h) ∷ record (state_at p h) { at = target } ∷ []) p h true (record p { at = p.at + 1 }) k
unfolding stands_for
fork-leads p h k target is program input =
    let s : Whole = state_at p h in
    let e : suc p.at ≡ p.at + 1 = omega arith in
    subst (λ x. Leads program input 0 (task_of program input (onward s ∷ record s { at = target } ∷ []) p h) (task program input true (record p { at = p.at + 1 }) x)) (sym is)
    (subst (λ a. Leads program input 0 (task_of program input (onward s ∷ record s { at = target } ∷ []) p h) (task program input true (record p { at = a }) (pushed (resume target p.offset) h))) e
    (leads-later program input (direction_of p.forward) (onward s ∷ []) (record s { at = target } ∷ []) (stands_for program input (direction_of p.forward) h.stack h.loops h.groups)))

pub resume-sound : (h k : Held) (at offset : ℕ) → k ≡ pushed (resume at offset) h → StaysSound h k
unfolding IsSound
resume-sound h k at offset is program v held =
    subst (IsHeld program v) (sym is) (record { loops = held.loops; groups = held.groups; sound = held.sound })

-- a group's marks
pub mark-leads : (p : Spot) (h k : Held) (group : ℕ) (m : Marks) → k ≡ group_written group m h
    → GoesOn (onward (record (state_at p h) { groups = slice_set h.groups group m }) ∷ []) p h true (record p { at = p.at + 1 }) k
mark-leads p h k group m is program input =
    let s : Whole = onward (record (state_at p h) { groups = slice_set h.groups group m }) in
    let e : suc p.at ≡ p.at + 1 = omega arith in
    subst (λ x. Leads program input 0 (task_of program input (s ∷ []) p h) (task program input true (record p { at = p.at + 1 }) x)) (sym is)
    (subst (λ a. Leads program input 0 (task_of program input (s ∷ []) p h) (task program input true (record p { at = a }) (group_written group m h))) e
    (leads-group program input (s ∷ []) p h group m))

pub mark-sound : (h k : Held) (group : ℕ) (m : Marks) → k ≡ group_written group m h → group < length h.groups → StaysSound h k
mark-sound h k group m is there program v held =
    let same = held.groups in subst (IsHeld program v) (sym is) (held-group program v h group m held (omega (arith, there, same)))

pub loop-sound : (h k : Held) (id : ℕ) (x : ℕ × ℕ) → k ≡ loop_written id x h → id < length h.loops → StaysSound h k
loop-sound h k id x is there program v held =
    let same = held.loops in subst (IsHeld program v) (sym is) (held-loop program v h id x held (omega (arith, there, same)))

pub sound-then : (h k l : Held) → StaysSound h k → StaysSound k l → StaysSound h l
sound-then h k l f g program v held = g program v (f program v held)

-- ---- repetitions

-- one more iteration
pub iterate-leads : (p : Spot) (h k : Held) (id count begin : ℕ) → count ≡ (get_or h.loops id (0, 0)).0 → k ≡ loop_written id (count + 1, p.offset) h
    → GoesOn (one_more id begin (state_at p h) ∷ []) p h true (record p { at = begin + 1 }) k
iterate-leads p h k id count begin counted is program input =
    let s : Whole = one_more id begin (state_at p h) in
    let from : Task = task_of program input (s ∷ []) p h in
    let at : suc begin ≡ begin + 1 = omega arith in
    let more : suc (get_or h.loops id (0, 0)).0 ≡ count + 1 = omega (arith, counted) in
    subst (λ x. Leads program input 0 from (task program input true (record p { at = begin + 1 }) x)) (sym is)
    (subst (λ a. Leads program input 0 from (task program input true (record p { at = a }) (loop_written id (count + 1, p.offset) h))) at
    (subst (λ n. Leads program input 0 from (task program input true (record p { at = suc begin }) (loop_written id (n, p.offset) h))) more
    (leads-loop program input (s ∷ []) p h id (suc (get_or h.loops id (0, 0)).0, p.offset))))

module _ (f : LoopFields) (begin : ℕ) (p : Spot) (h : Held) (count : ℕ) (counted : count ≡ (get_or h.loops f.loop_id (0, 0)).0) where
  abbrev here : Whole
  here = state_at p h

  more-true : count < f.most → nat_lt (count_of f.loop_id here) f.most ≡ true
  more-true less = ap (λ n. nat_lt n f.most) (sym counted) ∙ grind (arith, nat_tests)

  more-false : f.most ≤ count → nat_lt (count_of f.loop_id here) f.most ≡ false
  more-false less = ap (λ n. nat_lt n f.most) (sym counted) ∙ grind (arith, nat_tests)

  out-true : f.least ≤ count → nat_le f.least (count_of f.loop_id here) ≡ true
  out-true enough = ap (λ n. nat_le f.least n) (sym counted) ∙ grind (arith, nat_tests)

  out-false : count < f.least → nat_le f.least (count_of f.loop_id here) ≡ false
  out-false few = ap (λ n. nat_le f.least n) (sym counted) ∙ grind (arith, nat_tests)

  from_choices : (states : List Whole) (q : Spot) (k : Held) (going : Bool) → choices f begin here ≡ states → GoesOn states p h going q k → GoesOn (choices f begin here) p h going q k
  from_choices states q k going same on program input =
      subst (λ ss. Leads program input 0 (task_of program input ss p h) (task program input going q k)) (sym same) (on program input)

  pub choose-none : f.most ≤ count → count < f.least → GoesOn (choices f begin here) p h false p h
  choose-none many few =
      from_choices [] p h false
      (choices-are f begin here f.greedy false false refl (more-false many) (out-false few) ∙ ordered-none f.greedy (one_more f.loop_id begin here) (record here { at = f.exit }))
      (λ program input. leads-same program input (task_of program input [] p h))

  pub choose-out : f.most ≤ count → f.least ≤ count → GoesOn (choices f begin here) p h true (record p { at = f.exit }) h
  choose-out many enough =
      from_choices (record here { at = f.exit } ∷ []) (record p { at = f.exit }) h true
      (choices-are f begin here f.greedy false true refl (more-false many) (out-true enough) ∙ ordered-out f.greedy (one_more f.loop_id begin here) (record here { at = f.exit }))
      (λ program input. leads-same program input (task_of program input (record here { at = f.exit } ∷ []) p h))

  pub choose-more : (k : Held) → count < f.most → count < f.least → k ≡ loop_written f.loop_id (count + 1, p.offset) h
      → GoesOn (choices f begin here) p h true (record p { at = begin + 1 }) k
  choose-more k less few is =
      from_choices (one_more f.loop_id begin here ∷ []) (record p { at = begin + 1 }) k true
      (choices-are f begin here f.greedy true false refl (more-true less) (out-false few) ∙ ordered-more f.greedy (one_more f.loop_id begin here) (record here { at = f.exit }))
      (iterate-leads p h k f.loop_id count begin counted is)

  pub choose-greedy : (j k : Held) → count < f.most → f.least ≤ count → f.greedy ≡ true → j ≡ pushed (resume f.exit p.offset) h → k ≡ loop_written f.loop_id (count + 1, p.offset) j
      → GoesOn (choices f begin here) p h true (record p { at = begin + 1 }) k
  unfolding stands_for
  choose-greedy j k less enough greedy pushes is =
      from_choices (one_more f.loop_id begin here ∷ record here { at = f.exit } ∷ []) (record p { at = begin + 1 }) k true
      (choices-are f begin here true true true greedy (more-true less) (out-true enough))
      (λ program input. leads-then program input 0 0
      (leads-later program input (direction_of p.forward) (one_more f.loop_id begin here ∷ []) (record here { at = f.exit } ∷ []) (stands_for program input (direction_of p.forward) h.stack h.loops h.groups))
      (iterate-leads p (pushed (resume f.exit p.offset) h) k f.loop_id count begin counted (is ∙ ap (loop_written f.loop_id (count + 1, p.offset)) pushes) program input))

  pub choose-lazy : (k : Held) → count < f.most → f.least ≤ count → f.greedy ≡ false → k ≡ pushed (iterate f.loop_id begin p.offset) h
      → GoesOn (choices f begin here) p h true (record p { at = f.exit }) k
  unfolding stands_for
  choose-lazy k less enough lazy is =
      from_choices (record here { at = f.exit } ∷ one_more f.loop_id begin here ∷ []) (record p { at = f.exit }) k true
      (choices-are f begin here false true true lazy (more-true less) (out-true enough))
      (λ program input. subst (λ x. Leads program input 0 (task_of program input (record here { at = f.exit } ∷ one_more f.loop_id begin here ∷ []) p h) (task program input true (record p { at = f.exit }) x)) (sym is)
      (leads-later program input (direction_of p.forward) (record here { at = f.exit } ∷ []) (one_more f.loop_id begin here ∷ []) (stands_for program input (direction_of p.forward) h.stack h.loops h.groups)))

  -- where no match can be reached from behind it the repetition is not left
  stay-only : (program : Program) (input : Input) → IsDead program input (direction_of p.forward) f.exit p.offset → (greedy more out : Bool)
      → Leads program input 0 (task_of program input (ordered greedy more out (one_more f.loop_id begin here) (record here { at = f.exit })) p h)
      (task_of program input (if more then one_more f.loop_id begin here ∷ [] else []) p h)
  stay-only program input dead greedy more out = by_case greedy more out
    where
      work : Work
      work = stands_for program input (direction_of p.forward) h.stack h.loops h.groups

      Stays : Bool → Bool → Bool → Type 0
      Stays g m o = Leads program input 0 (task_of program input (ordered g m o (one_more f.loop_id begin here) (record here { at = f.exit })) p h)
          (task_of program input (if m then one_more f.loop_id begin here ∷ [] else []) p h)

      alone : (xs : List Whole) → Leads program input 0 (task_of program input xs p h) (task_of program input xs p h)
      alone xs = leads-same program input (task_of program input xs p h)

      left : (w : Work) → Leads program input 0 (record { dir = direction_of p.forward; states = record here { at = f.exit } ∷ []; work = w }) (record { dir = direction_of p.forward; states = []; work = w })
      left w = leads-dead program input (direction_of p.forward) f.exit p.offset h.loops h.groups w dead

      by_case : (g m o : Bool) → Stays g m o
      by_case true true true =
          leads-then program input 0 0 (leads-later program input (direction_of p.forward) (one_more f.loop_id begin here ∷ []) (record here { at = f.exit } ∷ []) work)
          (leads-without program input (direction_of p.forward) (one_more f.loop_id begin here ∷ []) (record here { at = f.exit } ∷ []) work (dead h.loops h.groups))
      by_case false true true =
          leads-then program input 0 0 (leads-later program input (direction_of p.forward) (record here { at = f.exit } ∷ []) (one_more f.loop_id begin here ∷ []) work)
          (leads-then program input 0 0 (left (first_do (one_more f.loop_id begin here ∷ []) work)) (leads-first program input (direction_of p.forward) [] (one_more f.loop_id begin here ∷ []) work))
      by_case true false true = left work
      by_case false false true = left work
      by_case true true false = alone (one_more f.loop_id begin here ∷ [])
      by_case false true false = alone (one_more f.loop_id begin here ∷ [])
      by_case true false false = alone []
      by_case false false false = alone []

  stays : (program : Program) (input : Input) → IsDead program input (direction_of p.forward) f.exit p.offset → (more : Bool) → nat_lt (count_of f.loop_id here) f.most ≡ more
      → Leads program input 0 (task_of program input (choices f begin here) p h) (task_of program input (if more then one_more f.loop_id begin here ∷ [] else []) p h)
  stays program input dead more e =
      subst (λ b. Leads program input 0 (task_of program input (choices f begin here) p h) (task_of program input (if b then one_more f.loop_id begin here ∷ [] else []) p h)) e
      (stay-only program input dead f.greedy (nat_lt (count_of f.loop_id here) f.most) (nat_le f.least (count_of f.loop_id here)))

  pub stay-none : f.most ≤ count → GoesOnPast f.exit (choices f begin here) p h false p h
  stay-none many program input dead = stays program input dead false (more-false many)

  pub stay-more : (k : Held) → count < f.most → k ≡ loop_written f.loop_id (count + 1, p.offset) h
      → GoesOnPast f.exit (choices f begin here) p h true (record p { at = begin + 1 }) k
  stay-more k less is program input dead =
      leads-then program input 0 0 (stays program input dead true (more-true less)) (iterate-leads p h k f.loop_id count begin counted is program input)

pub iterate-sound : (h k : Held) (id begin offset : ℕ) → k ≡ pushed (iterate id begin offset) h → id < length h.loops → (get_or h.loops id (0, 0)).0 + 1 < 2 ^ 64 → begin + 1 < 2 ^ 64
    → StaysSound h k
unfolding IsSound
iterate-sound h k id begin offset is there count room program v held =
    let same = held.loops in
    subst (IsHeld program v) (sym is) (record { loops = held.loops; groups = held.groups; sound = (omega (arith, there, same), count, room, held.sound) })

-- the spot, told otherwise
pub at_spot : (states : List Whole) (p : Spot) (h : Held) (going : Bool) (q r : Spot) (k : Held) → r ≡ q → GoesOn states p h going q k → GoesOn states p h going r k
at_spot states p h going q r k same on program input =
    subst (λ x. Leads program input 0 (task_of program input states p h) (task program input going x k)) (sym same) (on program input)

pub past_spot : (exit : ℕ) (states : List Whole) (p : Spot) (h : Held) (going : Bool) (q r : Spot) (k : Held) → r ≡ q → GoesOnPast exit states p h going q k → GoesOnPast exit states p h going r k
past_spot exit states p h going q r k same on program input dead =
    subst (λ x. Leads program input 0 (task_of program input states p h) (task program input going x k)) (sym same) (on program input dead)

-- an iteration that was idle, and one that was not
pub again-idle : (f : LoopFields) (begin : ℕ) (p : Spot) (h : Held) → is_idle f (state_at p h) ≡ true
    → GoesOn (if is_idle f (state_at p h) then [] else choices f begin (state_at p h)) p h false p h
again-idle f begin p h idle program input =
    subst (λ b. Leads program input 0 (task_of program input (if b then [] else choices f begin (state_at p h)) p h) (task program input false p h)) (sym idle)
    (leads-same program input (task_of program input [] p h))

pub again-on : (f : LoopFields) (begin : ℕ) (p : Spot) (h : Held) (going : Bool) (q : Spot) (k : Held) → is_idle f (state_at p h) ≡ false → (program : Program) (input : Input)
    → Leads program input 0 (task_of program input (choices f begin (state_at p h)) p h) (task program input going q k)
    → Leads program input 0 (task_of program input (if is_idle f (state_at p h) then [] else choices f begin (state_at p h)) p h) (task program input going q k)
again-on f begin p h going q k busy program input on =
    subst (λ b. Leads program input 0 (task_of program input (if b then [] else choices f begin (state_at p h)) p h) (task program input going q k)) (sym busy) on

-- a repetition is entered, of which so many iterations are taken as done
pub enter-on : (done : ℕ) (f : LoopFields) (p : Spot) (h j : Held) (going : Bool) (q : Spot) (k : Held) → j ≡ loop_written f.loop_id (done, p.offset) h → (program : Program) (input : Input)
    → Leads program input 0 (task_of program input (choices f p.at (state_at p j)) p j) (task program input going q k)
    → Leads program input 0 (task_of program input (choices f p.at (record (state_at p h) { loops = slice_set h.loops f.loop_id (done, p.offset) })) p h) (task program input going q k)
enter-on done f p h j going q k is program input on =
    let s : Whole = record (state_at p h) { loops = slice_set h.loops f.loop_id (done, p.offset) } in
    let on' : Leads program input 0 (task_of program input (choices f p.at s) p (loop_written f.loop_id (done, p.offset) h)) (task program input going q k) =
    subst (λ x. Leads program input 0 (task_of program input (choices f p.at (state_at p x)) p x) (task program input going q k)) is on in
    leads-then program input 0 0 (leads-loop program input (choices f p.at s) p h f.loop_id (done, p.offset)) on'
