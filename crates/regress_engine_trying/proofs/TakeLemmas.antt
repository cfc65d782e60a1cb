-- Exits of lazy one-character loops that are passed over, in a step at least.
use Rattle.std.proofs.Common.{◌≡◌, ℕ, zero, suc, ◌+◌, ◌-◌, ◌*◌, ◌/◌, ◌<◌, ◌≤◌, Bool, true, false, not, if◌then◌else◌, List, [], ◌∷◌, length, Option, Some, None, ◌⊎◌, inl, inr, refl, sym, ap, ap₂, ◌∙◌, subst, arith}
use Rattle.regress_meaning.specs.Inputs.{Input}
use Rattle.regress_engine_input.specs.Views.{View, direction_of, input_of}
use Rattle.regress_engine_insn.specs.Instructions.{Instruction, Program, Stands}
use Rattle.regress_engine_runs.specs.States.{Marks}
use Rattle.regress_engine_runs.specs.Runs.{advance}
use Rattle.regress_engine_runs.specs.UndoStack.{take_on, stands_for, whole}
use Rattle.regress_engine_search.specs.Tasks.{Leads}
use Rattle.regress_engine_search.proofs.TaskLemmas.{leads-then, leads-dropped}
use Rattle.regress_engine_singles.specs.Failing.{IsDead, TakesNothing}
use Rattle.regress_engine_singles.proofs.Failures.{fail-none}
use Rattle.regress_engine_undo.specs.declared.undo.Spot.{Spot}
use Rattle.regress_engine_undo.specs.Held.{Held, pushed}
use Rattle.regress_engine_undo.specs.Dead.{TakesFrom, taken_from}
use Rattle.regress_engine_undo.specs.Tasks.{task}
use Rattle.regress_engine_undo.proofs.BackLemmas.{take_on-last, take_on-more}
use Rattle.regress_engine_undo.proofs.DeadLemmas.{takes-then}
use Rattle.regress_engine_trying.specs.declared.exit.Exit.{Exit}
use Rattle.regress_engine_trying.specs.Trying.{World, IsPassed, advanced}
use Rattle.regress_engine_trying.specs.Passing.{TakesOver, found_at}
use Rattle.regress_engine_trying.proofs.PassedLemmas.{passed-takes}

-- a spot from which no match can be reached is passed over in a step
past-one : (program : Program) (input : Input) (forward : Bool) (at o : ℕ) (p : Spot) (h k : Held) → p.forward ≡ forward → IsDead program input (direction_of forward) at o
    → Leads program input 0 (task program input false p h) (task program input true (record p { at = at; offset = o }) k) → Leads program input 1 (task program input false p h) (task program input false p k)
past-one program input forward at o p h k same dead on =
    let there : IsDead program input (direction_of p.forward) at o = subst (λ b. IsDead program input (direction_of b) at o) (sym same) dead in
    leads-then program input 0 1 on
    (leads-dropped program input (direction_of p.forward) (whole at o k.loops k.groups) (stands_for program input (direction_of p.forward) k.stack k.loops k.groups) (fail-none program input (there k.loops k.groups)))

module _ (program : Program) (input : Input) (forward : Bool) (at : ℕ) where
  -- one is passed over, and then others may be
  pub over-on : (o left q rest : ℕ) (found : Option (ℕ × ℕ)) → TakesOver program input forward at o left (Some (q, rest)) → TakesFrom program input forward at q rest found → TakesOver program input forward at o left found
  over-on o left q rest found first second p h same = leads-then program input 1 0 (first p h same) (second p h same)

  pub on-over : (o left q rest : ℕ) (found : Option (ℕ × ℕ)) → TakesFrom program input forward at o left (Some (q, rest)) → TakesOver program input forward at q rest found → TakesOver program input forward at o left found
  on-over o left q rest found first second p h same = leads-then program input 0 1 (first p h same) (second p h same)

  -- the last one
  pub over-last : (o left : ℕ) (i : Instruction) → Stands program (at - 1) i → IsDead program input (direction_of forward) at o
      → (left ≡ 0) ⊎ ((groups : List Marks) → advance program input i (direction_of forward) groups o ≡ None) → TakesOver program input forward at o left None
  over-last o left i here dead out p h same = past-one program input forward at o p (pushed (take_on at o left) h) h same dead (take_on-last program input p h at o left i here (by_way out))
    where
      by_way : (left ≡ 0) ⊎ ((groups : List Marks) → advance program input i (direction_of forward) groups o ≡ None) → (left ≡ 0) ⊎ (advance program input i (direction_of p.forward) h.groups o ≡ None)
      by_way (inl none) = inl none
      by_way (inr stops) = inr (subst (λ b. advance program input i (direction_of b) h.groups o ≡ None) (sym same) (stops h.groups))

  -- another one
  pub over-one : (o left q : ℕ) (i : Instruction) → Stands program (at - 1) i → IsDead program input (direction_of forward) at o → (left ≡ 0 → ⊥)
      → ((groups : List Marks) → advance program input i (direction_of forward) groups o ≡ Some q) → TakesOver program input forward at o left (Some (q, left - 1))
  over-one o left q i here dead some takes p h same =
      let k : Held = pushed (take_on at q (left - 1)) h in
      past-one program input forward at o p (pushed (take_on at o left) h) k same dead
      (take_on-more program input p h k at o left q i here some (subst (λ b. advance program input i (direction_of b) h.groups o ≡ Some q) (sym same) (takes h.groups)) refl)

-- places that are passed over at once, if any are
pub passed-over : (w : World) (at : ℕ) (i j : Instruction) (forward : Bool) → Stands w.program (at - 1) j
    → ((o : ℕ) → TakesNothing w.program (input_of w.view) (direction_of forward) i o → IsDead w.program (input_of w.view) (direction_of forward) at o)
    → (left o near : ℕ) → IsPassed w i j forward left o near
    → (near ≡ o) ⊎ TakesOver w.program (input_of w.view) forward at o left (Some (near, left - (near - o)))
passed-over w at i j forward here dead left o near passed = by_size (near - o) refl
  where
    low : o ≤ near
    low = passed.low

    by_size : (n : ℕ) → near - o ≡ n → (near ≡ o) ⊎ TakesOver w.program (input_of w.view) forward at o left (Some (near, left - (near - o)))
    by_size zero none = inl (omega (arith, low, none))
    by_size (suc n) some =
        let room = passed.room in
        let few : left - 1 - (near - suc o) ≡ left - (near - o) = omega (arith, low, some, room) in
        inr (over-on w.program (input_of w.view) forward at o left (suc o) (left - 1) (Some (near, left - (near - o)))
        (over-one w.program (input_of w.view) forward at o left (suc o) j here (dead o (λ groups. passed.none groups o (omega arith) (omega (arith, some)))) (λ e. absurd (omega (arith, room, some, e)))
        (λ groups. sym (passed.taken groups o (omega arith) (omega (arith, some)))))
        (subst (λ x. TakesFrom w.program (input_of w.view) forward at (suc o) (left - 1) (Some (near, x))) few
        (passed-takes w at i j forward here dead (left - 1) (suc o) near (record {
          low = omega (arith, some);
          room = omega (arith, some, room);
          taken = λ groups k from less. passed.taken groups k (omega (arith, from)) less;
          none = λ groups k from less. passed.none groups k (omega (arith, from)) less;
        }))))

-- what is said the other way round
pub was : (b c : Bool) → not b ≡ c → b ≡ not c
was true c e = ap not e
was false c e = ap not e

-- ---- an exit that was looked for

pub found-some : (e : Exit) → e.may_go ≡ true → found_at e ≡ Some (e.offset, e.left)
found-some e may = ap (λ (b : Bool). if b then Some (e.offset, e.left) else None) may

pub found-none : (e : Exit) → e.may_go ≡ false → found_at e ≡ None
found-none e may = ap (λ (b : Bool). if b then Some (e.offset, e.left) else None) may

module _ (program : Program) (input : Input) (p : Spot) (h : Held) (at offset left : ℕ) (e : Exit) where
  abbrev LeadsIn : ℕ → Option (ℕ × ℕ) → Type 0
  LeadsIn n found = Leads program input n (task program input false p (pushed (take_on at offset left) h)) (task program input false p (taken_from at found h))

  pub takes-some : e.may_go ≡ true → TakesFrom program input p.forward at offset left (found_at e) → LeadsIn 0 (Some (e.offset, e.left))
  takes-some may leads = subst (LeadsIn 0) (found-some e may) (leads p h refl)

  pub takes-none : e.may_go ≡ false → TakesFrom program input p.forward at offset left (found_at e) → LeadsIn 0 None
  takes-none may leads = subst (LeadsIn 0) (found-none e may) (leads p h refl)

  pub some-over : e.may_go ≡ true → TakesOver program input p.forward at offset left (found_at e) → LeadsIn 1 (Some (e.offset, e.left))
  some-over may leads = subst (LeadsIn 1) (found-some e may) (leads p h refl)

  pub none-over : e.may_go ≡ false → TakesOver program input p.forward at offset left (found_at e) → LeadsIn 1 None
  none-over may leads = subst (LeadsIn 1) (found-none e may) (leads p h refl)

-- no places were passed over, or a step was taken
pub passed-or : {X Y : Type 0} → (from offset far old new : ℕ) → (far ≡ offset) ⊎ X → (from ≡ far → new ≤ old) → (X → Y) → (from ≡ offset → new ≤ old) ⊎ Y
passed-or from offset far old new (inl same) none f = inl (λ e. none (e ∙ sym same))
passed-or from offset far old new (inr x) none f = inr (f x)

-- the same where others are passed over behind them
pub passed-both : {X Y Z : Type 0} → (from offset far old new : ℕ) → (far ≡ offset) ⊎ X → (from ≡ far → new ≤ old) ⊎ Z → (X → Y) → (Z → Y) → (from ≡ offset → new ≤ old) ⊎ Y
passed-both from offset far old new (inr x) more f g = inr (f x)
passed-both from offset far old new (inl same) (inr z) f g = inr (g z)
passed-both from offset far old new (inl same) (inl none) f g = inl (λ e. none (e ∙ sym same))
