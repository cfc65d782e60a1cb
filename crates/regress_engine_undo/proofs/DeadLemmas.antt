-- What surely leads nowhere, and what is passed over.
use Rattle.std.proofs.Common.{◌≡◌, ℕ, ◌-◌, ◌<◌, Bool, true, false, List, Option, Some, None, ◌⊎◌, inl, inr, refl, sym, subst, arith}
use Rattle.regress_meaning.specs.Meaning.{Forward, Backward}
use Rattle.regress_meaning.specs.Inputs.{Input}
use Rattle.regress_engine_input.specs.Views.{direction_of}
use Rattle.regress_engine_insn.specs.Instructions.{Instruction, Program, Stands}
use Rattle.regress_engine_runs.specs.States.{Marks}
use Rattle.regress_engine_runs.specs.Runs.{advance, against, gap}
use Rattle.regress_engine_runs.specs.UndoStack.{give_back, take_on, stands_for, MovesOn}
use Rattle.regress_engine_search.specs.Tasks.{Leads}
use Rattle.regress_engine_search.proofs.TaskLemmas.{leads-then, leads-same}
use Rattle.regress_engine_undo.specs.declared.undo.Spot.{Spot}
use Rattle.regress_engine_undo.specs.Held.{Held, pushed}
use Rattle.regress_engine_singles.specs.Failing.{IsDead}
use Rattle.regress_engine_singles.proofs.DeadLemmas.{leads-dead}
use Rattle.regress_engine_undo.specs.Dead.{given_from, GivesFrom, TakesFrom}
use Rattle.regress_engine_undo.specs.Tasks.{task}
use Rattle.regress_engine_undo.proofs.BackLemmas.{give_back-last, give_back-none, give_back-more, take_on-last, take_on-more}

-- a spot from which no match can be reached is passed over
past-dead : (program : Program) (input : Input) (forward : Bool) (at o : ℕ) (p : Spot) (h k : Held) → p.forward ≡ forward → IsDead program input (direction_of forward) at o
    → Leads program input 0 (task program input false p h) (task program input true (record p { at = at; offset = o }) k) → Leads program input 0 (task program input false p h) (task program input false p k)
past-dead program input forward at o p h k same dead on =
    let dead' : IsDead program input (direction_of p.forward) at o = subst (λ b. IsDead program input (direction_of b) at o) (sym same) dead in
    leads-then program input 0 0 on (leads-dead program input (direction_of p.forward) at o k.loops k.groups (stands_for program input (direction_of p.forward) k.stack k.loops k.groups) dead')

-- ---- what is given back

module _ (program : Program) (input : Input) (forward : Bool) (at near : ℕ) where
  pub gives-same : (far : ℕ) → GivesFrom program input forward at near far (Some far)
  gives-same far p h same = leads-same program input (task program input false p (pushed (give_back at near far) h))

  gives-dead : (far : ℕ) (found : Option ℕ) → IsDead program input (direction_of forward) at far
      → ((p : Spot) (h : Held) → p.forward ≡ forward → Leads program input 0 (task program input false p (pushed (give_back at near far) h)) (task program input true (record p { at = at; offset = far }) (given_from at near found h)))
      → GivesFrom program input forward at near far found
  gives-dead far found dead on p h same = past-dead program input forward at far p (pushed (give_back at near far) h) (given_from at near found h) same dead (on p h same)

  -- the last offset leads nowhere
  pub gives-last : (far : ℕ) → IsDead program input (direction_of forward) at far → gap (direction_of forward) near far ≡ 0 → GivesFrom program input forward at near far None
  gives-last far dead none =
      gives-dead far None dead (λ p h same. give_back-last program input p h at near far (subst (λ b. gap (direction_of b) near far ≡ 0) (sym same) none))

  pub gives-none : (far : ℕ) → IsDead program input (direction_of forward) at far → input.next (against (direction_of forward)) far ≡ None → GivesFrom program input forward at near far None
  gives-none far dead none =
      gives-dead far None dead (λ p h same. give_back-none program input p h at near far (subst (λ b. input.next (against (direction_of b)) far ≡ None) (sym same) none))

  -- another one is passed over
  pub gives-over : (far c q : ℕ) → MovesOn input → IsDead program input (direction_of forward) at far → 0 < gap (direction_of forward) near far → input.next (against (direction_of forward)) far ≡ Some (c, q)
      → GivesFrom program input forward at near far (Some q)
  gives-over far c q moves dead some e =
      gives-dead far (Some q) dead
      (λ p h same. give_back-more program input p h (pushed (give_back at near q) h) at near far c q moves (subst (λ b. 0 < gap (direction_of b) near far) (sym same) some)
      (subst (λ b. input.next (against (direction_of b)) far ≡ Some (c, q)) (sym same) e) refl)

  pub gives-then : (far q : ℕ) (found : Option ℕ) → GivesFrom program input forward at near far (Some q) → GivesFrom program input forward at near q found → GivesFrom program input forward at near far found
  gives-then far q found first second p h same = leads-then program input 0 0 (first p h same) (second p h same)

-- what is before an offset is less far ahead
pub nearer : (input : Input) → MovesOn input → (forward : Bool) (near far c q : ℕ) → input.next (against (direction_of forward)) far ≡ Some (c, q) → 0 < gap (direction_of forward) near far
    → gap (direction_of forward) near q < gap (direction_of forward) near far
nearer input moves true near far c q e some = let past = moves Backward far c q e in omega (arith, past, some)
nearer input moves false near far c q e some = let past = moves Forward far c q e in omega (arith, past, some)

-- ---- what is taken on

module _ (program : Program) (input : Input) (forward : Bool) (at : ℕ) where
  pub takes-same : (near left : ℕ) → TakesFrom program input forward at near left (Some (near, left))
  takes-same near left p h same = leads-same program input (task program input false p (pushed (take_on at near left) h))

  pub takes-then : (near left q rest : ℕ) (found : Option (ℕ × ℕ)) → TakesFrom program input forward at near left (Some (q, rest)) → TakesFrom program input forward at q rest found
      → TakesFrom program input forward at near left found
  takes-then near left q rest found first second p h same = leads-then program input 0 0 (first p h same) (second p h same)

  -- behind the last iteration no match can be reached
  pub takes-last : (near left : ℕ) (i : Instruction) → Stands program (at - 1) i → IsDead program input (direction_of forward) at near
      → (left ≡ 0) ⊎ ((groups : List Marks) → advance program input i (direction_of forward) groups near ≡ None) → TakesFrom program input forward at near left None
  takes-last near left i here dead out p h same = past-dead program input forward at near p (pushed (take_on at near left) h) h same dead (take_on-last program input p h at near left i here (by_way out))
    where
      by_way : (left ≡ 0) ⊎ ((groups : List Marks) → advance program input i (direction_of forward) groups near ≡ None) → (left ≡ 0) ⊎ (advance program input i (direction_of p.forward) h.groups near ≡ None)
      by_way (inl none) = inl none
      by_way (inr stops) = inr (subst (λ b. advance program input i (direction_of b) h.groups near ≡ None) (sym same) (stops h.groups))

  -- another one is passed over
  pub takes-over : (near left q : ℕ) (i : Instruction) → Stands program (at - 1) i → IsDead program input (direction_of forward) at near → (left ≡ 0 → ⊥)
      → ((groups : List Marks) → advance program input i (direction_of forward) groups near ≡ Some q) → TakesFrom program input forward at near left (Some (q, left - 1))
  takes-over near left q i here dead some takes p h same =
      let k : Held = pushed (take_on at q (left - 1)) h in
      past-dead program input forward at near p (pushed (take_on at near left) h) k same dead
      (take_on-more program input p h k at near left q i here some (subst (λ b. advance program input i (direction_of b) h.groups near ≡ Some q) (sym same) (takes h.groups)) refl)
