-- Exits of one-character loops of which it is known that they fail.
use Rattle.std.proofs.Common.{◌≡◌, ℕ, zero, suc, ◌+◌, ◌-◌, Bool, true, false, ◌⊎◌, inl, inr, [], ◌∷◌, List, length, get_or, Option, Some, None, refl, sym, ap, ◌∙◌, subst, arith}
use Rattle.regress_meaning.specs.Inputs.{Input}
use Rattle.regress_engine_input.specs.Views.{View, AreOfKind, direction_of, input_of}
use Rattle.regress_engine_insn.specs.Instructions.{Instruction, Program, Stands}
use Rattle.regress_engine_runs.specs.States.{Marks}
use Rattle.regress_engine_runs.specs.Runs.{advance, after_times, as_far}
use Rattle.regress_engine_runs.specs.UndoStack.{give_back, take_on}
use Rattle.regress_engine_runs.proofs.RunViews.{one_stands}
use Rattle.regress_engine_runs.proofs.Iterations.{far-all, far-stops}
use Rattle.regress_engine_search.specs.Ready.{IsBody}
use Rattle.regress_engine_search.specs.Search.{Suits}
use Rattle.regress_engine_search.specs.Tasks.{Leads}
use Rattle.regress_engine_search.proofs.TaskLemmas.{leads-then, leads-same}
use Rattle.regress_engine_singles.specs.Failing.{IsDead}
use Rattle.regress_engine_singles.proofs.Failures.{fail-none}
use Rattle.regress_engine_undo.specs.declared.undo.Spot.{Spot}
use Rattle.regress_engine_undo.specs.Held.{Held, pushed}
use Rattle.regress_engine_undo.specs.Dead.{given_from}
use Rattle.regress_engine_undo.specs.Tasks.{task}
use Rattle.regress_engine_undo.proofs.BackLemmas.{take_on-last, take_on-more}
use Rattle.regress_engine_memory.specs.Held.{ExitsFailWith, FailsWith}
use Rattle.regress_engine_memory.specs.Keys.{Keyed, class_of}
use Rattle.regress_engine_memory.specs.Remembered.{keyed_of}
use Rattle.regress_engine_memory.specs.TableViews.{table_of}
use Rattle.regress_engine_memory.specs.declared.failures.Failures.{Failures}
use Rattle.regress_engine_memory.proofs.Cutting.{far-after, given-far, given-over, taken-over}
use Rattle.regress_engine_memory.proofs.HeldLemmas.{exits-end, exits-more, known-held}
use Rattle.regress_engine_trying.specs.Trying.{World, GoesBack}
use Rattle.regress_engine_trying.specs.Remembering.{GivesUpTo, IsBodyOf, RestFails}
use Rattle.regress_engine_trying.proofs.WayLemmas.{leads-fewer}

-- what leads nowhere fails, whatever is held
pub dead-fails : (program : Program) (input : Input) (keyed : Keyed) (s : Spot) (loops : List (ℕ × ℕ)) → IsDead program input (direction_of s.forward) s.at s.offset
    → FailsWith program input keyed s loops
dead-fails program input keyed s loops dead =
    (λ id. class_of keyed id (get_or loops id (0, 0)).0, λ ls gs count has. fail-none program input (dead ls gs), λ id live. refl)

-- from an exit on all fail, where it does, and what follows it
pub exits-known : (w : World) (f : Failures) (i : Instruction) (s : Spot) (h : Held) → IsBodyOf w s.at i → FailsWith w.program (input_of w.view) (keyed_of (table_of f.table)) s h.loops
    → RestFails w f i s h → ExitsFailWith w.program (input_of w.view) (keyed_of (table_of f.table)) s h.loops
exits-known w f i s h body fails (inl stops) = exits-end w.program (input_of w.view) (keyed_of (table_of f.table)) s h.loops i body.0 body.1 h.groups fails stops
exits-known w f i s h body fails (inr (q, on, known)) = exits-more w.program (input_of w.view) (keyed_of (table_of f.table)) s h.loops i body.0 body.1 h.groups fails q on known

module _ (program : Program) (v : View) (keyed : Keyed) (h : Held) (count : length h.loops ≡ program.loops) (forward : Bool) (at : ℕ) (i : Instruction) (here : Stands program (at - 1) i) where
  abbrev input : Input
  input = input_of v

  abbrev w : World
  w = record { program = program; view = v }

  abbrev exit : ℕ → Spot
  exit o = record { at = at; offset = o; forward = forward }

  abbrev go : ℕ → Option ℕ
  go o = advance program input i (direction_of forward) h.groups o

  abbrev Over : (o left : ℕ) → Held → Type 0
  Over o left k = (p : Spot) → p.forward ≡ forward → GoesBack w p (pushed (take_on at o left) h) p k false

  -- the same in a step at least
  abbrev OverMore : (o left : ℕ) → Held → Type 0
  OverMore o left k = (p : Spot) → p.forward ≡ forward → Leads program input 1 (task program input false p (pushed (take_on at o left) h)) (task program input false p k)

  over-fewer : (o left : ℕ) (k : Held) → OverMore o left k → Over o left k
  over-fewer o left k over p same = leads-fewer program input forward o 0 1 (task program input false p (pushed (take_on at o left) h)) (task program input false p k) (over p same)

  pub more-then : (o left q rest : ℕ) (k : Held) → OverMore o left (pushed (take_on at q rest) h) → Over q rest k → OverMore o left k
  more-then o left q rest k first second p same = leads-then program input 1 0 (first p same) (second p same)

  pub then-more : (o left q rest : ℕ) (k : Held) → Over o left (pushed (take_on at q rest) h) → OverMore q rest k → OverMore o left k
  then-more o left q rest k first second p same = leads-then program input 0 1 (first p same) (second p same)

  -- ---- what is taken on

  pub over-same : (o left : ℕ) → Over o left (pushed (take_on at o left) h)
  over-same o left p same = leads-same program input (task program input false p (pushed (take_on at o left) h))

  pub over-then : (o left q rest : ℕ) (k : Held) → Over o left (pushed (take_on at q rest) h) → Over q rest k → Over o left k
  over-then o left q rest k first second p same = leads-then program input 0 0 (first p same) (second p same)

  -- an exit that fails is passed over, in a step
  past-one : (o : ℕ) (p : Spot) (j k : Held) → p.forward ≡ forward → FailsWith program input keyed (exit o) h.loops → k.loops ≡ h.loops
      → Leads program input 0 (task program input false p j) (task program input true (record p { at = at; offset = o }) k) → Leads program input 1 (task program input false p j) (task program input false p k)
  past-one o p j k same fails loops on =
      let there : FailsWith program input keyed (record p { at = at; offset = o }) k.loops =
      subst (FailsWith program input keyed (record p { at = at; offset = o })) (sym loops)
      (subst (λ b. FailsWith program input keyed (record { at = at; offset = o; forward = b }) h.loops) (sym same) fails) in
      leads-then program input 0 1 on (known-held program input (record p { at = at; offset = o }) k keyed there (ap length loops ∙ count))

  pub last-one : (o left : ℕ) → FailsWith program input keyed (exit o) h.loops → (left ≡ 0) ⊎ (go o ≡ None) → OverMore o left h
  last-one o left fails out p same =
      past-one o p (pushed (take_on at o left) h) h same fails refl (take_on-last program input p h at o left i here (by_way out))
    where
      by_way : (left ≡ 0) ⊎ (go o ≡ None) → (left ≡ 0) ⊎ (advance program input i (direction_of p.forward) h.groups o ≡ None)
      by_way (inl none) = inl none
      by_way (inr stops) = inr (subst (λ b. advance program input i (direction_of b) h.groups o ≡ None) (sym same) stops)

  pub over-last : (o left : ℕ) → FailsWith program input keyed (exit o) h.loops → (left ≡ 0) ⊎ (go o ≡ None) → Over o left h
  over-last o left fails out = over-fewer o left h (last-one o left fails out)

  pub next-one : (o left q : ℕ) → FailsWith program input keyed (exit o) h.loops → (left ≡ 0 → ⊥) → go o ≡ Some q → OverMore o left (pushed (take_on at q (left - 1)) h)
  next-one o left q fails some takes p same =
      let k : Held = pushed (take_on at q (left - 1)) h in
      past-one o p (pushed (take_on at o left) h) k same fails refl
      (take_on-more program input p h k at o left q i here some (subst (λ b. advance program input i (direction_of b) h.groups o ≡ Some q) (sym same) takes) refl)

  pub over-one : (o left q : ℕ) → FailsWith program input keyed (exit o) h.loops → (left ≡ 0 → ⊥) → go o ≡ Some q → Over o left (pushed (take_on at q (left - 1)) h)
  over-one o left q fails some takes = over-fewer o left (pushed (take_on at q (left - 1)) h) (next-one o left q fails some takes)

  -- from an exit on all fail
  pub over-all : (o left : ℕ) → ExitsFailWith program input keyed (exit o) h.loops → Over o left h
  over-all o left known p same =
      taken-over program v keyed p h count at i here o left (subst (λ b. ExitsFailWith program input keyed (record { at = at; offset = o; forward = b }) h.loops) (sym same) known)

  -- ---- what is given back

  module _ (all : AreOfKind v.kind v.units) (suits : Suits program v) (near : ℕ) (body : IsBody program v at near) where
    abbrev times : ℕ → Option ℕ
    times m = after_times program input m i (direction_of forward) h.groups near

    abbrev far_of : ℕ → ℕ
    far_of n = as_far program input n i (direction_of forward) h.groups near

    abbrev pub UpTo : (left far : ℕ) → Type 0
    UpTo left far = (p : Spot) → p.forward ≡ forward → GoesBack w p (pushed (give_back at near (far_of left)) h) p (pushed (give_back at near far) h) false

    -- no iteration follows
    pub up-end : (m rest far : ℕ) → times m ≡ Some far → (rest ≡ 0) ⊎ (go far ≡ None) → UpTo (m + rest) far
    up-end m rest far after out p same =
        subst (λ x. GoesBack w p (pushed (give_back at near (far_of (m + rest))) h) p (pushed (give_back at near x) h) false)
        (far-after program input i (direction_of forward) h.groups m rest near far after ∙ sym (by_way rest out))
        (leads-same program input (task program input false p (pushed (give_back at near (far_of (m + rest))) h)))
      where
        by_way : (k : ℕ) → (k ≡ 0) ⊎ (go far ≡ None) → far ≡ as_far program input k i (direction_of forward) h.groups far
        by_way k (inl none) = far-all program input i (direction_of forward) h.groups k far (omega (arith, none))
        by_way zero (inr stops) = far-all program input i (direction_of forward) h.groups 0 far (omega arith)
        by_way (suc k) (inr stops) = far-stops program input i (direction_of forward) h.groups (suc k) far (omega arith) (sym stops)

    -- from the next exit on all fail
    pub up-known : (m k far q : ℕ) → times m ≡ Some far → go far ≡ Some q → ExitsFailWith program input keyed (exit q) h.loops → UpTo (m + suc k) far
    up-known m k far q after takes known p same =
        subst (λ x. GoesBack w p (pushed (give_back at near x) h) p (pushed (give_back at near far) h) false) (ap (λ b. as_far program input (m + suc k) i (direction_of b) h.groups near) same)
        (given-far program v keyed p h count at i here all suits near body m k far q
        (subst (λ b. after_times program input m i (direction_of b) h.groups near ≡ Some far) (sym same) after)
        (subst (λ b. advance program input i (direction_of b) h.groups far ≡ Some q) (sym same) takes)
        (subst (λ b. ExitsFailWith program input keyed (record { at = at; offset = q; forward = b }) h.loops) (sym same) known))

    -- from the near exit on all do
    pub up-none : (left : ℕ) → ExitsFailWith program input keyed (exit near) h.loops → (p : Spot) → p.forward ≡ forward → GoesBack w p (pushed (give_back at near (far_of left)) h) p h false
    up-none left known p same =
        subst (λ x. GoesBack w p (pushed (give_back at near x) h) p h false) (ap (λ b. as_far program input left i (direction_of b) h.groups near) same)
        (given-over program v keyed p h count at i here all suits near body left
        (subst (λ b. ExitsFailWith program input keyed (record { at = at; offset = near; forward = b }) h.loops) (sym same) known))

-- whatever instruction stands there
pub up-any : (program : Program) (v : View) (h : Held) (forward : Bool) (at : ℕ) (i : Instruction) → Stands program (at - 1) i → (near left : ℕ) (found : Option ℕ)
    → ((p : Spot) → p.forward ≡ forward → GoesBack (record { program = program; view = v }) p (pushed (give_back at near (as_far program (input_of v) left i (direction_of forward) h.groups near)) h) p (given_from at near found h) false)
    → GivesUpTo (record { program = program; view = v }) forward at near left found h
up-any program v h forward at i here near left found leads j there p same =
    subst (λ x. GoesBack (record { program = program; view = v }) p (pushed (give_back at near (as_far program (input_of v) left x (direction_of forward) h.groups near)) h) p (given_from at near found h) false)
    (one_stands program (input_of v) (at - 1) i j here there) (leads p same)
