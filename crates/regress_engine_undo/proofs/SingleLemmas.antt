-- One-character loops.
use Rattle.std.specs.Prelude.{slice_get}
use Rattle.std.proofs.lemmas.List.Elements.{All-weaker}
use Rattle.std.proofs.Common.{◌≡◌, ℕ, suc, ◌+◌, ◌-◌, Bool, true, false, List, [], ◌∷◌, Option, Some, None, if◌then◌else◌, sym, ap, ◌∙◌, subst, arith}
use Rattle.regress_meaning.specs.Meaning.{Direction, Forward}
use Rattle.regress_meaning.specs.Inputs.{Input}
use Rattle.regress_engine_input.specs.Views.{View, AreOfKind, direction_of, input_of}
use Rattle.regress_engine_insn.specs.Instructions.{Instruction, Program, Stands, single_loop}
use Rattle.regress_engine_runs.specs.States.{Marks, Whole}
use Rattle.regress_engine_runs.specs.Runs.{after_times, as_far, one_by_one, given_back, counted, successors}
use Rattle.regress_engine_runs.specs.UndoStack.{Work, give_back, take_on, whole, at_each, taken_on, first_do, stands_for}
use Rattle.regress_engine_search.specs.Tasks.{Leads}
use Rattle.regress_engine_search.proofs.InsnLemmas.{single-successors}
use Rattle.regress_engine_search.proofs.GivenBack.{given-back}
use Rattle.regress_engine_search.proofs.TaskLemmas.{leads-then, leads-same, leads-first, leads-later}
use Rattle.regress_engine_singles.specs.Failing.{Fail, IsDead}
use Rattle.regress_engine_singles.proofs.Chains.{TakesAt, given-taken}
use Rattle.regress_engine_singles.proofs.Failures.{leads-without, fail-each}
use Rattle.regress_engine_singles.specs.Sparing.{IsDeadBefore}
use Rattle.regress_engine_undo.specs.declared.undo.Spot.{Spot}
use Rattle.regress_engine_undo.specs.Held.{Held, pushed}
use Rattle.regress_engine_search.specs.Search.{Suits}
use Rattle.regress_engine_search.specs.Ready.{IsBody}
use Rattle.regress_engine_undo.specs.Tasks.{task_of, task, state_at}

-- what is recorded of a loop
module _ (program : Program) (input : Input) (i : Instruction) (p : Spot) (h : Held) (here : Stands program (p.at + 1) i) (least most : ℕ) where
  abbrev dir : Direction
  dir = direction_of p.forward

  abbrev behind : List ℕ → List Whole
  behind os = at_each program input (suc (suc p.at)) h.loops h.groups os

  abbrev next_states : Bool → List Whole
  next_states greedy = successors program input (single_loop least most greedy) dir (state_at p h)

  next_are : (greedy : Bool) → next_states greedy ≡ behind (counted program input least most greedy i dir h.groups p.offset)
  next_are greedy = single-successors program input dir (state_at p h) least most greedy i here

  abbrev counts : Bool → Option ℕ → List ℕ
  counts greedy x = elim x [
    | None ↦ []
    | Some near ↦ if greedy then given_back input dir near (as_far program input (most - least) i dir h.groups near) else one_by_one program input (most - least) i dir h.groups near
  ]

  from_states : (greedy : Bool) (states : List Whole) (k : Held) → next_states greedy ≡ states → Leads program input 0 (task_of program input states p h) (task program input false p k)
      → Leads program input 0 (task_of program input (next_states greedy) p h) (task program input false p k)
  from_states greedy states k e leads = subst (λ ss. Leads program input 0 (task_of program input ss p h) (task program input false p k)) (sym e) leads

  pub few-states : (greedy : Bool) → after_times program input least i dir h.groups p.offset ≡ None → next_states greedy ≡ []
  few-states greedy none = next_are greedy ∙ ap (λ x. behind (counts greedy x)) none

  pub repeat-few : (greedy : Bool) → after_times program input least i dir h.groups p.offset ≡ None
      → Leads program input 0 (task_of program input (next_states greedy) p h) (task program input false p h)
  repeat-few greedy none = from_states greedy [] h (few-states greedy none) (leads-same program input (task_of program input [] p h))

  pub repeat-greedy : (greedy : Bool) (k : Held) (near far : ℕ) → greedy ≡ true → after_times program input least i dir h.groups p.offset ≡ Some near
      → far ≡ as_far program input (most - least) i dir h.groups near → k ≡ pushed (give_back (p.at + 2) near far) h
      → Leads program input 0 (task_of program input (next_states greedy) p h) (task program input false p k)
  unfolding stands_for
  repeat-greedy greedy k near far is_greedy found is pushes =
      let os : List ℕ = given_back input dir near far in
      let two : suc (suc p.at) ≡ p.at + 2 = omega arith in
      let same : next_states greedy ≡ behind os =
      next_are greedy ∙ ap (λ b. behind (counts b (after_times program input least i dir h.groups p.offset))) is_greedy ∙ ap (λ x. behind (counts true x)) found
      ∙ ap (λ f. behind (given_back input dir near f)) (sym is) in
      from_states greedy (behind os) k same
      (subst (λ x. Leads program input 0 (task_of program input (behind os) p h) (task program input false p x)) (sym pushes)
      (subst (λ a. Leads program input 0 (task_of program input (behind os) p h) (task program input false p (pushed (give_back a near far) h))) two
      (leads-later program input dir [] (behind os) (stands_for program input dir h.stack h.loops h.groups))))

  pub repeat-lazy : (greedy : Bool) (k : Held) (near : ℕ) → greedy ≡ false → after_times program input least i dir h.groups p.offset ≡ Some near
      → k ≡ pushed (take_on (p.at + 2) near (most - least)) h
      → Leads program input 0 (task_of program input (next_states greedy) p h) (task program input false p k)
  unfolding stands_for
  repeat-lazy greedy k near is_lazy found pushes =
      let os : List ℕ = one_by_one program input (most - least) i dir h.groups near in
      let same : next_states greedy ≡ behind os =
      next_are greedy ∙ ap (λ b. behind (counts b (after_times program input least i dir h.groups p.offset))) is_lazy ∙ ap (λ x. behind (counts false x)) found in
      let two : suc (suc p.at) ≡ p.at + 2 = omega arith in
      let before : suc (suc p.at) - 1 ≡ p.at + 1 = omega arith in
      let body : slice_get program.instructions (suc (suc p.at) - 1) ≡ Some i = ap (slice_get program.instructions) before ∙ here in
      let taken : taken_on program input dir (suc (suc p.at)) (most - least) h.groups near ≡ os =
      ap (λ (x : Option Instruction). elim x [ None ↦ [] | Some j ↦ one_by_one program input (most - least) j dir h.groups near ]) body in
      from_states greedy (behind os) k same
      (subst (λ x. Leads program input 0 (task_of program input (behind os) p h) (task program input false p x)) (sym pushes)
      (subst (λ a. Leads program input 0 (task_of program input (behind os) p h) (task program input false p (pushed (take_on a near (most - least)) h))) two
      (subst (λ xs. Leads program input 0 (task_of program input (behind os) p h) (record { dir = dir; states = []; work = first_do (behind xs) (stands_for program input dir h.stack h.loops h.groups) })) (sym taken)
      (leads-later program input dir [] (behind os) (stands_for program input dir h.stack h.loops h.groups)))))

-- A loop that gives back nothing goes on at its far offset alone.
module _ (program : Program) (v : View) (all : AreOfKind v.kind v.units) (suits : Suits program v) (at : ℕ) (i : Instruction) (here : Stands program (at - 1) i) where
  abbrev input : Input
  input = input_of v

  pub atomic : IsDeadBefore program v i at → (n near far : ℕ) (groups : List Marks) → IsBody program v at near → far ≡ as_far program input n i Forward groups near
      → (p : Spot) (h : Held) → p.forward ≡ true
      → Leads program input 0 (task program input false p (pushed (give_back at near far) h)) (task program input true (record p { at = at; offset = far }) h)
  unfolding stands_for
  atomic dead_before n near far groups body is p h forward =
      let os : List ℕ = one_by_one program input n i Forward groups near in
      let (before, back, taken) = given-taken program v all suits at i here groups n near body in
      let given : given_back input Forward near far ≡ far ∷ before =
      ap (given_back input Forward near) is ∙ given-back v all program suits Forward groups at i n near body here ∙ back ∙ ap (λ o. o ∷ before) (sym is) in
      let ahead : direction_of p.forward ≡ Forward = ap direction_of forward in
      let dead : (o : ℕ) → TakesAt program v i groups o → IsDead program input Forward at o = λ o (place, (q, takes)). dead_before groups o q place takes in
      let fails : Fail program input Forward (at_each program input at h.loops h.groups before) =
      fail-each program input Forward at h.loops h.groups before (All-weaker (TakesAt program v i groups) (IsDead program input Forward at) dead before taken) in
      let work : Direction → Work = λ d. stands_for program input d h.stack h.loops h.groups in
      subst (λ (d : Direction). Leads program input 0 (record { dir = d; states = []; work = first_do (at_each program input at h.loops h.groups (given_back input d near far)) (work d) }) (record { dir = d; states = whole at far h.loops h.groups ∷ []; work = work d })) (sym ahead)
      (subst (λ (xs : List ℕ). Leads program input 0 (record { dir = Forward; states = []; work = first_do (at_each program input at h.loops h.groups xs) (work Forward) }) (record { dir = Forward; states = whole at far h.loops h.groups ∷ []; work = work Forward })) (sym given)
      (leads-then program input 0 0 (leads-first program input Forward [] (whole at far h.loops h.groups ∷ at_each program input at h.loops h.groups before) (work Forward))
      (leads-then program input 0 0 (leads-later program input Forward (whole at far h.loops h.groups ∷ []) (at_each program input at h.loops h.groups before) (work Forward))
      (leads-without program input Forward (whole at far h.loops h.groups ∷ []) (at_each program input at h.loops h.groups before) (work Forward) fails))))
