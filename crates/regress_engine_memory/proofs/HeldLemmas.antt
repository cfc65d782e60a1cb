-- What an executor learns and drops, by what it holds.
use Rattle.std.proofs.Common.{◌≡◌, ℕ, ◌-◌, true, false, length, List, Option, Some, None, refl, sym, ◌∙◌, subst, [], ◌∷◌}
use Rattle.regress_meaning.specs.Inputs.{Input}
use Rattle.regress_engine_input.specs.Views.{View, AreOfKind, direction_of, input_of}
use Rattle.regress_engine_insn.specs.Instructions.{Instruction, Program, Stands}
use Rattle.regress_engine_insn.specs.Instructions as code
use Rattle.regress_engine_runs.specs.Closed.{takes_character}
use Rattle.regress_engine_runs.specs.Meets.{referred}
use Rattle.regress_engine_runs.specs.Runs.{advance}
use Rattle.regress_engine_runs.specs.States.{Marks, Whole}
use Rattle.regress_engine_runs.proofs.RunViews.{one_stands}
use Rattle.regress_engine_runs.specs.UndoStack.{tried, stands_for}
use Rattle.regress_engine_search.specs.Search.{Suits}
use Rattle.regress_engine_search.specs.Tasks.{Leads, IsTried}
use Rattle.regress_engine_search.proofs.TaskLemmas.{leads-dropped, leads-trying}
use Rattle.regress_engine_undo.specs.declared.undo.Spot.{Spot}
use Rattle.regress_engine_undo.specs.Held.{Held, pushed}
use Rattle.regress_engine_undo.specs.Tasks.{task, state_at}
use Rattle.regress_engine_memory.specs.Flow.{IsFlow}
use Rattle.regress_engine_memory.specs.Held.{ExitsFailWith, FailsHere, FailsIfFree, FailsWith, key_at}
use Rattle.regress_engine_memory.specs.Keys.{ExitsFail, Keyed}
use Rattle.regress_engine_memory.proofs.Dropping.{leads-known}
use Rattle.regress_engine_memory.proofs.Exits.{exits-last, exits-on, exits-same}
use Rattle.regress_engine_memory.proofs.Learning.{learns}

module _ (program : Program) (input : Input) (p : Spot) (h : Held) where
  -- a record is pushed beneath the ways of a state
  pub trying-held : Leads program input 0 (task program input true p h) (task program input true p (pushed (tried p.at p.offset) h))
  unfolding stands_for
  trying-held = leads-trying program input (direction_of p.forward) (state_at p h) (stands_for program input (direction_of p.forward) h.stack h.loops h.groups)

  -- a state is dropped that is known to fail where loops are as fresh
  pub known-here : (keyed : Keyed) → FailsHere program input keyed p h.loops → length h.loops ≡ program.loops
      → Leads program input 1 (task program input true p h) (task program input false p h)
  known-here keyed (classes, fresh, known, has, begun) count =
      leads-dropped program input (direction_of p.forward) (state_at p h) (stands_for program input (direction_of p.forward) h.stack h.loops h.groups)
      (known h.loops h.groups count has begun)

  -- or of which the key is known to fail
  pub known-held : (keyed : Keyed) → FailsWith program input keyed p h.loops → length h.loops ≡ program.loops
      → Leads program input 1 (task program input true p h) (task program input false p h)
  known-held keyed (classes, known, has) count =
      leads-known program input keyed (key_at p classes) h.loops h.groups count (stands_for program input (direction_of p.forward) h.stack h.loops h.groups) known has

-- What is held where the record is popped: if its loops show it, the key of the record fails.
pub learns-held : (v : View) → AreOfKind v.kind v.units → (program : Program) → Suits program v → (keyed : Keyed) → IsFlow keyed.flow program
    → (p s : Spot) (h : Held) → p.forward ≡ s.forward → length h.loops ≡ program.loops
    → (n : ℕ) (r : Option Whole) → IsTried program v n r (task program (input_of v) false p (pushed (tried s.at s.offset) h))
    → FailsIfFree program (input_of v) keyed (length v.units) s h.loops
unfolding stands_for
learns-held v all program suits keyed closed p s h turned count n r tries calm classes fresh free =
    learns v all program suits keyed closed (key_at s classes) fresh h.loops h.groups
    (stands_for program (input_of v) (direction_of s.forward) h.stack h.loops h.groups) calm count free there.comes.0 r there.comes.2 there.reads
  where
    there : IsTried program v n r (record { dir = direction_of s.forward; states = []; work = stands_for program (input_of v) (direction_of s.forward) (tried s.at s.offset ∷ h.stack) h.loops h.groups })
    there = subst (λ b. IsTried program v n r (record { dir = direction_of b; states = []; work = stands_for program (input_of v) (direction_of b) (tried s.at s.offset ∷ h.stack) h.loops h.groups })) turned tries

-- ---- exits of one-character loops

-- what takes one character refers to no group
pub takes-calm : (i : Instruction) → takes_character i ≡ true → referred i ≡ None
takes-calm (code.back k icase) e = absurd (cc e)
takes-calm i e = refl

module _ (program : Program) (input : Input) (keyed : Keyed) (s : Spot) (loops : List (ℕ × ℕ)) (i : Instruction) (here : Stands program (s.at - 1) i) (takes : takes_character i ≡ true)
    (groups : List Marks) (fails : FailsWith program input keyed s loops) where
  -- that all exits fail is known of the last one
  pub exits-end : advance program input i (direction_of s.forward) groups s.offset ≡ None → ExitsFailWith program input keyed s loops
  exits-end stops = (
    fails.0,
    λ j there. subst (λ x. ExitsFail program input keyed x (key_at s fails.0)) (one_stands program input (s.at - 1) i j here there)
        (exits-last program input keyed i (takes-calm i takes) (key_at s fails.0) groups fails.1 stops),
    fails.2,
  )

  -- and of one before those of which it is known
  pub exits-more : (q : ℕ) → advance program input i (direction_of s.forward) groups s.offset ≡ Some q → ExitsFailWith program input keyed (record s { offset = q }) loops
      → ExitsFailWith program input keyed s loops
  exits-more q on (classes, rest, has) = (
    fails.0,
    λ j there. subst (λ x. ExitsFail program input keyed x (key_at s fails.0)) (one_stands program input (s.at - 1) i j here there)
        (exits-on program input keyed i (takes-calm i takes) (key_at s fails.0) q groups fails.1 on
        (exits-same program input keyed (key_at (record s { offset = q }) classes) fails.0 (λ id l. sym (has id l) ∙ fails.2 id l) i (rest i here))),
    fails.2,
  )
