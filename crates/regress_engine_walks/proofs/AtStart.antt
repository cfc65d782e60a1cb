-- A run of a program that begins with the start of the text has an answer there alone.
use Rattle.std.specs.Prelude.{is_some, not, slice_get}
use Rattle.std.proofs.Common.{◌≡◌, ℕ, ◌<◌, ◌≤◌, ◌⊎◌, inl, inr, ◌&&◌, ◌||◌, Bool, true, false, List, [], ◌++◌, length, Option, None, Some, if◌then◌else◌, refl, sym, ap, ◌∙◌, subst, arith}
use Rattle.std.proofs.lemmas.Bool.{cases_lt}
use Rattle.regress_meaning.specs.Meaning.{Backward, Forward}
use Rattle.regress_meaning.specs.Steps.{begins_line, only_if}
use Rattle.regress_engine_input.specs.Views.{View, AreOfKind, input_of, reading_of}
use Rattle.regress_engine_insn.specs.Instructions.{Instruction, Program, Stands}
use Rattle.regress_engine_insn.specs.Instructions as code
use Rattle.regress_engine_runs.specs.Items.{Answers as EndsIn}
use Rattle.regress_engine_runs.specs.Meets.{IsAtPlace}
use Rattle.regress_engine_runs.specs.Runs.{Run, moved_to, room, successors}
use Rattle.regress_engine_runs.specs.States.{Whole, first_state}
use Rattle.regress_engine_runs.proofs.RunViews.{run_goes, run_none}
use Rattle.regress_engine_search.specs.Places.{IsNextPlace}
use Rattle.regress_engine_search.proofs.NextPlaces.{none-next}
use Rattle.regress_engine_search.proofs.SkipLemmas.{place-lies}
use Rattle.regress_engine_linear.specs.Linear.{is_text_start}

module _ (v : View) (all : AreOfKind v.kind v.units) (program : Program) where
  abbrev last : ℕ
  last = length v.units

  -- where nothing stands before a place, it is the first
  first-place : (start : ℕ) → IsAtPlace (reading_of v) start → (input_of v).next Backward start ≡ None → start ≡ 0
  first-place start place none = by_order (cases_lt 0 start)
    where
      next : IsNextPlace v Forward start start
      next = none-next v all Forward start place none

      low : start ≤ last
      low = place-lies v all start place

      by_order : (0 < start) ⊎ (start ≤ 0) → start ≡ 0
      by_order (inr few) = omega (arith, few)
      by_order (inl more) =
          let (never, order) = next.none 0 (0, omega arith, refl) (omega (arith, more, low)) in absurd (omega (arith, never))

  -- the start of the text is passed where nothing stands before
  nothing-before : (start : ℕ) → begins_line (input_of v) false start ≡ true → (input_of v).next Backward start ≡ None
  nothing-before start begins = by_read ((input_of v).next Backward start) refl
    where
      by_read : (x : Option (ℕ × ℕ)) → (input_of v).next Backward start ≡ x → (input_of v).next Backward start ≡ None
      by_read None e = e
      by_read (Some y) e =
          let never : begins_line (input_of v) false start ≡ false = ap (λ z. not (is_some z) || false) e in absurd (let x = sym begins ∙ never in cc x)

  pub begins-at-start : is_text_start (slice_get program.instructions 0) ≡ true → (start : ℕ) → IsAtPlace (reading_of v) start → (w : Whole) → EndsIn program (input_of v) start (Some w) → start ≡ 0
  begins-at-start starts start place w (n, run) = by_insn (slice_get program.instructions 0) refl starts
    where
      s : Whole
      s = first_state program start

      passed : Stands program 0 (code.line_start false) → (b : Bool) → begins_line (input_of v) false start ≡ b → start ≡ 0
      passed here true begins = first-place start place (nothing-before start begins)
      passed here false begins =
          let (m, count, rest) = run_goes program (input_of v) (code.line_start false) here refl run in
          let none : successors program (input_of v) (code.line_start false) Forward s ≡ [] = ap (λ (b : Bool). moved_to s (only_if b start)) begins in
          let (zero, never) = run_none program (input_of v) (subst (λ us. Run program (input_of v) Forward (us ++ []) m (Some w)) none rest) in
          absurd (cc never)

      by_insn : (x : Option Instruction) → slice_get program.instructions 0 ≡ x → is_text_start x ≡ true → start ≡ 0
      by_insn (Some (code.line_start false)) here is = passed here (begins_line (input_of v) false start) refl
      by_insn (Some (code.line_start true)) here is = absurd (cc is)
      by_insn None here is = absurd (cc is)
      by_insn (Some i) here is = absurd (cc is)
