-- Where iterations of one character each end is a place.
use Rattle.std.specs.Prelude.{option_and_then}
use Rattle.std.proofs.Common.{◌≡◌, ℕ, zero, suc, true, [], Option, Some, None, refl, subst}
use Rattle.regress_meaning.specs.Meaning.{Forward}
use Rattle.regress_engine_input.specs.Views.{View, AreOfKind, input_of, reading_of}
use Rattle.regress_engine_insn.specs.Instructions.{Instruction, Program}
use Rattle.regress_engine_runs.specs.Meets.{IsAtPlace}
use Rattle.regress_engine_runs.specs.Runs.{advance, after_times}
use Rattle.regress_engine_analysis.specs.Planned.{is_class}
use Rattle.regress_engine_singles.proofs.LeadingLemmas.{class-place}

module _ (program : Program) (v : View) (all : AreOfKind v.kind v.units) (i : Instruction) (class : is_class i ≡ true) where
  abbrev next : ℕ → Option ℕ
  next o = advance program (input_of v) i Forward [] o

  last-place : (n o last : ℕ) → IsAtPlace (reading_of v) o → after_times program (input_of v) n i Forward [] o ≡ Some last → IsAtPlace (reading_of v) last
  unfolding after_times
  last-place zero o last place e = let same : o ≡ last = cc in subst (IsAtPlace (reading_of v)) same place
  last-place (suc n) o last place e = by_found (next o) refl e (λ q. last-place n q last)
    where
      by_found : (x : Option ℕ) → next o ≡ x → option_and_then (after_times program (input_of v) n i Forward []) x ≡ Some last
          → ((q : ℕ) → IsAtPlace (reading_of v) q → after_times program (input_of v) n i Forward [] q ≡ Some last → IsAtPlace (reading_of v) last) → IsAtPlace (reading_of v) last
      by_found None g behind rest = absurd (cc behind)
      by_found (Some q) g behind rest = rest q (class-place program v all i class o q place g) behind

  pub past-place : (n o last past : ℕ) → IsAtPlace (reading_of v) o → after_times program (input_of v) n i Forward [] o ≡ Some last → next last ≡ Some past → IsAtPlace (reading_of v) past
  past-place n o last past place behind one = class-place program v all i class last past (last-place n o last place behind) one
