-- Inside of a word, and outside of words, a program that asks for the begin or the end of one leads nowhere.
use Rattle.std.specs.Prelude.{slice_get, option_map, if◌then◌else◌}
use Rattle.std.proofs.Common.{◌≡◌, ℕ, suc, ◌<◌, Bool, true, false, not, Option, Some, None, refl, sym, ap, ap₂, ◌∙◌, arith}
use Rattle.std.proofs.lemmas.Option.{slice_get_within}
use Rattle.regress_meaning.specs.Class.{is_word}
use Rattle.regress_meaning.specs.Meaning.{Forward, Backward, word_at}
use Rattle.regress_meaning.specs.Offsets.{offset}
use Rattle.regress_meaning.specs.Inputs.{Tells, point_told}
use Rattle.regress_meaning.specs.Steps.{point, at_boundary}
use Rattle.regress_engine_input.specs.Views.{View, AreOfKind, input_of, reading_of}
use Rattle.regress_engine_input.proofs.KindLemmas.{tells, table-is}
use Rattle.regress_engine_insn.specs.Instructions.{Program, Stands}
use Rattle.regress_engine_insn.specs.Instructions as code
use Rattle.regress_engine_runs.specs.Meets.{IsAtPlace}
use Rattle.regress_engine_search.proofs.PlaceLemmas.{moves, next-place}
use Rattle.regress_engine_singles.specs.Failing.{IsDead}
use Rattle.regress_engine_singles.specs.Passed.{PassesOver, IsInside}
use Rattle.regress_engine_singles.proofs.DeadLemmas.{simple-dead}
use Rattle.regress_engine_singles.proofs.LeadingLemmas.{fails-on}

module _ (v : View) (all : AreOfKind v.kind v.units) where
  -- the character ahead of a place stands before the next one
  pub point-behind : (o c q : ℕ) → IsAtPlace (reading_of v) o → (input_of v).next Forward o ≡ Some (c, q) → point (input_of v) Backward q ≡ Some c
  point-behind o c q (p, room, e) next = by_point (slice_get (reading_of v).points p) refl
    where
      told : Tells (reading_of v) (input_of v)
      told = tells v.kind v.table v.unicode v.units all

      there : option_map (point_told (reading_of v)) (option_map (λ d. (d, suc p)) (slice_get (reading_of v).points p)) ≡ Some (c, q)
      there = sym (told.next Forward p room) ∙ ap ((input_of v).next Forward) (sym e) ∙ next

      by_point : (x : Option ℕ) → slice_get (reading_of v).points p ≡ x → point (input_of v) Backward q ≡ Some c
      by_point None f =
          let none : None ≡ Some (c, q) = ap (λ y. option_map (point_told (reading_of v)) (option_map (λ d. (d, suc p)) y)) (sym f) ∙ there in absurd (grind arith)
      by_point (Some d) f =
          let is : Some (d, offset (reading_of v) (suc p)) ≡ Some (c, q) = ap (λ y. option_map (point_told (reading_of v)) (option_map (λ d. (d, suc p)) y)) (sym f) ∙ there in
          let same : d ≡ c = ap (λ (x : Option (ℕ × ℕ)). elim x [ None ↦ 0 | Some z ↦ z.0 ]) is in
          let behind : offset (reading_of v) (suc p) ≡ q = ap (λ (x : Option (ℕ × ℕ)). elim x [ None ↦ 0 | Some z ↦ z.1 ]) is in
          let inside = slice_get_within (reading_of v).points p d f in
          ap (point (input_of v) Backward) (sym behind)
          ∙ ap (option_map (λ x. x.0)) (told.next Backward (suc p) (omega (arith, inside)))
          ∙ ap (λ y. option_map (λ x. x.0) (option_map (point_told (reading_of v)) (option_map (λ d. (d, p)) y))) f
          ∙ ap Some same

  -- where the characters before and behind an offset are both of a word, or both are not, no word begins or ends there
  no-boundary : (folded was : Bool) (o c q : ℕ) → was ≡ word_at v.table folded (point (input_of v) Backward o) → (input_of v).next Forward o ≡ Some (c, q) → is_word v.table folded c ≡ was
      → at_boundary (input_of v) folded o ≡ false
  no-boundary folded was o c q before next same =
      ap₂ (λ (a b : Bool). if a then not b else b)
      (ap (λ t. word_at t folded (point (input_of v) Backward o)) (table-is v) ∙ sym before)
      (ap (λ t. word_at t folded (point (input_of v) Forward o)) (table-is v) ∙ ap (λ x. word_at v.table folded (option_map (λ y. y.0) x)) next ∙ same)
      ∙ by_was was
    where
      by_was : (b : Bool) → (if b then not b else b) ≡ false
      by_was true = refl
      by_was false = refl

  module _ (program : Program) (folded : Bool) (here : Stands program 0 (code.boundary false folded)) (start : ℕ) where
    pub inside-here : (was : Bool) → IsAtPlace (reading_of v) start → was ≡ word_at v.table folded (point (input_of v) Backward start) → IsInside program v folded start start was
    inside-here was place before = record { on = λ offset finds. finds; place = place; further = omega arith; before = before }

    -- so it is one character further
    pub inside-on : (was : Bool) (at c q : ℕ) → IsInside program v folded start at was → (input_of v).next Forward at ≡ Some (c, q) → is_word v.table folded c ≡ was → IsInside program v folded start q was
    inside-on was at c q inside next same =
        let none = no-boundary folded was at c q inside.before next same in
        let dead : IsDead program (input_of v) Forward 0 at =
        simple-dead program (input_of v) Forward 0 at (code.boundary false folded) here refl (λ groups. sym (ap (λ (b : Bool). if b then Some at else None) none)) in
        let low = inside.further in
        let past = moves v Forward at c q next in
        record {
          on = λ offset finds. fails-on program v all offset at c q dead next (inside.on offset finds);
          place = next-place v all Forward at c q inside.place next;
          further = omega (arith, low, past);
          before = sym same ∙ ap (word_at v.table folded) (sym (point-behind at c q inside.place next));
        }

pub passes-inside : (program : Program) (v : View) (folded was : Bool) (start at : ℕ) → IsInside program v folded start at was → start < at → PassesOver program v start at
passes-inside program v folded was start at inside further = record { on = inside.on; place = inside.place; further = further }
