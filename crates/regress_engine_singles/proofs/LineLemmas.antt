-- From where a line begins that leads nowhere, and up to where the next one begins, a program that asks for the begin of a line leads nowhere.
use Rattle.std.specs.Prelude.{option_map, ◌||◌, ◌&&◌, is_some}
use Rattle.std.proofs.Common.{◌≡◌, ℕ, Bool, true, false, not, Option, Some, None, if◌then◌else◌, refl, sym, ap, ◌∙◌, arith}
use Rattle.regress_meaning.specs.Meaning.{Forward, Backward, is_line_end, is_some_and}
use Rattle.regress_meaning.specs.Steps.{point, begins_line}
use Rattle.regress_engine_input.specs.Views.{View, AreOfKind, input_of, reading_of}
use Rattle.regress_engine_insn.specs.Instructions.{Program, Stands}
use Rattle.regress_engine_insn.specs.Instructions as code
use Rattle.regress_engine_runs.specs.Meets.{IsAtPlace}
use Rattle.regress_engine_search.proofs.PlaceLemmas.{moves, next-place}
use Rattle.regress_engine_singles.specs.Failing.{IsDead}
use Rattle.regress_engine_singles.specs.Passed.{PassesOver, IsInLine}
use Rattle.regress_engine_singles.proofs.DeadLemmas.{simple-dead}
use Rattle.regress_engine_singles.proofs.LeadingLemmas.{fails-on}
use Rattle.regress_engine_singles.proofs.BoundaryLemmas.{point-behind}

module _ (v : View) (all : AreOfKind v.kind v.units) where
  -- behind a character that ends no line none begins
  no-line : (o c q : ℕ) → IsAtPlace (reading_of v) o → (input_of v).next Forward o ≡ Some (c, q) → is_line_end c ≡ false → begins_line (input_of v) true q ≡ false
  no-line o c q place next within = by_read ((input_of v).next Backward q) refl
    where
      before : point (input_of v) Backward q ≡ Some c
      before = point-behind v all o c q place next

      by_read : (x : Option (ℕ × ℕ)) → (input_of v).next Backward q ≡ x → begins_line (input_of v) true q ≡ false
      by_read None f =
          let none : None ≡ Some c = sym (ap (option_map (λ y. y.0)) f) ∙ before in absurd (grind arith)
      by_read (Some y) f =
          let is : Some y.0 ≡ Some c = sym (ap (option_map (λ z. z.0)) f) ∙ before in
          let same : y.0 ≡ c = ap (λ (x : Option ℕ). elim x [ None ↦ 0 | Some d ↦ d ]) is in
          ap (λ (x : Option (ℕ × ℕ)). not (is_some x) || (true && is_some_and (option_map (λ z. z.0) x) is_line_end)) f ∙ ap is_line_end same ∙ within

  module _ (program : Program) (start : ℕ) where
    pub in-line-here : IsAtPlace (reading_of v) start → IsDead program (input_of v) Forward 0 start → IsInLine program v start start
    in-line-here place dead = record { on = λ offset finds. finds; place = place; further = omega arith; dead = dead }

    -- behind a character of the line too nothing is found
    pub passes-line : (at c q : ℕ) → IsInLine program v start at → (input_of v).next Forward at ≡ Some (c, q) → PassesOver program v start q
    passes-line at c q inside next =
        let low = inside.further in
        let past = moves v Forward at c q next in
        record {
          on = λ offset finds. fails-on program v all offset at c q inside.dead next (inside.on offset finds);
          place = next-place v all Forward at c q inside.place next;
          further = omega (arith, low, past);
        }

    -- and where it ends no line, no match can be reached from there
    pub in-line-on : Stands program 0 (code.line_start true) → (at c q : ℕ) → IsInLine program v start at → (input_of v).next Forward at ≡ Some (c, q) → is_line_end c ≡ false → IsInLine program v start q
    in-line-on here at c q inside next within =
        let none = no-line at c q inside.place next within in
        let low = inside.further in
        let past = moves v Forward at c q next in
        record {
          on = λ offset finds. fails-on program v all offset at c q inside.dead next (inside.on offset finds);
          place = next-place v all Forward at c q inside.place next;
          further = omega (arith, low, past);
          dead = simple-dead program (input_of v) Forward 0 q (code.line_start true) here refl (λ groups. sym (ap (λ (b : Bool). if b then Some q else None) none));
        }
