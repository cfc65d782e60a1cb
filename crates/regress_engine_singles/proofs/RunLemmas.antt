-- How far a set of characters of ASCII goes, told by units.
use Rattle.std.specs.Prelude.{slice_get, slice_index}
use Rattle.std.proofs.Common.{◌≡◌, ◌⊎◌, inl, inr, ℕ, zero, suc, ◌+◌, ◌-◌, ◌<◌, ◌≤◌, Bool, true, false, length, Option, Some, None, refl, sym, ap, ◌∙◌, arith, List, min, subst}
use Rattle.std.proofs.lemmas.Bool.{cases_lt}
use Rattle.std.proofs.lemmas.Option.{slice_get_past, slice_get-get_or}
use Rattle.regress_meaning.specs.Meaning.{Forward}
use Rattle.regress_meaning.specs.Steps.{passed, only_if}
use Rattle.regress_engine_input.specs.Views.{View, AreOfKind, CanRead, are_bytes, input_of}
use Rattle.regress_engine_matchers.proofs.ByteLemmas.{in-bytes, sees_byte}
use Rattle.regress_engine_scanning.specs.Runs.{IsRun}
use Rattle.regress_engine_singles.specs.Passing.{scan_while}
use Rattle.regress_engine_singles.proofs.ByteLemmas.{unit-next, none-ahead}
use Rattle.regress_engine_singles.proofs.PassingLemmas.{reads-on}
use Rattle.regress_engine_singles.proofs.UnitStopLemmas.{IsRead, unit-read}

module _ (v : View) (all : AreOfKind v.kind v.units) (f : ℕ → Bool) (low : (c : ℕ) → 0x80 ≤ c → f c ≡ false) where
  -- the unit that stands ahead tells whether the character does pass
  unit-tells : (o : ℕ) → CanRead v o → o < length v.units → only_if (f (slice_index v.units o)) (suc o) ≡ passed f ((input_of v).next Forward o)
  unit-tells o can inside = by_low (cases_lt u 0x80)
    where
      u : ℕ
      u = slice_index v.units o

      here : slice_get v.units o ≡ Some u
      here = slice_get-get_or v.units o 0 inside

      by_read : 0x80 ≤ u → IsRead v.units ((input_of v).next Forward o) o u → only_if (f u) (suc o) ≡ passed f ((input_of v).next Forward o)
      by_read large (inl next) = sym (ap (passed f) next)
      by_read large (inr (w, c, second, high, far, next)) =
          ap (λ t. only_if t (suc o)) (low u large) ∙ sym (ap (passed f) next ∙ ap (λ t. only_if t (suc (suc o))) (low c far))

      by_kind : 0x80 ≤ u → (b : Bool) → are_bytes v.kind ≡ b → only_if (f u) (suc o) ≡ passed f ((input_of v).next Forward o)
      by_kind large true are = sees_byte v all are f low Forward o can u (suc o) (sym (in-bytes v.kind (slice_get v.units o) are ∙ here)) refl
      by_kind large false are = by_read large (unit-read v.kind v.table v.unicode v.units are o u here)

      by_low : (u < 0x80) ⊎ (0x80 ≤ u) → only_if (f u) (suc o) ≡ passed f ((input_of v).next Forward o)
      by_low (inl small) = sym (ap (passed f) (unit-next v.kind v.table v.unicode v.units u o small here))
      by_low (inr large) = by_kind large (are_bytes v.kind) refl

  -- members one after another, up to where none stands, are as many as there are
  pub run-far : (n o far : ℕ) → CanRead v o → o ≤ far → far ≤ length v.units → far - o ≤ n → ((k : ℕ) → o ≤ k → k < far → f (slice_index v.units k) ≡ true)
      → (far - o < n → far < length v.units → f (slice_index v.units far) ≡ false) → scan_while (input_of v) f Forward n o ≡ far
  unfolding scan_while
  run-far zero o far can from room most each stop = omega (arith, from, most)
  run-far (suc n) o far can from room most each stop = by_order (cases_lt o far) (run-far n)
    where
      goes : Option ℕ → ℕ
      goes x = elim x [ None ↦ o | Some q ↦ scan_while (input_of v) f Forward n q ]

      by_end : o ≡ far → (far < length v.units) ⊎ (length v.units ≤ far) → passed f ((input_of v).next Forward o) ≡ None
      by_end same (inl less) =
          sym (unit-tells o can (omega (arith, same, less))) ∙ ap (λ t. only_if t (suc o)) (ap (λ k. f (slice_index v.units k)) same ∙ stop (omega (arith, same)) less)
      by_end same (inr past) = ap (passed f) (none-ahead v.kind v.table v.unicode v.units o (slice_get_past v.units o (omega (arith, past, same))))

      by_order : (o < far) ⊎ (far ≤ o) → ((p far : ℕ) → CanRead v p → p ≤ far → far ≤ length v.units → far - p ≤ n → ((k : ℕ) → p ≤ k → k < far → f (slice_index v.units k) ≡ true)
          → (far - p < n → far < length v.units → f (slice_index v.units far) ≡ false) → scan_while (input_of v) f Forward n p ≡ far) → goes (passed f ((input_of v).next Forward o)) ≡ far
      by_order (inl less) rest =
          let step : Some (suc o) ≡ passed f ((input_of v).next Forward o) = ap (λ t. only_if t (suc o)) (sym (each o (omega arith) less)) ∙ unit-tells o can (omega (arith, less, room)) in
          ap goes (sym step)
          ∙ rest (suc o) far (reads-on v all f Forward o (suc o) can step) (omega (arith, less)) room (omega (arith, most, less)) (λ k past. each k (omega (arith, past))) (λ fewer. stop (omega (arith, fewer, less)))
      by_order (inr full) rest = let same : o ≡ far = omega (arith, from, full) in ap goes (by_end same (cases_lt far (length v.units))) ∙ same

  -- a search for the first that is no member tells it
  pub members-far : (units : List ℕ) → units ≡ v.units → (n o m far : ℕ) → CanRead v o → o ≤ length units → m ≡ min n (length units - o) → IsRun f units o (o + m) far
      → far ≡ scan_while (input_of v) f Forward n o
  members-far units same n o m far can inside least run =
      let here : IsRun f v.units o (o + m) far = subst (λ (us : List ℕ). IsRun f us o (o + m) far) same run in
      let size = ap length same in
      let low = here.low in
      let high = here.high in
      sym (run-far n o far can low (omega (arith, high, size, least, inside)) (omega (arith, high, least)) here.each (λ fewer less. here.stops (omega (arith, fewer, less, size, least))))
