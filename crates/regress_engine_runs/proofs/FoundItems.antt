-- What a search finds: where it lies, and where the next search begins.
use Rattle.std.specs.Prelude.{option_map, All, IfSome}
use Rattle.std.proofs.Common.{◌≡◌, ℕ, ◌<◌, ◌≤◌, ◌⊎◌, inl, inr, Bool, List, Option, Some, None, if◌then◌else◌, refl, sym, ap, ◌∙◌, subst, arith}
use Rattle.std.proofs.lemmas.Bool.{cases_lt, eq-eqb, ne_eqb}
use Rattle.std.proofs.lemmas.List.Elements.{All-head}
use Rattle.regress_meaning.specs.Meaning.{Forward}
use Rattle.regress_meaning.specs.Inputs.{Input}
use Rattle.regress_meaning.specs.Matches.{Item}
use Rattle.regress_engine_insn.specs.Instructions.{Program}
use Rattle.regress_engine_runs.specs.Items.{Finds, Lists, found, later, nowhere, over, no_item, next_item, goes_on}
use Rattle.regress_engine_runs.specs.UndoStack.{MovesOn}
use Rattle.regress_engine_runs.proofs.ItemLemmas.{one_find}

-- the first of the items that searches list is what a search finds
module _ (program : Program) (input : Input) (P : Item → Type 0) where
  abbrev pub HoldsOfFirst : Option ℕ → List Item → Type 0
  HoldsOfFirst None items = Unit {0}
  HoldsOfFirst (Some at) items = (i : Item) → Finds program input at (Some i) → All P items → P i

  pub first-holds : {o : Option ℕ} {items : List Item} → Lists program input o items → HoldsOfFirst o items
  first-holds over = tt
  first-holds (no_item h) = λ i finds all. let e : ◌≡◌ {A = Option Item} None (Some i) = one_find program input h finds in absurd (cc)
  first-holds (next_item {i = j} {items = items} h rest) = λ i finds all.
      let e : ◌≡◌ {A = Option Item} (Some j) (Some i) = one_find program input h finds in
      let same : j ≡ i = cc in
      subst P same (All-head P j items all)

module _ (program : Program) (input : Input) (moves : MovesOn input) where
  -- a search finds what begins no earlier than it
  pub finds-from : {at : ℕ} {o : Option Item} → Finds program input at o → IfSome o (λ i. at ≤ i.start)
  finds-from (found a) = omega arith
  finds-from (later {at = at} {c = c} {next = next} {i = i} a e h) = by_item i (finds-from h)
    where
      by_item : (o : Option Item) → IfSome o (λ i. next ≤ i.start) → IfSome o (λ i. at ≤ i.start)
      by_item None low = tt
      by_item (Some j) low = let past = moves Forward at c next e in omega (arith, low, past)
  finds-from (nowhere a e) = tt

  -- where it goes on behind an item that takes nothing, or something
  abbrev on : Item → Bool → Option ℕ
  on i b = if b then option_map (λ (x : ℕ × ℕ). x.1) (input.next Forward i.end) else Some i.end

  -- and goes on behind where it began
  pub goes_on-past : (i : Item) → i.start ≤ i.end → (q : ℕ) → goes_on program input i ≡ Some q → i.start < q
  goes_on-past i ordered q e = by_ends (cases_lt i.start i.end)
    where
      by_next : (x : Option (ℕ × ℕ)) → input.next Forward i.end ≡ x → option_map (λ (x : ℕ × ℕ). x.1) x ≡ Some q → i.end < q
      by_next None f g = absurd (cc)
      by_next (Some x) f g = let same : x.1 ≡ q = cc in let past = moves Forward i.end x.0 x.1 f in omega (arith, same, past)

      by_ends : (i.start < i.end) ⊎ (i.end ≤ i.start) → i.start < q
      by_ends (inl less) =
          let f : Some i.end ≡ Some q = sym (ap (on i) (ne_eqb i.start i.end (λ same. absurd (omega (arith, same, less))))) ∙ e in
          let same : i.end ≡ q = cc in
          omega (arith, same, less)
      by_ends (inr more) =
          let same : i.start ≡ i.end = omega (arith, more, ordered) in
          let past = by_next (input.next Forward i.end) refl (sym (ap (on i) (eq-eqb i.start i.end same)) ∙ e) in
          omega (arith, same, past)
