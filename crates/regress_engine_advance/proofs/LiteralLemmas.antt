-- Bytes that stand ahead of an offset, one by one.
use Rattle.std.specs.Prelude.{get_or, if◌then◌else◌}
use Rattle.std.proofs.Common.{◌≡◌, ℕ, ◌+◌, ◌-◌, ◌<◌, ◌≤◌, Bool, true, false, List, ◌++◌, length, take, drop, Option, Some, None, refl, sym, ap, ◌∙◌, arith, length-take, length-drop}
use Rattle.std.proofs.lemmas.Grind.{same_number_lists}
use Rattle.std.proofs.lemmas.List.{get_or-drop, get_or-take, get_or_append_left, take-append-drop}
use Rattle.regress_meaning.specs.Meaning.{Forward}
use Rattle.regress_meaning.specs.Inputs.{Input}
use Rattle.regress_meaning.specs.Steps.{literal}
use Rattle.regress_engine_input.specs.Views.{View, input_of, in_bytes}
use Rattle.regress_engine_input.proofs.Standing.{stands_right, right-split, split-right}
use Rattle.regress_engine_search.proofs.PlaceLemmas.{units-are}
use Rattle.regress_engine_singles.proofs.StopLemmas.{bytes-shown}

-- what is found only where a test passes, is where it passes
passes : (b : Bool) (q r : ℕ) → (if b then Some r else None) ≡ Some q → b ≡ true
passes true q r e = refl
passes false q r e = absurd (cc e)

module _ (v : View) (text : List ℕ) (shown : Some text ≡ in_bytes v.kind (Some v.units)) (bs : List ℕ) (o : ℕ) where
  -- the text
  abbrev input : Input
  input = input_of v

  -- what is shown are its bytes
  same : text ≡ input.units
  same = (bytes-shown v text (sym shown)).1 ∙ sym (units-are v)

  -- where they stand the text goes on with them
  goes-where : (q : ℕ) → literal input Forward bs o ≡ Some q → (rest : List ℕ) × (drop o text ≡ bs ++ rest)
  goes-where q e =
      let (rest, split) = right-split input.units o bs (passes (stands_right input.units o bs) q (o + length bs) e) in
      (rest, ap (drop o) same ∙ split)

  -- where they do not there is nothing behind them
  nowhere : ((rest : List ℕ) → drop o text ≡ bs ++ rest → ⊥) → None ≡ literal input Forward bs o
  nowhere never = by_found (literal input Forward bs o) refl
    where
      by_found : (x : Option ℕ) → literal input Forward bs o ≡ x → None ≡ x
      by_found None e = refl
      by_found (Some q) e = let (rest, split) = goes-where q e in absurd (never rest split)

  -- so where one of them is another than the byte there
  pub other-at : (k : ℕ) → k < length bs → (get_or text (o + k) 0 ≡ get_or bs k 0 → ⊥) → None ≡ literal input Forward bs o
  other-at k inside other = nowhere (λ rest split.
      other (sym (get_or-drop o text k 0) ∙ ap (λ (us : List ℕ). get_or us k 0) split ∙ get_or_append_left bs rest 0 k inside))

  -- and where each of them is there they stand there
  pub all-there : length bs ≤ length text - o → ((k : ℕ) → k < length bs → get_or text (o + k) 0 ≡ get_or bs k 0) → Some (o + length bs) ≡ literal input Forward bs o
  all-there room each = sym (ap (λ (t : Bool). if t then Some (o + length bs) else None) stands)
    where
      size : length (take (length bs) (drop o text)) ≡ length bs
      size = let left = length-drop o text in let taken = length-take (length bs) (drop o text) in omega (arith, room, left, taken)

      front : take (length bs) (drop o text) ≡ bs
      front = same_number_lists (take (length bs) (drop o text)) bs size (λ k inside.
          let less : k < length bs = omega (arith, inside, size) in
          get_or-take (length bs) (drop o text) k 0 less ∙ get_or-drop o text k 0 ∙ each k less)

      stands : stands_right input.units o bs ≡ true
      stands =
          let rest : List ℕ = drop (length bs) (drop o text) in
          split-right input.units o bs rest (ap (drop o) (sym same) ∙ sym (take-append-drop (length bs) (drop o text)) ∙ ap (λ (us : List ℕ). us ++ rest) front)
