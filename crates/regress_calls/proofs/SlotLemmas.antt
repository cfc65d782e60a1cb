-- Slots that a match fills hold its ranges.
use Rattle.std.specs.Prelude.{◌≡◌, ℕ, zero, suc, ◌<◌, List, [], ◌∷◌, ◌++◌, length, take, Option, Some, None, option_map, slice_get, unwrap_or, Result, Ok, Err, IfOk}
use Rattle.std.specs.declared.ops.Range.{Range}
use Rattle.std.proofs.Common.{refl, sym, ap, subst, ◌∙◌, arith}
use Rattle.std.proofs.Math.Seq.{take-append_seam}
use Rattle.std.proofs.lemmas.List.{length-map}
use Rattle.std.proofs.lemmas.Option.{slice_get-map}
use Rattle.regress_meaning.specs.Matches.{Item}
use Rattle.regress_match.specs.Slots.{Fills, slots_of}
use Rattle.regress_match.specs.Views.{ends}
use Rattle.regress_calls.specs.Ranges.{ranges_of_item}
use Rattle.regress_calls.specs.Slotted.{IsInSlots}

-- as many slots as there are hold the groups by their numbers
slot-at : {A : Type 0} (n : ℕ) (groups : List (Option A)) (k : ℕ) → k < n → unwrap_or (slice_get (slots_of n groups) k) None ≡ unwrap_or (slice_get groups k) None
unfolding slots_of
slot-at zero groups k h = absurd (omega arith)
slot-at (suc n) [] zero h = refl
slot-at (suc n) [] (suc k) h = slot-at n [] k (omega arith)
slot-at (suc n) (g ∷ groups) zero h = refl
slot-at (suc n) (g ∷ groups) (suc k) h = slot-at n groups k (omega arith)

slots-long : {A : Type 0} (n : ℕ) (groups : List (Option A)) → length (slots_of n groups) ≡ n
unfolding slots_of
slots-long zero groups = refl
slots-long (suc n) [] = ap (λ (m : ℕ). suc m) (slots-long n [])
slots-long (suc n) (g ∷ groups) = ap (λ (m : ℕ). suc m) (slots-long n groups)

pub fills_slots : (i : Option Item) (old : List (Option (Range ℕ))) (found : Option (Range ℕ)) (new : List (Option (Range ℕ))) → Fills i found old new → IsInSlots i old found new
fills_slots None old found new fills = fills
fills_slots (Some i) old found new fills = (
  fills.0,
  λ k within.
      let long : length new ≡ length old = sym (length-map new (option_map ends)) ∙ ap length fills.1 ∙ slots-long (length old) (ranges_of_item i) in
      ap (λ (g : Option (Option (ℕ × ℕ))). unwrap_or g None) (sym (slice_get-map (option_map ends) new k) ∙ ap (λ (l : List (Option (ℕ × ℕ))). slice_get l k) fills.1)
      ∙ slot-at (length old) (ranges_of_item i) k (omega (arith, long, within)),
)

-- so do those of a search that may be refused
pub in-slots : {E : Type 0} (result : Result (Option (Range ℕ)) E) (i : Option Item) (old new : List (Option (Range ℕ)))
    → IfOk result (λ found. Fills i found old new) → IfOk result (λ found. IsInSlots i old found new)
in-slots (Ok found) i old new fills = fills_slots i old found new fills
in-slots (Err e) i old new fills = tt

-- a slice that is written is what a vector of as many elements then holds
pub written-back : {A : Type 0} (len : ℕ) (new rest : List A) → length new ≡ len → take len (new ++ rest) ≡ new
written-back len new rest long = subst (λ (n : ℕ). take n (new ++ rest) ≡ new) long (take-append_seam new rest)
