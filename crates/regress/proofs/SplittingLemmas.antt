-- The parts of a text, one after another, and refused memory among them.
use Rattle.std.proofs.Common.{◌≡◌, ◌≢◌, ℕ, suc, ◌<◌, List, [], ◌∷◌, take, length, Option, Some, None, Result, Ok, Err, IfOk, refl, ap, arith}
use Rattle.std.specs.Borrow.{Bor}
use Rattle.std.specs.Iterator.{at_most, MakesProgress}
use Rattle.regress_meaning.specs.Matches.{Item}
use Rattle.regress_meaning.specs.Parts.{parts}
use Rattle.regress_front_core.specs.declared.error.Error.{Error}
use Rattle.regress_matched.specs.Splitting.{parts_on, first_parts_on}
use Rattle.regress.specs.declared.splitting.Split.{Split}
use Rattle.regress.specs.Coming.{coming}
use Rattle.regress.specs.Splitting.{parts_left, GivesFirstPart, GivesPart}

-- a limit of two or more
pub limited-step : (limit less n : ℕ) (text rest : List ℕ) (behind next : Option ℕ) (before after : List Item) (r : Option (Result (Bor (List ℕ)) Error))
    → limit ≡ suc (suc n) → less ≡ suc n → GivesFirstPart (parts_on text behind (take (suc n) before)) r (parts_on rest next (take n after))
    → GivesFirstPart (first_parts_on limit text behind before) r (first_parts_on less rest next after)
limited-step limit less n text rest behind next before after r two one step = rw (two, one) step

-- each step leaves fewer parts
pub makes-progress : {S : Type 0} (can : S → Type 0) (left : S → List (List ℕ)) (s t : S) (r : Option (Result (Bor (List ℕ)) Error)) → can t
    → GivesPart left s r t → MakesProgress can (λ u. at_most (length (left u))) s r t
makes-progress can left s t None may gives = record { on = λ _. tt; keeps = tt; rests = λ _. tt }
makes-progress can left s t (Some (Ok part)) may gives = record { on = λ _. (may, tt, omega (arith, ap length gives.first)); keeps = may; rests = λ _. tt }
makes-progress can left s t (Some (Err e)) may gives =
    record { on = λ _. (may, tt, omega (arith, ap length gives.first.1, counted (left s) (λ none. let over = gives.ended none in absurd (cc)))); keeps = may; rests = λ _. tt }
  where
    counted : (parts : List (List ℕ)) → parts ≢ [] → 0 < length parts
    counted [] some = absurd (some refl)
    counted (x ∷ parts) some = omega arith

-- an iterator that was made, where memory may have been refused, has all parts still to come
pub parts-made : (text : List ℕ) (items : List Item) (made : Result Split Error) → IfOk made (λ s. (s.source.now ≡ text) × (s.behind ≡ Some 0))
    → IfOk made (λ s. coming s.matches ≡ items) → IfOk made (λ s. parts_left s ≡ parts text items)
parts-made text items (Ok s) begins matches = rw (begins.0, begins.1, matches) refl
parts-made text items (Err e) begins matches = tt
