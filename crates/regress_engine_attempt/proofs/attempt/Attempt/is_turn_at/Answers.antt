use Rattle.std.specs.Prelude.{IfSome, is_some}
use Rattle.std.proofs.Common.{◌≡◌, true, Option, Some, None, sym, ◌∙◌}
use Rattle.regress_engine_attempt.proofs.attempt.Attempt.is_turn_at.Goals as goal

-- what was found
some : {A : Type 0} {P : A → Type 0} {Q : Type 0} → ((a : A) → P a → Q) → (x : Option A) → IfSome x P → is_some x ≡ true → Q
some f None h e = absurd (cc e)
some f (Some a) h e = f a h

pub returns : goal.returns
returns g c = λ yes.
    some (λ t class. class) c.turn_at.result c.turn_at.ensures.class (sym c.is_some.ensures ∙ yes)
