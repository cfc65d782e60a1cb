use Rattle.std.proofs.Common.{ℕ, ◌∙◌, Option, Bool, false, ap, unwrap_or}
use Rattle.regress_front_class_values.proofs.ClassLemmas.{in_set-none}
use Rattle.regress_front_class_values.proofs.value.property_set.Goals as goal

pub returns-in-None : goal.returns-in-None
returns-in-None c = in_set-none c.new.result c.new.ensures ∙ ap (λ (o : Option (ℕ → Bool)). unwrap_or o (λ c. false)) c.in-None.ensures
