-- What alternatives open, one after another.
use Rattle.std.proofs.Common.{◌≡◌, ℕ, List, [], ◌∷◌, ◌++◌, Some, map, Vec, Global, ap, ◌∙◌}
use Rattle.std.proofs.lemmas.List.{map-append}
use Rattle.regress_front_tokens.specs.Ranges.{in_turn, opens, parts_of}
use Rattle.regress_front_tokens.specs.declared.syntax.Term.{Term}
use Rattle.regress_front_tokens.specs.declared.syntax.Syntax.{Syntax}
use Rattle.regress_front_tokens.specs.declared.syntax.Syntax.TheVariants.{Alternative}
use Rattle.regress_front_tokens.proofs.RangeLemmas.{in_turn-push, opens-Alternative}

-- one more alternative
pub arm-opened : (arms more : List Syntax) (terms : Vec (Term Syntax) Global) (j k l : ℕ) → more ≡ arms ++ Alternative terms ∷ []
    → in_turn (map opens arms) j ≡ Some k → in_turn (parts_of terms.items) k ≡ Some l → in_turn (map opens more) j ≡ Some l
arm-opened arms more terms j k l is before last =
    ap (λ ss. in_turn (map opens ss) j) is ∙ ap (λ fs. in_turn fs j) (map-append opens arms (Alternative terms ∷ []))
    ∙ in_turn-push (map opens arms) (opens (Alternative terms)) j k l before (ap (λ f. f k) (opens-Alternative terms) ∙ last)
