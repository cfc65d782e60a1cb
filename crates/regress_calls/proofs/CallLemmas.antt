-- Whether a search that found something found a match.
use Rattle.std.specs.Prelude.{◌≡◌, ◌≢◌, ℕ, ◌+◌, false, IsTrue, List, [], ◌∷◌, nat_lt, option_map, slice_get}
use Rattle.std.proofs.Common.{refl, ap, arith}
use Rattle.std.proofs.lemmas.Bool.Decides.{nat_tests}
use Rattle.regress_meaning.specs.Matches.{Item}
use Rattle.regress_calls.specs.declared.text_range.TextRange.{TextRange}
use Rattle.regress_calls.specs.Ranges.{IsAnswerTo}

-- ranges are counted just where there are items
pub counts-some : (groups : ℕ) (tell : Item → Item) (items : List Item) (old : List TextRange) (count : ℕ) (new : List TextRange)
    → IsAnswerTo groups (option_map tell (slice_get items 0)) old count new
    → (IsTrue (nat_lt 0 count) → items ≢ []) × (items ≢ [] → IsTrue (nat_lt 0 count))
counts-some groups tell [] old count new answer =
    ((λ some e. let none : nat_lt 0 count ≡ false = ap (λ (n : ℕ). nat_lt 0 n) answer.0 in absurd (cc)), (λ other. absurd (other refl)))
counts-some groups tell (i ∷ items) old count new answer =
    let many : count ≡ groups + 1 = answer.0 in ((λ some e. cc), (λ other. grind (arith, nat_tests)))
