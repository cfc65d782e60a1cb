use Rattle.std.proofs.Common.{◌≡◌, ◌∙◌, ◌+◌, length, refl, sym, ap, arith}
use Rattle.std.specs.Arc.{arc_value}
use Rattle.regress.specs.declared.api.Regex.{Regex}
use Rattle.regress.specs.Standing.{names_of_regex}
use Rattle.regress_calls.proofs.search.Search.new.Goals as goal

pub returns-then-count-gt-MAX_RANGES-clause-refused :
    goal.returns-then-count-gt-MAX_RANGES-clause-refused
returns-then-count-gt-MAX_RANGES-clause-refused c =
    let counted : length (names_of_regex (arc_value c.args.regex)) + 1 ≡ c.captures_len-count.result
    = ap (λ (r : Regex). length (names_of_regex r) + 1) (sym c.deref.ensures) ∙ sym c.captures_len-count.ensures in
    (arc_value c.args.regex, refl, omega (arith, counted, c.if-count-gt-MAX_RANGES.true))
