use Rattle.std.proofs.Common.{◌≡◌, ◌∙◌, map, string_bytes, length, sym, ap, arith}
use Rattle.std.proofs.lemmas.List.{length-map}
use Rattle.std.specs.Arc.{arc_value}
use Rattle.regress.specs.Standing.{names_of_regex}
use Rattle.regress_calls.proofs.asking.group_numbers.Goals as goal

pub returns-then-count-ge-MAX_RANGES-clause-refused : goal.returns-then-count-ge-MAX_RANGES-clause-refused
returns-then-count-ge-MAX_RANGES-clause-refused c =
    let names : map string_bytes c.group_names-names.result.now ≡ names_of_regex (arc_value c.in_ok-regex.regex) = c.group_names-names.ensures ∙ ap names_of_regex c.deref.ensures in
    let many : length (names_of_regex (arc_value c.in_ok-regex.regex)) ≡ length c.group_names-names.result.now = ap length (sym names) ∙ length-map c.group_names-names.result.now string_bytes in
    (arc_value c.in_ok-regex.regex, c.in_ok-regex.ensures.shared, omega (arith, many, c.if-count-ge-MAX_RANGES.true))
