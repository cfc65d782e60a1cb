use Rattle.std.proofs.Common.{◌≡◌, ◌∙◌, ◌-◌, ℕ, List, map, string_bytes, length, slice_get, option_map, Some, refl, sym, ap, inl, inr, arith}
use Rattle.std.proofs.lemmas.Option.{slice_get-map, slice_get_read}
use Rattle.std.proofs.lemmas.List.{length-map}
use Rattle.std.specs.Arc.{arc_value}
use Rattle.regress.specs.Standing.{names_of_regex}
use Rattle.regress_calls.proofs.CopyLemmas.{made-as, numbered-at, one-pattern}
use Rattle.regress_calls.proofs.asking.group_name.Goals as goal

pub returns-then-number-eq0-clause-refused : goal.returns-then-number-eq0-clause-refused
returns-then-number-eq0-clause-refused c = (arc_value c.in_ok-regex.regex, c.in_ok-regex.ensures.shared, inl c.if-number-eq0.true)

pub returns-in-Some-clause-text : goal.returns-in-Some-clause-text
returns-in-Some-clause-text c = λ r holds name numbered.
    let groups = c.group_names-names.result.now in let at = c.args.number - 1 in let found = c.in-Some.ensures.lookup in
    let same : arc_value c.in_ok-regex.regex ≡ r = one-pattern (arc_value c.in_ok-regex.regex) r (sym c.in_ok-regex.ensures.shared ∙ holds) in
    let names : map string_bytes groups ≡ names_of_regex r = c.group_names-names.ensures ∙ ap names_of_regex (c.deref.ensures ∙ same) in
    let there : slice_get groups at ≡ Some c.in-Some.name.now = slice_get_read groups (length groups) at c.in-Some.name.now refl found.3.0 found.1 in
    let told : slice_get (names_of_regex r) at ≡ Some (string_bytes c.in-Some.name.now)
    = ap (λ (l : List (List ℕ)). slice_get l at) (sym names) ∙ slice_get-map string_bytes groups at ∙ ap (option_map string_bytes) there in
    let is : string_bytes c.in-Some.name.now ≡ name = cc (told, numbered-at (names_of_regex r) c.args.number name numbered) in
    made-as c.as_bytes.result.now name c.args.buffer.now c.copy_text.new.buffer c.copy_text.new.written c.copy_text.result (c.as_bytes.ensures.value ∙ is) c.copy_text.ensures

pub returns-clause-refused : goal.returns-clause-refused
returns-clause-refused c =
    let names : map string_bytes c.group_names-names.result.now ≡ names_of_regex (arc_value c.in_ok-regex.regex)
    = c.group_names-names.ensures ∙ ap names_of_regex c.deref.ensures in
    let many : length (names_of_regex (arc_value c.in_ok-regex.regex)) ≡ length c.group_names-names.result.now
    = ap length (sym names) ∙ length-map c.group_names-names.result.now string_bytes in
    (arc_value c.in_ok-regex.regex, c.in_ok-regex.ensures.shared, inr (omega (arith, many, c.in-None.ensures.lookup.3, c.if-number-eq0.false)))
