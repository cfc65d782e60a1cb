use Rattle.std.proofs.Common.{◌≡◌, ◌≢◌, ◌+◌, ◌<◌, ◌≤◌, [], Some, None, length, drop, get_or, string_bytes, refl, sym, ap, ◌∙◌, add-one, true≢false, arith}
use Rattle.std.specs.Option.{option_or}
use Rattle.std.proofs.lemmas.Bool.Decides.{Decides-eqb}
use Rattle.std.proofs.lemmas.List.{length-map, get_or-map}
use Rattle.std.proofs.lemmas.Slice.Eq.{slice_eq-Decides}
use Rattle.regress_match.specs.GroupRanges.{numbered, range_numbered}
use Rattle.regress_match.specs.GroupViews.{names_of_match}
use Rattle.regress_match.specs.NamedRanges.{first_taken}
use Rattle.regress_match.proofs.NamedLemmas.{taken-other, taken-here, taken-end}
use Rattle.regress_match.proofs.named.taken.Goals as goal
use Rattle.regress_match.proofs.named.taken.Goals.{then-eq+in_default, else-eq}

pub returns-in-Some-clause-value : goal.returns-in-Some-clause-value
returns-in-Some-clause-value c =
    let m = c.args.found.now in
    let all = names_of_match m in
    let name = c.args.name.now in
    let i = c.loop-index.index in
    let group = numbered m.captures.items in
    let inside : i < length all = omega (arith, length-map c.group_names-other-items.result.now string_bytes, ap length c.group_names-other-items.ensures, c.loop-index-test.true) in
    let read : get_or all i [] ≡ c.as_str.result.now =
    ap (λ names. get_or names i []) (sym c.group_names-other-items.ensures) ∙ get_or-map string_bytes c.group_names-other-items.result.now i c.other-item.result [] c.loop-index-test.true
    ∙ ap string_bytes (sym c.other-item.is) ∙ sym c.as_str.ensures.value in
    let same : c.as_str.result.now ≡ name = (slice_eq-Decides Decides-eqb c.as_str.result.now name c.eq.result c.eq.ensures).0 c.if-eq.true in
    let here : range_numbered m (i + 1) ≡ group i = rw (add-one i) refl in
    let took : group i ≡ Some c.in-Some.range = sym here ∙ sym c.group.ensures.value ∙ c.in-Some.is in
    sym (c.loop-index.invariant ∙ taken-here name group all i inside (read ∙ same) ∙ ap (λ r. option_or r (first_taken name group (i + 1) (drop (i + 1) all))) took)

pub loop-index-preserved : goal.loop-index-preserved
loop-index-preserved c =
    let m = c.args.found.now in
    let all = names_of_match m in
    let name = c.args.name.now in
    let i = c.loop-index.index in
    let group = numbered m.captures.items in
    let inside : i < length all = omega (arith, length-map c.group_names-other-items.result.now string_bytes, ap length c.group_names-other-items.ensures, c.loop-index-test.true) in
    let read : get_or all i [] ≡ c.as_str.result.now =
    ap (λ names. get_or names i []) (sym c.group_names-other-items.ensures) ∙ get_or-map string_bytes c.group_names-other-items.result.now i c.other-item.result [] c.loop-index-test.true
    ∙ ap string_bytes (sym c.other-item.is) ∙ sym c.as_str.ensures.value in
    let decides = slice_eq-Decides Decides-eqb c.as_str.result.now name c.eq.result c.eq.ensures in
    let here : range_numbered m (i + 1) ≡ group i = rw (add-one i) refl in
    c.loop-index.invariant
    ∙ elim c.if-eq.branch [
      | then-eq+in_default w ↦
          let took : group i ≡ None = sym here ∙ sym w.group.ensures.value ∙ w.in_default.is in
          taken-here name group all i inside (read ∙ decides.0 w.if-eq.true) ∙ ap (λ r. option_or r (first_taken name group (i + 1) (drop (i + 1) all))) took
      | else-eq w ↦
          let apart : get_or all i [] ≢ name = λ e. true≢false (sym (decides.1 (sym read ∙ e)) ∙ w.if-eq.false) in
          taken-other name group all i inside apart
    ]

pub returns-clause-value : goal.returns-clause-value
returns-clause-value c =
    let m = c.args.found.now in
    let all = names_of_match m in
    let past : length all ≤ c.loop-index.index =
    omega (arith, length-map c.group_names-other-items.result.now string_bytes, ap length c.group_names-other-items.ensures, c.loop-index-test.false) in
    sym (c.loop-index.invariant ∙ taken-end c.args.name.now (numbered m.captures.items) all c.loop-index.index past)
