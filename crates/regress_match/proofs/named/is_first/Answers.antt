use Rattle.std.proofs.Common.{◌≡◌, ◌≢◌, ◌<◌, [], length, take, map, get_or, string_bytes, Some, sym, ap, ◌∙◌, arith}
use Rattle.std.specs.Prelude.{slice_get}
use Rattle.std.proofs.lemmas.Bool.Decides.{nat_tests}
use Rattle.std.proofs.lemmas.Grind.{common_steps}
use Rattle.std.proofs.lemmas.List.{length-map, get_or-map}
use Rattle.regress_match.specs.NamedRanges.{is_new}
use Rattle.regress_match.proofs.NamedLemmas.{new-at, stands-at}
use Rattle.regress_match.proofs.named.is_first.Goals as goal

pub returns-then-not-is_empty : goal.returns-then-not-is_empty
returns-then-not-is_empty c =
    let names = map string_bytes c.args.names.now in
    let k = c.args.index in
    let n = c.as_str-name.result.now in
    let inside : k < length names = omega (arith, length-map c.args.names.now string_bytes, c.requires) in
    let is : n ≡ get_or names k [] =
    c.as_str-name.ensures.value ∙ ap string_bytes c.index-names-index.is ∙ sym (get_or-map string_bytes c.args.names.now k c.index-names-index.result [] c.requires) in
    let here : slice_get names k ≡ Some n = stands-at names k inside ∙ ap Some (sym is) in
    let some : n ≢ [] = λ e. (let none : length n ≡ 0 = ap length e in grind (arith, nat_tests, common_steps, c.if-not-is_empty.ensures)) in
    new-at names k c.in-Some.first n some here c.in-Some.ensures.there.1 c.in-Some.ensures.first ∙ ap (is_new (take k names)) is

pub returns-in-None : goal.returns-in-None
returns-in-None c =
    let names = map string_bytes c.args.names.now in
    let k = c.args.index in
    let n = c.as_str-name.result.now in
    let inside : k < length names = omega (arith, length-map c.args.names.now string_bytes, c.requires) in
    let is : n ≡ get_or names k [] =
    c.as_str-name.ensures.value ∙ ap string_bytes c.index-names-index.is ∙ sym (get_or-map string_bytes c.args.names.now k c.index-names-index.result [] c.requires) in
    absurd (c.in-None.ensures.nowhere k (stands-at names k inside ∙ ap Some (sym is)))
