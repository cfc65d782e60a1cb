use Rattle.std.proofs.Common.{◌≡◌, ◌≢◌, ◌≤◌, length, option_map, refl, sym, ap, ◌∙◌, arith}
use Rattle.std.proofs.lemmas.List.{length-map}
use Rattle.regress_match.specs.Views.{ends, item_of}
use Rattle.regress_match.specs.GroupViews.{names_of_match}
use Rattle.regress_replacing.specs.Replacing.{range_of_number, part_at}
use Rattle.regress_replacing.specs.Substitution.{number_read}
use Rattle.regress_replacing.proofs.GroupTexts.{number-range, text_or_none}
use Rattle.regress_replacing.proofs.DigitLemmas.{give-group}
use Rattle.regress_replacing.proofs.digits.digits_give.Goals as goal

pub returns : goal.returns
returns c =
    let m = c.args.found.now in
    let text = c.args.text.now in
    let digits = c.args.digits.now.text.now in
    let groups = c.len-groups.result in
    let number = c.group_number-number.result.0 in
    let same : groups ≡ length (item_of m).groups = omega (arith, length-map m.captures.items (option_map ends), c.len-groups.ensures) in
    let read : number ≡ (number_read groups digits).0 = c.group_number-number.ensures.number in
    let some : (number_read groups digits).0 ≢ 0 = λ e. c.if-number-eq0.false (read ∙ e) in
    let within : (number_read groups digits).0 ≤ groups = omega (arith, read, c.if-number-groups.false) in
    let given : c.unwrap_or.result.now ≡ part_at text (range_of_number (item_of m) number) =
    text_or_none text _ _ _ _ c.unwrap_or.ensures refl c.group_str.ensures ∙ ap (part_at text) (number-range m number) in
    rw (given, read, c.group_number-number.ensures.rest) (sym (give-group (names_of_match m) text (item_of m) digits groups same some within))
