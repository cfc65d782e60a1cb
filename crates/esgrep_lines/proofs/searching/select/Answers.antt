use Rattle.std.proofs.Common.{rules, ◌≡◌, length, sym, ap, ◌∙◌, refl}
use Rattle.std.proofs.lemmas.List.{length-map}
use Rattle.std.specs.Prelude.{◌==◌}
use Rattle.esgrep_rows.specs.Found.{found_of}
use Rattle.esgrep_rows.specs.Lines.{body}
use Rattle.esgrep_rows.specs.Rows.{found_at_line}
use Rattle.esgrep_lines.proofs.CountLemmas.{found-is}
use Rattle.esgrep_lines.proofs.GivenUpLemmas.{searched-is, given-selected}
use Rattle.esgrep_lines.proofs.searching.select.Goals as goal

pub returns-in-Ok-clause-selected : goal.returns-in-Ok-clause-selected
returns-in-Ok-clause-selected g c = λ template seen finds tells.
    let o = c.args.options.now in
    let founds = found_at_line o seen c.args.line.start c.args.line.text.now in
    let ms = c.find_into.new.founds.items in
    let same : length ms ≡ length founds =
    sym (length-map ms (found_of template (body o.ending c.args.line.text.now))) ∙ ap length (rw c.body_of.ensures at c.in-Ok.ensures.found template seen.find finds) in
    let empty : c.is_empty.result ≡ (length ms == 0) = search rules in
    found-is c.is_empty.result o.invert (length founds) (empty ∙ ap (λ n. n == 0) same)
    ∙ sym (searched-is o seen c.args.given_up.now.items c.args.line.start c.args.line.text.now c.requires.low tells founds refl)

pub returns-in-Err-clause-selected : goal.returns-in-Err-clause-selected
returns-in-Err-clause-selected g c = λ template seen finds tells.
    given-selected c.give_up.result c.args.options.now seen c.args.given_up.now.items c.give_up.new.given_up.items c.args.line.start c.args.line.text.now
    c.give_up.ensures.unselected tells
