use Rattle.std.proofs.Common.{sym, ◌∙◌, refl}
use Rattle.esgrep_rows.specs.Rows.{found_at_line}
use Rattle.esgrep_lines.proofs.CountLemmas.{selected-is}
use Rattle.esgrep_lines.proofs.GivenUpLemmas.{searched-is}
use Rattle.esgrep_lines.proofs.searching.is_selected.Goals as goal

pub returns-in-Ok-clause-selected : goal.returns-in-Ok-clause-selected
returns-in-Ok-clause-selected g c = λ template seen finds tells.
    let o = c.args.options.now in
    let founds = found_at_line o seen c.args.start c.args.line.now in
    selected-is c.in-Ok.is_match o.invert founds (rw c.body_of.ensures at c.in-Ok.ensures.found template seen.find finds)
    ∙ sym (searched-is o seen c.args.given_up.now.items c.args.start c.args.line.now c.requires.low tells founds refl)
