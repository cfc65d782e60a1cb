use Rattle.esgrep_rows.specs.Found.{but_for}
use Rattle.esgrep_lines.proofs.CountLemmas.{count-told}
use Rattle.esgrep_lines.proofs.searching.count.Goals as goal

pub returns-clause-count : goal.returns-clause-count
returns-clause-count g c = λ template find finds.
    count-told c.args.options.now (but_for c.count_selected.new.given_up.items find) c.args.text.now c.needed-most.result c.in_ok-selected.selected c.needed-most.ensures
    (c.in_ok-selected.ensures.count template find finds)
