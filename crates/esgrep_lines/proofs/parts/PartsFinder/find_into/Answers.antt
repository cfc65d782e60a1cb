use Rattle.std.proofs.Common.{[], map, sym, ap, ◌∙◌, arith}
use Rattle.esgrep_rows.specs.Found.{found_at}
use Rattle.esgrep_lines.proofs.PartLemmas.{parts-all, parts-order, found-parts}
use Rattle.esgrep_lines.proofs.parts.PartsFinder.find_into.Goals as goal

pub returns-clause-found : goal.returns-clause-found
returns-clause-found c = λ template find finds.
    let p = c.args.self.now in
    let text = c.args.text.now in
    let ns = c.loop-found.founds.items in
    let done = parts-all p.ending p.text.now c.args.start text ns c.near-found-items.result.now c.loop-found.found-index _
    (omega (arith, c.loop-found-test.false)) c.loop-found.invariant.put c.near-found-items.ensures in
    found-parts template text ns c.loop-found.invariant.plain ∙ ap (map (found_at template [] text)) done ∙ sym (finds c.args.start text)

pub returns-clause-order : goal.returns-clause-order
returns-clause-order c =
    let p = c.args.self.now in
    let text = c.args.text.now in
    let ns = c.loop-found.founds.items in
    let done = parts-all p.ending p.text.now c.args.start text ns c.near-found-items.result.now c.loop-found.found-index _
    (omega (arith, c.loop-found-test.false)) c.loop-found.invariant.put c.near-found-items.ensures in
    parts-order p.ending p.text.now c.args.start text ns p.founds.items 0 0 p.in_order (omega arith) done
