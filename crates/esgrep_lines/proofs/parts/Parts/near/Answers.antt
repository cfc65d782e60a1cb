use Rattle.std.proofs.Common.{rules, of_calls, ◌≡◌, ◌+◌, ◌-◌, nat_lt, List, length, drop, take, inl, inr, sym, ap, subst, ◌∙◌, length-drop, arith}
use Rattle.std.proofs.lemmas.Bool.{ltb-true}
use Rattle.std.proofs.lemmas.List.{take_all}
use Rattle.std.proofs.lemmas.List.Sorted.{IsPartitionPoint-from_clause, IsPartitionedBy-ltb}
use Rattle.regress_match.specs.declared.found.Match.{Match}
use Rattle.esgrep_rows.specs.Found.{LieInOrder}
use Rattle.esgrep_lines.proofs.PartLemmas.{ends-rise, parts-near}
use Rattle.esgrep_lines.proofs.parts.Parts.near.Goals as goal
use Rattle.esgrep_lines.proofs.parts.Parts.near.Goals.{then-loop-count-test+else-not-begins_behind, else-loop-count-test}

pub returns : goal.returns
returns c =
    let p = c.args.self.now in
    let ms = p.founds.items in
    let n = c.partition_point-first.result in
    let searched = c.deref.result.now in
    let rest : List Match = take (length c.deref-2.result.now - n) (drop n c.deref-2.result.now) in
    let is : rest ≡ drop n ms = take_all _ (drop n c.deref-2.result.now) (omega (arith, length-drop n c.deref-2.result.now)) ∙ ap (drop n) c.deref-2.ensures.value in
    let ordered : LieInOrder p.text.now 0 searched = subst (LieInOrder p.text.now 0) (sym c.deref.ensures.value) p.in_order in
    let point = IsPartitionPoint-from_clause (λ (m : Match). nat_lt m.range.end c.args.start) searched n c.partition_point-first.ensures.partitioned
    (IsPartitionedBy-ltb (λ (m : Match). m.range.end) searched c.args.start (ends-rise p.text.now 0 searched ordered)) (λ a r f k. search (rules, of_calls)) in
    let early = rw c.deref.ensures.value at point.0 in
    parts-near p.ending p.text.now c.args.start c.args.text.now ms rest n c.loop-count.count p.in_order is (λ k d below. early k d (omega arith) below)
    (elim c.loop-count-test.branch [
      | then-loop-count-test+else-not-begins_behind w ↦ inr (w.index-rest-count.result, omega (arith, w.loop-count-test.true), w.index-rest-count.is, ltb-true (c.args.start + length c.args.text.now) _ (sym w.if-not-begins_behind.ensures))
      | else-loop-count-test w ↦ inl (omega (arith, w.loop-count-test.false))
    ])
