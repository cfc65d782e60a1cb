use Rattle.std.proofs.Common.{ℕ, ◌+◌, List, arith}
use Rattle.std.proofs.lemmas.Result.{err_from_is_err_and}
use Rattle.regress_meaning.specs.Table.{Table}
use Rattle.regress_meaning.specs.Flags.{Options}
use Rattle.regress_meaning.specs.WholeText.{whole_text}
use Rattle.regress_front_core.specs.FlagWords.{options}
use Rattle.regress_front_tables.specs.TableViews.{table}
use Rattle.regress_front_nodes.specs.Trees.{tree}
use Rattle.regress_front_costs.specs.Costs.{cost, MayRefuseLarger, MayRefuseWithin}
use Rattle.regress_front_costs.specs.declared.limit.LimitError.{LimitError}
use Rattle.regress_front_costs.specs.declared.limit.LimitError.TheVariants.{PastLimit, Refused}
use Rattle.regress_front_tree.proofs.parse.try_parse_whole_text_within.Goals as goals

-- what costs so much more is larger as a whole
refused-whole : (limit : ℕ) (table : Table) (o : Options) (text : List ℕ) (e : LimitError) → MayRefuseLarger (λ p. cost table p + 7) limit table o text e
    → MayRefuseWithin limit whole_text table o text e
refused-whole limit table o text PastLimit h = record { pattern = h.pattern; spelled = h.spelled; within = h.within; larger = omega (arith, h.larger) }
refused-whole limit table o text (Refused e) h = h

pub returns-clause-accepted : goals.returns-clause-accepted
returns-clause-accepted c =
    let (p, from, few) = c.in_ok-node.ensures.lowered in
    let made = c.lowered_trees_make_wholes.ensures.between_ends _ _ _ p (tree c.in_ok-node.node) from in
    let small = c.lowered_trees_are_cheap.ensures _ _ _ _ _ p (tree c.in_ok-node.node) from.opened from.lowered in
    (p, rw (c.in_ok-node-2.ensures, c.in_ok-between_ends.ensures) (record { of_text = made; within = omega (arith, few); spread = omega (arith, small) }))

pub returns-in_err-node-clause-refused : goals.returns-in_err-node-clause-refused
returns-in_err-node-clause-refused c =
    let answered = err_from_is_err_and c.from_residual.result c.from_residual.ensures.1 in
    rw (answered.1, answered.2) (refused-whole c.args.limit (table c.args.tables.now) (options c.args.flags) c.args.pattern.now _ c.in_err-node.ensures.refused)
