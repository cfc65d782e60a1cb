use Rattle.std.proofs.Common.{sym}
use Rattle.std.proofs.lemmas.Bool.{leb-true, leb-false}
use Rattle.regress_front_tables.specs.TableViews.{table}
use Rattle.regress_front_core.specs.FlagWords.{options}
use Rattle.regress_front_tokens.specs.Trees as parsed
use Rattle.regress_front_tree.proofs.parse.read_within.Goals as goals

pub lowered-requires : goals.lowered-requires
lowered-requires c =
    let spelled = c.in_ok-syntax.ensures.accepted.0 in
    let p = parsed.tree c.in_ok-syntax.syntax in
    record {
      points = c.spelled_trees_hold_code_points.ensures (table c.args.tables.now) (options c.args.flags) c.args.pattern.now p c.requires spelled;
      names = c.spelled_names_are_not_empty.ensures (table c.args.tables.now) (options c.args.flags) c.args.pattern.now p spelled;
    }

pub returns-then-not-is_within-clause-refused : goals.returns-then-not-is_within-clause-refused
returns-then-not-is_within-clause-refused c =
    let (spelled, within) = c.in_ok-syntax.ensures.accepted in
    record { pattern = parsed.tree c.in_ok-syntax.syntax; spelled = spelled; within = within; larger = leb-false _ _ (sym c.if-not-is_within.ensures) }

pub returns-clause-lowered : goals.returns-clause-lowered
returns-clause-lowered c =
    let p = parsed.tree c.in_ok-syntax.syntax in
    let (spelled, within) = c.in_ok-syntax.ensures.accepted in
    let (last, ranges) = c.in_ok-syntax.ensures.ranges in
    (p, record { spelled = spelled; within = within; opened = last; lowered = c.in_ok-lowered.ensures last ranges }, leb-true _ _ (sym c.if-not-is_within.ensures))
