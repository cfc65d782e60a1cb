use Rattle.std.proofs.Common.{length, ap, arith}
use Rattle.std.proofs.lemmas.Result.{err_from_is_err_and}
use Rattle.regress_meaning.specs.Pattern.{names_of}
use Rattle.regress_meaning.specs.WholeText.{whole_text}
use Rattle.regress_front_costs.specs.declared.limit.LimitError.TheVariants.{Refused}
use Rattle.regress_front.specs.FlagWords.{options}
use Rattle.regress_front.specs.TableViews.{table}
use Rattle.regress_programs.proofs.ProgramLemmas.{read-refused-within, refused-fits-within}
use Rattle.regress_programs.proofs.compiled.Compiled.whole_text_within.Goals as goal

pub of_tree-requires : goal.of_tree-requires
of_tree-requires c = let (p, small) = c.in_ok-tree.ensures.accepted in (length (names_of (whole_text p)), small.of_text.whole.well_formed)

pub returns-clause-accepted : goal.returns-clause-accepted
returns-clause-accepted c =
    let (p, small) = c.in_ok-tree.ensures.accepted in
    let (bytes, units) = c.in_ok-of_tree.ensures.accepted whole_text (table c.args.tables.now) (options c.args.flags) c.args.points.now p (small.of_text, ap table c.in_ok-tree.ensures.kept.1, ap options c.in_ok-tree.ensures.kept.0) in
    (p, small.of_text.spelled, small.of_text.within, small.within, bytes, units)

pub returns-clause-small : goal.returns-clause-small
returns-clause-small c =
    let (p, small) = c.in_ok-tree.ensures.accepted in
    (omega (arith, c.in_ok-of_tree.ensures.small.0, small.spread, small.within), omega (arith, c.in_ok-of_tree.ensures.small.1, small.spread, small.within))

pub returns-in_err-tree-clause-refused : goal.returns-in_err-tree-clause-refused
returns-in_err-tree-clause-refused c =
    let answered = err_from_is_err_and c.from_residual.result c.from_residual.ensures.1 in
    rw (answered.1, answered.2) (read-refused-within c.args.limit whole_text (table c.args.tables.now) (options c.args.flags) c.args.points.now c.in_err-tree.field-0.0 c.in_err-tree.ensures.refused)

pub returns-in_err-tree-clause-fits : goal.returns-in_err-tree-clause-fits
returns-in_err-tree-clause-fits c = λ plain short.
    let answered = err_from_is_err_and c.from_residual.result c.from_residual.ensures.1 in
    let refused = read-refused-within c.args.limit whole_text (table c.args.tables.now) (options c.args.flags) c.args.points.now c.in_err-tree.field-0.0 c.in_err-tree.ensures.refused in
    rw (answered.1, answered.2) (refused-fits-within c.args.limit whole_text (table c.args.tables.now) (options c.args.flags) c.args.points.now c.in_err-tree.field-0.0 refused plain short)

pub returns-in_err-of_tree-clause-refused : goal.returns-in_err-of_tree-clause-refused
returns-in_err-of_tree-clause-refused c =
    let (p, small) = c.in_ok-tree.ensures.accepted in
    let refused = c.in_err-of_tree.ensures.refused whole_text (table c.args.tables.now) (options c.args.flags) c.args.points.now p (small.of_text, ap table c.in_ok-tree.ensures.kept.1, ap options c.in_ok-tree.ensures.kept.0) in
    let answered = err_from_is_err_and c.from_residual-in_err-of_tree.result c.from_residual-in_err-of_tree.ensures.1 in
    rw (answered.1, answered.2) refused

pub returns-in_err-of_tree-clause-fits : goal.returns-in_err-of_tree-clause-fits
returns-in_err-of_tree-clause-fits c = λ plain short.
    let (p, small) = c.in_ok-tree.ensures.accepted in
    let refused = c.in_err-of_tree.ensures.refused whole_text (table c.args.tables.now) (options c.args.flags) c.args.points.now p (small.of_text, ap table c.in_ok-tree.ensures.kept.1, ap options c.in_ok-tree.ensures.kept.0) in
    let answered = err_from_is_err_and c.from_residual-in_err-of_tree.result c.from_residual-in_err-of_tree.ensures.1 in
    rw (answered.1, answered.2) (refused-fits-within c.args.limit whole_text (table c.args.tables.now) (options c.args.flags) c.args.points.now (Refused c.in_err-of_tree.field-0.0) refused plain short)
