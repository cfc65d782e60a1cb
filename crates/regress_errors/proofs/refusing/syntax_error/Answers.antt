use Rattle.std.proofs.Common.{◌∙◌}
use Rattle.regress_errors.proofs.ShownLemmas.{stops-at, stops-between}
use Rattle.regress_errors.proofs.refusing.syntax_error.Goals as goal

pub returns-clause-offset : goal.returns-clause-offset
returns-clause-offset c =
    stops-at c.syntax_error_in_points.result c.deref.result.now c.args.pattern.now c.utf8.pattern (c.deref.ensures.value ∙ c.in_ok-points.ensures) c.syntax_error_in_points.ensures.offset

pub returns-clause-boundary : goal.returns-clause-boundary
returns-clause-boundary c = stops-between c.syntax_error_in_points.result c.args.pattern.now c.utf8.pattern (returns-clause-offset c)
