use Rattle.std.proofs.Common.{sym, ◌∙◌}
use Rattle.regress_engine_advance.proofs.CannotBeginLemmas.{cannot_begin-dead}
use Rattle.regress_engine_advance.proofs.dead.is_dead_ahead.Goals as goal

pub returns : goal.returns
returns c = λ v o all suits ahead yes.
    cannot_begin-dead c.args.program.now v all suits c.args.at o c.args.byte c.ranges.byte.fits ahead (sym c.cannot_begin_with.ensures ∙ yes)
