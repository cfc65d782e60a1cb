use Rattle.std.proofs.Common.{true, refl}
use Rattle.std.proofs.iter.runs.Made.{run, to_end}
use Rattle.regress_front_core.proofs.flags.Flags.new.Goals as goal

pub returns : goal.returns
returns g c =
    let steps = g.I.Iterator.next_gives in
    let all = c.loop-letter.yielded in
    let whole = run steps _ all true (to_end steps _ all (_, (_, c.loop-letter.yielded_by, c.in-None.ensures.steps))) in
    (whole, c.into_iter-letter-iterator.ensures.into_iter_gives, refl, c.loop-letter.invariant.2)
