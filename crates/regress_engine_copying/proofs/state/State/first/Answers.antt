use Rattle.std.proofs.Common.{refl, ap}
use Rattle.regress_engine_runs.specs.States.{unset}
use Rattle.regress_engine_search.specs.StateViews.{loop_of, marks_of}
use Rattle.regress_engine_search.proofs.FillLemmas.{filled}
use Rattle.regress_engine_copying.proofs.StateLemmas.{whole-is}
use Rattle.regress_engine_copying.proofs.state.State.first.Goals as goal

pub returns : goal.returns
returns c =
    whole-is refl refl
    (filled loop_of c.resize.new.self.items c.new.result.items c.args.loops _ c.new-3.result (0, 0) c.in_ok-resize.ensures.items c.new.ensures.items c.new.ensures.len (ap loop_of c.new-3.ensures))
    (filled marks_of c.resize-2.new.self.items c.new-2.result.items c.args.groups _ c.new-4.result unset c.in_ok-resize-2.ensures.items c.new-2.ensures.items c.new-2.ensures.len (ap marks_of c.new-4.ensures))
