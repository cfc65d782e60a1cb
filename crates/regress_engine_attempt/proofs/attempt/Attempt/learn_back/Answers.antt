use Rattle.std.proofs.Common.{not, sym}
use Rattle.regress_engine_input.specs.Views.{direction_of}
use Rattle.regress_engine_search.proofs.PlaceLemmas.{can-read, next-place}
use Rattle.regress_engine_attempt.proofs.attempt.Attempt.learn_back.Goals as goal

pub loop-passed-init : goal.loop-passed-init
loop-passed-init g c = record { so = c.requires.so; place = c.requires.place }

pub beside-requires : goal.beside-requires
beside-requires g c =
    can-read (g.Input.InputIndexer.view c.args.self.now.input) (g.met.Input.InputIndexer.are_of_kind c.args.self.now.input) c.loop-passed.offset c.loop-passed.invariant.place

pub loop-passed-preserved : goal.loop-passed-preserved
loop-passed-preserved g c = record {
  so = c.learn_exit.ensures;
  place = next-place (g.Input.InputIndexer.view c.args.self.now.input) (g.met.Input.InputIndexer.are_of_kind c.args.self.now.input) (direction_of (not c.args.from.now.forward)) c.loop-passed.offset _ c.in-Some.before c.loop-passed.invariant.place (sym c.in-Some.ensures);
}
