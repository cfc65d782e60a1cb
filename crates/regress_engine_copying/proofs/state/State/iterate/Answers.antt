use Rattle.std.proofs.Common.{◌∙◌}
use Rattle.regress_engine_copying.specs.StateOf.{state_of}
use Rattle.regress_engine_copying.proofs.StateLemmas.{iterated}
use Rattle.regress_engine_copying.proofs.state.State.iterate.Goals as goal

pub returns : goal.returns
returns c = c.set_loop.ensures ∙ iterated c.args.id c.args.begin c.args.count (state_of c.args.self.now) c.requires.counted
