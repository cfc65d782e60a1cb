use Rattle.std.proofs.Common.{ap}
use Rattle.std.proofs.lemmas.List.{map-set}
use Rattle.regress_engine_search.specs.StateViews.{loop_of}
use Rattle.regress_engine_copying.specs.StateOf.{state_of}
use Rattle.regress_engine_copying.proofs.state.State.set_loop.Goals as goal

pub returns : goal.returns
returns c = ap (λ xs. record (state_of c.args.self.now) { loops = xs }) (map-set loop_of c.args.self.now.loops.items c.args.id c.args.value)
