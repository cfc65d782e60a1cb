use Rattle.std.proofs.Common.{ap}
use Rattle.std.proofs.lemmas.List.{map-set}
use Rattle.regress_engine_search.specs.StateViews.{marks_of}
use Rattle.regress_engine_copying.specs.StateOf.{state_of}
use Rattle.regress_engine_copying.proofs.state.State.set_group.Goals as goal

pub returns : goal.returns
returns c = ap (λ xs. record (state_of c.args.self.now) { groups = xs }) (map-set marks_of c.args.self.now.groups.items c.args.group c.args.value)
