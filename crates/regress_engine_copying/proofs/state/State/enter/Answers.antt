use Rattle.regress_engine_copying.proofs.state.State.enter.Goals as goal

pub returns : goal.returns
returns c = c.set_loop.ensures
