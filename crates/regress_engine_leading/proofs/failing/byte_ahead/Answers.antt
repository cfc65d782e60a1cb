use Rattle.regress_engine_singles.proofs.ByteLemmas.{byte-places}
use Rattle.regress_engine_leading.proofs.failing.byte_ahead.Goals as goal

pub returns-clause-place : goal.returns-clause-place
returns-clause-place g c =
    let v = g.Input.InputIndexer.view c.args.input.now in
    byte-places v (g.met.Input.InputIndexer.are_of_kind c.args.input.now) c.requires.kind c.args.byte.now c.told-byte c.requires.ascii c.args.offset c.requires.place c.bytes_beside.result c.bytes_beside.ensures
