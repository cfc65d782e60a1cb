use Rattle.std.proofs.Common.{sym, ◌∙◌}
use Rattle.regress_engine_leading.proofs.ways.exit_fails.Goals as goal

pub returns-in-Some : goal.returns-in-Some
returns-in-Some g c =
    c.is_dead_ahead.ensures (g.Input.InputIndexer.view c.args.input.now) c.args.offset (g.met.Input.InputIndexer.are_of_kind c.args.input.now) c.requires (sym c.in-Some.is ∙ c.lead_ahead.ensures)
