use Rattle.std.proofs.Common.{sym, ◌∙◌}
use Rattle.regress_engine_leading.proofs.leading.at_plain_word.Goals as goal

pub behind_edge-requires-clause-edge : goal.behind_edge-requires-clause-edge
behind_edge-requires-clause-edge g c = sym c.in-Some.ensures ∙ c.if-edge.true
