use Rattle.std.proofs.Common.{sym, ◌∙◌}
use Rattle.regress_engine_linear.proofs.ranks.RankTable.of.Goals as goal

pub returns-then-are_ranked-clause-ranked : goal.returns-then-are_ranked-clause-ranked
returns-then-are_ranked-clause-ranked c program are = sym (c.are_ranked.ensures program are) ∙ c.if-are_ranked.true

pub returns-then-are_ranked-clause-placed : goal.returns-then-are_ranked-clause-placed
returns-then-are_ranked-clause-placed c =
    let placed = c.are_placed.ensures c.if-not-are_placed.false in
    record {
      low = λ at within. (placed at within).0;
      index = λ at within. (placed at within).1;
      address = λ at within. (placed at within).2;
      there = c.are_there.ensures c.if-not-are_there.false;
      before = c.are_ordered.ensures c.if-not-are_ordered.false;
    }
