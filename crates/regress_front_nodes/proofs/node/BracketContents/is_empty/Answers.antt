use Rattle.std.proofs.Common.{◌==◌, sym, ap}
use Rattle.std.proofs.lemmas.List.{length-map}
use Rattle.regress_front_nodes.proofs.EmptyBrackets.{inverted_is_empty, plain_is_empty}
use Rattle.regress_front_nodes.proofs.node.BracketContents.is_empty.Goals as goal

pub returns-then-self : goal.returns-then-self
returns-then-self c = rw (c.inverted_interval_count.ensures, c.if-self.true) (inverted_is_empty _ c.args.self.now.cps.canonical)

pub returns-else-self : goal.returns-else-self
returns-else-self c = rw (c.is_empty.ensures, c.if-self.false, c.intervals.ensures, ← plain_is_empty _ c.args.self.now.cps.canonical) (ap (λ n. n == 0) (sym (length-map _ _)))
