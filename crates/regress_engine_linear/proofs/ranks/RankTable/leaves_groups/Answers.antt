use Rattle.regress_engine_linear.proofs.ranks.RankTable.leaves_groups.Goals as goal

pub returns-in-Atomic : goal.returns-in-Atomic
returns-in-Atomic c program are told = rw c.in-Atomic.is (c.are_allowed.ensures program are)
