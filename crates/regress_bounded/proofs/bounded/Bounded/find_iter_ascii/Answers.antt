use Rattle.std.proofs.Common.{inl, refl, arith}
use Rattle.regress_bounded.proofs.bounded.Bounded.find_iter_ascii.Goals as goal

pub returns-clause-matches_of_tree : goal.returns-clause-matches_of_tree
returns-clause-matches_of_tree c = λ n t laid. c.find_from_ascii.ensures.matches_of_tree n t laid 0 (inl (omega arith, refl))

pub returns-clause-matches : goal.returns-clause-matches
returns-clause-matches c = λ t o p stands. c.find_from_ascii.ensures.matches t o p stands 0 (inl (omega arith, refl))
