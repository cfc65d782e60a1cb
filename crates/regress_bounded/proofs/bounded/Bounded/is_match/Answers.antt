use Rattle.std.proofs.Common.{inl, refl, arith}
use Rattle.regress_bounded.proofs.bounded.Bounded.is_match.Goals as goal

pub returns-clause-found_of_tree : goal.returns-clause-found_of_tree
returns-clause-found_of_tree c = λ n t laid. c.is_match_from.ensures.found_of_tree n t laid 0 (inl (omega arith, refl))

pub returns-clause-found : goal.returns-clause-found
returns-clause-found c = λ t o p stands. c.is_match_from.ensures.found t o p stands 0 (inl (omega arith, refl))
