use Rattle.regress_front_nodes.proofs.TreeLaws.{tree-WordBoundary}
use Rattle.regress_engine_prefix.proofs.WordLemmas.{asks-not_inverted}
use Rattle.regress_engine_prefix.proofs.words.is_boundary.Goals as goal

pub returns-in-WordBoundary : goal.returns-in-WordBoundary
returns-in-WordBoundary c = λ e. rw (c.in-WordBoundary.is, tree-WordBoundary) (asks-not_inverted c.in-WordBoundary.invert c.in-WordBoundary.unicode_icase e)
