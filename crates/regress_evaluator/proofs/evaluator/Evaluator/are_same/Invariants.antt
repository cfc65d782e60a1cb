use Rattle.std.proofs.Common.{◌≡◌, drop}
use Rattle.regress_meaning.specs.Meaning.{same_all}
use Rattle.regress_evaluator.specs.StateViews.{context_of}
use Rattle.regress_evaluator.proofs.evaluator.Evaluator.are_same.Given as goal

-- the strings so far are the same
abbrev pub invariant-loop-index : goal.invariant-loop-index
invariant-loop-index l =
    same_all (context_of l.self).table (context_of l.self).unicode l.icase (drop l.index l.first) (drop l.index l.second) ≡ same_all (context_of l.self).table (context_of l.self).unicode l.icase l.first l.second
