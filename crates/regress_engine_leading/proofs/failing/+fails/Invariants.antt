use Rattle.regress_engine_leading.proofs.failing.+fails.Given as goal

-- how many instructions are still looked at
abbrev pub decreases-fails : goal.decreases-fails
decreases-fails g l = l.left
