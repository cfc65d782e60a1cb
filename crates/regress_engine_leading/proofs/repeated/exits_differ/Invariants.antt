use Rattle.regress_engine_code.specs.Standing.{program_of}
use Rattle.regress_engine_insn.specs.InsnViews.{instruction}
use Rattle.regress_engine_leading.proofs.RepeatLemmas.{IsDiffering}
use Rattle.regress_engine_leading.proofs.repeated.exits_differ.Given as goal

-- up to here other units stand ahead of the exits
abbrev pub invariant-exits : goal.invariant-exits
invariant-exits g l = IsDiffering (program_of l.program) (g.Input.InputIndexer.view l.input) (instruction l.class) l.start l.most l.near l.left l.exit

abbrev pub decreases-exits : goal.decreases-exits
decreases-exits g l = l.left
