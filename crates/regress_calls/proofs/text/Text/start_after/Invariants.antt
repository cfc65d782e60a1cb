use Rattle.regress_calls.specs.Texts.{reading_of_text}
use Rattle.regress_calls.proofs.StartLemmas.{NoStart}
use Rattle.regress_calls.proofs.text.Text.start_after.Given as goal

-- no start so far
abbrev pub invariant-loop-start : goal.invariant-loop-start
invariant-loop-start l = NoStart (reading_of_text l.self) l.next l.start
