use Rattle.std.proofs.Common.{◌≡◌, false}
use Rattle.regress_meaning.specs.Table.{Table}
use Rattle.regress_meaning.specs.Pattern.{Pattern}
use Rattle.regress_meaning.specs.Flags.{Options}
use Rattle.regress.specs.Standing.{StandsFor}
use Rattle.regress.specs.Coming.{coming}
use Rattle.regress_program.specs.Running.{output}
use Rattle.regress_program.proofs.RunLemmas.{IsWritten}
use Rattle.regress_program.proofs.program.put_lines.Given as goal

abbrev pub invariant-loop-found : goal.invariant-loop-found
invariant-loop-found g l =
    (g.W.Sink.failed l.sink ≡ false)
    × ((t : Table) → (o : Options) → (p : Pattern) → StandsFor l.regex t o p
    → IsWritten (g.W.Sink.written l.fn.sink) (g.W.Sink.written l.sink) l.pending.items (coming l.found-iterator) (output t o p l.text))
