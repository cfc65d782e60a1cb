use Rattle.std.proofs.Common.{◌≡◌, ◌-◌, ◌≤◌, length, take, false}
use Rattle.std.specs.Io.KnownBytes.{Appends}
use Rattle.regress_program.proofs.program.put_all.Given as goal

abbrev pub invariant-loop-done : goal.invariant-loop-done
invariant-loop-done g l = record {
  inside : l.done ≤ length l.bytes;
  going : g.W.Sink.failed l.sink ≡ false;
  wrote : Appends (g.W.Sink.written l.fn.sink) (g.W.Sink.written l.sink) (take l.done l.bytes);
}

abbrev pub decreases-loop-done : goal.decreases-loop-done
decreases-loop-done g l = length l.bytes - l.done
