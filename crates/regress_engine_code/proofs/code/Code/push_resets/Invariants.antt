use Rattle.std.proofs.Common.{◌≡◌, ◌-◌}
use Rattle.regress_engine_insn.specs.Layout.{resets}
use Rattle.regress_engine_code.specs.Written.{written, with}
use Rattle.regress_engine_code.proofs.code.Code.push_resets.Given as goal

-- what is written, with the resets that are left, is what was written with all
abbrev pub invariant-loop-group : goal.invariant-loop-group
invariant-loop-group l = record {
  told : with (written l.self) (resets l.group (l.last - l.group)) ≡ with (written l.fn.self) (resets l.first (l.last - l.first));
}
