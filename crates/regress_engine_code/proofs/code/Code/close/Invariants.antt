use Rattle.std.proofs.Common.{◌≡◌, ◌<◌, All, length, vec_len}
use Rattle.regress_engine_code.specs.Written.{written, closed}
use Rattle.regress_engine_code.proofs.code.Code.close.Given as goal

-- with the jumps that are left, it is what it is to be
abbrev pub invariant-loop-jump : goal.invariant-loop-jump
invariant-loop-jump l = record {
  told : closed (written l.self) l.jumps.items l.target ≡ closed (written l.fn.self) l.fn.jumps.items l.target;
  places : All (λ j. j < length (written l.self).instructions) l.jumps.items;
}

abbrev pub decreases-loop-jump : goal.decreases-loop-jump
decreases-loop-jump l = vec_len l.jumps
