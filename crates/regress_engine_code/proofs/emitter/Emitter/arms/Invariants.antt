use Rattle.std.proofs.Common.{map, take}
use Rattle.std.specs.Box.{boxed_slice_items}
use Rattle.regress_engine_code.specs.Written.{written}
use Rattle.regress_engine_code.specs.Emitting.{OpensArms}
use Rattle.regress_engine_code.proofs.emitter.Emitter.arms.Given as goal

-- the strings so far
abbrev pub invariant-loop-string : goal.invariant-loop-string
invariant-loop-string l =
    OpensArms l.self l.backward l.icase (map boxed_slice_items (take l.string-index l.strings)) l.jumps.items (written l.fn.code) (written l.code)
