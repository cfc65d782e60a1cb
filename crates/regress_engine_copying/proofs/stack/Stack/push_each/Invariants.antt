use Rattle.std.specs.Prelude.{reverse}
use Rattle.std.proofs.Common.{◌≡◌, map, take}
use Rattle.regress_engine_copying.specs.Held.{held, put}
use Rattle.regress_engine_copying.specs.StateOf.{state_of}
use Rattle.regress_engine_copying.proofs.stack.Stack.push_each.Given as goal

-- the states so far are on top
abbrev pub invariant-loop-offset : goal.invariant-loop-offset
invariant-loop-offset l =
    held l.self ≡ put (map (λ o. record (state_of l.state) { at = l.at; offset = o }) (reverse (take l.offset-index l.offsets))) (held l.initial.self)
