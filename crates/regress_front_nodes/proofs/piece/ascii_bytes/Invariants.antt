use Rattle.std.proofs.Common.{◌≡◌, true, nat_lt, take}
use Rattle.std.specs.List.{list_all}
use Rattle.regress_front_nodes.proofs.piece.ascii_bytes.Given as goal

-- the code points so far are ASCII, and they are the bytes
abbrev pub invariant-loop-cp : goal.invariant-loop-cp
invariant-loop-cp l = (l.bytes.items ≡ take l.cp-index l.cps) × (list_all (λ c. nat_lt c 0x80) (take l.cp-index l.cps) ≡ true)
