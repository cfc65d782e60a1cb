use Rattle.std.proofs.Common.{◌≡◌, position, ◌+◌, ◌-◌, ◌≤◌, length, option_map}
use Rattle.regress_front_bytes.proofs.byte_search.find_by_fours.Given as goal

-- no member stands before the rest
abbrev pub invariant-loop-first : goal.invariant-loop-first
invariant-loop-first g l = record {
  shorter : length l.rest ≤ length l.bytes;
  found : position (g.Set.ByteSet.contains l.set) l.bytes ≡ option_map (λ k. length l.bytes - length l.rest + k) (position (g.Set.ByteSet.contains l.set) l.rest);
}

abbrev pub decreases-loop-first : goal.decreases-loop-first
decreases-loop-first g l = length l.rest
