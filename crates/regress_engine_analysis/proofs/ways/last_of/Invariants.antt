use Rattle.std.proofs.Common.{◌-◌, ◌<◌, length}
use Rattle.regress_engine_analysis.proofs.ways.last_of.Given as goal

-- it stays inside
abbrev pub invariant-ways : goal.invariant-ways
invariant-ways l = l.start < length l.insns → l.at < length l.insns

-- the addresses that are left
abbrev pub decreases-ways : goal.decreases-ways
decreases-ways l = length l.insns - l.at
