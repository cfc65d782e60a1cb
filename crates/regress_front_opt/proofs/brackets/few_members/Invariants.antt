use Rattle.std.proofs.Common.{◌≡◌, ℕ, ◌≤◌, All, length, take}
use Rattle.regress_meaning.specs.Text.{holds}
use Rattle.regress_meaning.specs.TableParts.{is_code_point, in_intervals}
use Rattle.regress_front_core.specs.Limits.{most_members}
use Rattle.regress_front_sets.specs.Intervals.{ends_of}
use Rattle.regress_front_opt.proofs.brackets.few_members.Given as goal

abbrev pub invariant-loop-interval : goal.invariant-loop-interval
invariant-loop-interval l =
    (length l.members.items ≤ most_members)
    × All is_code_point l.members.items
    × ((c : ℕ) → holds l.members.items c ≡ in_intervals (ends_of (take l.interval-index l.intervals)) c)
