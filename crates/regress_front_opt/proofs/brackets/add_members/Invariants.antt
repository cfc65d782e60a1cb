use Rattle.std.proofs.Common.{◌≡◌, ℕ, ◌+◌, ◌&&◌, ◌||◌, All, length, nat_le, nat_lt}
use Rattle.regress_meaning.specs.Text.{holds}
use Rattle.regress_meaning.specs.TableParts.{is_code_point}
use Rattle.regress_front_opt.proofs.brackets.add_members.Given as goal

abbrev pub invariant-loop-cp : goal.invariant-loop-cp
invariant-loop-cp l =
    (length l.members.items + l.fn.interval.first ≡ length l.initial.members.items + l.cp)
    × All is_code_point l.members.items
    × ((c : ℕ) → holds l.members.items c ≡ (holds l.initial.members.items c || (nat_le l.fn.interval.first c && nat_lt c l.cp)))
