use Rattle.std.proofs.Common.{◌≡◌, ℕ, ◌||◌, take}
use Rattle.regress_meaning.specs.Text.{holds}
use Rattle.regress_front_sets.specs.Sets.{in_set}
use Rattle.regress_front_tables.proofs.folding.add_class.Given as goal

abbrev pub invariant-loop-member : goal.invariant-loop-member
invariant-loop-member l = (d : ℕ) → (in_set l.set d || in_set l.added d)
    ≡ ((in_set l.set d || in_set l.initial.added d) || holds (take l.member-index l.members) d)
