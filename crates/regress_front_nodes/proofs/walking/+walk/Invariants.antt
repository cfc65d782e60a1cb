use Rattle.std.proofs.Common.{◌≡◌, ℕ, min, drop}
use Rattle.regress_front_nodes.specs.Walks.{Walks}
use Rattle.regress_meaning.specs.Tokens.{greatest}
use Rattle.regress_front_nodes.proofs.walking.+walk.Given as goal

-- a walk over the other parts is the rest of a walk over all parts
abbrev pub invariant-visit_below-loop-part : goal.invariant-visit_below-loop-part
invariant-visit_below-loop-part g l =
    goal.F-IsAlwaysCallable g l.func
    × ((d : ℕ) (last : _) → l.deeper ≡ min d greatest → Walks g.F.FnMut l.mode.postorder l.mode.unicode d l.in_lookbehind l.func (drop l.part-index l.part-items) last
    → Walks g.F.FnMut l.mode.postorder l.mode.unicode d l.in_lookbehind l.initial.func l.part-items last)
