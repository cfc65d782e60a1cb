use Rattle.std.proofs.Common.{refl, sym, ap, ◌∙◌}
use Rattle.regress_front_sets.specs.Sets.{ends_in, intervals_of}
use Rattle.regress_front_nodes.proofs.TreeLaws.{tree-MatchAny, tree-CharSet}
use Rattle.regress_front_opt.proofs.BracketLemmas.{empty-takes, all-takes, few-takes, no-intervals}
use Rattle.regress_front_opt.proofs.brackets.simpler.Goals as goal

pub returns-then-is_empty : goal.returns-then-is_empty
returns-then-is_empty c =
    rw c.make_always_fails.ensures (refl, empty-takes c.args.contents.now.invert (ends_in c.args.contents.now.cps) (sym c.is_empty.ensures ∙ c.if-is_empty.true))

pub returns-then-is_empty-2 : goal.returns-then-is_empty-2
returns-then-is_empty-2 c =
    let none = rw c.intervals.ensures at c.if-is_empty-2.ensures in
    rw (tree-MatchAny, c.if-contents.true) (refl, all-takes (ends_in c.args.contents.now.cps) (no-intervals (intervals_of c.args.contents.now.cps) (sym none)))
