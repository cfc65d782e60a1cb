use Rattle.std.proofs.Common.{◌≡◌, not, true, refl, sym, ap, arith}
use Rattle.std.proofs.lemmas.List.Elements.{All-nil}
use Rattle.regress_meaning.specs.TableParts.{is_code_point, in_intervals}
use Rattle.regress_front_opt.proofs.BracketLemmas.{intervals-more}
use Rattle.regress_front_opt.proofs.brackets.few_members.Goals as goal

pub loop-interval-init : goal.loop-interval-init
unfolding in_intervals
loop-interval-init c = let none = c.new-members.ensures.items in (rw none (omega arith), rw none (All-nil is_code_point), λ d. rw none refl)

pub loop-interval-preserved : goal.loop-interval-preserved
loop-interval-preserved c =
    let h = c.in_ok-add_members.ensures in
    let few = c.if-not-branch.false in (
      h.few few,
      h.points few,
      λ d. intervals-more c.args.intervals.now c.loop-interval.interval-index c.interval-item.result c.loop-interval.members.items c.add_members.new.members.items d c.loop-interval-test.true c.interval-item.is
          (c.loop-interval.invariant.2 d) (h.added few d),
    )
