use Rattle.std.proofs.Common.{◌≡◌, ◌-◌, ℕ, Some, arith, subst}
use Rattle.regress_meaning.specs.Meaning.{Forward}
use Rattle.regress_engine_input.specs.Views.{input_of}
use Rattle.regress_engine_singles.specs.Passing.{after}
use Rattle.regress_engine_singles.proofs.PassingLemmas.{after-next, after-reads, reads-on}
use Rattle.regress_engine_singles.proofs.taken.taken_beside.Goals as goal

pub loop-left-init : goal.loop-left-init
loop-left-init g c =
    let v = g.Input.InputIndexer.view c.args.input.now in
    let all = g.met.Input.InputIndexer.are_of_kind c.args.input.now in
    let passes = g.Matcher.SingleCharMatcher.passes c.args.matcher.now in
    let first = c.in_ok-first.first in
    let begun = c.in_ok-first.ensures in
    let within = begun.within in
    let count : first.before ≡ c.args.more - (c.args.more - first.before) = omega (arith, within) in
    record {
      behind = subst (λ (n : ℕ). after (input_of v) passes Forward n c.args.offset ≡ Some first.last) count begun.behind;
      one = begun.one;
      within = omega arith;
      place = reads-on v all passes Forward first.last first.past (after-reads v all passes Forward first.before c.args.offset first.last c.requires.place begun.behind) begun.one;
    }

pub loop-left-preserved : goal.loop-left-preserved
loop-left-preserved g c =
    let v = g.Input.InputIndexer.view c.args.input.now in
    let passes = g.Matcher.SingleCharMatcher.passes c.args.matcher.now in
    let inv = c.loop-left.invariant in
    let within = inv.within in
    record {
      behind = after-next (input_of v) passes Forward c.loop-left.left c.args.more c.args.offset c.loop-left.last c.loop-left.past inv.behind inv.one c.loop-left-test.true within;
      one = c.in-Some.ensures;
      within = omega (arith, within);
      place = reads-on v (g.met.Input.InputIndexer.are_of_kind c.args.input.now) passes Forward c.loop-left.past c.in-Some.next inv.place c.in-Some.ensures;
    }
