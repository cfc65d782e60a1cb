use Rattle.std.proofs.Common.{◌≡◌, ◌+◌, ◌≤◌, length, length-append, refl, arith, ◌++◌, ◌∷◌, [], ap, ◌∙◌}
use Rattle.regress_front_opt.proofs.BracketLemmas.{holds-none, holds-more, holds-all, points-more}
use Rattle.regress_front_opt.proofs.brackets.add_members.Goals as goal

pub loop-cp-init : goal.loop-cp-init
loop-cp-init c = (omega arith, c.requires.points, λ d. holds-none c.args.members.now.items c.args.interval.first d)

pub loop-cp-preserved : goal.loop-cp-preserved
loop-cp-preserved c =
    let v = c.loop-cp.invariant in
    let items = c.in_ok-push.ensures.items in
    let size = ap length items ∙ length-append c.loop-cp.members.items (c.loop-cp.cp ∷ []) in
    let above : c.args.interval.first ≤ c.loop-cp.cp = omega (arith, c.loop-cp.auto.cp) in (
      omega (arith, v.0, size),
      points-more c.loop-cp.members.items c.push.new.self.items c.loop-cp.cp items (omega (arith, c.loop-cp-test.true, c.args.interval.bounded)) v.1,
      λ d. holds-more c.args.members.now.items c.loop-cp.members.items c.push.new.self.items c.args.interval.first c.loop-cp.cp d above items (v.2 d),
    )

pub returns : goal.returns
returns c =
    let v = c.loop-cp.invariant in
    let end : c.loop-cp.cp ≡ c.args.interval.last + 1 = omega (arith, c.loop-cp-test.false, c.loop-cp.auto.cp-end, c.args.interval.ordered) in
    record {
      few = λ e. omega (arith, v.0, end, c.if-count_codepoints-len.false, c.count_codepoints.ensures, c.len.ensures, c.args.members.now.ok.0, c.requires.few);
      points = λ e. v.1;
      added = λ e d. holds-all c.args.members.now.items c.loop-cp.members.items c.args.interval c.loop-cp.cp d end (v.2 d);
    }
