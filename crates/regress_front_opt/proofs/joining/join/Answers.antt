use Rattle.std.proofs.lemmas.Result.{on_ok_weaker}
use Rattle.regress_front_opt.proofs.JoinLemmas.{joins-reach, turned-reaches, turned-apart}
use Rattle.regress_front_opt.proofs.joining.join.Goals as goal

pub returns-then-in_lookbehind : goal.returns-then-in_lookbehind
returns-then-in_lookbehind c =
    let h = c.join_in_order-outcome.ensures in
    let first = c.reverse.ensures.items in
    let last = c.reverse-then-in_lookbehind.ensures.items in
    record {
      joined = rw c.if-in_lookbehind.true (turned-reaches c.args.parts.now.items c.reverse.new.self.items c.join_in_order-outcome.new.parts.items c.reverse-then-in_lookbehind.new.self.items first last h.joined);
      apart = on_ok_weaker c.join_in_order-outcome.result (turned-apart c.join_in_order-outcome.new.parts.items c.reverse-then-in_lookbehind.new.self.items last) h.apart;
    }

pub returns : goal.returns
returns c =
    let h = c.join_in_order.ensures in
    record { joined = rw c.if-in_lookbehind.false (joins-reach h.joined); apart = h.apart }
