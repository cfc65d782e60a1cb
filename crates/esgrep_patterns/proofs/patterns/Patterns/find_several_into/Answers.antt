use Rattle.std.proofs.Common.{◌≤◌, ◌+◌, refl, inl, arith, length, chars}
use Rattle.esgrep_patterns.proofs.OrderLemmas.{reached, reached-more, order-more}
use Rattle.esgrep_patterns.proofs.HitLemmas.{hit-some, hit-none}
use Rattle.esgrep_patterns.proofs.SeveralLemmas.{found-step, found-end, none-past}
use Rattle.esgrep_patterns.proofs.patterns.Patterns.find_several_into.Goals as goal

pub loop-start-init : goal.loop-start-init
loop-start-init c = record {
  start = λ room. (0, inl (omega arith, refl));
  order = rw c.requires tt;
  behind = rw c.requires (omega arith);
  found = λ ss seek template. (length (chars c.args.text.now) + 1, 0, inl (omega arith, refl), omega arith, rw c.requires refl);
}

pub loop-start-preserved : goal.loop-start-preserved
loop-start-preserved c =
    let text = c.args.text.now in
    let ms = c.loop-start.founds.items in
    let m = c.in-Some.found in
    let before = c.loop-start.invariant in
    let found = rw c.in-Some.is at c.in_ok-found.ensures.inside in
    let later : reached 0 ms ≤ m.range.start = omega (arith, before.behind, found.1) in
    record {
      start = c.behind-start.ensures.start;
      order = rw c.in_ok-push.ensures.items (order-more text 0 ms m before.order later found.0);
      behind = rw (c.in_ok-push.ensures.items, reached-more 0 ms m) c.behind-start.ensures.after;
      found = λ ss seek template.
          let (n, place, begins, room, same) = before.found ss seek template in
          let all = c.in_ok-found.ensures.found ss seek place begins in
          let (h, is, hit) = hit-some text m _ (rw c.in-Some.is at all) in
          let (left, more, next) = found-step template text c.utf8.text ss n place ms m h is hit room _ same in
          (left, _, c.behind-start.ensures.next h hit, more, rw c.in_ok-push.ensures.items next);
    }

pub returns-after-loop-start-clause-found : goal.returns-after-loop-start-clause-found
returns-after-loop-start-clause-found c = λ ss seek template.
    let text = c.args.text.now in
    let (n, place, begins, room, same) = c.loop-start.invariant.found ss seek template in
    found-end template text ss n place _ _ (none-past text c.utf8.text ss place c.loop-start.start begins (omega arith)) same

pub returns-in_default-clause-found : goal.returns-in_default-clause-found
returns-in_default-clause-found c = λ ss seek template.
    let text = c.args.text.now in
    let (n, place, begins, room, same) = c.loop-start.invariant.found ss seek template in
    let all = c.in_ok-found.ensures.found ss seek place begins in
    found-end template text ss n place _ _ (hit-none text _ (rw c.in_default.is at all)) same
