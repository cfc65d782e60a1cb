-- There is room for what is read, and it is the character that ends there.
use Rattle.std.proofs.Common.{◌<◌, sym, ◌∙◌, arith}
use Rattle.regress_engine_inputs.proofs.Utf8Reads.{room_before_three, room_before_four, read_three, read_four}
use Rattle.regress_engine_inputs.proofs.bytes.utf8_left.Goals as goal

pub overflow_sub-x : goal.overflow_sub-x
overflow_sub-x c =
    let some : 0 < c.args.at = omega (arith, c.if-at-eq0.false) in
    room_before_three c.args.bytes.now c.requires.utf8 c.args.at c.requires.boundary some c.if-z-lt128.false (sym c.follows.ensures ∙ c.if-not-follows.false)

pub returns-then-not-follows-2 : goal.returns-then-not-follows-2
returns-then-not-follows-2 c =
    let some : 0 < c.args.at = omega (arith, c.if-at-eq0.false) in
    read_three c.args.bytes.now c.args.at c.three.result some c.requires.boundary.0 c.if-z-lt128.false (sym c.follows.ensures ∙ c.if-not-follows.false)
    (sym c.follows-2.ensures ∙ c.if-not-follows-2.true) c.three.ensures

pub overflow_sub-at : goal.overflow_sub-at
overflow_sub-at c =
    let some : 0 < c.args.at = omega (arith, c.if-at-eq0.false) in
    room_before_four c.args.bytes.now c.requires.utf8 c.args.at c.requires.boundary some c.if-z-lt128.false (sym c.follows.ensures ∙ c.if-not-follows.false)
    (sym c.follows-2.ensures ∙ c.if-not-follows-2.false)

pub overflow_sub-result-2 : goal.overflow_sub-result-2
overflow_sub-result-2 c =
    let some : 0 < c.args.at = omega (arith, c.if-at-eq0.false) in
    room_before_four c.args.bytes.now c.requires.utf8 c.args.at c.requires.boundary some c.if-z-lt128.false (sym c.follows.ensures ∙ c.if-not-follows.false)
    (sym c.follows-2.ensures ∙ c.if-not-follows-2.false)

pub returns : goal.returns
returns c =
    let some : 0 < c.args.at = omega (arith, c.if-at-eq0.false) in
    read_four c.args.bytes.now c.args.at c.four.result some c.requires.boundary.0 c.if-z-lt128.false (sym c.follows.ensures ∙ c.if-not-follows.false)
    (sym c.follows-2.ensures ∙ c.if-not-follows-2.false) c.four.ensures
