use Rattle.std.proofs.Common.{◌-◌, ◌<◌, refl, ◌∙◌, arith}
use Rattle.regress_meaning.specs.Meaning.{Forward}
use Rattle.regress_front_sets.specs.Intervals.{ends_of}
use Rattle.regress_front_nodes.specs.TreeMeaning.{bracket_has}
use Rattle.regress_engine_input.specs.Views.{input_of}
use Rattle.regress_engine_singles.proofs.PassingLemmas.{far-past, far-stopped}
use Rattle.regress_engine_singles.proofs.ahead.as_far_told.Goals as goal

pub returns-then-is_other_ahead : goal.returns-then-is_other_ahead
returns-then-is_other_ahead g c =
    let v = g.Input.InputIndexer.view c.args.input.now in
    let class = c.args.class.now.bc.now in
    let passes = bracket_has class.invert (ends_of class.cps.intervals.items) in
    let near = c.ascii_end-near.result in
    let high = c.ascii_end-near.ensures.high in
    let some : 0 < c.args.times - (near - c.args.offset) = omega arith in
    let past = far-past v (g.met.Input.InputIndexer.are_of_kind c.args.input.now) passes c.args.times c.args.offset near c.requires c.ascii_end-near.ensures.low (omega (arith, high)) c.ascii_end-near.ensures.each in
    far-stopped (input_of v) passes Forward (c.args.times - (near - c.args.offset)) c.args.times near c.args.offset past.0 some (c.is_other_ahead.ensures c.if-is_other_ahead.true) near refl

pub as_far_class-requires : goal.as_far_class-requires
as_far_class-requires g c =
    let v = g.Input.InputIndexer.view c.args.input.now in
    let class = c.args.class.now.bc.now in
    let passes = bracket_has class.invert (ends_of class.cps.intervals.items) in
    let near = c.ascii_end-near.result in
    let high = c.ascii_end-near.ensures.high in
    (far-past v (g.met.Input.InputIndexer.are_of_kind c.args.input.now) passes c.args.times c.args.offset near c.requires c.ascii_end-near.ensures.low (omega (arith, high)) c.ascii_end-near.ensures.each).1

pub returns : goal.returns
returns g c =
    let v = g.Input.InputIndexer.view c.args.input.now in
    let class = c.args.class.now.bc.now in
    let passes = bracket_has class.invert (ends_of class.cps.intervals.items) in
    let near = c.ascii_end-near.result in
    let high = c.ascii_end-near.ensures.high in
    c.as_far_class.ensures
    ∙ (far-past v (g.met.Input.InputIndexer.are_of_kind c.args.input.now) passes c.args.times c.args.offset near c.requires c.ascii_end-near.ensures.low (omega (arith, high)) c.ascii_end-near.ensures.each).0
