use Rattle.std.proofs.Common.{◌≡◌, ◌+◌, suc, subst, arith}
use Rattle.regress_engine_code.specs.Standing.{program_of}
use Rattle.regress_engine_answers.specs.Filled.{IsFilled}
use Rattle.regress_engine_linear.specs.LinearViews.{flow_in, heights_in}
use Rattle.regress_engine_answers.proofs.answers.Answering.fill_offset.Goals as goal

pub loop-index-preserved : goal.loop-index-preserved
loop-index-preserved g c =
    let next : suc c.loop-index.index ≡ c.loop-index.index + 1 = omega arith in
    record {
      sized = c.in_ok-fill_at.ensures.sized;
      filled = subst (λ k. IsFilled (flow_in c.args.table.now) (heights_in c.args.table.now) (program_of c.args.self.now.program.now) (g.Input.InputIndexer.view c.args.self.now.input)
          c.fill_at.new.answers c.args.level k c.args.offset) next c.in_ok-fill_at.ensures.filled;
      counted =
          let before = c.loop-index.invariant.counted in
          let low = c.loop-index.auto.index in
          let one = c.saturating_add.ensures in
          omega (arith, before, low, one);
    }

pub returns-clause-filled : goal.returns-clause-filled
returns-clause-filled g c =
    let high = c.loop-index-test.false in
    let some = c.requires.level.some in
    let low = c.loop-index.auto.index-end in
    let end : c.loop-index.index ≡ c.args.level.to = omega (arith, high, some, low) in
    subst (λ k. IsFilled (flow_in c.args.table.now) (heights_in c.args.table.now) (program_of c.args.self.now.program.now) (g.Input.InputIndexer.view c.args.self.now.input)
    c.loop-index.answers c.args.level k c.args.offset) end c.loop-index.invariant.filled
