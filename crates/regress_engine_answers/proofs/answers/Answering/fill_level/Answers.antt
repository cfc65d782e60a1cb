use Rattle.std.proofs.Common.{◌≡◌, ◌+◌, ◌-◌, ◌*◌, ◌<◌, true, false, length, sym, ap, ◌∙◌, subst, arith}
use Rattle.regress_engine_code.specs.Standing.{program_of}
use Rattle.regress_engine_answers.specs.Filled.{IsFilled}
use Rattle.regress_engine_search.specs.Places.{IsBehind, offset_of}
use Rattle.regress_engine_linear.specs.LinearViews.{flow_in, heights_in}
use Rattle.regress_engine_answers.proofs.FillLemmas.{level-begins, level-ends, next-offset}
use Rattle.regress_engine_answers.proofs.FillingWays.{mul-more}
use Rattle.regress_engine_search.proofs.NextPlaces.{offset-is, step-behind, step-within}
use Rattle.regress_engine_search.proofs.NextPlaces.{first-awaited}
use Rattle.regress_engine_answers.proofs.answers.Answering.fill_level.Goals as goal
use Rattle.regress_engine_answers.proofs.answers.Answering.fill_level.Goals.{then-forward, else-forward, then-forward-2, else-forward-2}

pub loop-offset-init : goal.loop-offset-init
loop-offset-init g c =
    let v = g.Input.InputIndexer.view c.args.self.now.input in
    let all = g.met.Input.InputIndexer.are_of_kind c.args.self.now.input in
    let program = program_of c.args.self.now.program.now in
    let flow = flow_in c.args.table.now in
    let h = heights_in c.args.table.now in
    let last = c.text_len-last.result in
    let l = c.args.level in
    record {
      last = c.text_len-last.ensures;
      step = omega arith;
      counted = omega arith;
      sized = c.requires.sized;
      filled = subst (λ n. IsFilled flow h program v c.args.answers.now l l.from (offset_of l.forward n 0)) (sym c.text_len-last.ensures)
          (level-begins flow h v all program c.requires.suits c.requires.linear c.requires.short c.args.answers.now l c.requires.filled);
      awaited = first-awaited v all l.forward last c.if-forward.place c.text_len-last.ensures
          (λ is. elim c.if-forward.branch [
            | then-forward w ↦ w.place-is
            | else-forward w ↦ absurd (let never : true ≡ false = sym is ∙ w.if-forward.false in cc never)
          ])
          (λ is. elim c.if-forward.branch [
            | then-forward w ↦ absurd (let never : true ≡ false = sym w.if-forward.true ∙ is in cc never)
            | else-forward w ↦ w.place-is
          ]);
    }

pub loop-offset-preserved : goal.loop-offset-preserved
loop-offset-preserved g c =
    let v = g.Input.InputIndexer.view c.args.self.now.input in
    let all = g.met.Input.InputIndexer.are_of_kind c.args.self.now.input in
    let program = program_of c.args.self.now.program.now in
    let flow = flow_in c.args.table.now in
    let h = heights_in c.args.table.now in
    let l = c.args.level in
    let last = c.text_len-last.result in
    let step = c.loop-offset.step in
    let o = c.if-forward-2.offset in
    let known = c.loop-offset.invariant in
    let below = known.step in
    let other = c.if-step-last.false in
    let less : step < last = omega (arith, below, other) in
    let is : o ≡ offset_of l.forward last step = offset-is l.forward last step o
    (λ is. elim c.if-forward-2.branch [
      | then-forward-2 w ↦ w.offset-is
      | else-forward-2 w ↦ absurd (let never : true ≡ false = sym is ∙ w.if-forward-2.false in cc never)
    ])
    (λ is. elim c.if-forward-2.branch [
      | then-forward-2 w ↦ absurd (let never : true ≡ false = sym w.if-forward-2.true ∙ is in cc never)
      | else-forward-2 w ↦ w.offset-is
    ]) in
    let behind = step-behind v l.forward last step known.last less in
    let low = step-within (length v.units) last l.forward step known.last below in
    record {
      last = known.last;
      step = omega (arith, less);
      counted = let before = known.counted in let more = c.in_ok-fill_next.ensures.counted in let e = mul-more step (l.to - l.from) in omega (arith, before, more, e);
      sized = c.in_ok-fill_next.ensures.sized;
      filled = next-offset flow h v all program c.requires.suits c.requires.linear c.requires.short c.fill_next.new.answers l (offset_of l.forward last step)
          (offset_of l.forward last (step + 1)) low behind
          (subst (IsFilled flow h program v c.fill_next.new.answers l l.to) is c.in_ok-fill_next.ensures.filled);
      awaited = c.in_ok-fill_next.ensures.awaited (offset_of l.forward last (step + 1)) (step-within (length v.units) last l.forward (step + 1) known.last (omega (arith, less)))
          (subst (λ x. IsBehind v l.forward x (offset_of l.forward last (step + 1))) (sym is) behind);
    }

pub returns-then-step-last-clause-filled : goal.returns-then-step-last-clause-filled
returns-then-step-last-clause-filled g c =
    let v = g.Input.InputIndexer.view c.args.self.now.input in
    let all = g.met.Input.InputIndexer.are_of_kind c.args.self.now.input in
    let program = program_of c.args.self.now.program.now in
    let flow = flow_in c.args.table.now in
    let h = heights_in c.args.table.now in
    let l = c.args.level in
    let last = c.text_len-last.result in
    let step = c.loop-offset.step in
    let o = c.if-forward-2.offset in
    let known = c.loop-offset.invariant in
    let same = c.if-step-last.true in
    let is : o ≡ offset_of l.forward last step = offset-is l.forward last step o
    (λ is. elim c.if-forward-2.branch [
      | then-forward-2 w ↦ w.offset-is
      | else-forward-2 w ↦ absurd (let never : true ≡ false = sym is ∙ w.if-forward-2.false in cc never)
    ])
    (λ is. elim c.if-forward-2.branch [
      | then-forward-2 w ↦ absurd (let never : true ≡ false = sym w.if-forward-2.true ∙ is in cc never)
      | else-forward-2 w ↦ w.offset-is
    ]) in
    let at-end : o ≡ offset_of l.forward (length v.units) (length v.units) = is ∙ ap (offset_of l.forward last) same ∙ ap (λ n. offset_of l.forward n n) known.last in
    level-ends flow h v all program c.requires.suits c.requires.linear c.requires.short c.fill_next.new.answers l c.requires.level.some
    (subst (IsFilled flow h program v c.fill_next.new.answers l l.to) at-end c.in_ok-fill_next.ensures.filled)

pub returns-then-step-last-clause-counted : goal.returns-then-step-last-clause-counted
returns-then-step-last-clause-counted g c =
    let l = c.args.level in
    let known = c.loop-offset.invariant in
    let same = c.if-step-last.true in
    let before = known.counted in
    let more = c.in_ok-fill_next.ensures.counted in
    let v = g.Input.InputIndexer.view c.args.self.now.input in
    let e = mul-more (length v.units) (l.to - l.from) in
    let f = ap (λ n. n * (l.to - l.from)) (same ∙ known.last) in
    omega (arith, before, more, e, f)
