use Rattle.std.proofs.Common.{◌≡◌, ◌+◌, ◌≤◌, [], map, true, None, Some, if◌then◌else◌, replicate, sym, ap, ◌∙◌, subst, arith}
use Rattle.std.proofs.lemmas.List.{length-map}
use Rattle.regress_engine_code.specs.Standing.{program_of}
use Rattle.regress_engine_input.specs.Views.{input_of}
use Rattle.regress_engine_insn.specs.InsnViews.{instruction}
use Rattle.regress_engine_runs.specs.States.{unset}
use Rattle.regress_engine_runs.specs.UndoStack.{meets_alone}
use Rattle.regress_engine_search.specs.Answering.{IsAnswer}
use Rattle.regress_engine_search.specs.StateViews.{marks_of}
use Rattle.regress_engine_linear.specs.LinearViews.{flow_in, heights_in}
use Rattle.regress_engine_walks.specs.Walked.{Walk, Walks, far, goes, walk_of}
use Rattle.regress_engine_ways.proofs.OnWay.{written-fits}
use Rattle.regress_engine_walks.proofs.MayWalk.{may-walk}
use Rattle.regress_engine_ways.proofs.ExitWays.{runs-stand}
use Rattle.regress_engine_linear.proofs.WorkLemmas.{rank-low}
use Rattle.regress_engine_walks.proofs.Sizes.{loops-begin}
use Rattle.regress_engine_walks.proofs.Walks.{end-left, walk-begins, walk-ends, walk-exits, walk-goes, walk-ready, walk-way}
use Rattle.regress_engine_walks.proofs.walking.follow.Goals as goal

pub way-init : goal.way-init
way-init g c =
    let program = program_of c.args.answering.now.program.now in
    let v = g.Input.InputIndexer.view c.args.answering.now.input in
    let all = g.met.Input.InputIndexer.are_of_kind c.args.answering.now.input in
    let h = heights_in c.args.table.now in
    let flow = flow_in c.args.table.now in
    let may = may-walk flow h program v c.args.answers.now c.requires.linear c.requires.short c.requires.right c.requires.exits c.requires.begins in
    let count = c.requires.groups in
    let start = c.args.start in
    let begins = walk-begins flow h v all program c.requires.suits c.args.answers.now may start c.requires.place (λ u i met. c.requires.reads u i (meets_alone met)) c.requires.told in
    let walk = c.new-walker.ensures in
    record {
      way = subst (λ (w : Walk). Walks flow h program v start w.frames w.forward w.at w.offset (map marks_of c.reset.new.groups.items)) (sym walk)
          (subst (Walks flow h program v start [] true 0 start) (sym (c.in_ok-reset.ensures.marks ∙ ap (λ n. replicate n unset) count)) begins);
      size = c.in_ok-reset.ensures.count ∙ count;
      counted = subst (λ (w : Walk). c.args.steps.now + far h program v start w.frames w.at w.offset ≤ c.args.steps.now + far h program v start [] 0 start) (sym walk) (omega arith);
    }

pub instruction-insn-requires : goal.instruction-insn-requires
instruction-insn-requires g c =
    let all = g.met.Input.InputIndexer.are_of_kind c.args.answering.now.input in
    let may = may-walk _ _ (program_of c.args.answering.now.program.now) (g.Input.InputIndexer.view c.args.answering.now.input) c.args.answers.now c.requires.linear c.requires.short c.requires.right c.requires.exits c.requires.begins in
    let (w, way) = walk-way _ _ (g.Input.InputIndexer.view c.args.answering.now.input) all (program_of c.args.answering.now.program.now) c.requires.suits c.args.answers.now may c.args.start (walk_of c.way.walker).frames c.way.walker.forward c.way.walker.here.at c.way.walker.here.offset
    (map marks_of c.way.groups.items) c.way.invariant.way in
    runs-stand way.run

pub mark-requires : goal.mark-requires
mark-requires g c =
    λ k writes.
    let program = program_of c.args.answering.now.program.now in
    let i = instruction c.instruction-insn.result.now in
    let size = c.way.invariant.size in
    let fits = written-fits program c.way.walker.here.at i k (c.requires.suits.closed c.way.walker.here.at i c.instruction-insn.ensures.stands) writes in
    omega (arith, size, fits)

pub led-next-requires-clause-ready : goal.led-next-requires-clause-ready
led-next-requires-clause-ready g c =
    let all = g.met.Input.InputIndexer.are_of_kind c.args.answering.now.input in
    let may = may-walk _ _ (program_of c.args.answering.now.program.now) (g.Input.InputIndexer.view c.args.answering.now.input) c.args.answers.now c.requires.linear c.requires.short c.requires.right c.requires.exits c.requires.begins in
    let walk = walk_of c.way.walker in
    let gs = map marks_of c.way.groups.items in
    let hs = map marks_of c.args.answering.now.groups.now in
    let i = instruction c.instruction-insn.result.now in
    (walk-ready _ _ (g.Input.InputIndexer.view c.args.answering.now.input) all (program_of c.args.answering.now.program.now) c.requires.suits c.args.answers.now may c.args.start walk.frames walk.forward walk.at walk.offset gs hs c.way.invariant.way
    (length-map c.args.answering.now.groups.now marks_of ∙ c.requires.groups) i c.instruction-insn.ensures.stands).0

pub led-next-requires-clause-place : goal.led-next-requires-clause-place
led-next-requires-clause-place g c =
    let all = g.met.Input.InputIndexer.are_of_kind c.args.answering.now.input in
    let may = may-walk _ _ (program_of c.args.answering.now.program.now) (g.Input.InputIndexer.view c.args.answering.now.input) c.args.answers.now c.requires.linear c.requires.short c.requires.right c.requires.exits c.requires.begins in
    let walk = walk_of c.way.walker in
    let gs = map marks_of c.way.groups.items in
    let hs = map marks_of c.args.answering.now.groups.now in
    let i = instruction c.instruction-insn.result.now in
    (walk-ready _ _ (g.Input.InputIndexer.view c.args.answering.now.input) all (program_of c.args.answering.now.program.now) c.requires.suits c.args.answers.now may c.args.start walk.frames walk.forward walk.at walk.offset gs hs c.way.invariant.way
    (length-map c.args.answering.now.groups.now marks_of ∙ c.requires.groups) i c.instruction-insn.ensures.stands).1

pub led-next-requires-clause-exits : goal.led-next-requires-clause-exits
led-next-requires-clause-exits g c =
    let all = g.met.Input.InputIndexer.are_of_kind c.args.answering.now.input in
    let may = may-walk _ _ (program_of c.args.answering.now.program.now) (g.Input.InputIndexer.view c.args.answering.now.input) c.args.answers.now c.requires.linear c.requires.short c.requires.right c.requires.exits c.requires.begins in
    let walk = walk_of c.way.walker in
    let gs = map marks_of c.way.groups.items in
    let hs = map marks_of c.args.answering.now.groups.now in
    let i = instruction c.instruction-insn.result.now in
    walk-exits _ _ (g.Input.InputIndexer.view c.args.answering.now.input) all (program_of c.args.answering.now.program.now) c.requires.suits c.args.answers.now may c.args.start walk.frames walk.forward walk.at walk.offset gs hs c.way.invariant.way i c.instruction-insn.ensures.stands

pub returns-then-not-branch-clause-answer : goal.returns-then-not-branch-clause-answer
returns-then-not-branch-clause-answer g c =
    let all = g.met.Input.InputIndexer.are_of_kind c.args.answering.now.input in
    let may = may-walk _ _ (program_of c.args.answering.now.program.now) (g.Input.InputIndexer.view c.args.answering.now.input) c.args.answers.now c.requires.linear c.requires.short c.requires.right c.requires.exits c.requires.begins in
    let walk = walk_of c.way.walker in
    let gs = map marks_of c.way.groups.items in
    let hs = map marks_of c.args.answering.now.groups.now in
    let i = instruction c.instruction-insn.result.now in
    let ends : goes i c.led-next.result walk ≡ None = c.in_ok-goes.ensures ∙ ap (λ b. if b then Some (walk_of c.goes.new.self) else None) c.if-not-branch.true in
    subst (IsAnswer (program_of c.args.answering.now.program.now) (input_of (g.Input.InputIndexer.view c.args.answering.now.input)) c.args.start (Some walk.offset)) (sym c.mark.ensures.marks)
    (walk-ends _ _ (g.Input.InputIndexer.view c.args.answering.now.input) all (program_of c.args.answering.now.program.now) c.requires.suits c.args.answers.now may c.args.start walk.frames walk.forward walk.at walk.offset gs hs c.way.invariant.way i c.instruction-insn.ensures.stands
    (ap (λ l. goes i l walk) (sym c.led-next.ensures) ∙ ends))

pub returns-then-not-branch-clause-counted : goal.returns-then-not-branch-clause-counted
returns-then-not-branch-clause-counted g c =
    let all = g.met.Input.InputIndexer.are_of_kind c.args.answering.now.input in
    let may = may-walk _ _ (program_of c.args.answering.now.program.now) (g.Input.InputIndexer.view c.args.answering.now.input) c.args.answers.now c.requires.linear c.requires.short c.requires.right c.requires.exits c.requires.begins in
    let walk = walk_of c.way.walker in
    let i = instruction c.instruction-insn.result.now in
    let ends : goes i c.led-next.result walk ≡ None = c.in_ok-goes.ensures ∙ ap (λ b. if b then Some (walk_of c.goes.new.self) else None) c.if-not-branch.true in
    let least = end-left (flow_in c.args.table.now) (heights_in c.args.table.now) (g.Input.InputIndexer.view c.args.answering.now.input) all (program_of c.args.answering.now.program.now) c.requires.suits c.args.answers.now may c.args.start walk.frames walk.forward walk.at walk.offset i c.led-next.result ends in
    let low = rank-low (heights_in c.args.table.now) may.pass.placed 0 may.there in
    let counted = c.way.invariant.counted in
    let one = c.saturating_add.ensures in
    let loops = loops-begin (heights_in c.args.table.now) (program_of c.args.answering.now.program.now) (g.Input.InputIndexer.view c.args.answering.now.input) may.once c.args.start in
    omega (arith, low, least, counted, one, loops)

pub way-smaller : goal.way-smaller
way-smaller g c =
    let all = g.met.Input.InputIndexer.are_of_kind c.args.answering.now.input in
    let may = may-walk _ _ (program_of c.args.answering.now.program.now) (g.Input.InputIndexer.view c.args.answering.now.input) c.args.answers.now c.requires.linear c.requires.short c.requires.right c.requires.exits c.requires.begins in
    let walk = walk_of c.way.walker in
    let gs = map marks_of c.way.groups.items in
    let hs = map marks_of c.args.answering.now.groups.now in
    let i = instruction c.instruction-insn.result.now in
    let on : goes i c.led-next.result walk ≡ Some (walk_of c.goes.new.self) = c.in_ok-goes.ensures ∙ ap (λ b. if b then Some (walk_of c.goes.new.self) else None) c.if-not-branch.false in
    (walk-goes _ _ (g.Input.InputIndexer.view c.args.answering.now.input) all (program_of c.args.answering.now.program.now) c.requires.suits c.args.answers.now may c.args.start c.requires.place walk.frames walk.forward walk.at walk.offset gs hs c.way.invariant.way i c.instruction-insn.ensures.stands
    (walk_of c.goes.new.self) (ap (λ l. goes i l walk) (sym c.led-next.ensures) ∙ on)).1

pub way-preserved : goal.way-preserved
way-preserved g c =
    let all = g.met.Input.InputIndexer.are_of_kind c.args.answering.now.input in
    let may = may-walk _ _ (program_of c.args.answering.now.program.now) (g.Input.InputIndexer.view c.args.answering.now.input) c.args.answers.now c.requires.linear c.requires.short c.requires.right c.requires.exits c.requires.begins in
    let walk = walk_of c.way.walker in
    let gs = map marks_of c.way.groups.items in
    let hs = map marks_of c.args.answering.now.groups.now in
    let i = instruction c.instruction-insn.result.now in
    let on : goes i c.led-next.result walk ≡ Some (walk_of c.goes.new.self) = c.in_ok-goes.ensures ∙ ap (λ b. if b then Some (walk_of c.goes.new.self) else None) c.if-not-branch.false in
    let y = walk_of c.goes.new.self in
    let (walks, less) = walk-goes _ _ (g.Input.InputIndexer.view c.args.answering.now.input) all (program_of c.args.answering.now.program.now) c.requires.suits c.args.answers.now may c.args.start c.requires.place walk.frames walk.forward walk.at walk.offset gs hs c.way.invariant.way i
    c.instruction-insn.ensures.stands y (ap (λ l. goes i l walk) (sym c.led-next.ensures) ∙ on) in
    let counted = c.way.invariant.counted in
    let one = c.saturating_add.ensures in
    record {
      way = subst (Walks (flow_in c.args.table.now) (heights_in c.args.table.now) (program_of c.args.answering.now.program.now) (g.Input.InputIndexer.view c.args.answering.now.input) c.args.start y.frames y.forward y.at y.offset) (sym c.mark.ensures.marks) walks;
      size = c.mark.ensures.count ∙ c.way.invariant.size;
      counted = omega (arith, counted, one, less);
    }
