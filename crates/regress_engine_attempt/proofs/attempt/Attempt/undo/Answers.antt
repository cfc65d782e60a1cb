use Rattle.std.proofs.Common.{ℕ, Bool, false, sym, ap, ◌∙◌, subst, arith, inl, inr, refl}
use Rattle.regress_engine_code.specs.Standing.{program_of}
use Rattle.regress_engine_input.specs.Views.{input_of, direction_of}
use Rattle.regress_engine_runs.specs.UndoStack.{resume, old_loop, old_group, iterate, frame}
use Rattle.regress_engine_search.specs.StateViews.{loop_of, marks_of}
use Rattle.regress_engine_search.specs.Tasks.{Leads}
use Rattle.regress_engine_undo.specs.Held.{held, pushed, undo_of, frame_of}
use Rattle.regress_engine_undo.proofs.BackLemmas.{held-as, leads-as, held-resume, held-old_loop, old_loop-there, held-old_group, old_group-there, held-iterate, held-frame, held-tried, resume-back, old_loop-back, old_group-back, iterate-back, submatch-back, tried-back, held-take_on}
use Rattle.regress_engine_undo.specs.Tasks.{task}
use Rattle.regress_engine_undo.proofs.StepLemmas.{loop-sound}
use Rattle.regress_engine_trying.specs.Trying.{World}
use Rattle.regress_engine_trying.specs.Passing.{UndoesMore}
use Rattle.regress_engine_attempt.proofs.attempt.Attempt.undo.Goals as goal

pub restore_loop-requires : goal.restore_loop-requires
restore_loop-requires g c = old_loop-there _ _ (held c.args.memory.now) c.in-OldLoop.id _ (held-as _ _ _ _ _ (ap undo_of c.in-OldLoop.is) c.requires.sound)

pub restore_group-requires : goal.restore_group-requires
restore_group-requires g c = old_group-there _ _ (held c.args.memory.now) c.in-OldGroup.group _ (held-as _ _ _ _ _ (ap undo_of c.in-OldGroup.is) c.requires.sound)

pub loop_data-count-requires : goal.loop_data-count-requires
loop_data-count-requires g c = (held-iterate _ _ (held c.args.memory.now) c.in-Iterate.id _ _ (held-as _ _ _ _ _ (ap undo_of c.in-Iterate.is) c.requires.sound)).0

pub iterate-requires-clause-there : goal.iterate-requires-clause-there
iterate-requires-clause-there g c = (held-iterate _ _ (held c.args.memory.now) c.in-Iterate.id _ _ (held-as _ _ _ _ _ (ap undo_of c.in-Iterate.is) c.requires.sound)).0

pub iterate-requires-clause-count : goal.iterate-requires-clause-count
iterate-requires-clause-count g c =
    let was = held-iterate _ _ (held c.args.memory.now) c.in-Iterate.id _ _ (held-as _ _ _ _ _ (ap undo_of c.in-Iterate.is) c.requires.sound) in
    let room = was.1 in
    let same = ap (λ (x : ℕ × ℕ). x.0) c.loop_data-count.ensures in
    omega (arith, room, same)

pub iterate-requires-clause-begin : goal.iterate-requires-clause-begin
iterate-requires-clause-begin g c = (held-iterate _ _ (held c.args.memory.now) c.in-Iterate.id _ _ (held-as _ _ _ _ _ (ap undo_of c.in-Iterate.is) c.requires.sound)).2

pub returns-in-OldLoop-clause-leads : goal.returns-in-OldLoop-clause-leads
returns-in-OldLoop-clause-leads g c =
    leads-as (program_of c.args.self.now.program.now) (input_of (g.Input.InputIndexer.view c.args.self.now.input)) (undo_of c.args.undo) (old_loop c.in-OldLoop.id (loop_of c.in-OldLoop.data)) c.args.spot.now (held c.args.memory.now) _ (ap undo_of c.in-OldLoop.is)
    (old_loop-back _ _ c.args.spot.now (held c.args.memory.now) (held c.restore_loop.new.self) c.in-OldLoop.id (loop_of c.in-OldLoop.data) c.restore_loop.ensures)

pub returns-in-OldLoop-clause-sound : goal.returns-in-OldLoop-clause-sound
returns-in-OldLoop-clause-sound g c =
    held-old_loop _ _ (held c.args.memory.now) (held c.restore_loop.new.self) c.in-OldLoop.id (loop_of c.in-OldLoop.data) c.restore_loop.ensures (held-as _ _ _ _ _ (ap undo_of c.in-OldLoop.is) c.requires.sound)

pub returns-in-OldGroup-clause-leads : goal.returns-in-OldGroup-clause-leads
returns-in-OldGroup-clause-leads g c =
    leads-as (program_of c.args.self.now.program.now) (input_of (g.Input.InputIndexer.view c.args.self.now.input)) (undo_of c.args.undo) (old_group c.in-OldGroup.group (marks_of c.in-OldGroup.data)) c.args.spot.now (held c.args.memory.now) _ (ap undo_of c.in-OldGroup.is)
    (old_group-back _ _ c.args.spot.now (held c.args.memory.now) (held c.restore_group.new.self) c.in-OldGroup.group (marks_of c.in-OldGroup.data) c.restore_group.ensures)

pub returns-in-OldGroup-clause-sound : goal.returns-in-OldGroup-clause-sound
returns-in-OldGroup-clause-sound g c =
    held-old_group _ _ (held c.args.memory.now) (held c.restore_group.new.self) c.in-OldGroup.group (marks_of c.in-OldGroup.data) c.restore_group.ensures (held-as _ _ _ _ _ (ap undo_of c.in-OldGroup.is) c.requires.sound)

pub returns-in-Resume-clause-leads : goal.returns-in-Resume-clause-leads
returns-in-Resume-clause-leads g c =
    leads-as (program_of c.args.self.now.program.now) (input_of (g.Input.InputIndexer.view c.args.self.now.input)) (undo_of c.args.undo) (resume c.in-Resume.at c.in-Resume.offset) c.args.spot.now (held c.args.memory.now) _ (ap undo_of c.in-Resume.is)
    (resume-back _ _ c.args.spot.now (held c.args.memory.now) c.in-Resume.at c.in-Resume.offset)

pub returns-in-Resume-clause-sound : goal.returns-in-Resume-clause-sound
returns-in-Resume-clause-sound g c =
    held-resume _ _ (held c.args.memory.now) c.in-Resume.at c.in-Resume.offset (held-as _ _ _ _ _ (ap undo_of c.in-Resume.is) c.requires.sound)

pub returns-in_ok-iterate-in-Iterate-clause-leads : goal.returns-in_ok-iterate-in-Iterate-clause-leads
returns-in_ok-iterate-in-Iterate-clause-leads g c =
    leads-as (program_of c.args.self.now.program.now) (input_of (g.Input.InputIndexer.view c.args.self.now.input)) (undo_of c.args.undo) (iterate c.in-Iterate.id c.in-Iterate.begin c.in-Iterate.offset) c.args.spot.now (held c.args.memory.now) _ (ap undo_of c.in-Iterate.is)
    (iterate-back _ _ c.args.spot.now c.iterate.new.spot (held c.args.memory.now) (held c.iterate.new.self) c.in-Iterate.id c.in-Iterate.begin c.in-Iterate.offset c.loop_data-count.result.iters (ap (λ (x : ℕ × ℕ). x.0) c.loop_data-count.ensures)
    c.in_ok-iterate-in-Iterate.ensures.written c.in_ok-iterate-in-Iterate.ensures.spot)

pub returns-in_ok-iterate-in-Iterate-clause-sound : goal.returns-in_ok-iterate-in-Iterate-clause-sound
returns-in_ok-iterate-in-Iterate-clause-sound g c =
    let was = held-iterate _ _ (held c.args.memory.now) c.in-Iterate.id c.in-Iterate.begin c.in-Iterate.offset (held-as _ _ _ _ _ (ap undo_of c.in-Iterate.is) c.requires.sound) in
    loop-sound (held c.args.memory.now) (held c.iterate.new.self) c.in-Iterate.id _ c.in_ok-iterate-in-Iterate.ensures.written was.0 _ _ was.3

pub returns-in-Submatch-clause-leads : goal.returns-in-Submatch-clause-leads
returns-in-Submatch-clause-leads g c =
    let program = program_of c.args.self.now.program.now in
    let input = input_of (g.Input.InputIndexer.view c.args.self.now.input) in
    let f = frame_of c.in-Submatch.frame in
    let p = c.args.spot.now in
    let h = held c.args.memory.now in
    let q = c.exhaust.new.spot in
    leads-as program input (undo_of c.args.undo) (frame f) p h _ (ap undo_of c.in-Submatch.is)
    (subst (λ b. Leads program input 0 (task program input false p (pushed (frame f) h)) (task program input b q h)) (sym c.exhaust.ensures.way)
    (submatch-back program input p q h f (ap direction_of (sym c.exhaust.ensures.direction))
    (λ e. c.exhaust.ensures.spot e ∙ ap (λ (b : Bool). record { at = f.continuation; offset = f.offset; forward = b }) (sym c.exhaust.ensures.direction))))

pub returns-in-Submatch-clause-sound : goal.returns-in-Submatch-clause-sound
returns-in-Submatch-clause-sound g c =
    (held-frame _ _ (held c.args.memory.now) (frame_of c.in-Submatch.frame) (held-as _ _ _ _ _ (ap undo_of c.in-Submatch.is) c.requires.sound)).1

pub returns-in-Tried-clause-leads : goal.returns-in-Tried-clause-leads
returns-in-Tried-clause-leads g c =
    leads-as (program_of c.args.self.now.program.now) (input_of (g.Input.InputIndexer.view c.args.self.now.input)) (undo_of c.args.undo) _ c.args.spot.now (held c.args.memory.now) _ (ap undo_of c.in-Tried.is)
    (tried-back _ _ c.args.spot.now (held c.args.memory.now) _ _)

pub returns-in-Tried-clause-sound : goal.returns-in-Tried-clause-sound
returns-in-Tried-clause-sound g c =
    held-tried _ _ (held c.args.memory.now) _ _ (held-as _ _ _ _ _ (ap undo_of c.in-Tried.is) c.requires.sound)

pub returns-in-OldLoop-clause-counted : goal.returns-in-OldLoop-clause-counted
returns-in-OldLoop-clause-counted g c = inl (omega arith)

pub returns-in-OldGroup-clause-counted : goal.returns-in-OldGroup-clause-counted
returns-in-OldGroup-clause-counted g c = inl (omega arith)

pub returns-in-Resume-clause-counted : goal.returns-in-Resume-clause-counted
returns-in-Resume-clause-counted g c = inl (omega arith)

pub returns-in_ok-iterate-in-Iterate-clause-counted : goal.returns-in_ok-iterate-in-Iterate-clause-counted
returns-in_ok-iterate-in-Iterate-clause-counted g c = inl (omega arith)

pub returns-in_ok-going-in-GiveBack-clause-counted : goal.returns-in_ok-going-in-GiveBack-clause-counted
returns-in_ok-going-in-GiveBack-clause-counted g c = inl (omega arith)

pub returns-in-Submatch-clause-counted : goal.returns-in-Submatch-clause-counted
returns-in-Submatch-clause-counted g c = inl (omega arith)

pub returns-in-Tried-clause-counted : goal.returns-in-Tried-clause-counted
returns-in-Tried-clause-counted g c = inl (omega arith)

pub returns-in_ok-going-in-TakeOn-clause-counted : goal.returns-in_ok-going-in-TakeOn-clause-counted
returns-in_ok-going-in-TakeOn-clause-counted g c =
    let w : World = record { program = program_of c.args.self.now.program.now; view = g.Input.InputIndexer.view c.args.self.now.input } in
    subst (λ u. UndoesMore w u c.args.spot.now (held c.args.memory.now) c.take_on.new.spot (held c.take_on.new.memory) c.in_ok-going-in-TakeOn.going c.args.counts.now.more c.take_on.new.counts.more) (sym (ap undo_of c.in-TakeOn.is))
    (elim c.in_ok-going-in-TakeOn.ensures.over [
      | inl none ↦ inl (none refl)
      | inr over ↦ inr (c.in_ok-going-in-TakeOn.ensures.counted, over)
    ])

pub take_on-requires-clause-from : goal.take_on-requires-clause-from
take_on-requires-clause-from g c =
    (held-take_on _ _ (held c.args.memory.now) c.in-TakeOn.at c.in-TakeOn.offset c.in-TakeOn.left (held-as _ _ _ _ _ (ap undo_of c.in-TakeOn.is) c.requires.sound)).0.3
