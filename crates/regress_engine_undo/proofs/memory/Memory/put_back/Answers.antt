use Rattle.std.proofs.Common.{ap}
use Rattle.regress_engine_search.specs.StateViews.{loop_of, marks_of}
use Rattle.regress_engine_undo.specs.Held.{held, undo_of, frame_of}
use Rattle.regress_engine_undo.proofs.BackLemmas.{held-as, held-old_loop, old_loop-there, held-old_group, old_group-there, held-resume, held-iterate, held-give_back, held-take_on, held-frame, held-tried}
use Rattle.regress_engine_undo.proofs.LeaveLemmas.{loop-outside, group-outside, resume-outside, iterate-outside, give_back-outside, take_on-outside, frame-outside, tried-outside, outside-as}
use Rattle.regress_engine_undo.proofs.memory.Memory.put_back.Goals as goal

pub restore_loop-requires : goal.restore_loop-requires
restore_loop-requires c = let (program, v, was) = c.requires in old_loop-there program v (held c.args.self.now) c.in-OldLoop.id _ (held-as program v _ _ _ (ap undo_of c.in-OldLoop.is) was)

pub restore_group-requires : goal.restore_group-requires
restore_group-requires c = let (program, v, was) = c.requires in old_group-there program v (held c.args.self.now) c.in-OldGroup.group _ (held-as program v _ _ _ (ap undo_of c.in-OldGroup.is) was)

pub returns-in-OldLoop-clause-rest : goal.returns-in-OldLoop-clause-rest
returns-in-OldLoop-clause-rest c = λ program input dir.
    outside-as program input dir (held c.args.self.now) _ _ _ (ap undo_of c.in-OldLoop.is) (loop-outside program input dir (held c.args.self.now) (held c.restore_loop.new.self) c.in-OldLoop.id (loop_of c.in-OldLoop.data) c.restore_loop.ensures)

pub returns-in-OldLoop-clause-sound : goal.returns-in-OldLoop-clause-sound
returns-in-OldLoop-clause-sound c = λ program v was.
    (held-old_loop program v (held c.args.self.now) (held c.restore_loop.new.self) c.in-OldLoop.id (loop_of c.in-OldLoop.data) c.restore_loop.ensures (held-as program v _ _ _ (ap undo_of c.in-OldLoop.is) was), tt)

pub returns-in-OldGroup-clause-rest : goal.returns-in-OldGroup-clause-rest
returns-in-OldGroup-clause-rest c = λ program input dir.
    outside-as program input dir (held c.args.self.now) _ _ _ (ap undo_of c.in-OldGroup.is) (group-outside program input dir (held c.args.self.now) (held c.restore_group.new.self) c.in-OldGroup.group (marks_of c.in-OldGroup.data) c.restore_group.ensures)

pub returns-in-OldGroup-clause-sound : goal.returns-in-OldGroup-clause-sound
returns-in-OldGroup-clause-sound c = λ program v was.
    (held-old_group program v (held c.args.self.now) (held c.restore_group.new.self) c.in-OldGroup.group (marks_of c.in-OldGroup.data) c.restore_group.ensures (held-as program v _ _ _ (ap undo_of c.in-OldGroup.is) was), tt)

pub returns-in-Resume-clause-rest : goal.returns-in-Resume-clause-rest
returns-in-Resume-clause-rest c = λ program input dir.
    outside-as program input dir (held c.args.self.now) _ _ _ (ap undo_of c.in-Resume.is) (resume-outside program input dir (held c.args.self.now) _ _)

pub returns-in-Resume-clause-sound : goal.returns-in-Resume-clause-sound
returns-in-Resume-clause-sound c = λ program v was. (held-resume program v (held c.args.self.now) _ _ (held-as program v _ _ _ (ap undo_of c.in-Resume.is) was), tt)

pub returns-in-Iterate-clause-rest : goal.returns-in-Iterate-clause-rest
returns-in-Iterate-clause-rest c = λ program input dir.
    outside-as program input dir (held c.args.self.now) _ _ _ (ap undo_of c.in-Iterate.is) (iterate-outside program input dir (held c.args.self.now) _ _ _)

pub returns-in-Iterate-clause-sound : goal.returns-in-Iterate-clause-sound
returns-in-Iterate-clause-sound c = λ program v was. ((held-iterate program v (held c.args.self.now) _ _ _ (held-as program v _ _ _ (ap undo_of c.in-Iterate.is) was)).3, tt)

pub returns-in-GiveBack-clause-rest : goal.returns-in-GiveBack-clause-rest
returns-in-GiveBack-clause-rest c = λ program input dir.
    outside-as program input dir (held c.args.self.now) _ _ _ (ap undo_of c.in-GiveBack.is) (give_back-outside program input dir (held c.args.self.now) _ _ _)

pub returns-in-GiveBack-clause-sound : goal.returns-in-GiveBack-clause-sound
returns-in-GiveBack-clause-sound c = λ program v was. ((held-give_back program v (held c.args.self.now) _ _ _ (held-as program v _ _ _ (ap undo_of c.in-GiveBack.is) was)).1, tt)

pub returns-in-TakeOn-clause-rest : goal.returns-in-TakeOn-clause-rest
returns-in-TakeOn-clause-rest c = λ program input dir.
    outside-as program input dir (held c.args.self.now) _ _ _ (ap undo_of c.in-TakeOn.is) (take_on-outside program input dir (held c.args.self.now) _ _ _)

pub returns-in-TakeOn-clause-sound : goal.returns-in-TakeOn-clause-sound
returns-in-TakeOn-clause-sound c = λ program v was. ((held-take_on program v (held c.args.self.now) _ _ _ (held-as program v _ _ _ (ap undo_of c.in-TakeOn.is) was)).1, tt)

pub returns-in-Submatch-clause-rest : goal.returns-in-Submatch-clause-rest
returns-in-Submatch-clause-rest c = λ program input dir.
    outside-as program input dir (held c.args.self.now) _ _ _ (ap undo_of c.in-Submatch.is) (frame-outside program input dir (held c.args.self.now) (frame_of c.in-Submatch.frame))

pub returns-in-Submatch-clause-sound : goal.returns-in-Submatch-clause-sound
returns-in-Submatch-clause-sound c = λ program v was.
    let both = held-frame program v (held c.args.self.now) (frame_of c.in-Submatch.frame) (held-as program v _ _ _ (ap undo_of c.in-Submatch.is) was) in (both.1, both.0)

pub returns-in-Tried-clause-rest : goal.returns-in-Tried-clause-rest
returns-in-Tried-clause-rest c = λ program input dir.
    outside-as program input dir (held c.args.self.now) _ _ _ (ap undo_of c.in-Tried.is) (tried-outside program input dir (held c.args.self.now) _ _)

pub returns-in-Tried-clause-sound : goal.returns-in-Tried-clause-sound
returns-in-Tried-clause-sound c = λ program v was. (held-tried program v (held c.args.self.now) _ _ (held-as program v _ _ _ (ap undo_of c.in-Tried.is) was), tt)
