use Rattle.std.proofs.Common.{true, false, length, refl, sym, ap, subst, arith}
use Rattle.regress_engine_code.specs.Standing.{program_of}
use Rattle.regress_engine_input.specs.Views.{input_of}
use Rattle.regress_engine_search.specs.Tasks.{Leads}
use Rattle.regress_engine_search.proofs.TaskLemmas.{leads-then, leads-same}
use Rattle.regress_engine_undo.specs.Held.{Held, held, pushed, undo_of}
use Rattle.regress_engine_undo.specs.Sound.{IsHeld}
use Rattle.regress_engine_undo.specs.Tasks.{task}
use Rattle.regress_engine_trying.specs.Trying.{World}
use Rattle.regress_engine_trying.specs.Remembering.{IsUnderWay}
use Rattle.regress_engine_trying.proofs.RememberLemmas.{under-way-on}
use Rattle.regress_engine_attempt.specs.declared.counts.Counts.{Counts}
use Rattle.regress_engine_trying.specs.Passing.{GoesBackMore, UndoesMore}
use Rattle.regress_engine_trying.proofs.CountLemmas.{back-first, back-on}
use Rattle.regress_engine_attempt.proofs.attempt.Attempt.back.Goals as goal

pub loop-undo-init : goal.loop-undo-init
loop-undo-init g c = record {
  leads = leads-same _ _ _;
  more = back-first (record { program = program_of c.args.self.now.program.now; view = g.Input.InputIndexer.view c.args.self.now.input }) c.args.spot.now (held c.args.memory.now) _ _ refl;
  sound = c.requires.sound;
  so = c.keep_failures.ensures.so;
}

pub undo_one-requires-clause-sound : goal.undo_one-requires-clause-sound
undo_one-requires-clause-sound g c = subst (IsHeld (program_of c.args.self.now.program.now) (g.Input.InputIndexer.view c.args.self.now.input)) c.in-Some.ensures c.loop-undo.invariant.sound

pub learn-requires-clause-sound : goal.learn-requires-clause-sound
learn-requires-clause-sound g c = subst (IsHeld (program_of c.args.self.now.program.now) (g.Input.InputIndexer.view c.args.self.now.input)) c.in-Some.ensures c.loop-undo.invariant.sound

pub learn-requires-clause-tried : goal.learn-requires-clause-tried
learn-requires-clause-tried g c =
    let w : World = record { program = program_of c.args.self.now.program.now; view = g.Input.InputIndexer.view c.args.self.now.input } in
    subst (IsUnderWay w false c.loop-undo.spot) c.in-Some.ensures
    (under-way-on w 0 false false c.args.spot.now c.loop-undo.spot (held c.args.memory.now) (held c.loop-undo.memory) c.loop-undo.invariant.leads c.requires.tried)

pub loop-undo-smaller : goal.loop-undo-smaller
loop-undo-smaller g c =
    let one = ap (λ (h : Held). length h.stack) c.in-Some.ensures in
    let rest = ap length (c.in_ok-undo_one.ensures.rest c.if-branch.false) in
    omega (arith, one, rest)

pub loop-undo-preserved : goal.loop-undo-preserved
loop-undo-preserved g c =
    let program = program_of c.args.self.now.program.now in
    let input = input_of (g.Input.InputIndexer.view c.args.self.now.input) in
    record {
      leads = leads-then program input 0 0 c.loop-undo.invariant.leads
          (subst (λ h. Leads program input 0 (task program input false c.loop-undo.spot h) (task program input false c.undo_one.new.spot (held c.undo_one.new.memory))) (sym c.in-Some.ensures)
          (subst (λ b. Leads program input 0 (task program input false c.loop-undo.spot (pushed (undo_of c.in-Some.undo) (held c.pop.new.self))) (task program input b c.undo_one.new.spot (held c.undo_one.new.memory))) c.if-branch.false
          c.in_ok-undo_one.ensures.leads));
      more = back-on (record { program = program; view = g.Input.InputIndexer.view c.args.self.now.input }) c.args.spot.now c.loop-undo.spot c.undo_one.new.spot (held c.args.memory.now) (held c.loop-undo.memory) (held c.pop.new.self) (held c.undo_one.new.memory) (undo_of c.in-Some.undo)
          c.in_ok-undo_one.field-0 false _ c.loop-undo.remembered.counts.more _ c.in-Some.ensures c.if-branch.false c.in_ok-undo_one.ensures.leads
          (subst (λ (x : Counts). UndoesMore (record { program = program_of c.args.self.now.program.now; view = g.Input.InputIndexer.view c.args.self.now.input }) (undo_of c.in-Some.undo) c.loop-undo.spot (held c.pop.new.self) c.undo_one.new.spot (held c.undo_one.new.memory) c.in_ok-undo_one.field-0 x.more c.undo_one.new.remembered.counts.more) c.learn.ensures.kept c.in_ok-undo_one.ensures.counted) c.loop-undo.invariant.more;
      sound = c.in_ok-undo_one.ensures.sound;
      so = c.in_ok-undo_one.ensures.so;
    }

pub returns-then-branch-clause-leads : goal.returns-then-branch-clause-leads
returns-then-branch-clause-leads g c =
    let program = program_of c.args.self.now.program.now in
    let input = input_of (g.Input.InputIndexer.view c.args.self.now.input) in
    leads-then program input 0 0 c.loop-undo.invariant.leads
    (subst (λ h. Leads program input 0 (task program input false c.loop-undo.spot h) (task program input true c.undo_one.new.spot (held c.undo_one.new.memory))) (sym c.in-Some.ensures)
    (subst (λ b. Leads program input 0 (task program input false c.loop-undo.spot (pushed (undo_of c.in-Some.undo) (held c.pop.new.self))) (task program input b c.undo_one.new.spot (held c.undo_one.new.memory))) c.if-branch.true
    c.in_ok-undo_one.ensures.leads))

pub returns-clause-leads : goal.returns-clause-leads
returns-clause-leads g c =
    let program = program_of c.args.self.now.program.now in
    let input = input_of (g.Input.InputIndexer.view c.args.self.now.input) in
    subst (λ h. Leads program input 0 (task program input false c.args.spot.now (held c.args.memory.now)) (task program input false c.loop-undo.spot h)) (sym c.in_default.ensures.0)
    c.loop-undo.invariant.leads

pub returns-clause-sound : goal.returns-clause-sound
returns-clause-sound g c =
    subst (IsHeld (program_of c.args.self.now.program.now) (g.Input.InputIndexer.view c.args.self.now.input)) (sym c.in_default.ensures.0) c.loop-undo.invariant.sound

pub returns-then-branch-clause-counted : goal.returns-then-branch-clause-counted
returns-then-branch-clause-counted g c =
    let program = program_of c.args.self.now.program.now in
    let v = g.Input.InputIndexer.view c.args.self.now.input in
    subst (λ (x : Counts). GoesBackMore (record { program = program; view = v }) c.args.spot.now (held c.args.memory.now) c.undo_one.new.spot (held c.undo_one.new.memory) true x.more c.undo_one.new.remembered.counts.more) c.keep_failures.ensures.kept
    (back-on (record { program = program; view = v }) c.args.spot.now c.loop-undo.spot c.undo_one.new.spot (held c.args.memory.now) (held c.loop-undo.memory) (held c.pop.new.self) (held c.undo_one.new.memory) (undo_of c.in-Some.undo)
    c.in_ok-undo_one.field-0 true _ c.loop-undo.remembered.counts.more _ c.in-Some.ensures c.if-branch.true c.in_ok-undo_one.ensures.leads
    (subst (λ (x : Counts). UndoesMore (record { program = program_of c.args.self.now.program.now; view = g.Input.InputIndexer.view c.args.self.now.input }) (undo_of c.in-Some.undo) c.loop-undo.spot (held c.pop.new.self) c.undo_one.new.spot (held c.undo_one.new.memory) c.in_ok-undo_one.field-0 x.more c.undo_one.new.remembered.counts.more) c.learn.ensures.kept c.in_ok-undo_one.ensures.counted) c.loop-undo.invariant.more)

pub returns-clause-counted : goal.returns-clause-counted
returns-clause-counted g c =
    let program = program_of c.args.self.now.program.now in
    let v = g.Input.InputIndexer.view c.args.self.now.input in
    subst (λ (x : Counts). GoesBackMore (record { program = program; view = v }) c.args.spot.now (held c.args.memory.now) c.loop-undo.spot (held c.pop.new.self) false x.more c.loop-undo.remembered.counts.more) c.keep_failures.ensures.kept
    (subst (λ h. GoesBackMore (record { program = program; view = v }) c.args.spot.now (held c.args.memory.now) c.loop-undo.spot h false c.keep_failures.new.remembered.counts.more c.loop-undo.remembered.counts.more) (sym c.in_default.ensures.0)
    c.loop-undo.invariant.more)
