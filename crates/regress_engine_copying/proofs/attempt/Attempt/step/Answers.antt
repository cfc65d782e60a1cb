use Rattle.std.proofs.Common.{true, false, refl}
use Rattle.regress_engine_insn.specs.InsnViews.{instruction}
use Rattle.regress_engine_code.specs.Standing.{program_of}
use Rattle.regress_engine_input.specs.Views.{direction_of, input_of}
use Rattle.regress_engine_search.proofs.InsnLemmas.{stands-as}
use Rattle.regress_engine_copying.specs.declared.stack.Frame as stack
use Rattle.regress_engine_copying.specs.StateOf.{state_of}
use Rattle.regress_engine_copying.specs.Held.{held, frame_of}
use Rattle.regress_engine_copying.proofs.PlainLemmas.{others-plain}
use Rattle.regress_engine_search.specs.declared.submatch.Submatch.TheVariants.{Lookaround, Atomic}
use Rattle.regress_engine_search.specs.Submatches.{submatch_of, reads_forward}
use Rattle.regress_engine_copying.proofs.SoundLemmas.{plain-sound, submatch-sound}
use Rattle.regress_engine_copying.proofs.TaskLemmas.{plain-leads, submatch-leads}
use Rattle.regress_engine_copying.proofs.attempt.Attempt.step.Goals as goal

pub returns-in_ok-begin_submatch-in-Lookahead-clause-leads : goal.returns-in_ok-begin_submatch-in-Lookahead-clause-leads
returns-in_ok-begin_submatch-in-Lookahead-clause-leads g c =
    let program = program_of c.args.self.now.program.now in
    let input = input_of (g.Input.InputIndexer.view c.args.self.now.input) in
    let s = state_of c.args.state in
    let h = held c.args.stack.now in
    let here = stands-as program s.at _ _ c.in-Lookahead.is c.instruction-insn.ensures.stands in
    let f : stack.Frame = record { kind = Lookaround c.in-Lookahead.negate false; first = c.in-Lookahead.start_group; last = c.in-Lookahead.end_group; continuation = c.in-Lookahead.continuation; forward = c.args.stack.now.forward } in
    submatch-leads program input f s h (held c.begin_submatch.new.self) here refl c.in_ok-begin_submatch-in-Lookahead.ensures

pub returns-in_ok-begin_submatch-in-Lookahead-clause-sound : goal.returns-in_ok-begin_submatch-in-Lookahead-clause-sound
returns-in_ok-begin_submatch-in-Lookahead-clause-sound g c =
    let program = program_of c.args.self.now.program.now in
    let input = input_of (g.Input.InputIndexer.view c.args.self.now.input) in
    let s = state_of c.args.state in
    let h = held c.args.stack.now in
    let here = stands-as program s.at _ _ c.in-Lookahead.is c.instruction-insn.ensures.stands in
    let f : stack.Frame = record { kind = Lookaround c.in-Lookahead.negate false; first = c.in-Lookahead.start_group; last = c.in-Lookahead.end_group; continuation = c.in-Lookahead.continuation; forward = c.args.stack.now.forward } in
    submatch-sound program (frame_of f s) s (reads_forward (submatch_of f.kind) f.forward) h (held c.begin_submatch.new.self) c.in_ok-begin_submatch-in-Lookahead.ensures (c.requires.suits.closed s.at _ here) c.requires.whole c.requires.sound

pub returns-in_ok-begin_submatch-in-Lookbehind-clause-leads : goal.returns-in_ok-begin_submatch-in-Lookbehind-clause-leads
returns-in_ok-begin_submatch-in-Lookbehind-clause-leads g c =
    let program = program_of c.args.self.now.program.now in
    let input = input_of (g.Input.InputIndexer.view c.args.self.now.input) in
    let s = state_of c.args.state in
    let h = held c.args.stack.now in
    let here = stands-as program s.at _ _ c.in-Lookbehind.is c.instruction-insn.ensures.stands in
    let f : stack.Frame = record { kind = Lookaround c.in-Lookbehind.negate true; first = c.in-Lookbehind.start_group; last = c.in-Lookbehind.end_group; continuation = c.in-Lookbehind.continuation; forward = c.args.stack.now.forward } in
    submatch-leads program input f s h (held c.begin_submatch-in-Lookbehind.new.self) here refl c.in_ok-begin_submatch-in-Lookbehind.ensures

pub returns-in_ok-begin_submatch-in-Lookbehind-clause-sound : goal.returns-in_ok-begin_submatch-in-Lookbehind-clause-sound
returns-in_ok-begin_submatch-in-Lookbehind-clause-sound g c =
    let program = program_of c.args.self.now.program.now in
    let input = input_of (g.Input.InputIndexer.view c.args.self.now.input) in
    let s = state_of c.args.state in
    let h = held c.args.stack.now in
    let here = stands-as program s.at _ _ c.in-Lookbehind.is c.instruction-insn.ensures.stands in
    let f : stack.Frame = record { kind = Lookaround c.in-Lookbehind.negate true; first = c.in-Lookbehind.start_group; last = c.in-Lookbehind.end_group; continuation = c.in-Lookbehind.continuation; forward = c.args.stack.now.forward } in
    submatch-sound program (frame_of f s) s (reads_forward (submatch_of f.kind) f.forward) h (held c.begin_submatch-in-Lookbehind.new.self) c.in_ok-begin_submatch-in-Lookbehind.ensures (c.requires.suits.closed s.at _ here) c.requires.whole c.requires.sound

pub returns-in_ok-begin_submatch-in-Atomic-clause-leads : goal.returns-in_ok-begin_submatch-in-Atomic-clause-leads
returns-in_ok-begin_submatch-in-Atomic-clause-leads g c =
    let program = program_of c.args.self.now.program.now in
    let input = input_of (g.Input.InputIndexer.view c.args.self.now.input) in
    let s = state_of c.args.state in
    let h = held c.args.stack.now in
    let here = stands-as program s.at _ _ c.in-Atomic.is c.instruction-insn.ensures.stands in
    let f : stack.Frame = record { kind = Atomic; first = c.in-Atomic.start_group; last = c.in-Atomic.end_group; continuation = c.in-Atomic.continuation; forward = c.args.stack.now.forward } in
    submatch-leads program input f s h (held c.begin_submatch-in-Atomic.new.self) here refl c.in_ok-begin_submatch-in-Atomic.ensures

pub returns-in_ok-begin_submatch-in-Atomic-clause-sound : goal.returns-in_ok-begin_submatch-in-Atomic-clause-sound
returns-in_ok-begin_submatch-in-Atomic-clause-sound g c =
    let program = program_of c.args.self.now.program.now in
    let input = input_of (g.Input.InputIndexer.view c.args.self.now.input) in
    let s = state_of c.args.state in
    let h = held c.args.stack.now in
    let here = stands-as program s.at _ _ c.in-Atomic.is c.instruction-insn.ensures.stands in
    let f : stack.Frame = record { kind = Atomic; first = c.in-Atomic.start_group; last = c.in-Atomic.end_group; continuation = c.in-Atomic.continuation; forward = c.args.stack.now.forward } in
    submatch-sound program (frame_of f s) s (reads_forward (submatch_of f.kind) f.forward) h (held c.begin_submatch-in-Atomic.new.self) c.in_ok-begin_submatch-in-Atomic.ensures (c.requires.suits.closed s.at _ here) c.requires.whole c.requires.sound

pub returns-in_ok-go-in_default : goal.returns-in_ok-go-in_default
returns-in_ok-go-in_default g c =
    let program = program_of c.args.self.now.program.now in
    let input = input_of (g.Input.InputIndexer.view c.args.self.now.input) in
    let s = state_of c.args.state in
    let h = held c.args.stack.now in
    let i = instruction c.instruction-insn.result.now in
    let plain = others-plain c.instruction-insn.result.now c.in_default.not-Goal c.in_default.not-Lookahead c.in_default.not-Lookbehind c.in_default.not-Atomic in
    record {
      leads = plain-leads program input i s h (held c.go.new.stack) c.instruction-insn.ensures.stands plain c.in_ok-go-in_default.ensures;
      sound = plain-sound program input i (direction_of h.forward) s h (held c.go.new.stack) c.in_ok-go-in_default.ensures c.requires.whole c.requires.sound;
    }
