use Rattle.std.proofs.Common.{map, sym, ap, ◌∙◌, refl, true, arith, length}
use Rattle.regress_engine_insn.specs.InsnViews.{instruction}
use Rattle.regress_engine_code.specs.Standing.{program_of}
use Rattle.regress_engine_input.specs.Views.{direction_of, input_of}
use Rattle.regress_engine_runs.specs.Runs.{as_far}
use Rattle.regress_engine_search.specs.StateViews.{marks_of}
use Rattle.regress_engine_search.proofs.SkipLemmas.{place-lies}
use Rattle.regress_engine_search.proofs.TaskLemmas.{leads-then}
use Rattle.regress_engine_undo.specs.Held.{held}
use Rattle.regress_engine_undo.proofs.BackLemmas.{give_back-held}
use Rattle.regress_engine_trying.proofs.StayLemmas.{goes-far, stays}
use Rattle.regress_engine_attempt.proofs.attempt.Attempt.repeat_back.Goals as goal

pub returns-then-near-far-clause-leads : goal.returns-then-near-far-clause-leads
returns-then-near-far-clause-leads g c =
    let program = program_of c.args.self.now.program.now in
    let input = input_of (g.Input.InputIndexer.view c.args.self.now.input) in
    let p = c.args.spot.now in
    let h = held c.args.memory.now in
    let i = instruction c.args.insn.now in
    let ahead = c.as_far-far.ensures.far ∙ ap (λ gs. as_far program input c.args.most i (direction_of true) (map marks_of gs) p.offset) c.deref.ensures.value in
    let goes = ahead ∙ ap (λ b. as_far program input c.args.most i (direction_of b) h.groups p.offset) (sym c.requires.forward) in
    stays program input i p h c.requires.stands c.args.most c.as_far-far.result goes c.if-near-far.true

pub give_back-requires-clause-sound : goal.give_back-requires-clause-sound
give_back-requires-clause-sound g c =
    give_back-held (program_of c.args.self.now.program.now) (g.Input.InputIndexer.view c.args.self.now.input) (held c.args.memory.now) _ _ c.args.spot.now.offset c.as_far-far.result refl
    c.as_far-far.ensures.place c.requires.sound

pub returns-clause-leads : goal.returns-clause-leads
returns-clause-leads g c =
    let program = program_of c.args.self.now.program.now in
    let input = input_of (g.Input.InputIndexer.view c.args.self.now.input) in
    let p = c.args.spot.now in
    let h = held c.args.memory.now in
    let i = instruction c.args.insn.now in
    let ahead = c.as_far-far.ensures.far ∙ ap (λ gs. as_far program input c.args.most i (direction_of true) (map marks_of gs) p.offset) c.deref.ensures.value in
    let goes = ahead ∙ ap (λ b. as_far program input c.args.most i (direction_of b) h.groups p.offset) (sym c.requires.forward) in
    leads-then program input 0 0 (goes-far program input i p h c.requires.stands c.args.most c.as_far-far.result goes) c.in_ok-going.ensures.leads

pub returns-clause-counted : goal.returns-clause-counted
returns-clause-counted g c =
    let v = g.Input.InputIndexer.view c.args.self.now.input in
    let all = g.met.Input.InputIndexer.are_of_kind c.args.self.now.input in
    let most = c.pass.ensures.most (length v.units) (place-lies v all c.args.spot.now.offset c.requires.body.3) (place-lies v all c.as_far-far.result c.as_far-far.ensures.place) in
    omega (arith, most)
