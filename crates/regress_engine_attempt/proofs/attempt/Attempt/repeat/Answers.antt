use Rattle.std.proofs.Common.{◌≡◌, None, true, ◌+◌, ◌-◌, sym, ap, ◌∙◌, refl, subst, arith}
use Rattle.regress_engine_insn.specs.Instructions.{Stands, single_loop}
use Rattle.regress_engine_insn.specs.InsnViews.{instruction}
use Rattle.regress_engine_code.specs.Standing.{program_of}
use Rattle.regress_engine_input.specs.Views.{direction_of, input_of}
use Rattle.regress_engine_runs.specs.Closed.{takes_character}
use Rattle.regress_engine_runs.specs.Runs.{advance}
use Rattle.regress_engine_runs.proofs.BodyPlaces.{fits-anywhere}
use Rattle.regress_engine_runs.proofs.RunViews.{one_stands}
use Rattle.regress_engine_undo.specs.declared.undo.Spot.{Spot}
use Rattle.regress_engine_undo.specs.Held.{held}
use Rattle.regress_engine_attempt.specs.Attempts.{world}
use Rattle.regress_engine_trying.specs.Trying.{Does}
use Rattle.regress_engine_trying.proofs.StayLemmas.{stays, takes-none}
use Rattle.regress_engine_attempt.proofs.attempt.Attempt.repeat.Goals as goal

pub is_stopped-requires : goal.is_stopped-requires
is_stopped-requires g c =
    let program = program_of c.args.self.now.program.now in
    let input = input_of (g.Input.InputIndexer.view c.args.self.now.input) in
    let at = c.args.spot.now.at in
    let i = instruction c.instruction-insn.result.now in
    let here = c.instruction-insn.ensures.stands in
    let body = c.requires.body in
    let one : at + 2 - 1 ≡ at + 1 = omega arith in
    let before = subst (λ a. Stands program a body.0) one body.1 in
    let takes : takes_character i ≡ true = ap takes_character (sym (one_stands program input (at + 1) body.0 i before here)) ∙ body.2 in
    fits-anywhere program (at + 1) i (c.requires.suits.closed (at + 1) i here) takes

pub returns-then-is_stopped-clause-leads : goal.returns-then-is_stopped-clause-leads
returns-then-is_stopped-clause-leads g c =
    let program = program_of c.args.self.now.program.now in
    let input = input_of (g.Input.InputIndexer.view c.args.self.now.input) in
    let p = c.args.spot.now in
    let h = held c.args.memory.now in
    let i = instruction c.instruction-insn.result.now in
    let dir = direction_of p.forward in
    let none = subst (λ b. None ≡ advance program input i (direction_of b) h.groups p.offset) (sym c.if-spot.true) (c.is_stopped.ensures c.if-is_stopped.true h.groups) in
    let q : Spot = record p { at = p.at + 2; offset = p.offset } in
    let w = world g.Input.InputIndexer.view c.args.self.now in
    subst (λ n. Does w (single_loop n c.args.most c.args.greedy) p h q h true) (sym c.if-least-eq0.true)
    (subst (λ b. Does w (single_loop 0 c.args.most b) p h q h true) (sym c.if-greedy.true)
    (stays program input i p h c.instruction-insn.ensures.stands c.args.most p.offset (takes-none program input i dir h.groups p.offset c.args.most none) refl))
