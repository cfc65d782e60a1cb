use Rattle.std.proofs.Common.{◌≡◌, true, ◌+◌, ◌-◌, map, sym, ap, ◌∙◌, subst, arith, length, inl, inr}
use Rattle.regress_engine_insn.specs.Instructions.{Stands}
use Rattle.regress_engine_runs.specs.Closed.{takes_character}
use Rattle.regress_engine_runs.proofs.RunViews.{one_stands}
use Rattle.regress_engine_insn.specs.InsnViews.{instruction}
use Rattle.regress_engine_code.specs.Standing.{program_of}
use Rattle.regress_engine_input.specs.Views.{direction_of, input_of}
use Rattle.regress_engine_runs.specs.Runs.{as_far}
use Rattle.regress_engine_search.specs.StateViews.{marks_of}
use Rattle.regress_engine_search.proofs.PlaceLemmas.{moves}
use Rattle.regress_engine_search.proofs.SkipLemmas.{place-lies}
use Rattle.regress_engine_search.proofs.TaskLemmas.{leads-then}
use Rattle.regress_engine_undo.specs.Held.{held}
use Rattle.regress_engine_undo.proofs.GoalLemmas.{give_back-goal}
use Rattle.regress_engine_undo.proofs.SingleLemmas.{atomic}
use Rattle.regress_engine_trying.proofs.StayLemmas.{goes-far}
use Rattle.regress_engine_attempt.proofs.attempt.Attempt.repeat_all.Goals as goal

pub returns-clause-leads : goal.returns-clause-leads
returns-clause-leads g c =
    let program = program_of c.args.self.now.program.now in
    let v = g.Input.InputIndexer.view c.args.self.now.input in
    let input = input_of v in
    let all = g.met.Input.InputIndexer.are_of_kind c.args.self.now.input in
    let p = c.args.spot.now in
    let h = held c.args.memory.now in
    let i = instruction c.args.insn.now in
    let near = p.offset in
    let far = c.as_far-far.result in
    let groups = map marks_of c.args.memory.now.groups.items in
    let two : p.at + 1 ≡ p.at + 2 - 1 = omega arith in
    let here : Stands program (p.at + 2 - 1) i = subst (λ a. Stands program a i) two c.requires.stands in
    let ahead = c.as_far-far.ensures.far ∙ ap (λ gs. as_far program input c.args.most i (direction_of true) (map marks_of gs) near) c.deref.ensures.value in
    let goes = ahead ∙ ap (λ b. as_far program input c.args.most i (direction_of b) groups near) (sym c.requires.forward) in
    let body = c.requires.body in
    let before : Stands program (p.at + 1) body.0 = let one : p.at + 2 - 1 ≡ p.at + 1 = omega arith in subst (λ a. Stands program a body.0) one body.1 in
    let takes : takes_character i ≡ true = ap takes_character (sym (one_stands program input (p.at + 1) body.0 i before c.requires.stands)) ∙ body.2 in
    leads-then program input 0 0 (goes-far program input i p h c.requires.stands c.args.most far goes)
    (elim c.requires.spares [
      | inl spares ↦ atomic program v all c.requires.suits (p.at + 2) i here (spares i c.requires.stands takes) c.args.most near far groups body ahead p h c.requires.forward
      | inr last ↦ give_back-goal program input p h (p.at + 2) near far (moves v) last
    ])

pub returns-clause-counted : goal.returns-clause-counted
returns-clause-counted g c =
    let v = g.Input.InputIndexer.view c.args.self.now.input in
    let all = g.met.Input.InputIndexer.are_of_kind c.args.self.now.input in
    let most = c.pass.ensures.most (length v.units) (place-lies v all c.args.spot.now.offset c.requires.body.3) (place-lies v all c.as_far-far.result c.as_far-far.ensures.place) in
    omega (arith, most)
