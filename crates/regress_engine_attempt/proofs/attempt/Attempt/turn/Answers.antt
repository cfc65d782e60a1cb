use Rattle.std.proofs.Common.{◌≡◌, ℕ, ◌+◌, subst}
use Rattle.regress_engine_insn.specs.Instructions.{Instruction, LoopFields, Program, Stands}
use Rattle.regress_engine_insn.specs.Instructions as code
use Rattle.regress_engine_insn.specs.InsnViews.{fields}
use Rattle.regress_engine_code.specs.Standing.{program_of}
use Rattle.regress_engine_input.specs.Views.{View, input_of}
use Rattle.regress_engine_runs.proofs.RunViews.{one_stands}
use Rattle.regress_engine_search.proofs.InsnLemmas.{stands-as}
use Rattle.regress_engine_singles.specs.Sparing.{IsTurn}
use Rattle.regress_engine_attempt.proofs.attempt.Attempt.turn.Goals as goal

-- what stands there alone is what was found
found-is : (program : Program) (v : View) (at second begin again : ℕ) (i j : Instruction) (f k : LoopFields) → IsTurn program v at second begin again i f
    → Stands program (at + 1) j → Stands program begin (code.enter_loop k) → IsTurn program v at second begin again j k
found-is program v at second begin again i j f k turn first begins =
    let class : i ≡ j = one_stands program (input_of v) (at + 1) i j turn.first first in
    let loop : code.enter_loop f ≡ code.enter_loop k = one_stands program (input_of v) begin (code.enter_loop f) (code.enter_loop k) turn.begins begins in
    let repetition : f ≡ k = cc in
    subst (λ x. IsTurn program v at second begin again j x) repetition (subst (λ x. IsTurn program v at second begin again x f) class turn)

pub instruction-requires : goal.instruction-requires
instruction-requires g c =
    let (i, f, turn) = c.in_ok-found.ensures.turn (g.Input.InputIndexer.view c.args.self.now.input) (g.met.Input.InputIndexer.are_of_kind c.args.self.now.input) c.requires.suits c.args.second c.requires.stands in
    (code.enter_loop f, turn.begins)

pub instruction-requires-2 : goal.instruction-requires-2
instruction-requires-2 g c = let (i, here, class) = c.in_ok-found.ensures.class in (i, here)

pub returns : goal.returns
returns g c =
    let program = program_of c.args.self.now.program.now in
    let v = g.Input.InputIndexer.view c.args.self.now.input in
    let (i, f, turn) = c.in_ok-found.ensures.turn v (g.met.Input.InputIndexer.are_of_kind c.args.self.now.input) c.requires.suits c.args.second c.requires.stands in
    found-is program v c.args.at c.args.second c.in_ok-found.found.begin c.in_ok-found.found.again i _ f (fields c.in-EnterLoop.repetition) turn c.instruction-2.ensures.stands
    (stands-as program c.in_ok-found.found.begin _ _ c.in-EnterLoop.is c.instruction.ensures.stands)
