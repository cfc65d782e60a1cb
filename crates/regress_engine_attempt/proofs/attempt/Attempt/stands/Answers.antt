use Rattle.std.specs.Prelude.{is_some, IfSome}
use Rattle.std.proofs.Common.{◌≡◌, ℕ, List, ◌∷◌, not, map, sym, ap, ◌∙◌, subst}
use Rattle.regress_meaning.specs.Meaning.{Forward}
use Rattle.regress_engine_insn.specs.Instructions.{byte_seq}
use Rattle.regress_engine_insn.specs.InsnViews.{instruction}
use Rattle.regress_engine_code.specs.Standing.{program_of}
use Rattle.regress_engine_input.specs.Views.{direction_of, input_of}
use Rattle.regress_engine_runs.specs.Runs.{advance}
use Rattle.regress_engine_runs.specs.Closed.{Fits}
use Rattle.regress_engine_search.specs.StateViews.{marks_of}
use Rattle.regress_engine_attempt.proofs.attempt.Attempt.stands.Goals as goal

pub other_ahead-requires : goal.other_ahead-requires
other_ahead-requires g c =
    let program = program_of c.args.self.now.program.now in
    let (rest, is) = subst (λ x. IfSome x (λ b. (rest : List ℕ) × (instruction c.args.insn.now ≡ byte_seq (b ∷ rest)))) c.in-Some.is c.requires.first in
    c.requires.suits.kind ∙ ap not (subst (Fits program 0) is c.requires.ready.fits)

pub returns-then-other_ahead : goal.returns-then-other_ahead
returns-then-other_ahead g c =
    let program = program_of c.args.self.now.program.now in
    let input = input_of (g.Input.InputIndexer.view c.args.self.now.input) in
    let groups = map marks_of c.args.groups.now in
    let (rest, is) = subst (λ x. IfSome x (λ b. (rest : List ℕ) × (instruction c.args.insn.now ≡ byte_seq (b ∷ rest)))) c.in-Some.is c.requires.first in
    ap is_some (c.other_ahead.ensures rest c.if-other_ahead.true ∙ ap (λ i. advance program input i Forward groups c.args.offset) (sym is)
    ∙ ap (λ f. advance program input (instruction c.args.insn.now) (direction_of f) groups c.args.offset) (sym c.if-forward.true))
