use Rattle.std.proofs.Common.{true, inr, refl, sym, ap, subst, ◌∙◌}
use Rattle.regress_meaning.specs.Meaning.{Forward}
use Rattle.regress_meaning.specs.Steps.{only_if}
use Rattle.regress_engine_code.specs.Standing.{program_of}
use Rattle.regress_engine_input.specs.Views.{input_of}
use Rattle.regress_engine_insn.specs.Instructions.{Stands}
use Rattle.regress_engine_insn.specs.InsnViews.{instruction}
use Rattle.regress_engine_search.specs.Ready.{is_simple}
use Rattle.regress_engine_search.proofs.PlaceLemmas.{can-read}
use Rattle.regress_engine_singles.specs.Taking.{is_assertion}
use Rattle.regress_engine_singles.proofs.DeadLemmas.{simple-dead, taken-dead}
use Rattle.regress_engine_leading.proofs.leading.at_line.Goals as goal

pub holds_at-requires : goal.holds_at-requires
holds_at-requires g c = can-read (g.Input.InputIndexer.view c.args.input.now) (g.met.Input.InputIndexer.are_of_kind c.args.input.now) c.args.start c.requires.place

pub passed_line-requires-clause-dead : goal.passed_line-requires-clause-dead
passed_line-requires-clause-dead g c =
    let program = program_of c.args.program.now in
    let input = input_of (g.Input.InputIndexer.view c.args.input.now) in
    let i = instruction c.args.insn.now in
    let here = subst (Stands program 0) (sym c.requires.insn) c.requires.first in
    simple-dead program input Forward 0 c.args.start i here (ap is_simple c.requires.insn)
    (λ groups. ap (λ b. only_if b c.args.start) (sym c.if-not-holds_at.true) ∙ c.holds_at.ensures program true groups (ap is_assertion c.requires.insn))

pub passed_line-requires-then-fails-clause-dead : goal.passed_line-requires-then-fails-clause-dead
passed_line-requires-then-fails-clause-dead g c =
    let program = program_of c.args.program.now in
    let input = input_of (g.Input.InputIndexer.view c.args.input.now) in
    let i = instruction c.args.insn.now in
    let here = subst (Stands program 0) (sym c.requires.insn) c.requires.first in
    taken-dead program input Forward 0 c.args.start c.args.start i here (ap is_simple c.requires.insn)
    (λ groups. ap (λ b. only_if b c.args.start) (sym c.if-not-holds_at.false) ∙ c.holds_at.ensures program true groups (ap is_assertion c.requires.insn))
    (c.fails.ensures c.if-fails.true)

pub returns : goal.returns
returns g c =
    let program = program_of c.args.program.now in
    let input = input_of (g.Input.InputIndexer.view c.args.input.now) in
    let i = instruction c.args.insn.now in
    let here = subst (Stands program 0) (sym c.requires.insn) c.requires.first in
    inr (
      refl,
      (
        i,
        (
          here,
          ap is_simple c.requires.insn,
          λ groups. sym (ap (λ b. only_if b c.args.start) (sym c.if-not-holds_at.false) ∙ c.holds_at.ensures program true groups (ap is_assertion c.requires.insn)),
        ),
      ),
    )
