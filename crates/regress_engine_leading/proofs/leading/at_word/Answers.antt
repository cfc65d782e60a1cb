use mathlib.Core.Bool.{beq}
use Rattle.std.proofs.Common.{◌≡◌, Bool, true, false, not, refl, sym, subst, ◌∙◌}
use Rattle.regress_meaning.specs.Steps.{at_boundary}
use Rattle.regress_engine_insn.specs.Instructions.{Stands}
use Rattle.regress_engine_insn.specs.Instructions as code
use Rattle.regress_engine_code.specs.Standing.{program_of}
use Rattle.regress_engine_input.specs.Views.{input_of}
use Rattle.regress_engine_search.proofs.PlaceLemmas.{can-read}
use Rattle.regress_engine_search.proofs.SearchLemmas.{search-less}
use Rattle.regress_engine_singles.proofs.BoundaryLemmas.{inside-here, inside-on}
use Rattle.regress_engine_leading.proofs.ComesLemmas.{comes-boundary}
use Rattle.regress_engine_leading.proofs.leading.at_word.Goals as goal

-- two answers that do not differ
alike : (a b : Bool) → not (beq a b) ≡ false → a ≡ b
alike true true e = refl
alike true false e = e
alike false true e = sym e
alike false false e = refl

pub boundary-requires : goal.boundary-requires
boundary-requires g c = can-read (g.Input.InputIndexer.view c.args.input.now) (g.met.Input.InputIndexer.are_of_kind c.args.input.now) c.args.start c.requires.place

pub behind_edge-requires-clause-first : goal.behind_edge-requires-clause-first
behind_edge-requires-clause-first g c = subst (λ b. Stands (program_of c.args.program.now) 0 (code.boundary false b)) c.if-folded.false c.requires.first

pub behind_edge-requires-clause-edge : goal.behind_edge-requires-clause-edge
behind_edge-requires-clause-edge g c =
    subst (λ b. at_boundary (input_of (g.Input.InputIndexer.view c.args.input.now)) b c.args.start ≡ true) c.if-folded.false (sym c.boundary.ensures ∙ c.if-boundary.true)

pub returns-then-folded : goal.returns-then-folded
returns-then-folded g c =
    comes-boundary (program_of c.args.program.now) (input_of (g.Input.InputIndexer.view c.args.input.now)) c.args.folded c.args.start c.requires.first
    (sym c.boundary.ensures ∙ c.if-boundary.true)

pub places-init : goal.places-init
places-init g c =
    inside-here (g.Input.InputIndexer.view c.args.input.now) (g.met.Input.InputIndexer.are_of_kind c.args.input.now) (program_of c.args.program.now) c.args.folded c.requires.first c.args.start
    c.word_beside-was.result c.requires.place c.word_beside-was.ensures

pub word_beside-was-requires : goal.word_beside-was-requires
word_beside-was-requires g c = can-read (g.Input.InputIndexer.view c.args.input.now) (g.met.Input.InputIndexer.are_of_kind c.args.input.now) c.args.start c.requires.place

pub beside-requires : goal.beside-requires
beside-requires g c = can-read (g.Input.InputIndexer.view c.args.input.now) (g.met.Input.InputIndexer.are_of_kind c.args.input.now) c.places.at c.places.invariant.place

pub places-smaller : goal.places-smaller
places-smaller g c =
    search-less (program_of c.args.program.now) (g.Input.InputIndexer.view c.args.input.now) (g.met.Input.InputIndexer.are_of_kind c.args.input.now) c.places.at _ _
    c.places.invariant.place (sym c.in-Some.ensures)

pub places-preserved : goal.places-preserved
places-preserved g c =
    inside-on (g.Input.InputIndexer.view c.args.input.now) (g.met.Input.InputIndexer.are_of_kind c.args.input.now) (program_of c.args.program.now) c.args.folded c.requires.first c.args.start
    c.word_beside-was.result c.places.at _ _ c.places.invariant (sym c.in-Some.ensures) (sym c.is_word.ensures ∙ alike _ _ c.if-is_word-was.false)
