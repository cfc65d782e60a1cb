use Rattle.std.specs.Prelude.{IfSome}
use Rattle.std.proofs.Common.{ℕ, Option, Some, None, sym}
use Rattle.regress_meaning.specs.Meaning.{Forward}
use Rattle.regress_engine_code.specs.Standing.{program_of}
use Rattle.regress_engine_search.proofs.PlaceLemmas.{can-read, next-place}
use Rattle.regress_engine_leading.proofs.RunLemmas.{passes-over}
use Rattle.regress_engine_leading.proofs.ways.passed_ways.Goals as goal

pub beside-requires : goal.beside-requires
beside-requires g c = can-read (g.Input.InputIndexer.view c.args.input.now) (g.met.Input.InputIndexer.are_of_kind c.args.input.now) c.args.start c.requires.place

pub dead_end-requires-clause-place : goal.dead_end-requires-clause-place
dead_end-requires-clause-place g c =
    next-place (g.Input.InputIndexer.view c.args.input.now) (g.met.Input.InputIndexer.are_of_kind c.args.input.now) Forward c.args.start _ c.in_ok-near.near c.requires.place (sym c.in_ok-near.ensures)

-- what is so of a value that is there
if-some : (P Q : ℕ → Type 0) → ((x : ℕ) → P x → Q x) → (o : Option ℕ) → IfSome o P → IfSome o Q
if-some P Q weaker None h = h
if-some P Q weaker (Some x) h = weaker x h

pub returns : goal.returns
returns g c =
    let program = program_of c.args.program.now in
    let v = g.Input.InputIndexer.view c.args.input.now in
    let all = g.met.Input.InputIndexer.are_of_kind c.args.input.now in
    if-some _ _ (λ far end.
    passes-over program v all c.requires.suits c.in_ok-at.at end.most far end.class end.loop end.stops (c.in_ok-at.ensures v) c.args.start _ c.in_ok-near.near c.requires.place (sym c.in_ok-near.ensures) end.ends)
    c.dead_end.result c.dead_end.ensures
