use Rattle.std.proofs.Common.{◌≡◌, Some, IfSome, refl, subst}
use Rattle.regress_engine_input.specs.Views.{reading_of}
use Rattle.regress_engine_runs.specs.Meets.{AreAtPlaces}
use Rattle.regress_engine_runs.specs.States.{range_of}
use Rattle.regress_engine_search.specs.StateViews.{marks_of}
use Rattle.regress_engine_advance.proofs.ReferenceLemmas.{other-reference}
use Rattle.regress_engine_advance.proofs.references.back_reference.Goals as goal

pub returns-then-differ_ahead : goal.returns-then-differ_ahead
returns-then-differ_ahead g c =
    let v = g.Input.InputIndexer.view c.args.input.now in
    let start = c.in-Some-Some.start in
    let end = c.in-Some-Some.end in
    let range : range_of (marks_of c.args.group.now) ≡ Some (start, end) = rw (c.in-Some-Some.is-0, c.in-Some-Some.is-1) refl in
    let places = subst (λ r. IfSome r (AreAtPlaces (reading_of v))) range c.requires.range in
    rw (c.if-forward.true, c.if-not-icase.true, range)
    (other-reference v (g.met.Input.InputIndexer.are_of_kind c.args.input.now) start end c.args.offset c.if-start-end.true places.0 places.1 c.requires.place
    (c.differ_ahead.ensures c.if-differ_ahead.true))
