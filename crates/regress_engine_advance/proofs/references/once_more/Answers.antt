use Rattle.std.proofs.Common.{◌∙◌, true, false, sym}
use Rattle.regress_engine_input.specs.Views.{direction_of, CanRead}
use Rattle.regress_engine_matchers.specs.References.{IsPlace}
use Rattle.regress_engine_matchers.proofs.ViewLemmas.{view_reads}
use Rattle.regress_engine_search.proofs.PlaceLemmas.{can-read}
use Rattle.regress_engine_search.proofs.ReadyLemmas.{place_is, repeated_lies}
use Rattle.regress_engine_advance.proofs.references.once_more.Goals as goal
use Rattle.regress_engine_advance.proofs.references.once_more.Goals.{then-icase, else-icase}

pub backref_icase-stands-requires-clause-start : goal.backref_icase-stands-requires-clause-start
backref_icase-stands-requires-clause-start g c =
    let v = g.Input.InputIndexer.view c.args.input.now in
    rw c.new-start.ensures (can-read v (g.met.Input.InputIndexer.are_of_kind c.args.input.now) _ c.requires.range.0)

pub backref_icase-stands-requires-clause-end : goal.backref_icase-stands-requires-clause-end
backref_icase-stands-requires-clause-end g c =
    let v = g.Input.InputIndexer.view c.args.input.now in
    rw c.new-end.ensures (can-read v (g.met.Input.InputIndexer.are_of_kind c.args.input.now) _ c.requires.range.1)

pub backref_icase-stands-requires-clause-position : goal.backref_icase-stands-requires-clause-position
backref_icase-stands-requires-clause-position g c =
    let v = g.Input.InputIndexer.view c.args.input.now in
    rw c.new-position.ensures (can-read v (g.met.Input.InputIndexer.are_of_kind c.args.input.now) _ c.requires.place)

pub backref-stands-requires-clause-end : goal.backref-stands-requires-clause-end
backref-stands-requires-clause-end g c =
    let v = g.Input.InputIndexer.view c.args.input.now in
    let all = g.met.Input.InputIndexer.are_of_kind c.args.input.now in
    rw c.new-end.ensures ((view_reads v all).inside _ (can-read v all _ c.requires.range.1))

pub backref-stands-requires-clause-position : goal.backref-stands-requires-clause-position
backref-stands-requires-clause-position g c =
    let v = g.Input.InputIndexer.view c.args.input.now in
    let all = g.met.Input.InputIndexer.are_of_kind c.args.input.now in
    rw c.new-position.ensures ((view_reads v all).inside _ (can-read v all _ c.requires.place))

pub pos_to_offset-requires : goal.pos_to_offset-requires
pos_to_offset-requires g c =
    let v = g.Input.InputIndexer.view c.args.input.now in
    let all = g.met.Input.InputIndexer.are_of_kind c.args.input.now in
    let dir = direction_of g.Dir.Direction.FORWARD in
    let start : IsPlace v (g.Input.Position.PositionType.offset c.new-start.result) = rw c.new-start.ensures (place_is v _ c.requires.range.0) in
    let end : IsPlace v (g.Input.Position.PositionType.offset c.new-end.result) = rw c.new-end.ensures (place_is v _ c.requires.range.1) in
    let here : IsPlace v (g.Input.Position.PositionType.offset c.new-position.result) = rw c.new-position.ensures (place_is v _ c.requires.place) in
    let can : CanRead v (g.Input.Position.PositionType.offset c.new-position.result) = rw c.new-position.ensures (can-read v all _ c.requires.place) in
    elim c.if-icase.branch [
      | then-icase w ↦ let found = rw (sym w.stands-is ∙ c.if-stands.true) at (w.backref_icase-stands.ensures.between start end) in
          rw w.position-is (repeated_lies v all dir true _ _ _ _ can found)
      | else-icase w ↦ let found = rw (sym w.stands-is ∙ c.if-stands.true) at (w.backref-stands.ensures.between start end here) in
          rw w.position-is (repeated_lies v all dir false _ _ _ _ can found)
    ]
