use Rattle.std.proofs.Common.{◌≡◌, ℕ, sym, ap, subst, ◌∙◌}
use Rattle.regress_meaning.specs.Table.{canon}
use Rattle.regress_meaning.specs.Inputs.{Tells}
use Rattle.regress_meaning.specs.Meaning.{Direction}
use Rattle.regress_engine_input.specs.Views.{View, AreOfKind, CanRead, direction_of, input_of, reading_of}
use Rattle.regress_engine_input.proofs.KindLemmas.{tells, readable, end}
use Rattle.regress_engine_matchers.specs.References.{all_alike, in_turn}
use Rattle.regress_engine_matchers.proofs.MatcherLemmas.{canon-is, IsCompared, IsCompared-start, IsCompared-end, IsCompared-on, IsCompared-none, reads-at, unread-less}
use Rattle.regress_engine_matchers.proofs.ViewLemmas.{view_reads, view_part_repeats}
use Rattle.regress_engine_matchers.proofs.matchers.backref_icase.Goals as goal

-- a view of a text tells it
told_view : (v : View) → AreOfKind v.kind v.units → Tells (reading_of v) (input_of v)
told_view v all = tells v.kind v.table v.unicode v.units all

-- a loop over a part reads where one may
can-read : (v part : View) (all : AreOfKind part.kind part.units) (dir : Direction) (start at pos : ℕ) → IsCompared v part dir start at pos → CanRead part at
can-read v part all dir start at pos h =
    reads-at v part (told_view part all) dir start at pos h (λ p room. readable part.kind part.table part.unicode part.units all p room)

pub loop-c-init : goal.loop-c-init
loop-c-init g c =
    let part : View = g.Input.InputIndexer.view c.subinput-part.result in
    IsCompared-start _ part _ _ _ (end part.kind part.units (g.met.Input.InputIndexer.are_of_kind c.subinput-part.result)) c.begin-at.ensures c.requires.position

pub next-requires : goal.next-requires
next-requires g c =
    let part : View = g.Input.InputIndexer.view c.subinput-part.result in
    can-read (g.Input.InputIndexer.view c.args.input.now) part (g.met.Input.InputIndexer.are_of_kind c.subinput-part.result) (direction_of g.Dir.Direction.FORWARD) _ _ _ c.loop-c.invariant

pub next_alike-requires-clause-canon : goal.next_alike-requires-clause-canon
next_alike-requires-clause-canon g c =
    let part : View = g.Input.InputIndexer.view c.subinput-part.result in
    let code : ℕ = g.Input.Element.ElementType.code c.in-Some.c in
    let known = g.met.Input.CharInput.canon_by_table c.subinput-part.result (direction_of g.Dir.Direction.FORWARD) _ code (sym c.in-Some.ensures.point) ∙ canon-is part code in
    subst (λ (v : View). g.Input.CharProps.CharProperties.canon v.table v.unicode code ≡ canon v.table v.unicode code) c.subinput-part.ensures known

pub next_alike-requires-clause-position : goal.next_alike-requires-clause-position
next_alike-requires-clause-position g c = c.loop-c.invariant.can

pub returns-then-not-next_alike-clause-part : goal.returns-then-not-next_alike-clause-part
returns-then-not-next_alike-clause-part g c =
    let v : View = g.Input.InputIndexer.view c.args.input.now in
    let part : View = g.Input.InputIndexer.view c.subinput-part.result in
    let dir = direction_of g.Dir.Direction.FORWARD in
    let start : ℕ = g.Input.Position.PositionType.offset c.args.pos.now in
    sym (IsCompared-none v part (told_view part (g.met.Input.InputIndexer.are_of_kind c.subinput-part.result)) dir _ _ _ c.loop-c.invariant _ _ c.in-Some.ensures.point c.in-Some.ensures.position
    c.if-not-next_alike.ensures)
    ∙ ap (λ (w : View). all_alike (input_of v) dir (in_turn dir (reading_of w).points) start) c.subinput-part.ensures

pub returns-then-not-next_alike-clause-between : goal.returns-then-not-next_alike-clause-between
returns-then-not-next_alike-clause-between g c = λ start end.
    returns-then-not-next_alike-clause-part g c
    ∙ view_part_repeats (g.Input.InputIndexer.view c.args.input.now) (g.met.Input.InputIndexer.are_of_kind c.args.input.now) (direction_of g.Dir.Direction.FORWARD) _ _ _
    c.requires.order start end

pub loop-c-smaller : goal.loop-c-smaller
loop-c-smaller g c =
    let v : View = g.Input.InputIndexer.view c.args.input.now in
    let part : View = g.Input.InputIndexer.view c.subinput-part.result in
    let all = g.met.Input.InputIndexer.are_of_kind c.subinput-part.result in
    let dir = direction_of g.Dir.Direction.FORWARD in
    unread-less v part (told_view part all) dir _ _ _ c.loop-c.invariant _ _ c.in-Some.ensures.point c.in-Some.ensures.position (view_reads part all)
    (can-read v part all dir _ _ _ c.loop-c.invariant)

pub loop-c-preserved : goal.loop-c-preserved
loop-c-preserved g c =
    let v : View = g.Input.InputIndexer.view c.args.input.now in
    let part : View = g.Input.InputIndexer.view c.subinput-part.result in
    IsCompared-on v part (told_view part (g.met.Input.InputIndexer.are_of_kind c.subinput-part.result)) (direction_of g.Dir.Direction.FORWARD) _ _ _ c.loop-c.invariant _ _
    c.in-Some.ensures.point c.in-Some.ensures.position (view_reads v (g.met.Input.InputIndexer.are_of_kind c.args.input.now)) _ c.if-not-next_alike.ensures

pub returns-clause-part : goal.returns-clause-part
returns-clause-part g c =
    let v : View = g.Input.InputIndexer.view c.args.input.now in
    let part : View = g.Input.InputIndexer.view c.subinput-part.result in
    let dir = direction_of g.Dir.Direction.FORWARD in
    let start : ℕ = g.Input.Position.PositionType.offset c.args.pos.now in
    sym (IsCompared-end v part (told_view part (g.met.Input.InputIndexer.are_of_kind c.subinput-part.result)) dir _ _ _ c.loop-c.invariant (sym c.in_default.ensures.point))
    ∙ ap (λ (w : View). all_alike (input_of v) dir (in_turn dir (reading_of w).points) start) c.subinput-part.ensures

pub returns-clause-between : goal.returns-clause-between
returns-clause-between g c = λ start end.
    returns-clause-part g c
    ∙ view_part_repeats (g.Input.InputIndexer.view c.args.input.now) (g.met.Input.InputIndexer.are_of_kind c.args.input.now) (direction_of g.Dir.Direction.FORWARD) _ _ _
    c.requires.order start end
