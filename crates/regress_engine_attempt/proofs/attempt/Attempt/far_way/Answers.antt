use Rattle.std.proofs.Common.{None, Some, not, map, sym, ap, subst, ◌∙◌, arith}
use Rattle.std.proofs.lemmas.List.{length-map}
use Rattle.regress_engine_insn.specs.InsnViews.{instruction}
use Rattle.regress_engine_code.specs.Standing.{program_of}
use Rattle.regress_engine_input.specs.Views.{direction_of, input_of}
use Rattle.regress_engine_search.specs.StateViews.{marks_of}
use Rattle.regress_engine_search.proofs.InsnLemmas.{direction_of-against, none-ahead, some-ahead}
use Rattle.regress_engine_search.proofs.PlaceLemmas.{can-read, moves, next-place}
use Rattle.regress_engine_advance.proofs.ReadLemmas.{none-is}
use Rattle.regress_engine_advance.proofs.TakenLemmas.{taking-any, taking-ready}
use Rattle.regress_engine_undo.specs.Dead.{GivesFrom}
use Rattle.regress_engine_undo.proofs.DeadLemmas.{gives-same, gives-last, gives-none, gives-over, gives-then, nearer}
use Rattle.regress_engine_attempt.proofs.attempt.Attempt.far_way.Goals as goal

pub returns-in_default-clause-leads : goal.returns-in_default-clause-leads
returns-in_default-clause-leads g c = c.far_lead.ensures.leads

pub places-init : goal.places-init
places-init g c = record { gives = gives-same _ _ c.args.forward c.args.at c.args.near c.args.far; place = c.requires.place }

pub advance-requires-clause-ready : goal.advance-requires-clause-ready
advance-requires-clause-ready g c =
    taking-ready (program_of c.args.self.now.program.now) (g.Input.InputIndexer.view c.args.self.now.input) (instruction c.in-Some.insn.now) (map marks_of c.args.groups.now) c.in_ok-way.way
    c.in-Some.ensures.fits c.in-Some.ensures.takes (length-map c.args.groups.now marks_of ∙ c.requires.groups) c.in_ok-way.ensures.place

pub beside-requires : goal.beside-requires
beside-requires g c =
    can-read (g.Input.InputIndexer.view c.args.self.now.input) (g.met.Input.InputIndexer.are_of_kind c.args.self.now.input) c.in_ok-way.way c.in_ok-way.ensures.place

pub returns-then-not-is_ahead-clause-leads : goal.returns-then-not-is_ahead-clause-leads
returns-then-not-is_ahead-clause-leads g c =
    let program = program_of c.args.self.now.program.now in
    let input = input_of (g.Input.InputIndexer.view c.args.self.now.input) in
    let i = instruction c.in-Some.insn.now in
    let dead = c.in-Some.ensures.dead input c.args.forward c.in_ok-way.way
    (λ gs. none-is _ (sym c.is_some.ensures ∙ c.if-is_some.false) ∙ c.advance.ensures ∙ taking-any program input i (direction_of c.args.forward) (map marks_of c.args.groups.now) gs c.in_ok-way.way c.in-Some.ensures.takes) in
    gives-then program input c.args.forward c.args.at c.args.near c.args.far c.in_ok-way.way None
    (gives-then program input c.args.forward c.args.at c.args.near c.args.far c.places.back (Some c.in_ok-way.way) c.places.invariant.gives c.in_ok-way.ensures.leads)
    (gives-last program input c.args.forward c.args.at c.args.near c.in_ok-way.way dead (none-ahead _ c.if-not-is_ahead.ensures.gap))

pub returns-in_default-beside-clause-leads : goal.returns-in_default-beside-clause-leads
returns-in_default-beside-clause-leads g c =
    let program = program_of c.args.self.now.program.now in
    let input = input_of (g.Input.InputIndexer.view c.args.self.now.input) in
    let i = instruction c.in-Some.insn.now in
    let dead = c.in-Some.ensures.dead input c.args.forward c.in_ok-way.way
    (λ gs. none-is _ (sym c.is_some.ensures ∙ c.if-is_some.false) ∙ c.advance.ensures ∙ taking-any program input i (direction_of c.args.forward) (map marks_of c.args.groups.now) gs c.in_ok-way.way c.in-Some.ensures.takes) in
    gives-then program input c.args.forward c.args.at c.args.near c.args.far c.in_ok-way.way None
    (gives-then program input c.args.forward c.args.at c.args.near c.args.far c.places.back (Some c.in_ok-way.way) c.places.invariant.gives c.in_ok-way.ensures.leads)
    (gives-none program input c.args.forward c.args.at c.args.near c.in_ok-way.way dead
    (ap (λ d. input.next d c.in_ok-way.way) (sym (direction_of-against c.args.forward)) ∙ sym c.in_default-beside.ensures))

pub places-smaller : goal.places-smaller
places-smaller g c =
    let v = g.Input.InputIndexer.view c.args.self.now.input in
    let input = input_of v in
    let less =
    nearer input (moves v) c.args.forward c.args.near c.in_ok-way.way _ c.in-Some-beside.before
    (ap (λ d. input.next d c.in_ok-way.way) (sym (direction_of-against c.args.forward)) ∙ sym c.in-Some-beside.ensures) (some-ahead _ c.if-not-is_ahead.ensures.gap) in
    let low = c.in_ok-way.ensures.nearer in
    omega (arith, less, low)

pub places-preserved : goal.places-preserved
places-preserved g c =
    let program = program_of c.args.self.now.program.now in
    let v = g.Input.InputIndexer.view c.args.self.now.input in
    let all = g.met.Input.InputIndexer.are_of_kind c.args.self.now.input in
    let input = input_of v in
    let i = instruction c.in-Some.insn.now in
    let dead = c.in-Some.ensures.dead input c.args.forward c.in_ok-way.way
    (λ gs. none-is _ (sym c.is_some.ensures ∙ c.if-is_some.false) ∙ c.advance.ensures ∙ taking-any program input i (direction_of c.args.forward) (map marks_of c.args.groups.now) gs c.in_ok-way.way c.in-Some.ensures.takes) in
    record {
      gives = gives-then program input c.args.forward c.args.at c.args.near c.args.far c.in_ok-way.way (Some c.in-Some-beside.before)
          (gives-then program input c.args.forward c.args.at c.args.near c.args.far c.places.back (Some c.in_ok-way.way) c.places.invariant.gives c.in_ok-way.ensures.leads)
          (gives-over program input c.args.forward c.args.at c.args.near c.in_ok-way.way _ c.in-Some-beside.before (moves v) dead (some-ahead _ c.if-not-is_ahead.ensures.gap)
          (ap (λ d. input.next d c.in_ok-way.way) (sym (direction_of-against c.args.forward)) ∙ sym c.in-Some-beside.ensures));
      place = next-place v all (direction_of (not c.args.forward)) c.in_ok-way.way _ c.in-Some-beside.before c.in_ok-way.ensures.place (sym c.in-Some-beside.ensures);
    }

pub returns-in_err-way-clause-leads : goal.returns-in_err-way-clause-leads
returns-in_err-way-clause-leads g c =
    let program = program_of c.args.self.now.program.now in
    let input = input_of (g.Input.InputIndexer.view c.args.self.now.input) in
    subst (GivesFrom program input c.args.forward c.args.at c.args.near c.args.far) (sym c.from_residual.ensures)
    (gives-then program input c.args.forward c.args.at c.args.near c.args.far c.places.back None c.places.invariant.gives c.in_err-way.ensures.leads)

pub returns-then-is_some-clause-leads : goal.returns-then-is_some-clause-leads
returns-then-is_some-clause-leads g c =
    gives-then (program_of c.args.self.now.program.now) (input_of (g.Input.InputIndexer.view c.args.self.now.input)) c.args.forward c.args.at c.args.near c.args.far c.places.back (Some c.in_ok-way.way)
    c.places.invariant.gives c.in_ok-way.ensures.leads
