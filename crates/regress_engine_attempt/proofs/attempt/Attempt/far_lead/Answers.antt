use Rattle.std.proofs.Common.{None, Some, not, refl, sym, ap, ◌∙◌, arith}
use Rattle.regress_engine_code.specs.Standing.{program_of}
use Rattle.regress_engine_input.specs.Views.{direction_of, input_of}
use Rattle.regress_engine_search.proofs.InsnLemmas.{direction_of-against, none-ahead, some-ahead}
use Rattle.regress_engine_search.proofs.PlaceLemmas.{can-read, moves, next-place}
use Rattle.regress_engine_undo.proofs.DeadLemmas.{gives-same, gives-last, gives-none, gives-over, gives-then, nearer}
use Rattle.regress_engine_attempt.proofs.attempt.Attempt.far_lead.Goals as goal

pub places-init : goal.places-init
places-init g c = record { gives = gives-same _ _ c.args.forward c.args.at c.args.near c.args.far; nearer = omega arith; place = c.requires.place }

pub beside-requires : goal.beside-requires
beside-requires g c =
    can-read (g.Input.InputIndexer.view c.args.self.now.input) (g.met.Input.InputIndexer.are_of_kind c.args.self.now.input) c.places.back c.places.invariant.place

pub returns-then-not-is_ahead-clause-leads : goal.returns-then-not-is_ahead-clause-leads
returns-then-not-is_ahead-clause-leads g c =
    let program = program_of c.args.self.now.program.now in
    let input = input_of (g.Input.InputIndexer.view c.args.self.now.input) in
    gives-then program input c.args.forward c.args.at c.args.near c.args.far c.places.back None c.places.invariant.gives
    (gives-last program input c.args.forward c.args.at c.args.near c.places.back (c.if-not-is_dead.ensures refl) (none-ahead _ c.if-not-is_ahead.ensures.gap))

pub returns-in_default-clause-leads : goal.returns-in_default-clause-leads
returns-in_default-clause-leads g c =
    let program = program_of c.args.self.now.program.now in
    let input = input_of (g.Input.InputIndexer.view c.args.self.now.input) in
    gives-then program input c.args.forward c.args.at c.args.near c.args.far c.places.back None c.places.invariant.gives
    (gives-none program input c.args.forward c.args.at c.args.near c.places.back (c.if-not-is_dead.ensures refl)
    (ap (λ d. input.next d c.places.back) (sym (direction_of-against c.args.forward)) ∙ sym c.in_default.ensures))

pub places-smaller : goal.places-smaller
places-smaller g c =
    let v = g.Input.InputIndexer.view c.args.self.now.input in
    let input = input_of v in
    nearer input (moves v) c.args.forward c.args.near c.places.back _ c.in-Some.before
    (ap (λ d. input.next d c.places.back) (sym (direction_of-against c.args.forward)) ∙ sym c.in-Some.ensures) (some-ahead _ c.if-not-is_ahead.ensures.gap)

pub places-preserved : goal.places-preserved
places-preserved g c =
    let program = program_of c.args.self.now.program.now in
    let v = g.Input.InputIndexer.view c.args.self.now.input in
    let all = g.met.Input.InputIndexer.are_of_kind c.args.self.now.input in
    let input = input_of v in
    let before = ap (λ d. input.next d c.places.back) (sym (direction_of-against c.args.forward)) ∙ sym c.in-Some.ensures in
    let ahead = some-ahead _ c.if-not-is_ahead.ensures.gap in
    let less = nearer input (moves v) c.args.forward c.args.near c.places.back _ c.in-Some.before before ahead in
    let low = c.places.invariant.nearer in
    record {
      gives = gives-then program input c.args.forward c.args.at c.args.near c.args.far c.places.back (Some c.in-Some.before) c.places.invariant.gives
          (gives-over program input c.args.forward c.args.at c.args.near c.places.back _ c.in-Some.before (moves v) (c.if-not-is_dead.ensures refl) ahead before);
      nearer = omega (arith, less, low);
      place = next-place v all (direction_of (not c.args.forward)) c.places.back _ c.in-Some.before c.places.invariant.place (sym c.in-Some.ensures);
    }
