use Rattle.std.proofs.Common.{◌≡◌, [], length, Some, None, sym, ap, subst, ◌∙◌, arith}
use Rattle.regress_meaning.specs.Meaning.{Forward}
use Rattle.regress_meaning.specs.Steps.{only_if}
use Rattle.regress_engine_insn.specs.declared.insn.Insn.TheVariants.{Goal}
use Rattle.regress_engine_code.specs.Standing.{program_of}
use Rattle.regress_engine_input.specs.Views.{reading_of}
use Rattle.regress_engine_runs.specs.Meets.{IsAtPlace}
use Rattle.regress_engine_search.proofs.PlaceLemmas.{can-read}
use Rattle.regress_engine_singles.proofs.LeadingLemmas.{class-fits, class-place, class-takes}
use Rattle.regress_engine_advance.proofs.ReadLemmas.{stands-read}
use Rattle.regress_engine_advance.proofs.FarLemmas.{far-place}
use Rattle.regress_engine_leading.proofs.RepeatLemmas.{differs-behind, passes-repeated}
use Rattle.regress_engine_leading.proofs.repeated.passed_repeated.Goals as goal

pub class_ahead-requires : goal.class_ahead-requires
class_ahead-requires g c =
    let program = program_of c.args.program.now in
    let v = g.Input.InputIndexer.view c.args.input.now in
    let all = g.met.Input.InputIndexer.are_of_kind c.args.input.now in
    let insns = c.args.program.now.insns.items in
    let size = c.in_ok-asked.ensures.size in
    let same = ap length c.insns-insns.ensures in
    let shape = c.in_ok-asked.ensures.asked.1 in
    let at2 = stands-read c.insns-insns.result.now insns 2 Goal c.insns-insns.ensures (omega (arith, size, same)) in
    record {
      class = shape.first _ at2;
      fits = class-fits program 2 _ (shape.first _ at2) (c.requires.suits.closed 2 _ at2);
      place = can-read v all c.args.start c.requires.place;
    }

pub as_far_ahead-requires : goal.as_far_ahead-requires
as_far_ahead-requires g c =
    let program = program_of c.args.program.now in
    let v = g.Input.InputIndexer.view c.args.input.now in
    let all = g.met.Input.InputIndexer.are_of_kind c.args.input.now in
    let insns = c.args.program.now.insns.items in
    let size = c.in_ok-asked.ensures.size in
    let same = ap length c.insns-insns.ensures in
    let shape = c.in_ok-asked.ensures.asked.1 in
    let at2 = stands-read c.insns-insns.result.now insns 2 Goal c.insns-insns.ensures (omega (arith, size, same)) in
    let at4 = stands-read c.insns-insns.result.now insns 4 Goal c.insns-insns.ensures (omega (arith, size, same)) in
    let inside = class-place program v all _ (shape.first _ at2) c.args.start c.in_ok-near.near c.requires.place (sym (c.class_ahead.ensures []) ∙ c.in_ok-near.was) in
    record {
      fits = class-fits program 4 _ (shape.body _ at4) (c.requires.suits.closed 4 _ at4);
      place = can-read v all c.in_ok-near.near inside;
    }

pub class_ahead-requires-2 : goal.class_ahead-requires-2
class_ahead-requires-2 g c =
    let program = program_of c.args.program.now in
    let v = g.Input.InputIndexer.view c.args.input.now in
    let all = g.met.Input.InputIndexer.are_of_kind c.args.input.now in
    let insns = c.args.program.now.insns.items in
    let size = c.in_ok-asked.ensures.size in
    let same = ap length c.insns-insns.ensures in
    let shape = c.in_ok-asked.ensures.asked.1 in
    let at2 = stands-read c.insns-insns.result.now insns 2 Goal c.insns-insns.ensures (omega (arith, size, same)) in
    let at4 = stands-read c.insns-insns.result.now insns 4 Goal c.insns-insns.ensures (omega (arith, size, same)) in
    let at6 = stands-read c.insns-insns.result.now insns 6 Goal c.insns-insns.ensures (omega (arith, size, same)) in
    let inside = class-place program v all _ (shape.first _ at2) c.args.start c.in_ok-near.near c.requires.place (sym (c.class_ahead.ensures []) ∙ c.in_ok-near.was) in
    let far_place = subst (IsAtPlace (reading_of v)) (sym (c.in_ok-far.ensures [])) (far-place program v all c.requires.suits 5 _ at4 Forward [] _ c.in_ok-near.near (_, at4, class-takes _ (shape.body _ at4), inside, omega arith)) in
    record {
      class = shape.second _ at6;
      fits = class-fits program 6 _ (shape.second _ at6) (c.requires.suits.closed 6 _ at6);
      place = can-read v all c.in_ok-far.far far_place;
    }

pub exits_differ-requires : goal.exits_differ-requires
exits_differ-requires g c =
    let program = program_of c.args.program.now in
    let v = g.Input.InputIndexer.view c.args.input.now in
    let all = g.met.Input.InputIndexer.are_of_kind c.args.input.now in
    let insns = c.args.program.now.insns.items in
    let size = c.in_ok-asked.ensures.size in
    let same = ap length c.insns-insns.ensures in
    let shape = c.in_ok-asked.ensures.asked.1 in
    let at2 = stands-read c.insns-insns.result.now insns 2 Goal c.insns-insns.ensures (omega (arith, size, same)) in
    let at4 = stands-read c.insns-insns.result.now insns 4 Goal c.insns-insns.ensures (omega (arith, size, same)) in
    let at6 = stands-read c.insns-insns.result.now insns 6 Goal c.insns-insns.ensures (omega (arith, size, same)) in
    let at8 = stands-read c.insns-insns.result.now insns 8 Goal c.insns-insns.ensures (omega (arith, size, same)) in
    let inside = class-place program v all _ (shape.first _ at2) c.args.start c.in_ok-near.near c.requires.place (sym (c.class_ahead.ensures []) ∙ c.in_ok-near.was) in
    let far_place = subst (IsAtPlace (reading_of v)) (sym (c.in_ok-far.ensures [])) (far-place program v all c.requires.suits 5 _ at4 Forward [] _ c.in_ok-near.near (_, at4, class-takes _ (shape.body _ at4), inside, omega arith)) in
    record {
      suits = c.requires.suits;
      class = shape.other _ at8;
      fits = class-fits program 8 _ (shape.other _ at8) (c.requires.suits.closed 8 _ at8);
      place = class-place program v all _ (shape.second _ at6) c.in_ok-far.far c.in-Some.behind far_place (sym (c.class_ahead-2.ensures []) ∙ c.in-Some.is);
    }

pub returns-in-None : goal.returns-in-None
returns-in-None g c =
    let program = program_of c.args.program.now in
    let v = g.Input.InputIndexer.view c.args.input.now in
    let all = g.met.Input.InputIndexer.are_of_kind c.args.input.now in
    let insns = c.args.program.now.insns.items in
    let size = c.in_ok-asked.ensures.size in
    let same = ap length c.insns-insns.ensures in
    let shape = c.in_ok-asked.ensures.asked.1 in
    let at2 = stands-read c.insns-insns.result.now insns 2 Goal c.insns-insns.ensures (omega (arith, size, same)) in
    let at4 = stands-read c.insns-insns.result.now insns 4 Goal c.insns-insns.ensures (omega (arith, size, same)) in
    let at6 = stands-read c.insns-insns.result.now insns 6 Goal c.insns-insns.ensures (omega (arith, size, same)) in
    let at8 = stands-read c.insns-insns.result.now insns 8 Goal c.insns-insns.ensures (omega (arith, size, same)) in
    let inside = class-place program v all _ (shape.first _ at2) c.args.start c.in_ok-near.near c.requires.place (sym (c.class_ahead.ensures []) ∙ c.in_ok-near.was) in
    let far_place = subst (IsAtPlace (reading_of v)) (sym (c.in_ok-far.ensures [])) (far-place program v all c.requires.suits 5 _ at4 Forward [] _ c.in_ok-near.near (_, at4, class-takes _ (shape.body _ at4), inside, omega arith)) in
    passes-repeated program v all c.requires.suits _ _ _ shape _ _ _ _ at2 at4 at6 at8 c.args.start c.in_ok-near.near c.in_ok-far.far c.requires.place
    (λ groups. sym (c.class_ahead.ensures groups) ∙ c.in_ok-near.was) (λ groups. sym (c.in_ok-far.ensures groups)) far_place
    (c.is_possessive.ensures v all c.requires.suits c.if-not-is_possessive.false _ at4 (class-takes _ (shape.body _ at4)))
    (λ q groups found. let no : None ≡ Some q = sym c.in-None.is ∙ c.class_ahead-2.ensures groups ∙ found in absurd (cc no))
    c.requires.first (λ groups. ap (λ b. only_if b c.args.start) c.requires.edge)

pub returns-else-not-exits_differ : goal.returns-else-not-exits_differ
returns-else-not-exits_differ g c =
    let program = program_of c.args.program.now in
    let v = g.Input.InputIndexer.view c.args.input.now in
    let all = g.met.Input.InputIndexer.are_of_kind c.args.input.now in
    let insns = c.args.program.now.insns.items in
    let size = c.in_ok-asked.ensures.size in
    let same = ap length c.insns-insns.ensures in
    let shape = c.in_ok-asked.ensures.asked.1 in
    let at2 = stands-read c.insns-insns.result.now insns 2 Goal c.insns-insns.ensures (omega (arith, size, same)) in
    let at4 = stands-read c.insns-insns.result.now insns 4 Goal c.insns-insns.ensures (omega (arith, size, same)) in
    let at6 = stands-read c.insns-insns.result.now insns 6 Goal c.insns-insns.ensures (omega (arith, size, same)) in
    let at8 = stands-read c.insns-insns.result.now insns 8 Goal c.insns-insns.ensures (omega (arith, size, same)) in
    let inside = class-place program v all _ (shape.first _ at2) c.args.start c.in_ok-near.near c.requires.place (sym (c.class_ahead.ensures []) ∙ c.in_ok-near.was) in
    let far_place = subst (IsAtPlace (reading_of v)) (sym (c.in_ok-far.ensures [])) (far-place program v all c.requires.suits 5 _ at4 Forward [] _ c.in_ok-near.near (_, at4, class-takes _ (shape.body _ at4), inside, omega arith)) in
    let behind = c.in-Some.behind in
    let behind_place = class-place program v all _ (shape.second _ at6) c.in_ok-far.far behind far_place (sym (c.class_ahead-2.ensures []) ∙ c.in-Some.is) in
    passes-repeated program v all c.requires.suits _ _ _ shape _ _ _ _ at2 at4 at6 at8 c.args.start c.in_ok-near.near c.in_ok-far.far c.requires.place
    (λ groups. sym (c.class_ahead.ensures groups) ∙ c.in_ok-near.was) (λ groups. sym (c.in_ok-far.ensures groups)) far_place
    (c.is_possessive.ensures v all c.requires.suits c.if-not-is_possessive.false _ at4 (class-takes _ (shape.body _ at4)))
    (differs-behind program v _ _ c.args.start _ c.in_ok-far.far behind (λ groups. sym c.in-Some.is ∙ c.class_ahead-2.ensures groups) behind_place (c.exits_differ.ensures c.if-not-exits_differ.false))
    c.requires.first (λ groups. ap (λ b. only_if b c.args.start) c.requires.edge)
