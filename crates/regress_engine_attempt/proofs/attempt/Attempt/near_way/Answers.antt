use Rattle.std.proofs.Common.{◌-◌, None, Some, inl, inr, map, sym, ◌∙◌, arith, refl}
use Rattle.std.proofs.lemmas.List.{length-map}
use Rattle.regress_engine_insn.specs.InsnViews.{instruction}
use Rattle.regress_engine_code.specs.Standing.{program_of}
use Rattle.regress_engine_input.specs.Views.{direction_of, input_of}
use Rattle.regress_engine_search.specs.StateViews.{marks_of}
use Rattle.regress_engine_search.proofs.ReadyLemmas.{body-asked, body-next}
use Rattle.regress_engine_advance.proofs.ReadLemmas.{none-is}
use Rattle.regress_engine_advance.proofs.TakenLemmas.{taking-any, taking-ready, body-taking}
use Rattle.regress_engine_undo.proofs.DeadLemmas.{takes-same, takes-last, takes-over, takes-then}
use Rattle.regress_engine_attempt.specs.Attempts.{world_of}
use Rattle.regress_engine_trying.proofs.PassedLemmas.{passed-takes, passed-body}
use Rattle.regress_engine_trying.proofs.TakeLemmas.{on-over, over-last, over-one, passed-over}
use Rattle.regress_engine_attempt.proofs.attempt.Attempt.near_way.Goals as goal

pub returns-in_default-clause-leads : goal.returns-in_default-clause-leads
returns-in_default-clause-leads g c = takes-same _ _ c.args.forward c.args.at c.args.offset c.args.left

pub passed_before-near-requires : goal.passed_before-near-requires
passed_before-near-requires g c = record { place = c.requires.body.3; first = c.first_alone-stop.ensures }

pub places-init : goal.places-init
places-init g c =
    let w = world_of c.args.self.now.program.now (g.Input.InputIndexer.view c.args.self.now.input) in
    let i = instruction c.in-Some.insn.now in
    let j = instruction c.instruction-body.result.now in
    let stands = c.instruction-body.ensures.stands in
    let dead = c.in-Some.ensures.dead (input_of w.view) c.args.forward in
    let passed = c.passed_before-near.ensures in
    record {
      takes = passed-takes w c.args.at i j c.args.forward stands dead c.args.left c.args.offset c.passed_before-near.result passed;
      over = passed-over w c.args.at i j c.args.forward stands dead c.args.left c.args.offset c.passed_before-near.result passed;
      body = passed-body w c.args.at i j c.args.forward stands dead (g.met.Input.InputIndexer.are_of_kind c.args.self.now.input) c.requires.suits c.args.left c.args.offset c.passed_before-near.result passed c.requires.body;
    }

pub overflow_sub-at : goal.overflow_sub-at
overflow_sub-at g c = let some = c.requires.body.4 in omega (arith, some)

pub instruction-body-requires : goal.instruction-body-requires
instruction-body-requires g c = (c.requires.body.0, c.requires.body.1)

pub stands-requires-clause-ready : goal.stands-requires-clause-ready
stands-requires-clause-ready g c =
    taking-ready (program_of c.args.self.now.program.now) (g.Input.InputIndexer.view c.args.self.now.input) (instruction c.in-Some.insn.now) (map marks_of c.args.groups.now) c.places.near
    c.in-Some.ensures.fits c.in-Some.ensures.takes (length-map c.args.groups.now marks_of ∙ c.requires.groups) c.places.invariant.body.3

pub once-requires-clause-ready : goal.once-requires-clause-ready
once-requires-clause-ready g c =
    body-asked (g.Input.InputIndexer.view c.args.self.now.input) (g.met.Input.InputIndexer.are_of_kind c.args.self.now.input) (program_of c.args.self.now.program.now) c.requires.suits c.args.at c.places.near
    (instruction c.instruction-body.result.now) (map marks_of c.args.groups.now) c.places.invariant.body c.instruction-body.ensures.stands (length-map c.args.groups.now marks_of ∙ c.requires.groups)

pub returns-then-rest-eq0-clause-leads : goal.returns-then-rest-eq0-clause-leads
returns-then-rest-eq0-clause-leads g c =
    let program = program_of c.args.self.now.program.now in
    let v = g.Input.InputIndexer.view c.args.self.now.input in
    let input = input_of v in
    let i = instruction c.in-Some.insn.now in
    let j = instruction c.instruction-body.result.now in
    let dir = direction_of c.args.forward in
    let groups = map marks_of c.args.groups.now in
    let near = c.places.near in
    let dead = c.in-Some.ensures.dead input c.args.forward near
    (λ gs. none-is _ (sym c.stands.ensures ∙ c.if-stands.false) ∙ taking-any program input i dir groups gs near c.in-Some.ensures.takes) in
    takes-then program input c.args.forward c.args.at c.args.offset c.args.left near c.places.rest None c.places.invariant.takes
    (takes-last program input c.args.forward c.args.at near c.places.rest j c.instruction-body.ensures.stands dead (inl c.if-rest-eq0.true))

pub returns-in_default-once-clause-leads : goal.returns-in_default-once-clause-leads
returns-in_default-once-clause-leads g c =
    let program = program_of c.args.self.now.program.now in
    let v = g.Input.InputIndexer.view c.args.self.now.input in
    let input = input_of v in
    let i = instruction c.in-Some.insn.now in
    let j = instruction c.instruction-body.result.now in
    let dir = direction_of c.args.forward in
    let groups = map marks_of c.args.groups.now in
    let near = c.places.near in
    let dead = c.in-Some.ensures.dead input c.args.forward near
    (λ gs. none-is _ (sym c.stands.ensures ∙ c.if-stands.false) ∙ taking-any program input i dir groups gs near c.in-Some.ensures.takes) in
    takes-then program input c.args.forward c.args.at c.args.offset c.args.left near c.places.rest None c.places.invariant.takes
    (takes-last program input c.args.forward c.args.at near c.places.rest j c.instruction-body.ensures.stands dead
    (inr (λ gs. taking-any program input j dir gs groups near (body-taking program input v c.args.at near j c.places.invariant.body c.instruction-body.ensures.stands) ∙ sym c.in_default-once.ensures)))

pub places-preserved : goal.places-preserved
places-preserved g c =
    let program = program_of c.args.self.now.program.now in
    let v = g.Input.InputIndexer.view c.args.self.now.input in
    let input = input_of v in
    let i = instruction c.in-Some.insn.now in
    let j = instruction c.instruction-body.result.now in
    let dir = direction_of c.args.forward in
    let groups = map marks_of c.args.groups.now in
    let near = c.places.near in
    let dead = c.in-Some.ensures.dead input c.args.forward near
    (λ gs. none-is _ (sym c.stands.ensures ∙ c.if-stands.false) ∙ taking-any program input i dir groups gs near c.in-Some.ensures.takes) in
    record {
      over = inr (on-over program input c.args.forward c.args.at c.args.offset c.args.left near c.places.rest (Some (c.in-Some-once.next, c.places.rest - 1)) c.places.invariant.takes
          (over-one program input c.args.forward c.args.at near c.places.rest c.in-Some-once.next j c.instruction-body.ensures.stands dead c.if-rest-eq0.false
          (λ gs. taking-any program input j dir gs groups near (body-taking program input v c.args.at near j c.places.invariant.body c.instruction-body.ensures.stands) ∙ sym c.in-Some-once.ensures)));
      takes = takes-then program input c.args.forward c.args.at c.args.offset c.args.left near c.places.rest (Some (c.in-Some-once.next, c.places.rest - 1)) c.places.invariant.takes
          (takes-over program input c.args.forward c.args.at near c.places.rest c.in-Some-once.next j c.instruction-body.ensures.stands dead c.if-rest-eq0.false
          (λ gs. taking-any program input j dir gs groups near (body-taking program input v c.args.at near j c.places.invariant.body c.instruction-body.ensures.stands) ∙ sym c.in-Some-once.ensures));
      body = body-next v (g.met.Input.InputIndexer.are_of_kind c.args.self.now.input) program c.requires.suits c.args.at near c.in-Some-once.next j dir groups
          c.places.invariant.body c.instruction-body.ensures.stands (sym c.in-Some-once.ensures);
    }

pub returns-then-rest-eq0-clause-over : goal.returns-then-rest-eq0-clause-over
returns-then-rest-eq0-clause-over g c =
    let program = program_of c.args.self.now.program.now in
    let v = g.Input.InputIndexer.view c.args.self.now.input in
    let input = input_of v in
    let i = instruction c.in-Some.insn.now in
    let j = instruction c.instruction-body.result.now in
    let dir = direction_of c.args.forward in
    let groups = map marks_of c.args.groups.now in
    let near = c.places.near in
    let dead = c.in-Some.ensures.dead input c.args.forward near
    (λ gs. none-is _ (sym c.stands.ensures ∙ c.if-stands.false) ∙ taking-any program input i dir groups gs near c.in-Some.ensures.takes) in
    inr (on-over program input c.args.forward c.args.at c.args.offset c.args.left near c.places.rest None c.places.invariant.takes
    (over-last program input c.args.forward c.args.at near c.places.rest j c.instruction-body.ensures.stands dead (inl c.if-rest-eq0.true)))

pub returns-in_default-once-clause-over : goal.returns-in_default-once-clause-over
returns-in_default-once-clause-over g c =
    let program = program_of c.args.self.now.program.now in
    let v = g.Input.InputIndexer.view c.args.self.now.input in
    let input = input_of v in
    let i = instruction c.in-Some.insn.now in
    let j = instruction c.instruction-body.result.now in
    let dir = direction_of c.args.forward in
    let groups = map marks_of c.args.groups.now in
    let near = c.places.near in
    let dead = c.in-Some.ensures.dead input c.args.forward near
    (λ gs. none-is _ (sym c.stands.ensures ∙ c.if-stands.false) ∙ taking-any program input i dir groups gs near c.in-Some.ensures.takes) in
    inr (on-over program input c.args.forward c.args.at c.args.offset c.args.left near c.places.rest None c.places.invariant.takes
    (over-last program input c.args.forward c.args.at near c.places.rest j c.instruction-body.ensures.stands dead
    (inr (λ gs. taking-any program input j dir gs groups near (body-taking program input v c.args.at near j c.places.invariant.body c.instruction-body.ensures.stands) ∙ sym c.in_default-once.ensures))))

pub returns-in_default-clause-over : goal.returns-in_default-clause-over
returns-in_default-clause-over g c = inl refl

pub returns-then-stands-clause-over : goal.returns-then-stands-clause-over
returns-then-stands-clause-over g c = c.places.invariant.over
