use Rattle.std.proofs.Common.{◌≡◌, ℕ, ◌+◌, ◌-◌, Bool, true, [], sym, ◌∙◌, subst, arith}
use Rattle.regress_meaning.specs.Meaning.{Forward}
use Rattle.regress_engine_insn.specs.Instructions.{Instruction, Program, Stands}
use Rattle.regress_engine_insn.specs.Instructions as code
use Rattle.regress_engine_code.specs.Standing.{program_of}
use Rattle.regress_engine_input.specs.Views.{View, input_of, reading_of}
use Rattle.regress_engine_runs.specs.Meets.{IsAtPlace}
use Rattle.regress_engine_insn.specs.declared.insn.Insn.TheVariants.{Goal}
use Rattle.regress_engine_search.proofs.InsnLemmas.{stands-as}
use Rattle.regress_engine_search.proofs.PlaceLemmas.{can-read}
use Rattle.regress_engine_singles.specs.Failing.{IsDead}
use Rattle.regress_engine_singles.proofs.LeadingLemmas.{class-fits, class-next, class-place, class-takes, one-dead}
use Rattle.regress_engine_advance.proofs.ReadLemmas.{none-is, stands-read}
use Rattle.regress_engine_advance.proofs.FarLemmas.{far-place}
use Rattle.regress_engine_leading.specs.Exits.{IsLoop}
use Rattle.regress_engine_leading.proofs.RunLemmas.{class-one, passes-over, possessive-ends}
use Rattle.regress_engine_leading.proofs.leading.passed_from.Goals as goal

-- the address of the loop's body, told otherwise
body-before : (program : Program) (at : ℕ) (j : Instruction) → Stands program (at + 2) j → Stands program (at + 3 - 1) j
body-before program at j here = let e : at + 2 ≡ at + 3 - 1 = omega arith in subst (λ a. Stands program a j) e here

-- and once more
body-behind : (program : Program) (at : ℕ) (j : Instruction) → Stands program (at + 2) j → Stands program (at + 1 + 1) j
body-behind program at j here = let e : at + 2 ≡ at + 1 + 1 = omega arith in subst (λ a. Stands program a j) e here

-- and what is behind it
dead-behind : (program : Program) (v : View) (at o : ℕ) → IsDead program (input_of v) Forward (at + 3) o → IsDead program (input_of v) Forward (at + 1 + 2) o
dead-behind program v at o dead = let e : at + 3 ≡ at + 1 + 2 = omega arith in subst (λ a. IsDead program (input_of v) Forward a o) e dead

-- what the loop is
loop-is : (program : Program) (at least most : ℕ) (greedy : Bool) → Stands program at (code.single_loop least most greedy) → least ≡ 0 → greedy ≡ true → Stands program at (code.single_loop 0 most true)
loop-is program at least most greedy here none is =
    subst (λ b. Stands program at (code.single_loop 0 most b)) is (subst (λ n. Stands program at (code.single_loop n most greedy)) none here)

pub class_ahead-requires-clause-fits : goal.class_ahead-requires-clause-fits
class_ahead-requires-clause-fits g c =
    let program = program_of c.args.program.now in
    let v = g.Input.InputIndexer.view c.args.input.now in
    let all = g.met.Input.InputIndexer.are_of_kind c.args.input.now in
    let within = c.if-at-insns.false in
    let first = stands-read c.insns-insns.result.now c.args.program.now.insns.items c.args.at Goal c.insns-insns.ensures (omega (arith, within)) in
    let body = stands-read c.insns-insns.result.now c.args.program.now.insns.items (c.args.at + 2) Goal c.insns-insns.ensures (omega (arith, within)) in
    let first_class = sym c.is_class.ensures ∙ c.if-not-is_class.false in
    let body_class = sym c.is_class-else-not-is_class.ensures ∙ c.if-not-is_class-2.false in
    class-fits program c.args.at _ first_class (c.requires.suits.closed c.args.at _ first)

pub class_ahead-requires-clause-place : goal.class_ahead-requires-clause-place
class_ahead-requires-clause-place g c =
    can-read (g.Input.InputIndexer.view c.args.input.now) (g.met.Input.InputIndexer.are_of_kind c.args.input.now) c.args.start c.requires.place

pub as_far_ahead-requires-clause-fits : goal.as_far_ahead-requires-clause-fits
as_far_ahead-requires-clause-fits g c =
    let program = program_of c.args.program.now in
    let v = g.Input.InputIndexer.view c.args.input.now in
    let all = g.met.Input.InputIndexer.are_of_kind c.args.input.now in
    let within = c.if-at-insns.false in
    let first = stands-read c.insns-insns.result.now c.args.program.now.insns.items c.args.at Goal c.insns-insns.ensures (omega (arith, within)) in
    let body = stands-read c.insns-insns.result.now c.args.program.now.insns.items (c.args.at + 2) Goal c.insns-insns.ensures (omega (arith, within)) in
    let first_class = sym c.is_class.ensures ∙ c.if-not-is_class.false in
    let body_class = sym c.is_class-else-not-is_class.ensures ∙ c.if-not-is_class-2.false in
    class-fits program (c.args.at + 2) _ body_class (c.requires.suits.closed (c.args.at + 2) _ body)

pub as_far_ahead-requires-clause-place : goal.as_far_ahead-requires-clause-place
as_far_ahead-requires-clause-place g c =
    let program = program_of c.args.program.now in
    let v = g.Input.InputIndexer.view c.args.input.now in
    let all = g.met.Input.InputIndexer.are_of_kind c.args.input.now in
    let within = c.if-at-insns.false in
    let first = stands-read c.insns-insns.result.now c.args.program.now.insns.items c.args.at Goal c.insns-insns.ensures (omega (arith, within)) in
    let body = stands-read c.insns-insns.result.now c.args.program.now.insns.items (c.args.at + 2) Goal c.insns-insns.ensures (omega (arith, within)) in
    let first_class = sym c.is_class.ensures ∙ c.if-not-is_class.false in
    let body_class = sym c.is_class-else-not-is_class.ensures ∙ c.if-not-is_class-2.false in
    let inside = class-place program v all _ first_class c.args.start c.in_ok-near.near c.requires.place (sym (c.class_ahead.ensures []) ∙ c.in_ok-near.was) in
    can-read v all c.in_ok-near.near inside

pub class_ahead-requires-2-clause-fits : goal.class_ahead-requires-2-clause-fits
class_ahead-requires-2-clause-fits g c =
    let program = program_of c.args.program.now in
    let v = g.Input.InputIndexer.view c.args.input.now in
    let all = g.met.Input.InputIndexer.are_of_kind c.args.input.now in
    let within = c.if-at-insns.false in
    let first = stands-read c.insns-insns.result.now c.args.program.now.insns.items c.args.at Goal c.insns-insns.ensures (omega (arith, within)) in
    let body = stands-read c.insns-insns.result.now c.args.program.now.insns.items (c.args.at + 2) Goal c.insns-insns.ensures (omega (arith, within)) in
    let first_class = sym c.is_class.ensures ∙ c.if-not-is_class.false in
    let body_class = sym c.is_class-else-not-is_class.ensures ∙ c.if-not-is_class-2.false in
    class-fits program (c.args.at + 2) _ body_class (c.requires.suits.closed (c.args.at + 2) _ body)

pub class_ahead-requires-2-clause-place : goal.class_ahead-requires-2-clause-place
class_ahead-requires-2-clause-place g c =
    let program = program_of c.args.program.now in
    let v = g.Input.InputIndexer.view c.args.input.now in
    let all = g.met.Input.InputIndexer.are_of_kind c.args.input.now in
    let within = c.if-at-insns.false in
    let first = stands-read c.insns-insns.result.now c.args.program.now.insns.items c.args.at Goal c.insns-insns.ensures (omega (arith, within)) in
    let body = stands-read c.insns-insns.result.now c.args.program.now.insns.items (c.args.at + 2) Goal c.insns-insns.ensures (omega (arith, within)) in
    let first_class = sym c.is_class.ensures ∙ c.if-not-is_class.false in
    let body_class = sym c.is_class-else-not-is_class.ensures ∙ c.if-not-is_class-2.false in
    let inside = class-place program v all _ first_class c.args.start c.in_ok-near.near c.requires.place (sym (c.class_ahead.ensures []) ∙ c.in_ok-near.was) in
    let before = body-before program c.args.at _ body in
    let goes = c.in_ok-far.ensures in
    let far_place = subst (IsAtPlace (reading_of v)) (sym (goes [])) (far-place program v all c.requires.suits (c.args.at + 3) _ before Forward [] _ c.in_ok-near.near (_, before, class-takes _ body_class, inside, omega arith)) in
    can-read v all c.in_ok-far.far far_place

pub fails-requires-clause-place : goal.fails-requires-clause-place
fails-requires-clause-place g c =
    let program = program_of c.args.program.now in
    let v = g.Input.InputIndexer.view c.args.input.now in
    let all = g.met.Input.InputIndexer.are_of_kind c.args.input.now in
    let within = c.if-at-insns.false in
    let first = stands-read c.insns-insns.result.now c.args.program.now.insns.items c.args.at Goal c.insns-insns.ensures (omega (arith, within)) in
    let body = stands-read c.insns-insns.result.now c.args.program.now.insns.items (c.args.at + 2) Goal c.insns-insns.ensures (omega (arith, within)) in
    let first_class = sym c.is_class.ensures ∙ c.if-not-is_class.false in
    let body_class = sym c.is_class-else-not-is_class.ensures ∙ c.if-not-is_class-2.false in
    let inside = class-place program v all _ first_class c.args.start c.in_ok-near.near c.requires.place (sym (c.class_ahead.ensures []) ∙ c.in_ok-near.was) in
    let before = body-before program c.args.at _ body in
    let goes = c.in_ok-far.ensures in
    let far_place = subst (IsAtPlace (reading_of v)) (sym (goes [])) (far-place program v all c.requires.suits (c.args.at + 3) _ before Forward [] _ c.in_ok-near.near (_, before, class-takes _ body_class, inside, omega arith)) in
    far_place

pub returns : goal.returns
returns g c = λ lead.
    let program = program_of c.args.program.now in
    let v = g.Input.InputIndexer.view c.args.input.now in
    let all = g.met.Input.InputIndexer.are_of_kind c.args.input.now in
    let within = c.if-at-insns.false in
    let first = stands-read c.insns-insns.result.now c.args.program.now.insns.items c.args.at Goal c.insns-insns.ensures (omega (arith, within)) in
    let body = stands-read c.insns-insns.result.now c.args.program.now.insns.items (c.args.at + 2) Goal c.insns-insns.ensures (omega (arith, within)) in
    let first_class = sym c.is_class.ensures ∙ c.if-not-is_class.false in
    let body_class = sym c.is_class-else-not-is_class.ensures ∙ c.if-not-is_class-2.false in
    let inside = class-place program v all _ first_class c.args.start c.in_ok-near.near c.requires.place (sym (c.class_ahead.ensures []) ∙ c.in_ok-near.was) in
    let loop = stands-as program (c.args.at + 1) _ _ c.in-Loop1CharBody.is (stands-read c.insns-insns.result.now c.args.program.now.insns.items (c.args.at + 1) Goal c.insns-insns.ensures (omega (arith, within))) in
    let few = c.if-min_iters-gt0.false in
    let spares = c.is_possessive.ensures v all c.requires.suits c.if-not-is_possessive.false _ (body-behind program c.args.at _ body) (class-takes _ body_class) in
    let most = c.in-Loop1CharBody.max_iters in
    let far = c.in_ok-far.far in
    let near = c.in_ok-near.near in
    let around : IsLoop program (c.args.at + 1) most _ = record {
      here = loop-is program (c.args.at + 1) _ _ _ loop (omega (arith, few)) c.if-not-greedy.false;
      body = body-behind program c.args.at _ body;
      class = body_class;
    } in
    let (ch, next) = class-next program v _ first_class [] c.args.start near (sym (c.class_ahead.ensures []) ∙ c.in_ok-near.was) in
    passes-over program v all c.requires.suits (c.args.at + 1) most far _ around
    (λ groups. none-is _ (sym c.is_some.ensures ∙ c.if-is_some.false) ∙ c.class_ahead-2.ensures groups)
    (λ o d q also dead. lead o (one-dead program v c.args.at _ first (class-one _ first_class) o d q also dead))
    c.args.start ch near c.requires.place next
    (possessive-ends program v all c.requires.suits (c.args.at + 1) most near far _ around inside spares
    (dead-behind program v c.args.at far (c.fails.ensures c.if-not-fails.false)) (λ groups. sym (c.in_ok-far.ensures groups)))
