use Rattle.std.proofs.Common.{◌≡◌, ℕ, ◌+◌, ◌-◌, Bool, true, [], sym, ◌∙◌, subst, arith}
use Rattle.regress_meaning.specs.Meaning.{Forward}
use Rattle.regress_engine_insn.specs.Instructions.{Instruction, Program, Stands}
use Rattle.regress_engine_insn.specs.Instructions as code
use Rattle.regress_engine_insn.specs.declared.insn.Insn.TheVariants.{Goal}
use Rattle.regress_engine_code.specs.Standing.{program_of}
use Rattle.regress_engine_input.specs.Views.{reading_of}
use Rattle.regress_engine_runs.specs.Meets.{IsAtPlace}
use Rattle.regress_engine_search.proofs.InsnLemmas.{stands-as}
use Rattle.regress_engine_search.proofs.PlaceLemmas.{can-read}
use Rattle.regress_engine_singles.proofs.LeadingLemmas.{class-fits, class-takes}
use Rattle.regress_engine_advance.proofs.ReadLemmas.{stands-read}
use Rattle.regress_engine_advance.proofs.FarLemmas.{far-place}
use Rattle.regress_engine_leading.specs.Exits.{ComesTo, IsLoop}
use Rattle.regress_engine_leading.proofs.ways.dead_end.Goals as goal

-- what the loop is
loop-is : (program : Program) (at least most : ℕ) (greedy : Bool) → Stands program at (code.single_loop least most greedy) → least ≡ 0 → greedy ≡ true → Stands program at (code.single_loop 0 most true)
loop-is program at least most greedy here none is =
    subst (λ b. Stands program at (code.single_loop 0 most b)) is (subst (λ n. Stands program at (code.single_loop n most greedy)) none here)

-- the address of its class, told otherwise
class-before : (program : Program) (at : ℕ) (j : Instruction) → Stands program (at + 1) j → Stands program (at + 2 - 1) j
class-before program at j here = let e : at + 1 ≡ at + 2 - 1 = omega arith in subst (λ a. Stands program a j) e here

pub as_far_ahead-requires-clause-fits : goal.as_far_ahead-requires-clause-fits
as_far_ahead-requires-clause-fits g c =
    let program = program_of c.args.program.now in
    let within = c.if-at-insns-2.false in
    let body = stands-read c.insns-insns.result.now c.args.program.now.insns.items (c.args.at + 1) Goal c.insns-insns.ensures within in
    class-fits program (c.args.at + 1) _ (sym c.is_class.ensures ∙ c.if-not-is_class.false) (c.requires.suits.closed (c.args.at + 1) _ body)

pub as_far_ahead-requires-clause-place : goal.as_far_ahead-requires-clause-place
as_far_ahead-requires-clause-place g c =
    can-read (g.Input.InputIndexer.view c.args.input.now) (g.met.Input.InputIndexer.are_of_kind c.args.input.now) c.args.near c.requires.place

pub stops-requires : goal.stops-requires
stops-requires g c =
    let program = program_of c.args.program.now in
    let v = g.Input.InputIndexer.view c.args.input.now in
    let all = g.met.Input.InputIndexer.are_of_kind c.args.input.now in
    let within = c.if-at-insns-2.false in
    let body = stands-read c.insns-insns.result.now c.args.program.now.insns.items (c.args.at + 1) Goal c.insns-insns.ensures within in
    let class = sym c.is_class.ensures ∙ c.if-not-is_class.false in
    let before = class-before program c.args.at _ body in
    let far_place = subst (IsAtPlace (reading_of v)) (sym (c.in_ok-far.ensures [])) (far-place program v all c.requires.suits (c.args.at + 2) _ before Forward [] _ c.args.near (_, before, class-takes _ class, c.requires.place, omega arith)) in
    record {
      class = class;
      fits = class-fits program (c.args.at + 1) _ class (c.requires.suits.closed (c.args.at + 1) _ body);
      near = can-read v all c.args.near c.requires.place;
      far = can-read v all c.in_ok-far.far far_place;
    }

pub returns : goal.returns
returns g c =
    let program = program_of c.args.program.now in
    let v = g.Input.InputIndexer.view c.args.input.now in
    let within = c.if-at-insns-2.false in
    let insns = c.args.program.now.insns.items in
    let body = stands-read c.insns-insns.result.now insns (c.args.at + 1) Goal c.insns-insns.ensures within in
    let class = sym c.is_class.ensures ∙ c.if-not-is_class.false in
    let loop = stands-as program c.args.at _ _ c.in-Loop1CharBody.is (stands-read c.insns-insns.result.now insns c.args.at Goal c.insns-insns.ensures c.if-at-insns.false) in
    let few = c.if-min_iters-gt0.false in
    let around : IsLoop program c.args.at c.in-Loop1CharBody.max_iters _ = record {
      here = loop-is program c.args.at _ _ _ loop (omega (arith, few)) c.if-not-greedy.false;
      body = body;
      class = class;
    } in
    let comes : ComesTo program v _ c.in-Loop1CharBody.max_iters c.args.near c.in_ok-far.far = λ groups. sym (c.in_ok-far.ensures groups) in
    let stops = c.stops.ensures c.if-not-stops.false comes in
    record {
      most = c.in-Loop1CharBody.max_iters;
      class = _;
      loop = around;
      stops = stops;
      ends = c.exits_fail.ensures c.if-not-exits_fail.false c.in-Loop1CharBody.max_iters _ around stops comes;
    }
