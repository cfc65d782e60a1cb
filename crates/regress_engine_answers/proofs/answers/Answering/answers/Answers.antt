use Rattle.std.proofs.Common.{◌*◌, suc, length, sym, ap, subst, arith, rules}
use Rattle.std.proofs.lemmas.Grind.{common_steps}
use Rattle.std.proofs.lemmas.List.{length-map}
use Rattle.std.proofs.lemmas.Nat.{mul-le}
use Rattle.regress_engine_insn.specs.InsnViews.{instruction}
use Rattle.regress_engine_code.specs.Standing.{program_of}
use Rattle.regress_engine_linear.specs.LinearViews.{flow_in, heights_in}
use Rattle.regress_engine_answers.specs.Filled.{IsFilledTo}
use Rattle.regress_engine_answers.proofs.FillingWays.{empty-filled, exits-again, filled-exits, filled-right, parted, placed-ranks, right-again}
use Rattle.regress_engine_answers.proofs.answers.Answering.answers.Goals as goal

pub level-level-requires-clause-placed : goal.level-level-requires-clause-placed
level-level-requires-clause-placed g c =
    let v = g.Input.InputIndexer.view c.args.self.now.input in
    let all = g.met.Input.InputIndexer.are_of_kind c.args.self.now.input in
    let program = program_of c.args.self.now.program.now in
    let flow = flow_in c.args.table.now in
    let h = heights_in c.args.table.now in
    placed-ranks flow h v all program c.requires.suits c.requires.linear c.requires.short

pub fill_level-requires-clause-filled : goal.fill_level-requires-clause-filled
fill_level-requires-clause-filled g c =
    let v = g.Input.InputIndexer.view c.args.self.now.input in
    let program = program_of c.args.self.now.program.now in
    subst (λ k. IsFilledTo (flow_in c.args.table.now) (heights_in c.args.table.now) program v c.levels.answers k) (sym c.level-level.ensures.from) c.levels.invariant.filled

pub levels-init : goal.levels-init
levels-init g c =
    let v = g.Input.InputIndexer.view c.args.self.now.input in
    let all = g.met.Input.InputIndexer.are_of_kind c.args.self.now.input in
    let program = program_of c.args.self.now.program.now in
    let flow = flow_in c.args.table.now in
    let h = heights_in c.args.table.now in
    let count = length-map c.args.self.now.program.now.insns.items instruction in
    record {
      low = search rules;
      cut = λ a b there there' less high. absurd (omega (arith, less));
      sized = record {
        offsets = first_of (cc, grind (arith, common_steps));
        exits = first_of (cc, grind (arith, common_steps));
        ends = first_of (cc, grind (arith, common_steps));
        exit_ends = first_of (cc, grind (arith, common_steps));
      };
      filled = empty-filled flow h v all program c.requires.suits c.requires.linear c.requires.short c.in_ok-answers.answers c.in_ok-answers.ensures.none c.in_ok-answers.ensures.none_behind;
      counted = search rules;
    }

pub levels-preserved : goal.levels-preserved
levels-preserved g c =
    let v = g.Input.InputIndexer.view c.args.self.now.input in
    let l = c.level-level.result in
    let some = c.level-level.ensures.level.some in
    let begin = c.level-level.ensures.from in
    let known = c.levels.invariant in
    record {
      low = c.level-level.ensures.level.within;
      cut = c.level-level.ensures.next;
      sized = c.in_ok-fill_level.ensures.sized;
      filled = c.in_ok-fill_level.ensures.filled;
      counted = let before = known.counted in let more = c.in_ok-fill_level.ensures.counted in
          let e = parted (suc (length v.units)) l.from l.to (omega (arith, some)) in let f = ap (λ x. suc (length v.units) * x) begin in omega (arith, before, more, e, f);
    }

pub levels-smaller : goal.levels-smaller
levels-smaller g c =
    let some = c.level-level.ensures.level.some in
    let within = c.level-level.ensures.level.within in
    let begin = c.level-level.ensures.from in
    omega (arith, some, within, begin)

pub returns-clause-right : goal.returns-clause-right
returns-clause-right g c =
    let v = g.Input.InputIndexer.view c.args.self.now.input in
    let all = g.met.Input.InputIndexer.are_of_kind c.args.self.now.input in
    let program = program_of c.args.self.now.program.now in
    let flow = flow_in c.args.table.now in
    let h = heights_in c.args.table.now in
    let full = c.levels-test.false in
    right-again flow h v all program c.requires.suits c.requires.linear c.requires.short c.levels.answers c.forget_ends.new.self c.forget_ends.ensures.offsets c.forget_ends.ensures.exits
    (filled-right flow h v all program c.requires.suits c.requires.linear c.requires.short c.levels.answers c.levels.from (omega (arith, full)) c.levels.invariant.filled)

pub returns-clause-exits : goal.returns-clause-exits
returns-clause-exits g c =
    let v = g.Input.InputIndexer.view c.args.self.now.input in
    let all = g.met.Input.InputIndexer.are_of_kind c.args.self.now.input in
    let program = program_of c.args.self.now.program.now in
    let flow = flow_in c.args.table.now in
    let h = heights_in c.args.table.now in
    let full = c.levels-test.false in
    exits-again flow h v all program c.requires.suits c.requires.linear c.requires.short c.levels.answers c.forget_ends.new.self c.forget_ends.ensures.offsets c.forget_ends.ensures.exits
    (filled-exits flow h v all program c.requires.suits c.requires.linear c.requires.short c.levels.answers c.levels.from (omega (arith, full)) c.levels.invariant.filled)

pub returns-clause-counted : goal.returns-clause-counted
returns-clause-counted g c =
    let v = g.Input.InputIndexer.view c.args.self.now.input in
    let h = heights_in c.args.table.now in
    let low = c.levels.invariant.low in
    let before = c.levels.invariant.counted in
    let more = mul-le (suc (length v.units)) c.levels.from (suc (length v.units)) (length h.order) (omega arith) low in
    omega (arith, before, more)
