use Rattle.std.proofs.Common.{◌-◌, sym, ◌∙◌, arith}
use Rattle.regress_engine_code.specs.Standing.{program_of}
use Rattle.regress_engine_insn.specs.InsnViews.{instruction}
use Rattle.regress_engine_search.proofs.PlaceLemmas.{can-read}
use Rattle.regress_engine_leading.proofs.RepeatLemmas.{differing-here, differing-last, differing-none, differing-on}
use Rattle.regress_engine_leading.proofs.repeated.exits_differ.Goals as goal

pub exits-init : goal.exits-init
exits-init g c = differing-here (program_of c.args.program.now) (g.Input.InputIndexer.view c.args.input.now) (instruction c.args.class.now) c.args.start c.args.most c.args.near c.requires.place

pub class_ahead-requires-clause-place : goal.class_ahead-requires-clause-place
class_ahead-requires-clause-place g c = can-read (g.Input.InputIndexer.view c.args.input.now) (g.met.Input.InputIndexer.are_of_kind c.args.input.now) c.exits.exit c.exits.invariant.place

pub exits-preserved : goal.exits-preserved
exits-preserved g c =
    let some = c.if-left-eq0.false in
    differing-on (program_of c.args.program.now) (g.Input.InputIndexer.view c.args.input.now) (g.met.Input.InputIndexer.are_of_kind c.args.input.now) (instruction c.args.class.now) c.requires.class
    c.args.start c.args.most c.args.near c.exits.left (c.exits.left - 1) c.exits.exit _ (omega (arith, some)) (c.differ_ahead.ensures c.if-not-differ_ahead.false)
    (λ groups. sym (c.class_ahead.ensures groups) ∙ c.in-Some.is) c.exits.invariant

pub returns-then-left-eq0 : goal.returns-then-left-eq0
returns-then-left-eq0 g c = λ yes.
    differing-last (program_of c.args.program.now) (g.Input.InputIndexer.view c.args.input.now) (instruction c.args.class.now) c.args.start c.args.most c.args.near c.exits.left c.exits.exit
    (omega (arith, c.if-left-eq0.true)) (c.differ_ahead.ensures c.if-not-differ_ahead.false) c.exits.invariant

pub returns-in-None : goal.returns-in-None
returns-in-None g c = λ yes.
    differing-none (program_of c.args.program.now) (g.Input.InputIndexer.view c.args.input.now) (instruction c.args.class.now) c.args.start c.args.most c.args.near c.exits.left c.exits.exit
    (λ groups. sym c.in-None.is ∙ c.class_ahead.ensures groups) (c.differ_ahead.ensures c.if-not-differ_ahead.false) c.exits.invariant
