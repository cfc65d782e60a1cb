use Rattle.std.proofs.Common.{◌≡◌, true, option_map, sym, ap, ◌∙◌, rules}
use Rattle.std.specs.List.{list_all}
use Rattle.std.proofs.lemmas.Iterator.{YieldsList-from_slice}
use Rattle.std.proofs.lemmas.Iterator.Search.{all_from_yields_List}
use borrow.Author.Tests.{tests}
use Rattle.regress_evaluator.specs.Singles.{passes}
use Rattle.regress_evaluator.specs.StateViews.{state_of, context_of, direction_of}
use Rattle.regress_evaluator.proofs.EvaluatorLemmas.{step-passed}
use Rattle.regress_evaluator.proofs.evaluator.Evaluator.one.Goals as goal

pub returns-then-all : goal.returns-then-all
returns-then-all c =
    let single = c.args.single.now in
    let passed : list_all (passes single) c.in-Some.points.now ≡ true =
    sym (all_from_yields_List (passes single) _ _ _ c.all.ensures.ran (YieldsList-from_slice c.in-Some.points.now cc) (λ x b q k. search (rules, tests))) ∙ c.if-all.true in
    rw (step-passed (context_of c.args.self.now) (direction_of c.args.direction) 1 (list_all (passes single)) (state_of c.args.state.now) c.in-Some.points.now c.in-Some.place
    (sym (ap (option_map _) c.in-Some.is) ∙ c.beside.ensures) passed) c.alone_at.ensures
