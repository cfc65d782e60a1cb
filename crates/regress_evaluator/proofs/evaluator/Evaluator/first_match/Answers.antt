use Rattle.std.proofs.Common.{◌+◌, ◌∙◌, sym, ap, option_map, arith}
use Rattle.regress_front_nodes.specs.Trees.{tree}
use Rattle.regress_evaluator.specs.PlaceViews.{item_of}
use Rattle.regress_evaluator.specs.StateViews.{context_of}
use Rattle.regress_front_nodes.proofs.MatchLemmas.{first_match-found, first_match-more, first_match_past}
use Rattle.regress_evaluator.proofs.evaluator.Evaluator.first_match.Goals.{else-loop-start-test, then-loop-start-test+in_ok-found+in_default+else-start-start-end}
use Rattle.regress_evaluator.proofs.evaluator.Evaluator.first_match.Goals as goal

pub returns-in-Some-clause-value : goal.returns-in-Some-clause-value
returns-in-Some-clause-value c =
    sym (c.loop-start.invariant
    ∙ first_match-found (context_of c.args.self.now) c.args.self.now.group_count (tree c.args.node.now) c.loop-start.start (item_of c.in-Some.found) (omega arith)
    (sym c.in_ok-found.ensures.value ∙ ap (option_map item_of) c.in-Some.is))

pub loop-start-preserved : goal.loop-start-preserved
loop-start-preserved c =
    c.loop-start.invariant
    ∙ first_match-more (context_of c.args.self.now) c.args.self.now.group_count (tree c.args.node.now) c.loop-start.start (omega arith)
    (sym c.in_ok-found.ensures.value ∙ ap (option_map item_of) c.in_default.is)

pub returns-clause-value : goal.returns-clause-value
returns-clause-value c =
    let context = context_of c.args.self.now in
    let t = tree c.args.node.now in
    let n = c.args.self.now.group_count in
    let start = c.loop-start.start in
    sym (c.loop-start.invariant ∙ elim c.loop-start-test.branch [
      | else-loop-start-test w ↦ first_match_past context n t start (omega arith)
      | then-loop-start-test+in_ok-found+in_default+else-start-start-end w ↦
          first_match-more context n t start (omega arith) (sym w.in_ok-found.ensures.value ∙ ap (option_map item_of) w.in_default.is)
          ∙ first_match_past context n t (start + 1) (omega arith)
    ])
