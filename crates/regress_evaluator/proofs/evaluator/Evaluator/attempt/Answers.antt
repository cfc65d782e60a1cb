use Rattle.std.proofs.Common.{◌≡◌, ◌<◌, [], None, length, map, option_map, replicate, sym, ap, ◌∙◌, arith, rules}
use Rattle.std.proofs.lemmas.Bool.{false≢true}
use Rattle.std.proofs.lemmas.List.{nil_from_length}
use Rattle.regress_front_nodes.specs.Trees.{tree}
use Rattle.regress_evaluator.specs.PlaceViews.{ends}
use Rattle.regress_evaluator.specs.StateViews.{state_of, context_of}
use Rattle.regress_front_nodes.proofs.MatchLemmas.{attempt-is, first-inside}
use Rattle.regress_evaluator.proofs.EvaluatorLemmas.{map-replicate}
use Rattle.regress_evaluator.proofs.evaluator.Evaluator.attempt.Goals as goal

pub returns-in_default-clause-value : goal.returns-in_default-clause-value
returns-in_default-clause-value c =
    let unset : map (option_map ends) c.in_ok-groups.groups.items ≡ replicate c.args.self.now.group_count None =
    ap (map (option_map ends)) (c.in_ok-groups.ensures.items_if_clones_equal (search rules)) ∙ map-replicate c.args.self.now.group_count in
    let past : 0 < length c.in_ok-states.states.items → ⊥ = λ some.
    false≢true (c.in_default.ensures.variant.1 (omega (arith, c.in_ok-states.states.ok.0, c.into_iter.ensures.len))) in
    let none : c.in_ok-states.states.items ≡ [] = nil_from_length c.in_ok-states.states.items (omega (arith, past)) in
    sym (attempt-is (context_of c.args.self.now) c.args.self.now.group_count (tree c.args.node.now) c.args.place _ [] unset (rw none at c.in_ok-states.ensures))

pub returns-clause-value : goal.returns-clause-value
returns-clause-value c =
    let unset : map (option_map ends) c.in_ok-groups.groups.items ≡ replicate c.args.self.now.group_count None =
    ap (map (option_map ends)) (c.in_ok-groups.ensures.items_if_clones_equal (search rules)) ∙ map-replicate c.args.self.now.group_count in
    let first = ap (map state_of) (sym c.in-Some.ensures.items ∙ c.into_iter.ensures.rest) in
    sym (attempt-is (context_of c.args.self.now) c.args.self.now.group_count (tree c.args.node.now) c.args.place _ _ unset (first ∙ c.in_ok-states.ensures))

pub returns-clause-inside : goal.returns-clause-inside
returns-clause-inside c = λ within.
    let unset : map (option_map ends) c.in_ok-groups.groups.items ≡ replicate c.args.self.now.group_count None =
    ap (map (option_map ends)) (c.in_ok-groups.ensures.items_if_clones_equal (search rules)) ∙ map-replicate c.args.self.now.group_count in
    let first = ap (map state_of) (sym c.in-Some.ensures.items ∙ c.into_iter.ensures.rest) in
    first-inside (context_of c.args.self.now) c.args.self.now.group_count (tree c.args.node.now) c.args.place _ (state_of c.in-Some.state) _ within unset (first ∙ c.in_ok-states.ensures)
