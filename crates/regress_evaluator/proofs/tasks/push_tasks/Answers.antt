use Rattle.std.proofs.Common.{◌≡◌, List, ◌++◌, [], ◌∷◌, filter, append_assoc, ap, ◌∙◌, arith, rules}
use Rattle.std.proofs.lemmas.Fn.{filter_same}
use Rattle.regress_evaluator.specs.Repeating.{expansions, moved_on}
use Rattle.regress_evaluator.specs.declared.tasks.Task.{Task}
use Rattle.regress_evaluator.specs.declared.tasks.Task.TheVariants.{Emit}
use Rattle.regress_evaluator.proofs.RepetitionLemmas.{tasks_of-needed, tasks_of-greedy, tasks_of-lazy}
use Rattle.regress_evaluator.proofs.tasks.push_tasks.Goals as goal

pub returns-then-need-gt0 : goal.returns-then-need-gt0
returns-then-need-gt0 c =
    rw (tasks_of-needed c.args.greedy c.args.state c.args.next.items c.args.left c.args.need c.if-need-gt0.true) c.push_expansions.ensures

pub returns-then-greedy : goal.returns-then-greedy
returns-then-greedy c =
    let s = c.args.state in
    let kept : c.retain.new.self.items ≡ filter (moved_on s) c.args.next.items =
    filter_same _ (moved_on s) _ (λ x b f' r. search rules) c.args.next.items c.retain.new.self.items c.retain.ensures.filtered in
    let told = tasks_of-greedy s c.args.next.items c.retain.new.self.items c.args.left c.args.need (omega arith) kept in
    let pushed = c.in_ok-push.ensures.items in
    rw (c.if-greedy.true, told, ← append_assoc c.args.tasks.now.items (Emit s ∷ []) (expansions c.retain.new.self.items c.args.left 0)) (rw pushed at c.push_expansions-then-greedy.ensures)

pub returns : goal.returns
returns c =
    let s = c.args.state in
    let kept : c.retain.new.self.items ≡ filter (moved_on s) c.args.next.items =
    filter_same _ (moved_on s) _ (λ x b f' r. search rules) c.args.next.items c.retain.new.self.items c.retain.ensures.filtered in
    let told = tasks_of-lazy s c.args.next.items c.retain.new.self.items c.args.left c.args.need (omega arith) kept in
    let pushed = c.in_ok-push_expansions.ensures in
    let on_top = c.in_ok-push-2.ensures.items in
    rw (c.if-greedy.false, told) (
    on_top ∙ ap (λ (ts : List Task). ts ++ Emit s ∷ []) pushed
    ∙ append_assoc c.args.tasks.now.items (expansions c.retain.new.self.items c.args.left 0) (Emit s ∷ []))
