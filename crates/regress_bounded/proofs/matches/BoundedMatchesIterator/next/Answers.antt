use Rattle.std.proofs.Common.{Option, Some, None, IfSome, sym, subst}
use Rattle.std.specs.Prelude.{IfNone}
use Rattle.regress_engine_exec.specs.Searches.{search_in}
use Rattle.regress_engine_search.specs.Search.{Search, IsPosition}
use Rattle.regress_bounded.specs.Coming.{search_by, turns_of}
use Rattle.regress_bounded.proofs.StepLemmas.{step-given, step-ends, step-nearer, step-never}
use Rattle.regress_bounded.proofs.matches.BoundedMatchesIterator.next.Goals as goal

pub invariant_of-self : goal.invariant_of-self
invariant_of-self g c = record { placed = subst (λ (x : Search). IfSome c.step.new.position (IsPosition x)) (sym c.step.ensures.kept) c.step.ensures.inside }

pub returns-clause-steps : goal.returns-clause-steps
returns-clause-steps g c =
    let s = search_by c.args.self.now in
    let after = search_in c.step.new.self in
    record {
      kept = c.step.ensures.kept;
      first = step-given s after c.step.ensures.kept c.args.self.now.position c.step.new.position c.step.result c.step.ensures.stepped;
      ends = step-ends s after c.step.ensures.kept c.args.self.now.position c.step.new.position c.step.result c.step.ensures.stepped;
      ended = c.step.ensures.ended;
      counted = c.step.ensures.counted;
      turns = c.step.ensures.turns;
      never = step-never (turns_of c.args.self.now) c.step.result c.step.ensures.never;
    }

pub returns-clause-goes : goal.returns-clause-goes
returns-clause-goes g c =
    let s = search_by c.args.self.now in
    let after = search_in c.step.new.self in
    let near = step-nearer s after c.step.ensures.kept c.args.self.now.position c.step.new.position c.step.result c.step.ensures.nearer in
    record { on = λ _. near; keeps = keeps c.step.result; rests = λ _. rests c.step.result }
  where
    keeps : {T : Type 0} (r : Option T) → IfSome r (λ _. Unit {0})
    keeps None = tt
    keeps (Some x) = tt

    rests : {T : Type 0} (r : Option T) → IfNone r (Unit {0})
    rests None = tt
    rests (Some x) = tt
