use Rattle.std.proofs.Common.{◌≡◌, Some, None, IfSome, rules, sym, ◌∙◌, subst}
use Rattle.regress_match.specs.Iterating.{UnlessFound}
use Rattle.regress_engine_search.specs.Search.{Search, IsPosition}
use Rattle.regress_programs.specs.Units.{search_in_ucs2}
use Rattle.regress_programs.proofs.StepLemmas.{step-none, step-first, step-ends, step-nearer}
use Rattle.regress_programs.proofs.units.Ucs2MatchesIterator.next.Goals as goal

pub invariant_of-self : goal.invariant_of-self
invariant_of-self c = record { placed = subst (λ (x : Search). IfSome c.step.new.position (IsPosition x)) (sym c.step.ensures.kept) c.step.ensures.inside }

pub returns-in_err-found-clause-steps : goal.returns-in_err-found-clause-steps
returns-in_err-found-clause-steps c =
    let s = search_in_ucs2 c.args.self.now in
    let none : c.from_residual.result ≡ None = search rules in
    let first = step-none s c.step.ensures.kept c.args.self.now.position c.step.new.position c.from_residual.result none c.in_err-found.ensures.stepped in (
      c.step.ensures.kept,
      record { first = first; ends = subst (λ o. UnlessFound o (c.step.new.position ≡ None)) (sym none) c.in_err-found.ensures.stepped.1; ended = λ _. none },
    )

pub returns-clause-steps : goal.returns-clause-steps
returns-clause-steps c =
    let s = search_in_ucs2 c.args.self.now in
    let was : c.step.result ≡ Some c.in_ok-found.found = search rules in
    let first = step-first s c.step.ensures.kept c.args.self.now.position c.step.new.position c.in_ok-found.found c.map_err.result c.in_ok-found.ensures.stepped c.map_err.ensures.cases in (
      c.step.ensures.kept,
      record {
        first = first;
        ends = step-ends s c.step.ensures.kept c.args.self.now.position c.step.new.position c.in_ok-found.found c.map_err.result c.in_ok-found.ensures.stepped c.map_err.ensures.cases;
        ended = λ none. absurd (let e = sym was ∙ c.step.ensures.ended none in cc);
      },
    )

pub returns-clause-goes : goal.returns-clause-goes
returns-clause-goes c =
    let s = search_in_ucs2 c.args.self.now in
    record { on = λ _. (tt, tt, step-nearer s c.step.ensures.kept c.args.self.now.position c.step.new.position c.in_ok-found.ensures.nearer); keeps = tt; rests = λ _. tt }
