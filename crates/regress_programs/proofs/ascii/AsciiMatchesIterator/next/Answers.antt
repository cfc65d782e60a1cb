use Rattle.std.proofs.Common.{◌≡◌, Some, None, IfSome, rules, refl, sym, ap, ◌∙◌, subst}
use Rattle.regress_match.specs.Iterating.{UnlessFound, coming_on}
use Rattle.regress_engine_inputs.specs.InputViews.{ascii_view}
use Rattle.regress_engine_code.specs.Standing.{names_of}
use Rattle.regress_engine_search.specs.Search.{Search, IsPosition, items_from}
use Rattle.regress_programs.specs.Ascii.{search_in_ascii}
use Rattle.regress_programs.proofs.StepLemmas.{step-none, step-first, step-ends, step-nearer, given-in_text}
use Rattle.regress_programs.proofs.ascii.AsciiMatchesIterator.next.Goals as goal

pub invariant_of-self : goal.invariant_of-self
invariant_of-self c = record { placed = subst (λ (x : Search). IfSome c.step.new.position (IsPosition x)) (sym c.step.ensures.kept) c.step.ensures.inside }

pub returns-in_err-found-clause-steps : goal.returns-in_err-found-clause-steps
returns-in_err-found-clause-steps c =
    let s = search_in_ascii c.args.self.now in
    let after : Search = record {
      compiled = c.step.new.self.context.program.now;
      view = ascii_view c.step.new.self.context.input;
      searchable = c.step.new.self.context.searchable;
    } in
    let kept : after ≡ s = c.step.ensures.kept in
    let none : c.from_residual.result ≡ None = search rules in
    let first = step-none s kept c.args.self.now.position c.step.new.position c.from_residual.result none c.in_err-found.ensures.stepped in (
      ap (λ (x : Search). x.view.units) kept,
      ap (λ (x : Search). names_of x.compiled) kept,
      record { first = given-in_text s refl c.args.self.now.executor.context.input.ascii (coming_on (items_from s) c.args.self.now.position) c.from_residual.result (coming_on (items_from after) c.step.new.position) first; ends = subst (λ o. UnlessFound o (c.step.new.position ≡ None)) (sym none) c.in_err-found.ensures.stepped.1; ended = λ _. none },
    )

pub returns-clause-steps : goal.returns-clause-steps
returns-clause-steps c =
    let s = search_in_ascii c.args.self.now in
    let after : Search = record {
      compiled = c.step.new.self.context.program.now;
      view = ascii_view c.step.new.self.context.input;
      searchable = c.step.new.self.context.searchable;
    } in
    let kept : after ≡ s = c.step.ensures.kept in
    let was : c.step.result ≡ Some c.in_ok-found.found = search rules in
    let first = step-first s kept c.args.self.now.position c.step.new.position c.in_ok-found.found c.map_err.result c.in_ok-found.ensures.stepped c.map_err.ensures.cases in (
      ap (λ (x : Search). x.view.units) kept,
      ap (λ (x : Search). names_of x.compiled) kept,
      record {
        first = given-in_text s refl c.args.self.now.executor.context.input.ascii (coming_on (items_from s) c.args.self.now.position) (Some c.map_err.result) (coming_on (items_from after) c.step.new.position) first;
        ends = step-ends s kept c.args.self.now.position c.step.new.position c.in_ok-found.found c.map_err.result c.in_ok-found.ensures.stepped c.map_err.ensures.cases;
        ended = λ none. absurd (let e = sym was ∙ c.step.ensures.ended none in cc);
      },
    )

pub returns-clause-goes : goal.returns-clause-goes
returns-clause-goes c =
    let s = search_in_ascii c.args.self.now in
    record { on = λ _. (tt, tt, step-nearer s c.step.ensures.kept c.args.self.now.position c.step.new.position c.in_ok-found.ensures.nearer); keeps = tt; rests = λ _. tt }
