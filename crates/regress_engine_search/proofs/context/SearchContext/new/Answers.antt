use Rattle.std.proofs.Common.{rules, sym, subst}
use Rattle.std.proofs.Math.Logic.{∥∥₁_elim}
use Rattle.regress_engine_code.specs.Standing.{program_of, target_of}
use Rattle.regress_engine_search.specs.Search.{IsSearchable}
use Rattle.regress_engine_search.specs.Skipping.{MaySkip}
use Rattle.regress_engine_search.specs.SearchProps.{IsSearchable-prop, MaySkip-prop}
use Rattle.regress_engine_search.proofs.SearchLemmas.{layout-searchable}
use Rattle.regress_engine_search.proofs.SkipLemmas.{layout-skips}
use Rattle.regress_engine_search.proofs.context.SearchContext.new.Goals as goal

pub invariant_of-result : goal.invariant_of-result
invariant_of-result g c =
    let compiled = c.args.program.now in
    let v = g.Input.InputIndexer.view c.args.input in
    let all = g.met.Input.InputIndexer.are_of_kind c.args.input in
    let made = c.requires in
    let start = c.new.result.start.now in
    let read : IsSearchable (program_of compiled) v = ∥∥₁_elim compiled.laid (IsSearchable-prop (program_of compiled) v)
    (λ (n, t, formed, layout, serves). layout-searchable (target_of compiled) v all made.kind made.made n t formed layout) in
    let skip : MaySkip (program_of compiled) compiled.start_pred v = ∥∥₁_elim compiled.laid (MaySkip-prop (program_of compiled) compiled.start_pred v)
    (λ (n, t, formed, layout, serves). layout-skips (target_of compiled) v all made.kind made.made n t formed layout compiled.start_pred serves) in
    record {
      searchable = subst (IsSearchable (program_of compiled)) (sym (g.met.Input.ExecutorInput.shows c.args.input)) read;
      skips = subst (MaySkip (program_of compiled) start) (sym (g.met.Input.ExecutorInput.shows c.args.input))
          (subst (λ p. MaySkip (program_of compiled) p v) (search rules) skip);
    }
