use Rattle.std.specs.Prelude.{slice_set}
use Rattle.std.proofs.Common.{◌+◌, ap, ◌∙◌}
use Rattle.regress_engine_search.specs.StateViews.{marks_of}
use Rattle.regress_engine_runs.specs.States.{unset}
use Rattle.regress_engine_copying.specs.StateOf.{state_of}
use Rattle.regress_engine_copying.proofs.StateLemmas.{at-is, next-is}
use Rattle.regress_engine_copying.proofs.state.State.reset.Goals as goal

pub returns : goal.returns
returns c =
    let s = state_of c.args.self.now in
    c.set_group.ensures
    ∙ ap (λ d. record s { at = s.at + 1; groups = slice_set s.groups c.args.group (marks_of d) }) c.new.ensures
    ∙ at-is (record s { groups = slice_set s.groups c.args.group unset }) _ _ (next-is s.at)
