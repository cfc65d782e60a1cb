use Rattle.std.proofs.Common.{◌+◌, ap, ◌∙◌}
use Rattle.std.specs.Prelude.{slice_set}
use Rattle.regress_engine_input.specs.Views.{direction_of}
use Rattle.regress_engine_runs.specs.States.{begun}
use Rattle.regress_engine_copying.specs.StateOf.{state_of}
use Rattle.regress_engine_copying.proofs.StateLemmas.{at-is, next-is}
use Rattle.regress_engine_copying.proofs.state.State.mark.Goals as goal

pub returns : goal.returns
returns c =
    let s = state_of c.args.self.now in
    c.set_group.ensures
    ∙ ap (λ m. record s { at = s.at + 1; groups = slice_set s.groups c.args.group m }) (c.marked-marks.ensures ∙ ap (begun (direction_of c.args.starts) s.offset) c.group_data-old.ensures)
    ∙ at-is (record s { groups = slice_set s.groups c.args.group _ }) _ _ (next-is s.at)
