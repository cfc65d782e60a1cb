use Rattle.std.specs.Prelude.{option_copied}
use Rattle.std.proofs.Common.{ap, length, subst, sym, ◌∙◌}
use Rattle.std.proofs.Math.Logic.{∥∥₁_map}
use Rattle.regress_engine_input.specs.Views.{View}
use Rattle.regress_engine_code.specs.Standing.{program_of}
use Rattle.regress_engine_attempt.specs.Attempts.{world_of}
use Rattle.regress_engine_exec.specs.Turned.{TellsLinear}
use Rattle.regress_engine_exec.proofs.TurnLemmas.{turns-made}
use Rattle.regress_engine_exec.proofs.search.Backtracker.with_budget.Goals as goal

pub invariant_of-result : goal.invariant_of-result
invariant_of-result g c =
    let context = c.new-context.result in
    let shown = g.Input.Shown.shown context.input in
    let program = context.program.now in
    let seen = ap (λ (v : View). length v.units) (sym (g.met.Input.ExecutorInput.shows context.input)) in
    let made = c.new-context.ensures.program in
    let tells = subst (λ r. TellsLinear (program_of r.now) (option_copied c.args.table)) (sym made) c.requires.linear in
    record {
      so = ∣ c.new-remembered.ensures (world_of program shown) ∣₁;
      turns = ∥∥₁_map (turns-made (program_of program) shown _ c.turning_over-turning.result c.text_len-units.result (c.text_len-units.ensures ∙ seen) tells
          c.turning_over-turning.ensures.table c.turning_over-turning.ensures.untold) (λ so. record { lent = so; own = tt });
    }
