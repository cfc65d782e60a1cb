use Rattle.std.proofs.Common.{◌&&◌, ◌==◌, ℕ, sym, ap, ◌∙◌}
use Rattle.std.specs.Prelude.{nat_lt}
use Rattle.regress_engine_insn.specs.InsnViews.{fields}
use Rattle.regress_engine_undo.specs.Held.{held}
use Rattle.regress_engine_undo.proofs.MemoryLemmas.{ok-then}
use Rattle.regress_engine_undo.proofs.StepLemmas.{again-idle, again-on}
use Rattle.regress_engine_undo.proofs.memory.Memory.again.Goals as goal

pub returns-then-is_idle-clause-leads : goal.returns-then-is_idle-clause-leads
returns-then-is_idle-clause-leads c = λ program input told.
    again-idle (fields c.args.repetition.now) c.args.begin c.args.spot.now (held c.args.self.now)
    (ap (λ (x : ℕ × ℕ). nat_lt c.args.repetition.now.min_iters x.0 && (x.1 == c.args.spot.now.offset)) (sym c.loop_data-entered.ensures) ∙ sym c.if-is_idle.ensures) program input

pub returns-clause-leads : goal.returns-clause-leads
returns-clause-leads c =
    ok-then c.go_on.result _ _ (λ going on program input told. again-on (fields c.args.repetition.now) c.args.begin c.args.spot.now (held c.args.self.now) going c.go_on.new.spot (held c.go_on.new.self)
    (ap (λ (x : ℕ × ℕ). nat_lt c.args.repetition.now.min_iters x.0 && (x.1 == c.args.spot.now.offset)) (sym c.loop_data-entered.ensures) ∙ sym c.if-is_idle.ensures) program input (on program input told))
    c.go_on.ensures.leads
