use Rattle.std.proofs.Common.{sym, ap, ◌∙◌}
use Rattle.regress_engine_linear.specs.RankTables.{forward_at, heights_of}
use Rattle.regress_engine_linear.specs.Ranks.{is_even}
use Rattle.regress_engine_linear.specs.declared.levels.Level.{Level}
use Rattle.regress_engine_linear.proofs.LevelLemmas.{level-is, next-cut}
use Rattle.regress_engine_linear.proofs.testing.LinearTable.level.Goals as goal

pub returns-clause-level : goal.returns-clause-level
returns-clause-level c =
    let h = heights_of c.args.self.now.ranks in
    let l : Level = record { from = c.args.index; to = c.level_end.result; forward = c.is_forward.result } in
    level-is h c.requires.placed l c.level_end.ensures.run c.level_end.ensures.end c.requires.cut
    (λ k low high. ap is_even (c.level_end.ensures.run.same k low high) ∙ ap (forward_at h) (sym c.address-first.ensures) ∙ sym c.is_forward.ensures)

pub returns-clause-next : goal.returns-clause-next
returns-clause-next c =
    let h = heights_of c.args.self.now.ranks in
    let l : Level = record { from = c.args.index; to = c.level_end.result; forward = c.is_forward.result } in
    next-cut h c.requires.placed l c.level_end.ensures.run c.level_end.ensures.end c.requires.cut
