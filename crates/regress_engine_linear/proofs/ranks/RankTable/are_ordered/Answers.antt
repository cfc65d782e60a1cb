use Rattle.std.proofs.Common.{◌-◌, sym, ap₂, ◌∙◌, arith}
use Rattle.regress_engine_linear.specs.RankTables.{address_at, heights_of, is_before}
use Rattle.regress_engine_linear.proofs.LevelLemmas.{before-more}
use Rattle.regress_engine_linear.proofs.Ranking.{before-so}
use Rattle.regress_engine_linear.proofs.ranks.RankTable.are_ordered.Goals as goal

pub loop-index-init : goal.loop-index-init
loop-index-init c = record { before = λ j k less low. absurd (omega (arith, less, low)) }

pub loop-index-preserved : goal.loop-index-preserved
loop-index-preserved c =
    let h = heights_of c.args.self.now in
    let low = c.loop-index.auto.index in
    record {
      before = before-more h c.loop-index.index (omega (arith, low)) c.loop-index.invariant.before
          (before-so h (address_at h (c.loop-index.index - 1)) (address_at h c.loop-index.index)
          (ap₂ (λ x y. is_before h x y) (sym c.address-first.ensures) (sym c.address-second.ensures) ∙ sym c.is_before.ensures ∙ c.if-not-is_before.false));
    }

pub returns : goal.returns
returns c is j k less within =
    let full = c.loop-index-test.false in
    c.loop-index.invariant.before j k less (omega (arith, within, full))
