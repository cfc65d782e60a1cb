use Rattle.std.proofs.Common.{◌≡◌, inl, inr, sym, ap, ◌∙◌, arith}
use Rattle.std.proofs.lemmas.Bool.{cases_eq}
use Rattle.regress_engine_linear.specs.RankTables.{address_at, heights_of, level_at}
use Rattle.regress_engine_linear.proofs.testing.LinearTable.level_end.Goals as goal

pub loop-end-init : goal.loop-end-init
loop-end-init c = record {
  level = c.level-level.ensures ∙ ap (level_at (heights_of c.args.self.now.ranks)) c.address-first.ensures;
  same = λ k low high. let e : k ≡ c.args.index = omega (arith, low, high) in
      ap (λ x. level_at (heights_of c.args.self.now.ranks) (address_at (heights_of c.args.self.now.ranks) x)) e;
}

pub loop-end-preserved : goal.loop-end-preserved
loop-end-preserved c = record {
  level = c.loop-end.invariant.level;
  same = λ k low high. elim (cases_eq k c.loop-end.end) [
    | inl e ↦ ap (λ x. level_at (heights_of c.args.self.now.ranks) (address_at (heights_of c.args.self.now.ranks) x)) e ∙ ap (level_at (heights_of c.args.self.now.ranks)) (sym c.address-next.ensures) ∙ sym c.level.ensures ∙ c.if-level.false ∙ c.loop-end.invariant.level
    | inr other ↦ c.loop-end.invariant.same k low (omega (arith, high, other))
  ];
}
