use Rattle.std.proofs.Common.{◌≡◌, subst, sym, ◌∙◌, arith, rules}
use Rattle.regress_engine_prefix.specs.Reaches.{HoldsTo}
use Rattle.regress_engine_scanning.specs.declared.landmark.Landmark.TheVariants.{Ahead}
use Rattle.regress_engine_prefix.specs.declared.reach.Reach.TheVariants.{By}
use Rattle.regress_engine_prefix.proofs.ReachLemmas.{Stands-over, Stands-behind, Low-over}
use Rattle.regress_engine_prefix.proofs.reach.seen_over.Goals as goal

pub returns-in-Some : goal.returns-in-Some
returns-in-Some c = λ text place mid end taken here.
    let (stands, low) = subst (λ l. HoldsTo (By l) text mid end) c.in-Ahead.is here in (
      Stands-over c.args.span c.in-Ahead.distance c.in-Some.distance c.in-Ahead.byte text place mid c.if-span.true (search rules) taken stands,
      Low-over c.args.span c.in-Ahead.distance c.in-Some.distance c.in-Ahead.byte text place mid c.if-span.true (search rules) taken low,
    )

pub returns : goal.returns
returns c = λ text place mid end taken here.
    let zero : c.in-Ahead.distance ≡ 0 = omega (arith, c.if-distance-gt0.false) in
    let (stands, low) = subst (λ n. HoldsTo (By (Ahead n c.in-Ahead.byte)) text mid end) zero (subst (λ l. HoldsTo (By l) text mid end) c.in-Ahead.is here) in (
      Stands-behind c.args.span c.in-Ahead.byte text place mid (omega (arith, c.if-span-eq0.false)) (sym c.contains.ensures ∙ c.if-contains.false) taken stands,
      tt,
    )
