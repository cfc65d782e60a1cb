use Rattle.std.proofs.Common.{◌≡◌, ◌+◌, ◌-◌, ◌∙◌, sym, subst, length, take, drop, get_or, inl, inr, refl, arith}
use Rattle.std.proofs.lemmas.Bool.{cases_lt, true≢false}
use Rattle.memchr.proofs.lemmas.MatchLemmas.{OccursAt-part}
use Rattle.regress_engine_scanning.proofs.ByteLemmas.{stands-occurs}
use Rattle.regress_engine_scanning.proofs.EndMarks.{none-before}
use Rattle.regress_engine_scanning.proofs.units.find_sequence.Goals as goal

pub returns-then-stand_at : goal.returns-then-stand_at
returns-then-stand_at c =
    let bytes = c.args.bytes.now in
    let units = c.args.units.now in
    let near = c.in-Some.near in
    let far = c.in-Some.far in
    let least = c.in_ok-index.ensures.least in
    let start = c.in_ok-index.index - near in
    let e : start + near ≡ c.in_ok-index.index = omega (arith, least.0) in (
      omega (arith, c.loop-at.invariant.low, least.0),
      OccursAt-part units bytes start (c.stand_at.ensures.0 c.if-stand_at.true),
      none-before bytes units near far (get_or bytes near 0) (get_or bytes far 0) c.in-Some.ensures.some.0 c.in-Some.ensures.some.1 refl refl c.args.from c.loop-at.at start c.loop-at.invariant.none
          (λ k late less. least.2 k late (omega (arith, less, e))),
    )

pub loop-at-preserved : goal.loop-at-preserved
loop-at-preserved c =
    let bytes = c.args.bytes.now in
    let units = c.args.units.now in
    let near = c.in-Some.near in
    let far = c.in-Some.far in
    let least = c.in_ok-index.ensures.least in
    let inside = c.in_ok-index.ensures.inside in
    let start = c.in_ok-index.index - near in
    let e : start + near ≡ c.in_ok-index.index = omega (arith, least.0) in
    let before = none-before bytes units near far (get_or bytes near 0) (get_or bytes far 0) c.in-Some.ensures.some.0 c.in-Some.ensures.some.1 refl refl c.args.from c.loop-at.at start
    c.loop-at.invariant.none (λ k late less. least.2 k late (omega (arith, less, e))) in
    record {
      low = omega (arith, c.loop-at.invariant.low, least.0);
      high = omega (arith, inside);
      none = λ k low less stands. elim (cases_lt k start) [
        | inl soon ↦ before k low soon stands
        | inr late ↦
            let same : k ≡ start = omega (arith, less, late) in
            let here = subst (λ i. take (length bytes) (drop i units) ≡ bytes) same stands in
            absurd (true≢false (sym (c.stand_at.ensures.1 (stands-occurs units bytes start (omega (arith, inside)) here)) ∙ c.if-stand_at.false))
      ];
    }
