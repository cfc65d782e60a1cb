use Rattle.std.proofs.Common.{◌≡◌, ℕ, ◌||◌, ◌&&◌, ◌==◌, nat_lt, sym, ap, ◌∙◌, arith}
use Rattle.std.proofs.lemmas.Result.{IfOk-weaker}
use Rattle.regress_meaning.specs.Table.{code_points}
use Rattle.regress_front_sets.specs.Intervals.{ends_of}
use Rattle.regress_front_sets.proofs.IntervalLemmas.{in_intervals-nil}
use Rattle.regress_unicode.specs.Casefold.{changes_when_nfkc_casefolded}
use Rattle.regress_unicode.specs.Unicode.{Hold}
use Rattle.regress_unicode.proofs.CountLemmas.{small-same, below-none, below-more, below-same}
use Rattle.regress_unicode.proofs.casefold.casefolded.Goals.{then-is_casefolded+in_ok-try_add_one, else-is_casefolded}
use Rattle.regress_unicode.proofs.casefold.casefolded.Goals as goal

pub loop-c-init : goal.loop-c-init
loop-c-init c k = rw c.new-moved.ensures (in_intervals-nil k ∙ sym (below-none k _))

pub loop-c-preserved : goal.loop-c-preserved
loop-c-preserved c k =
    let n : ℕ = c.loop-c.c in
    elim c.if-is_casefolded.branch [
      | then-is_casefolded+in_ok-try_add_one w ↦
          rw w.moved-is (
          w.in_ok-try_add_one.ensures.members k
          ∙ ap (λ b. b || k == n) (c.loop-c.invariant k)
          ∙ below-more k n (changes_when_nfkc_casefolded k) (λ e. ap changes_when_nfkc_casefolded e ∙ sym c.is_casefolded.ensures ∙ w.if-is_casefolded.true)
          )
      | else-is_casefolded w ↦
          rw w.moved-is (
          c.loop-c.invariant k
          ∙ below-same k n (changes_when_nfkc_casefolded k) (λ e. ap changes_when_nfkc_casefolded e ∙ sym c.is_casefolded.ensures ∙ w.if-is_casefolded.false)
          )
    ]

pub returns : goal.returns
returns c =
    let whole : c.loop-c.c ≡ code_points = omega (arith, c.loop-c-test.false, c.loop-c.auto.c-end) in
    IfOk-weaker c.from_slice.result (λ v. v.items ≡ c.intervals.result.now) (λ v. Hold (ends_of v.items) changes_when_nfkc_casefolded)
    (λ v same x.
    rw (same, c.intervals.ensures) (
    c.loop-c.invariant x
    ∙ ap (λ n. nat_lt x n && changes_when_nfkc_casefolded x) whole
    ∙ ap (λ b. b && changes_when_nfkc_casefolded x) (small-same x)
    ))
    c.from_slice.ensures.items
