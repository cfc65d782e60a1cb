use Rattle.std.proofs.Common.{ℕ, sym, ◌∙◌}
use Rattle.regress_unicode.specs.Case.{fold_of}
use Rattle.regress_unicode.proofs.CaseLemmas.{moved-none, moved-same, moved-more}
use Rattle.regress_unicode.proofs.case.fold_pairs.Goals.{then-image-c+in_ok-push, else-image-c}
use Rattle.regress_unicode.proofs.case.fold_pairs.Goals as goal

pub loop-c-init : goal.loop-c-init
loop-c-init c = cc (moved-none fold_of)

pub loop-c-preserved : goal.loop-c-preserved
loop-c-preserved c =
    let n : ℕ = c.loop-c.c in
    elim c.if-image-c.branch [
      | then-image-c+in_ok-push w ↦
          let more = moved-more fold_of n (λ e. w.if-image-c.true (c.fold_of-image.ensures ∙ e)) in cc (more, w.in_ok-push.ensures.items, w.pairs-is)
      | else-image-c w ↦
          let same = moved-same fold_of n (sym c.fold_of-image.ensures ∙ w.if-image-c.false) in cc (same, w.pairs-is)
    ]
