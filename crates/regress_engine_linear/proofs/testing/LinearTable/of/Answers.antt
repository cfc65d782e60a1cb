use Rattle.std.specs.Prelude.{nat_lt}
use Rattle.std.proofs.Common.{◌≡◌, ◌&&◌, ◌==◌, Bool, true, List, length, sym, ap, ap₂, ◌∙◌, subst}
use Rattle.std.proofs.lemmas.List.{length-map}
use Rattle.regress_engine_insn.specs.InsnViews.{instruction}
use Rattle.regress_engine_memory.specs.Deciding.{live_at}
use Rattle.regress_engine_memory.specs.TableViews.{table_of}
use Rattle.regress_engine_linear.specs.LinearTests.{AreOnce}
use Rattle.regress_engine_linear.specs.RankTables.{ArePlaced, forward_at, heights_of}
use Rattle.regress_engine_linear.proofs.DecidingLinear.{if-some, linear-decides}
use Rattle.regress_engine_linear.proofs.testing.LinearTable.of.Goals as goal

pub returns-then-begins-clause-linear : goal.returns-then-begins-clause-linear
returns-then-begins-clause-linear c program are =
    let t = table_of c.in-Some.flow in
    let h = heights_of c.in-Some-2.ranks in
    let count : length program.instructions ≡ length c.args.insns.now = ap length are ∙ length-map c.args.insns.now instruction in
    let flows = if-some _ c.in_ok-flow.field-0 c.in-Some.flow c.in-Some.is c.in_ok-flow.ensures in
    let ranked = if-some _ c.in_ok-ranks.field-0 c.in-Some-2.ranks c.in-Some-2.is c.in_ok-ranks.ensures.ranked in
    let placed = if-some _ c.in_ok-ranks.field-0 c.in-Some-2.ranks c.in-Some-2.is c.in_ok-ranks.ensures.placed in
    let once = subst (λ (xs : List Bool). AreOnce xs program) (sym c.deref-2.ensures.value) (c.in_ok-once.ensures.once program are) in
    let begins = subst (λ n. ((length (live_at t 0) == 0) && (forward_at h 0 && (nat_lt 0 (length h.ranks) && ((length h.ranks == n) && (length h.order == n))))) ≡ true) (sym count) (sym c.begins.ensures ∙ c.if-begins.true) in
    linear-decides t h program (flows program are).0 (ranked program are) (subst (ArePlaced h) (sym count) placed)
    (ap₂ (λ x y. x && y) (sym (c.are_fit.ensures program are) ∙ c.if-not-are_fit.false) begins) (sym (c.leave_groups.ensures program are once) ∙ c.if-not-leave_groups.false)
    (sym (c.are_short.ensures program are) ∙ c.if-not-are_short.false)
