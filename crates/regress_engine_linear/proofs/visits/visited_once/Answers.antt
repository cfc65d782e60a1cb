use Rattle.std.specs.Prelude.{min}
use Rattle.std.proofs.Common.{◌≡◌, suc, ◌-◌, ◌&&◌, Bool, nat_lt, sym, ap, ap₂, ◌∙◌, subst, arith, length-set}
use Rattle.std.proofs.Math.ListN.{set}
use Rattle.regress_engine_insn.specs.declared.insn.Insn.TheVariants.{Goal}
use Rattle.regress_engine_linear.proofs.OnceLemmas.{IsToldOnce, back-from, back-on, told-more, told-once}
use Rattle.regress_engine_linear.proofs.visits.visited_once.Goals as goal
use Rattle.regress_engine_linear.proofs.visits.visited_once.Goals.{then-starts, else-starts}

pub loop-at-preserved : goal.loop-at-preserved
loop-at-preserved c =
    let insns = c.args.insns.now in
    let starts = c.begins_at_start-starts.result in
    let at = c.loop-at.at - 1 in
    let inv = c.loop-at.invariant in
    let low = inv.within in
    let count = inv.count in
    let some = c.loop-at-test.true in
    let next : c.loop-at.at ≡ suc at = omega (arith, some) in
    let back = inv.back ∙ ap (back-from insns) next in
    let value : c.if-starts.is_once ≡ (starts && nat_lt at c.loop-at.back) = elim c.if-starts.branch [
      | then-starts w ↦ w.is_once-is ∙ sym (ap (λ (b : Bool). b && nat_lt at c.loop-at.back) w.if-starts.true)
      | else-starts w ↦ w.is_once-is ∙ w.if-starts.false ∙ sym (ap (λ (b : Bool). b && nat_lt at c.loop-at.back) w.if-starts.false)
    ] in
    record {
      within = omega (arith, low);
      count = length-set c.loop-at.once.items at c.if-starts.is_once ∙ count;
      back = c.min-back.ensures ∙ ap₂ min c.leads_back.ensures back ∙ sym (back-on insns at Goal (omega (arith, low, some)));
      told = λ k from within.
          subst (λ (b : Bool). IsToldOnce insns starts (set c.loop-at.once.items at b) k) (sym (value ∙ ap (λ n. starts && nat_lt at n) back))
          (told-more insns starts c.loop-at.once.items at (omega (arith, low, some, count)) (λ j more inside. inv.told j (omega (arith, more, next)) inside) k from within);
    }

pub returns-clause-once : goal.returns-clause-once
returns-clause-once c program are =
    let end = c.loop-at-test.false in
    told-once c.args.insns.now program c.loop-at.once.items c.begins_at_start-starts.result are c.begins_at_start-starts.ensures c.loop-at.invariant.count
    (λ k within. c.loop-at.invariant.told k (omega (arith, end)) within)
