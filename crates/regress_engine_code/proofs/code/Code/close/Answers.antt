use Rattle.std.proofs.Common.{◌≡◌, ℕ, ◌<◌, ◌∷◌, [], List, All, length, sym, ap, ◌∙◌, subst, arith}
use Rattle.std.proofs.lemmas.List.{length-set, nil_from_length}
use Rattle.regress_engine_insn.specs.Instructions.{jump}
use Rattle.regress_engine_code.specs.Written.{Written, written, closed}
use Rattle.regress_engine_code.proofs.JumpLemmas.{closed-more, all-front}
use Rattle.regress_engine_code.proofs.code.Code.close.Goals as goal

pub loop-jump-preserved : goal.loop-jump-preserved
loop-jump-preserved c =
    let js = c.pop.new.self.items in
    let w = written c.loop-jump.self in
    let to = c.in_ok-target.target in
    let j = c.in-Some.jump in
    record {
      told = ap (λ (v : Written). closed v js to) c.change.ensures ∙ sym (closed-more js w j to) ∙ ap (λ (ks : List ℕ). closed w ks to) (sym c.in-Some.ensures.items) ∙ c.loop-jump.invariant.told;
      places = subst (λ (n : ℕ). All (λ k. k < n) js) (sym (ap (λ (v : Written). length v.instructions) c.change.ensures ∙ length-set w.instructions j (jump to)))
          (all-front (λ k. k < length w.instructions) js (j ∷ []) (subst (λ (ks : List ℕ). All (λ k. k < length w.instructions) ks) c.in-Some.ensures.items c.loop-jump.invariant.places));
    }

pub returns-clause-ok : goal.returns-clause-ok
returns-clause-ok c =
    let none : c.loop-jump.jumps.items ≡ [] = nil_from_length c.loop-jump.jumps.items (omega (arith, c.in_default.ensures.cases, c.loop-jump.jumps.ok.0)) in
    ap (λ (ks : List ℕ). closed (written c.loop-jump.self) ks c.in_ok-target.target) (sym none) ∙ c.loop-jump.invariant.told
    ∙ ap (closed (written c.args.self.now) c.args.jumps.items) c.in_ok-target.ensures.ok
