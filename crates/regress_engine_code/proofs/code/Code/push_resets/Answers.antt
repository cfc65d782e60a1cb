use Rattle.std.proofs.Common.{◌≡◌, ℕ, ◌-◌, sym, ap, ◌∙◌, arith}
use Rattle.regress_engine_insn.specs.Layout.{resets}
use Rattle.regress_engine_code.specs.Written.{written, with}
use Rattle.regress_engine_code.proofs.WrittenLemmas.{with-nothing, resets-told}
use Rattle.regress_engine_code.proofs.code.Code.push_resets.Goals as goal

pub loop-group-preserved : goal.loop-group-preserved
loop-group-preserved c = record {
  told = resets-told (written c.loop-group.self) (written c.push.new.self) c.loop-group.group c.args.last c.loop-group-test.true c.in_ok-push.ensures.ok ∙ c.loop-group.invariant.told;
}

pub returns-clause-ok : goal.returns-clause-ok
returns-clause-ok c =
    let none : c.args.last - c.loop-group.group ≡ 0 = omega (arith, c.loop-group-test.false) in
    sym (with-nothing (written c.loop-group.self))
    ∙ ap (λ (n : ℕ). with (written c.loop-group.self) (resets c.loop-group.group n)) (sym none)
    ∙ c.loop-group.invariant.told
