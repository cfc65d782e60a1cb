use Rattle.std.proofs.Common.{length, ap, ◌∙◌, subst, arith}
use Rattle.regress_engine_search.specs.Tasks.{outside_of}
use Rattle.regress_engine_undo.specs.Held.{Held, held}
use Rattle.regress_engine_undo.specs.Sound.{IsHeld}
use Rattle.regress_engine_undo.specs.Leaving.{work_of}
use Rattle.regress_engine_undo.proofs.LeaveLemmas.{nothing-outside}
use Rattle.regress_engine_undo.proofs.memory.Memory.unwind.Goals as goal

pub put_back-requires : goal.put_back-requires
put_back-requires c =
    let (program, v, was) = c.requires in
    (program, v, subst (IsHeld program v) c.in-Some.ensures (c.loop-undo.invariant.sound program v was))

pub loop-undo-smaller : goal.loop-undo-smaller
loop-undo-smaller c =
    let one = ap (λ (h : Held). length h.stack) c.in-Some.ensures in
    let rest = ap length c.put_back.ensures.stack in
    omega (arith, one, rest)

pub loop-undo-preserved : goal.loop-undo-preserved
loop-undo-preserved c = record {
  rest = λ program input dir. c.loop-undo.invariant.rest program input dir ∙ ap (λ h. outside_of (work_of program input dir h)) c.in-Some.ensures ∙ c.in_default-put_back.ensures.rest program input dir;
  sound = λ program v was. (c.in_default-put_back.ensures.sound program v (subst (IsHeld program v) c.in-Some.ensures (c.loop-undo.invariant.sound program v was))).0;
}

pub returns-clause-rest : goal.returns-clause-rest
returns-clause-rest c = λ program input dir.
    c.loop-undo.invariant.rest program input dir ∙ nothing-outside program input dir (held c.loop-undo.self) c.in_default.ensures.1
