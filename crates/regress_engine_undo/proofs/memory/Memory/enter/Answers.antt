use Rattle.regress_engine_insn.specs.InsnViews.{fields}
use Rattle.regress_engine_undo.specs.Held.{held}
use Rattle.regress_engine_undo.proofs.MemoryLemmas.{ok-then}
use Rattle.regress_engine_undo.proofs.StepLemmas.{enter-on, loop-sound, sound-then}
use Rattle.regress_engine_undo.proofs.memory.Memory.enter.Goals as goal

pub returns-clause-leads : goal.returns-clause-leads
returns-clause-leads c =
    let written = c.in_ok-write_loop.ensures in
    ok-then c.go_on.result _ _ (λ going on program input told. enter-on c.args.done (fields c.args.repetition.now) c.args.spot.now (held c.args.self.now) (held c.write_loop.new.self) going c.go_on.new.spot (held c.go_on.new.self) written program input (on program input told))
    c.go_on.ensures.leads

pub returns-clause-sound : goal.returns-clause-sound
returns-clause-sound c =
    ok-then c.go_on.result _ _ (λ going on. sound-then (held c.args.self.now) (held c.write_loop.new.self) (held c.go_on.new.self) (loop-sound _ _ _ _ c.in_ok-write_loop.ensures c.requires.there) on)
    c.go_on.ensures.sound
