use Rattle.std.proofs.Common.{subst}
use Rattle.regress_engine_attempt.specs.Attempts.{Remembers, world_of}
use Rattle.regress_engine_attempt.proofs.RememberLemmas.{remembers-anyway}
use Rattle.regress_engine_exec.proofs.search.Backtracker.run_in_time.Goals as goal

pub run_from-requires-clause-so : goal.run_from-requires-clause-so
run_from-requires-clause-so g c =
    let self = c.args.self.now in
    remembers-anyway (world_of self.context.program.now (g.Input.InputIndexer.view self.context.input)) self.remembered.failures (λ f. f.value)
    (subst (λ v. ∥ Remembers (world_of self.context.program.now v) self.remembered ∥₁) (g.met.Input.ExecutorInput.shows self.context.input) self.so)
