use Rattle.std.proofs.Common.{subst}
use Rattle.regress_engine_attempt.specs.Attempts.{Remembers, world_of}
use Rattle.regress_engine_attempt.proofs.RememberLemmas.{remembers-anyway}
use Rattle.regress_engine_exec.proofs.search.Backtracker.search_counted.Goals as goal

pub first_from-requires-clause-so : goal.first_from-requires-clause-so
first_from-requires-clause-so g c =
    let self = c.args.self.now in
    remembers-anyway (world_of self.context.program.now (g.Input.InputIndexer.view self.context.input)) self.remembered.failures (λ f. f.value)
    (subst (λ v. ∥ Remembers (world_of self.context.program.now v) self.remembered ∥₁) (g.met.Input.ExecutorInput.shows self.context.input) self.so)
