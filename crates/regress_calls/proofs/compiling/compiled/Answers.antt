use Rattle.std.proofs.Common.{rules}
use Rattle.regress_calls.proofs.CompileLemmas.{refused-memory}
use Rattle.regress_calls.proofs.compiling.compiled.Goals as goal

pub returns-in_err-boxed-in-Ok-clause-refused : goal.returns-in_err-boxed-in-Ok-clause-refused
returns-in_err-boxed-in-Ok-clause-refused c = search (rules, refused-memory)
