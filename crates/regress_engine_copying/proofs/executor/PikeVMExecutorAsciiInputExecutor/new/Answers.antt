use Rattle.std.proofs.Common.{refl, rules}
use Rattle.regress_engine_inputs.specs.InputViews.{ascii_view}
use Rattle.regress_engine_input.specs.Views.{ascii}
use Rattle.regress_engine_search.proofs.ExecutorLemmas.{searches}
use Rattle.regress_engine_copying.proofs.executor.PikeVMExecutorAsciiInputExecutor.new.Goals as goal

pub returns : goal.returns
returns c =
    let e = c.with_input.result.context in
    searches (record { compiled = e.program.now; view = ascii_view e.input; searchable = e.searchable }) ascii c.args.program.now c.args.text.now refl (c.requires.ascii refl) c.requires.bytes (search rules) (search rules)
