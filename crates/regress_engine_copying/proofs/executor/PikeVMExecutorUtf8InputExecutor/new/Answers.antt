use Rattle.std.proofs.Common.{refl, rules}
use Rattle.regress_engine_inputs.specs.InputViews.{utf8_view}
use Rattle.regress_engine_input.specs.Views.{utf8}
use Rattle.regress_engine_search.proofs.ExecutorLemmas.{searches}
use Rattle.regress_engine_copying.proofs.executor.PikeVMExecutorUtf8InputExecutor.new.Goals as goal

pub returns : goal.returns
returns c =
    let e = c.with_input.result.context in
    searches (record { compiled = e.program.now; view = utf8_view e.input; searchable = e.searchable }) utf8 c.args.program.now c.args.text.now refl c.utf8.text c.requires.bytes (search rules) (search rules)
