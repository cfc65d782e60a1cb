use Rattle.std.proofs.Common.{◌≡◌, true, sym, subst}
use Rattle.regress_engine_insn.specs.InsnViews.{instruction}
use Rattle.regress_engine_code.specs.Standing.{program_of}
use Rattle.regress_engine_input.specs.Views.{input_of}
use Rattle.regress_engine_undo.specs.Held.{held}
use Rattle.regress_engine_memory.specs.Deciding.{is_flow}
use Rattle.regress_engine_memory.specs.Held.{ExitsFailWith}
use Rattle.regress_engine_memory.specs.Remembered.{keyed_of}
use Rattle.regress_engine_memory.specs.Needs.{are_needs}
use Rattle.regress_engine_memory.specs.TableViews.{needs_of, table_of}
use Rattle.regress_engine_trying.specs.Trying.{World}
use Rattle.regress_engine_trying.proofs.ExitLemmas.{exits-known}
use Rattle.regress_engine_attempt.proofs.attempt.Attempt.learn_exit.Goals as goal

pub returns : goal.returns
returns g c =
    let w : World = record { program = program_of c.args.self.now.program.now; view = g.Input.InputIndexer.view c.args.self.now.input } in
    let input = input_of w.view in
    let keyed = keyed_of (table_of c.args.failures.now.table) in
    record {
      tested = subst (λ t. is_flow (table_of t) w.program ≡ true) (sym c.learn_exits.ensures.table) c.requires.so.tested;
      needed = subst (λ t. are_needs (needs_of t) w.program ≡ true) (sym c.learn_exits.ensures.table) c.requires.so.needed;
      known = c.learn_exits.ensures.known w.program input c.requires.so.known
          (subst (ExitsFailWith w.program input keyed c.args.exit.now) (sym c.loops-2.ensures)
          (exits-known w c.args.failures.now (instruction c.args.body.now) c.args.exit.now (held c.args.memory.now) c.requires.body
          (c.exit_fails.ensures c.if-not-exit_fails.false) (c.is_rest_known.ensures c.if-not-is_rest_known.false)));
    }
