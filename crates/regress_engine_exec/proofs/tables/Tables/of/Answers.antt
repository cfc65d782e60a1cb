use Rattle.std.specs.Prelude.{map}
use Rattle.std.proofs.Common.{◌∙◌, ap, sym}
use Rattle.regress_engine_code.specs.Standing.{program_of}
use Rattle.regress_engine_insn.specs.InsnViews.{instruction}
use Rattle.regress_engine_exec.proofs.TurnLemmas.{made-linear, short-told}
use Rattle.regress_engine_exec.proofs.tables.Tables.of.Goals as goal

pub of-requires-2-clause-linear : goal.of-requires-2-clause-linear
of-requires-2-clause-linear g c =
    made-linear (program_of c.args.context.now.program.now) c.insns.result.now c.in_ok-table.field-0 c.in-Some.table c.in-Some.is (ap (map instruction) (sym c.insns.ensures)) c.in_ok-table.ensures.linear

pub returns : goal.returns
returns g c = record {
  linear = made-linear (program_of c.args.context.now.program.now) c.insns.result.now c.in_ok-table.field-0 c.in-Some.table c.in-Some.is (ap (map instruction) (sym c.insns.ensures))
      c.in_ok-table.ensures.linear;
  short = short-told c.in-Some.table (g.Input.InputIndexer.view c.args.context.now.input) c.text_len.result c.text_len.ensures (sym c.fits_told.ensures ∙ c.if-not-fits_told.false);
  told = c.in_ok-told.ensures.told;
}
