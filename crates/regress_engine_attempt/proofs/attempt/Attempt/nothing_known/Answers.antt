use Rattle.std.proofs.Common.{◌≡◌, true, map, ap, sym, subst, IfSome}
use Rattle.regress_engine_code.specs.Standing.{program_of}
use Rattle.regress_engine_input.specs.Views.{input_of}
use Rattle.regress_engine_insn.specs.Instructions.{Program}
use Rattle.regress_engine_insn.specs.InsnViews.{instruction}
use Rattle.regress_engine_memory.specs.Deciding.{is_flow}
use Rattle.regress_engine_memory.specs.Needs.{are_needs}
use Rattle.regress_engine_memory.specs.TableViews.{needs_of, table_of}
use Rattle.regress_engine_trying.specs.Trying.{World}
use Rattle.regress_engine_trying.specs.Remembering.{AreOf}
use Rattle.regress_engine_attempt.proofs.attempt.Attempt.nothing_known.Goals as goal

pub returns-in-Ok : goal.returns-in-Ok
returns-in-Ok g c =
    let w : World = record { program = program_of c.args.self.now.program.now; view = g.Input.InputIndexer.view c.args.self.now.input } in
    let tested = subst (λ x. IfSome x (λ table. (program : Program) → program.instructions ≡ map instruction c.insns.result.now
    → (is_flow (table_of table) program ≡ true) × (are_needs (needs_of table) program ≡ true)))
    c.in-Ok-Some.field-0-is c.in-Ok-Some.ensures in
    subst (AreOf w) (sym c.in-Ok.ensures.ok) (record {
      tested = subst (λ t. is_flow (table_of t) w.program ≡ true) (sym c.new.ensures.table) (tested w.program (ap (map instruction) (sym c.insns.ensures))).0;
      needed = subst (λ t. are_needs (needs_of t) w.program ≡ true) (sym c.new.ensures.table) (tested w.program (ap (map instruction) (sym c.insns.ensures))).1;
      known = c.new.ensures.known w.program (input_of w.view);
    })
