use Rattle.regress_engine_code.specs.Standing.{program_of}
use Rattle.regress_engine_input.specs.Views.{input_of}
use Rattle.regress_meaning.specs.Meaning.{Forward}
use Rattle.std.proofs.Common.{sym, ◌∙◌}
use Rattle.regress_engine_insn.specs.declared.insn.Insn.TheVariants.{Goal}
use Rattle.regress_engine_search.proofs.InsnLemmas.{stands-as}
use Rattle.regress_engine_singles.proofs.DeadLemmas.{begin-dead}
use Rattle.regress_engine_singles.proofs.UnitStopLemmas.{units-shown}
use Rattle.regress_engine_advance.proofs.ReadLemmas.{stands-read, some-there}
use Rattle.regress_engine_leading.proofs.leading.known_at.Goals as goal

pub passed_leads-requires-clause-kind : goal.passed_leads-requires-clause-kind
passed_leads-requires-clause-kind g c = (units-shown (g.Input.InputIndexer.view c.args.input.now) c.in-Some.units.now (sym c.in-Some.ensures)).0

pub passed_leads-requires-clause-units : goal.passed_leads-requires-clause-units
passed_leads-requires-clause-units g c = (units-shown (g.Input.InputIndexer.view c.args.input.now) c.in-Some.units.now (sym c.in-Some.ensures)).1

pub returns-in-BeginCaptureGroup : goal.returns-in-BeginCaptureGroup
returns-in-BeginCaptureGroup g c =
    let program = program_of c.args.program.now in
    let here = stands-read c.insns-insns.result.now c.args.program.now.insns.items 0 Goal c.insns-insns.ensures (some-there _ (sym c.if-is_empty.false ∙ c.is_empty.ensures)) in
    c.of.ensures _ _ _ (c.passed_from.ensures (λ o dead. begin-dead program (input_of (g.Input.InputIndexer.view c.args.input.now)) Forward 0 o _ (stands-as program 0 _ _ c.in-BeginCaptureGroup.is here) dead))
