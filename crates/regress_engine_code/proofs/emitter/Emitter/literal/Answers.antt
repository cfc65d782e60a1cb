use Rattle.std.proofs.Common.{map, chars, length, refl, ap, if◌then◌else◌}
use Rattle.regress_front_nodes.specs.Forms.{in_reading_order}
use Rattle.regress_front_tables.specs.TableViews.{table}
use Rattle.regress_engine_insn.specs.Instructions.{byte_seq, char}
use Rattle.regress_engine_insn.specs.Layout.{chunks}
use Rattle.regress_engine_code.specs.Written.{written}
use Rattle.regress_engine_code.proofs.EmitLemmas.{AddsTree-bytes}
use Rattle.regress_engine_code.proofs.emitter.Emitter.literal.Goals as goal

pub returns-clause-added : goal.returns-clause-added
returns-clause-added c =
    let bs = c.args.text.now in
    let w = written c.args.code.now in
    AddsTree-bytes c.args.self.now.units (table c.args.self.now.tables.now) c.args.self.now.unicode c.args.backward bs
    (in_reading_order c.args.backward (if c.args.self.now.units then map char (chars bs) else map byte_seq (chunks (length bs) bs))) w _ refl
    (ap (λ is. record w { instructions = is }) c.in_ok-push_literal.ensures)
