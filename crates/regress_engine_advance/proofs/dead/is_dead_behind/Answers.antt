use Rattle.std.proofs.Common.{◌≡◌, true, not, length, ap, ◌∙◌}
use Rattle.regress_meaning.specs.Meaning.{Backward}
use Rattle.regress_meaning.specs.Steps.{literal}
use Rattle.regress_engine_code.specs.Standing.{program_of}
use Rattle.regress_engine_input.specs.Views.{input_of}
use Rattle.regress_engine_insn.specs.declared.insn.Insn.TheVariants.{Goal}
use Rattle.regress_engine_singles.proofs.DeadLemmas.{simple-dead}
use Rattle.regress_engine_advance.proofs.ReadLemmas.{bytes-simple, none-is, stands-read, bytes-taken, bytes-units, some-there, more-than}
use Rattle.regress_engine_insn.specs.Instructions.{is_byte_seq}
use Rattle.regress_engine_advance.proofs.dead.is_dead_behind.Goals as goal

pub bytes_beside-requires-clause-kind : goal.bytes_beside-requires-clause-kind
bytes_beside-requires-clause-kind g c =
    let program = program_of c.args.program.now in
    let here = stands-read c.insns-insns.result.now c.args.program.now.insns.items c.args.at Goal c.insns-insns.ensures c.if-at-insns.false in
    let some = some-there (length c.bytes_of-bytes.result.now) (c.if-is_empty.ensures) in
    let bytes : is_byte_seq _ ≡ true = c.bytes_of-bytes.ensures.some ∙ more-than (length c.bytes_of-bytes.result.now) some in
    c.requires.kind ∙ ap not (bytes-units program c.args.at _ bytes (c.requires.closed c.args.at _ here))

pub returns : goal.returns
returns g c = λ none.
    let program = program_of c.args.program.now in
    let here = stands-read c.insns-insns.result.now c.args.program.now.insns.items c.args.at Goal c.insns-insns.ensures c.if-at-insns.false in
    let some = some-there (length c.bytes_of-bytes.result.now) (c.if-is_empty.ensures) in
    let bytes : is_byte_seq _ ≡ true = c.bytes_of-bytes.ensures.some ∙ more-than (length c.bytes_of-bytes.result.now) some in
    let input = input_of (g.Input.InputIndexer.view c.args.input.now) in
    let simple = bytes-simple program c.args.at _ bytes (c.requires.closed c.args.at _ here) in
    simple-dead program input Backward c.args.at c.args.offset _ here simple.0
    (λ groups. none-is _ (c.is_none.ensures ∙ ap not none) ∙ c.bytes_beside.ensures ∙ ap (λ bs. literal input Backward bs c.args.offset) c.bytes_of-bytes.ensures.bytes ∙ bytes-taken program input _ Backward groups c.args.offset bytes)
