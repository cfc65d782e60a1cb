use Rattle.regress_front_tables.specs.TableViews.{table}
use Rattle.regress_engine_insn.specs.Counts.{string_count}
use Rattle.std.proofs.Common.{suc, ◌≡◌, ◌+◌, [], length, map, take, drop, All, refl, ap, ◌∙◌, arith}
use Rattle.std.proofs.lemmas.List.{length-map, take_all}
use Rattle.std.specs.Box.{boxed_slice_items}
use Rattle.regress_meaning.specs.TableParts.{is_code_point}
use Rattle.regress_engine_insn.specs.Instructions.{Program}
use Rattle.regress_engine_insn.specs.InsnViews.{instruction}
use Rattle.regress_engine_insn.specs.Layout.{string_code}
use Rattle.regress_engine_code.specs.Written.{written}
use Rattle.regress_engine_code.specs.Emitting.{target, RefusesArms}
use Rattle.regress_engine_code.proofs.AddLemmas.{MayRefuse-more}
use Rattle.regress_engine_insn.proofs.CountLemmas.{string-length}
use Rattle.regress_engine_code.proofs.PieceLemmas.{among}
use Rattle.regress_engine_code.proofs.ArmLemmas.{OpensArms-nothing, OpensArms-more, arms-room, parts-around, parts-up_to, err-handed}
use Rattle.regress_engine_code.proofs.emitter.Emitter.arms.Goals as goal

pub loop-string-init : goal.loop-string-init
loop-string-init c = rw c.new-jumps.ensures.items (OpensArms-nothing c.args.self.now c.args.backward c.args.icase (written c.args.code.now))

pub string-requires : goal.string-requires
string-requires c =
    rw c.deref.ensures.value (among boxed_slice_items (All is_code_point) c.args.strings.now c.loop-string.string-index c.string-item.result c.loop-string-test.true c.string-item.is c.requires)

pub loop-string-preserved : goal.loop-string-preserved
loop-string-preserved c =
    let strings = c.args.strings.now in
    let k = c.loop-string.string-index in
    let item = c.string-item.result in
    let cs = boxed_slice_items item in
    let is = map instruction c.in_ok-insns.insns.items in
    let front = map boxed_slice_items (take k strings) in
    let points : All is_code_point cs = among boxed_slice_items (All is_code_point) strings k item c.loop-string-test.true c.string-item.is c.requires in
    let told : (program : Program) → program.units ≡ c.args.self.now.units → is ≡ string_code (target c.args.self.now program) c.args.backward c.args.icase cs =
    λ program same. c.in_ok-insns.ensures.ok program same ∙ ap (string_code (target c.args.self.now program) c.args.backward c.args.icase) c.deref.ensures.value in
    let program : Program = record { instructions = []; brackets = []; loops = 0; groups = 0; units = c.args.self.now.units } in
    let size = ap length (told program refl) ∙ string-length (target c.args.self.now program) c.args.backward c.args.icase cs points in
    rw (c.in_ok-push-2.ensures.items, parts-up_to boxed_slice_items strings k item c.loop-string-test.true c.string-item.is)
    (OpensArms-more c.args.self.now c.args.backward c.args.icase front c.loop-string.jumps.items cs is c.in_ok-secondary.secondary c.in_ok-reserve.field-0
    (written c.args.code.now) (written c.loop-string.code) (written c.push.new.self) (written c.append.new.self) (written c.reserve.new.self)
    c.loop-string.invariant told size c.in_ok-push.ensures.ok c.in_ok-append.ensures.ok c.in_ok-reserve.ensures.kept
    (omega (arith, c.in_ok-secondary.ensures.ok, c.len.ensures, length-map c.in_ok-insns.insns.items instruction)) c.in_ok-reserve.ensures.address)

pub returns-clause-ok : goal.returns-clause-ok
returns-clause-ok c =
    rw (take_all c.loop-string.string-index c.args.strings.now (omega (arith, c.loop-string-test.false))) at c.loop-string.invariant

pub returns-in_err-secondary-clause-err : goal.returns-in_err-secondary-clause-err
returns-in_err-secondary-clause-err c =
    let strings = c.args.strings.now in
    let k = c.loop-string.string-index in
    let item = c.string-item.result in
    let emitter = c.args.self.now in
    let cs = boxed_slice_items item in
    let points : All is_code_point cs = among boxed_slice_items (All is_code_point) strings k item c.loop-string-test.true c.string-item.is c.requires in
    let program : Program = record { instructions = []; brackets = []; loops = 0; groups = 0; units = emitter.units } in
    let size : length (map instruction c.in_ok-insns.insns.items) ≡ string_count emitter.units (table emitter.tables.now) emitter.unicode c.args.icase cs =
    ap length (c.in_ok-insns.ensures.ok program refl ∙ ap (string_code (target emitter program) c.args.backward c.args.icase) c.deref.ensures.value)
    ∙ string-length (target emitter program) c.args.backward c.args.icase cs points in
    let many = length-map c.in_ok-insns.insns.items instruction in
    err-handed c.from_residual-in_err-secondary.result c.in_err-secondary.field-0.0 (RefusesArms emitter c.args.icase (map boxed_slice_items strings) (written c.args.code.now)) c.from_residual-in_err-secondary.ensures.1
    (λ ds rest.
    let room = arms-room emitter c.args.backward c.args.icase (map boxed_slice_items (take k strings)) c.loop-string.jumps.items cs (map boxed_slice_items (drop (suc k) strings)) (map boxed_slice_items strings)
    (written c.args.code.now) (written c.loop-string.code) c.loop-string.invariant (parts-around boxed_slice_items strings k item c.loop-string-test.true c.string-item.is) ds rest in
    MayRefuse-more (length (written c.loop-string.code).instructions + (c.len.result + 2)) 0 _ 0 c.in_err-secondary.field-0.0 (omega (arith, room, size, many, c.len.ensures)) (omega arith) c.in_err-secondary.ensures.err)
