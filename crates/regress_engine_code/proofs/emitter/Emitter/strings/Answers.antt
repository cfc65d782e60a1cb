use Rattle.std.proofs.Common.{◌≡◌, ℕ, List, [], ◌∷◌, ◌++◌, All, length, map, refl, sym, ap, ◌∙◌, subst, arith}
use Rattle.std.specs.Box.{boxed_slice_items}
use Rattle.std.proofs.lemmas.List.{map-append, nil_from_length}
use Rattle.std.proofs.lemmas.Result.{IfOk-weaker, IfErr-weaker}
use Rattle.regress_meaning.specs.TableParts.{is_code_point}
use Rattle.regress_front_tables.specs.TableViews.{table}
use Rattle.regress_front_nodes.specs.Trees.{string_set}
use Rattle.regress_engine_insn.specs.Counts.{string_count}
use Rattle.regress_engine_insn.specs.Instructions.{Program, fail}
use Rattle.regress_engine_insn.specs.InsnViews.{instruction}
use Rattle.regress_engine_insn.specs.Layout.{string_code}
use Rattle.regress_engine_code.specs.Written.{Written, written}
use Rattle.regress_engine_code.specs.Emitting.{target, AddsArms, Refuses}
use Rattle.regress_engine_code.proofs.AddLemmas.{Adds-one}
use Rattle.regress_engine_insn.proofs.CountLemmas.{string-length}
use Rattle.regress_engine_code.proofs.JumpLemmas.{all-front}
use Rattle.regress_engine_code.proofs.ArmLemmas.{AddsArms-last, all-last, arms-refuse, end-refuse, err-handed}
use Rattle.regress_engine_code.proofs.emitter.Emitter.strings.Goals as goal

pub returns-in_default-clause-added : goal.returns-in_default-clause-added
returns-in_default-clause-added c =
    let none : c.args.alternatives.now ≡ [] = nil_from_length c.args.alternatives.now (omega (arith, c.in_default.ensures.cases)) in
    rw none
    (IfOk-weaker c.push.result _ _ (λ _ told. Adds-one c.args.self.now.units (written c.args.code.now) (written c.push.new.self) fail told) c.push.ensures.ok)

pub arms-requires : goal.arms-requires
arms-requires c =
    let whole = ap (map boxed_slice_items) (c.in-Some.ensures.cases).0 ∙ map-append boxed_slice_items c.in-Some.others.now (c.in-Some.last.now ∷ []) in
    all-front (All is_code_point) (map boxed_slice_items c.in-Some.others.now) (boxed_slice_items c.in-Some.last.now ∷ [])
    (subst (λ (ss : List (List ℕ)). All (All is_code_point) ss) whole c.requires)

pub returns-in_err-jumps-clause-refused : goal.returns-in_err-jumps-clause-refused
returns-in_err-jumps-clause-refused c =
    let whole = ap (map boxed_slice_items) (c.in-Some.ensures.cases).0 ∙ map-append boxed_slice_items c.in-Some.others.now (c.in-Some.last.now ∷ []) in
    let w = written c.args.code.now in
    err-handed c.from_residual.result c.in_err-jumps.field-0.0 (Refuses c.args.self.now (string_set (map boxed_slice_items c.args.alternatives.now) c.args.icase) w) c.from_residual.ensures.1
    (arms-refuse c.args.self.now c.args.icase (map boxed_slice_items c.in-Some.others.now) (boxed_slice_items c.in-Some.last.now) (map boxed_slice_items c.args.alternatives.now) w c.in_err-jumps.field-0.0
    whole c.in_err-jumps.ensures.err)

pub string-requires : goal.string-requires
string-requires c =
    let whole = ap (map boxed_slice_items) (c.in-Some.ensures.cases).0 ∙ map-append boxed_slice_items c.in-Some.others.now (c.in-Some.last.now ∷ []) in
    rw c.deref.ensures.value
    (all-last (All is_code_point) (map boxed_slice_items c.in-Some.others.now) (boxed_slice_items c.in-Some.last.now)
    (subst (λ (ss : List (List ℕ)). All (All is_code_point) ss) whole c.requires))

pub returns-clause-added : goal.returns-clause-added
returns-clause-added c =
    let emitter = c.args.self.now in
    let whole = ap (map boxed_slice_items) (c.in-Some.ensures.cases).0 ∙ map-append boxed_slice_items c.in-Some.others.now (c.in-Some.last.now ∷ []) in
    let last = boxed_slice_items c.in-Some.last.now in
    let w = written c.args.code.now in
    let w2 = written c.append.new.self in
    IfOk-weaker c.close.result _ _
    (λ _ told.
    subst (λ (ss : List (List ℕ)). AddsArms emitter c.args.backward c.args.icase ss w (written c.close.new.self)) (sym whole)
    (subst (λ (v : Written). AddsArms emitter c.args.backward c.args.icase (map boxed_slice_items c.in-Some.others.now ++ last ∷ []) w v) (sym told)
    (c.in_ok-jumps.ensures.ok.lie last [] w2
    (AddsArms-last emitter c.args.backward c.args.icase last (map instruction c.in_ok-string.field-0.items) (written c.arms.new.code) w2
    (λ program same. c.in_ok-string.ensures.ok program same ∙ ap (string_code (target emitter program) c.args.backward c.args.icase) c.deref.ensures.value)
    c.in_ok-append.ensures.ok))))
    c.close.ensures.ok

pub returns-clause-refused : goal.returns-clause-refused
returns-clause-refused c =
    let emitter = c.args.self.now in
    let whole = ap (map boxed_slice_items) (c.in-Some.ensures.cases).0 ∙ map-append boxed_slice_items c.in-Some.others.now (c.in-Some.last.now ∷ []) in
    let last = boxed_slice_items c.in-Some.last.now in
    let points : All is_code_point last = all-last (All is_code_point) (map boxed_slice_items c.in-Some.others.now) last (subst (λ (ss : List (List ℕ)). All (All is_code_point) ss) whole c.requires) in
    let program : Program = record { instructions = []; brackets = []; loops = 0; groups = 0; units = emitter.units } in
    let size : length (map instruction c.in_ok-string.field-0.items) ≡ string_count emitter.units (table emitter.tables.now) emitter.unicode c.args.icase last =
    ap length (c.in_ok-string.ensures.ok program refl ∙ ap (string_code (target emitter program) c.args.backward c.args.icase) c.deref.ensures.value)
    ∙ string-length (target emitter program) c.args.backward c.args.icase last points in
    IfErr-weaker c.close.result _ _
    (λ e may. end-refuse emitter c.args.backward c.args.icase (map boxed_slice_items c.in-Some.others.now) last (map boxed_slice_items c.args.alternatives.now) c.in_ok-jumps.jumps.items
    (map instruction c.in_ok-string.field-0.items) (written c.args.code.now) (written c.arms.new.code) (written c.append.new.self) e whole c.in_ok-jumps.ensures.ok size c.in_ok-append.ensures.ok may)
    c.close.ensures.err
