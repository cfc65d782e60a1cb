use Rattle.std.proofs.Common.{◌≡◌, ℕ, ◌+◌, ◌-◌, [], ◌∷◌, ◌++◌, List, length, map, take, refl, sym, ap, ap₂, ◌∙◌, subst, arith}
use Rattle.std.proofs.lemmas.List.{take_all}
use Rattle.std.proofs.lemmas.Result.{IfOk-weaker, IfErr-weaker}
use Rattle.regress_front_core.specs.Quantifiers.{most}
use Rattle.regress_front_tables.specs.TableViews.{table}
use Rattle.regress_front_nodes.specs.Trees.{Tree, tree, cat_of, lookaround, atomic}
use Rattle.regress_front_nodes.specs.Forms.{nesting}
use Rattle.regress_front_nodes.proofs.ChangeLemmas.{nesting-part}
use Rattle.regress_front_nodes.proofs.CopyLemmas.{parts-more}
use Rattle.regress_front_nodes.proofs.TreeLaws.{tree-CaptureGroup, tree-LookaroundAssertion, tree-AtomicGroup}
use Rattle.regress_engine_insn.specs.Counts.{count}
use Rattle.regress_engine_insn.specs.Instructions.{Instruction}
use Rattle.regress_engine_insn.specs.Instructions as code
use Rattle.regress_engine_insn.specs.Layout.{resets}
use Rattle.regress_engine_code.specs.Written.{Written, written, with, changed}
use Rattle.regress_engine_code.specs.Emitting.{Emits}
use Rattle.regress_engine_insn.proofs.LayoutLemmas.{resets-length}
use Rattle.regress_engine_code.proofs.AddLemmas.{Adds-nothing, AddsTree-counted, AddsTree-more, AddsTree-capture, AddsTree-single_loop, AddsTree-submatch, AddsTree-alt, AddsTree-loop, MayRefuse-more}
use Rattle.regress_engine_code.proofs.EmitLemmas.{err-refused, with-size, parts-within, parts-lawful, single-count, of-capture}
use Rattle.regress_engine_code.proofs.emitter.Emitter.+emit.Goals as goal

pub alternation-returns-in_err-node-clause-refused : goal.alternation-returns-in_err-node-clause-refused
unfolding count
alternation-returns-in_err-node-clause-refused t c =
    let one = with-size (written c.args.code.now) (written c.reserve.new.self) (code.fail ∷ []) c.in_ok-fork.ensures.kept in
    (err-refused c.from_residual-in_err-node.result c.in_err-node.field-0.0 _ _ _ _ c.from_residual-in_err-node.ensures.1 c.in_err-node.ensures.refused (omega arith) (omega arith))

pub alternation-returns-in_err-jump-clause-refused : goal.alternation-returns-in_err-jump-clause-refused
unfolding count
alternation-returns-in_err-jump-clause-refused t c =
    let one = with-size (written c.args.code.now) (written c.reserve.new.self) (code.fail ∷ []) c.in_ok-fork.ensures.kept in
    let two = AddsTree-counted c.args.self.now.units (table c.args.self.now.tables.now) c.args.self.now.unicode c.requires.0 c.args.backward (tree c.args.first.now) (written c.reserve.new.self) (written c.node.new.code) c.requires.1.0 c.in_ok-node.ensures.added in
    (err-refused c.from_residual-in_err-jump.result c.in_err-jump.field-0.0 _ _ _ _ c.from_residual-in_err-jump.ensures.1 c.in_err-jump.ensures.err (omega arith) (omega arith))

pub alternation-returns-in_err-secondary-clause-refused : goal.alternation-returns-in_err-secondary-clause-refused
unfolding count
alternation-returns-in_err-secondary-clause-refused t c =
    let one = with-size (written c.args.code.now) (written c.reserve.new.self) (code.fail ∷ []) c.in_ok-fork.ensures.kept in
    let two = AddsTree-counted c.args.self.now.units (table c.args.self.now.tables.now) c.args.self.now.unicode c.requires.0 c.args.backward (tree c.args.first.now) (written c.reserve.new.self) (written c.node.new.code) c.requires.1.0 c.in_ok-node.ensures.added in
    let three = with-size (written c.node.new.code) (written c.reserve-2.new.self) (code.fail ∷ []) c.in_ok-jump.ensures.kept in
    (err-refused c.from_residual-in_err-secondary.result c.in_err-secondary.field-0.0 _ _ _ _ c.from_residual-in_err-secondary.ensures.1 c.in_err-secondary.ensures.err (omega arith) (omega arith))

pub alternation-returns-in_err-node-2-clause-refused : goal.alternation-returns-in_err-node-2-clause-refused
unfolding count
alternation-returns-in_err-node-2-clause-refused t c =
    let one = with-size (written c.args.code.now) (written c.reserve.new.self) (code.fail ∷ []) c.in_ok-fork.ensures.kept in
    let two = AddsTree-counted c.args.self.now.units (table c.args.self.now.tables.now) c.args.self.now.unicode c.requires.0 c.args.backward (tree c.args.first.now) (written c.reserve.new.self) (written c.node.new.code) c.requires.1.0 c.in_ok-node.ensures.added in
    let three = with-size (written c.node.new.code) (written c.reserve-2.new.self) (code.fail ∷ []) c.in_ok-jump.ensures.kept in
    (err-refused c.from_residual-in_err-node-2.result c.in_err-node-2.field-0.0 _ _ _ _ c.from_residual-in_err-node-2.ensures.1 c.in_err-node-2.ensures.refused (omega arith) (omega arith))

pub alternation-returns-in_err-target-clause-refused : goal.alternation-returns-in_err-target-clause-refused
unfolding count
alternation-returns-in_err-target-clause-refused t c =
    let one = with-size (written c.args.code.now) (written c.reserve.new.self) (code.fail ∷ []) c.in_ok-fork.ensures.kept in
    let two = AddsTree-counted c.args.self.now.units (table c.args.self.now.tables.now) c.args.self.now.unicode c.requires.0 c.args.backward (tree c.args.first.now) (written c.reserve.new.self) (written c.node.new.code) c.requires.1.0 c.in_ok-node.ensures.added in
    let three = with-size (written c.node.new.code) (written c.reserve-2.new.self) (code.fail ∷ []) c.in_ok-jump.ensures.kept in
    let four = AddsTree-counted c.args.self.now.units (table c.args.self.now.tables.now) c.args.self.now.unicode c.requires.0 c.args.backward (tree c.args.second.now) (written c.reserve-2.new.self) (written c.node-2.new.code) c.requires.1.1 c.in_ok-node-2.ensures.added in
    (err-refused c.from_residual-in_err-target.result c.in_err-target.field-0.0 _ _ _ _ c.from_residual-in_err-target.ensures.1 c.in_err-target.ensures.err (omega arith) (omega arith))

pub alternation-returns-clause-added : goal.alternation-returns-clause-added
alternation-returns-clause-added t c =
    let w4 = written c.node-2.new.code in
    let w5 = written c.change.new.self in
    (AddsTree-alt c.args.self.now.units (table c.args.self.now.tables.now) c.args.self.now.unicode c.args.backward (tree c.args.first.now) (tree c.args.second.now) code.fail code.fail
    (written c.args.code.now) (written c.reserve.new.self) (written c.node.new.code) (written c.reserve-2.new.self) w4 w5 (written c.change-2.new.self)
    c.in_ok-fork.ensures.kept c.in_ok-node.ensures.added c.in_ok-jump.ensures.kept c.in_ok-node-2.ensures.added
    (c.change.ensures ∙ ap₂ (λ (a b : ℕ). changed w4 a (code.jump b)) c.in_ok-jump.ensures.address c.in_ok-target.ensures.ok)
    (c.change-2.ensures ∙ ap₂ (λ (a b : ℕ). changed w5 a (code.alt b)) c.in_ok-fork.ensures.address c.in_ok-secondary.ensures.ok))

pub node-returns-in-CaptureGroup-clause-added : goal.node-returns-in-CaptureGroup-clause-added
node-returns-in-CaptureGroup-clause-added t c =
    IfOk-weaker c.capture.result _ _
    (λ _ added. of-capture c.args.node.now _ _ _ (λ u. Emits c.args.self.now c.args.backward u (written c.args.code.now) (written c.capture.new.code)) c.in-CaptureGroup.is
    (λ k. rw c.deref-in-CaptureGroup.ensures at (added k)))
    c.capture.ensures.added

pub node-returns-in-LookaroundAssertion-clause-added : goal.node-returns-in-LookaroundAssertion-clause-added
node-returns-in-LookaroundAssertion-clause-added t c =
    rw (c.in-LookaroundAssertion.is, tree-LookaroundAssertion, ← c.deref-in-LookaroundAssertion.ensures) (IfOk-weaker c.lookaround.result _ _ (λ _ added. added c.args.backward) c.lookaround.ensures.added)

pub node-returns-in-AtomicGroup-clause-added : goal.node-returns-in-AtomicGroup-clause-added
node-returns-in-AtomicGroup-clause-added t c =
    rw (c.in-AtomicGroup.is, tree-AtomicGroup, ← c.deref-in-AtomicGroup.ensures) c.atomic_group.ensures.added

pub node-returns-in-CaptureGroup-clause-refused : goal.node-returns-in-CaptureGroup-clause-refused
unfolding count
node-returns-in-CaptureGroup-clause-refused t c = rw (c.in-CaptureGroup.is, tree-CaptureGroup, ← c.deref-in-CaptureGroup.ensures) c.capture.ensures.refused

pub capture-returns-in_err-node-clause-refused : goal.capture-returns-in_err-node-clause-refused
unfolding count
capture-returns-in_err-node-clause-refused t c =
    let one = with-size (written c.args.code.now) (written c.begin_group.new.self) (code.begin_group c.args.id ∷ []) c.in_ok-begin_group.ensures in
    err-refused c.from_residual-in_err-node.result c.in_err-node.field-0.0 _ _ _ _ c.from_residual-in_err-node.ensures.1 c.in_err-node.ensures.refused (omega arith) (omega arith)

pub capture-returns-clause-added : goal.capture-returns-clause-added
capture-returns-clause-added t c = λ name.
    AddsTree-capture c.args.self.now.units (table c.args.self.now.tables.now) c.args.self.now.unicode c.args.backward c.args.id name (tree c.args.contents.now)
    (written c.args.code.now) (written c.begin_group.new.self) (written c.node.new.code) (written c.end_group.new.self)
    c.in_ok-begin_group.ensures c.in_ok-node.ensures.added c.in_ok-end_group.ensures

pub lookaround-returns-in_err-node-clause-refused : goal.lookaround-returns-in_err-node-clause-refused
unfolding count
lookaround-returns-in_err-node-clause-refused t c =
    let one = with-size (written c.args.code.now) (written c.reserve.new.self) (code.fail ∷ []) c.in_ok-at.ensures.kept in
    err-refused c.from_residual-in_err-node.result c.in_err-node.field-0.0 _ _ _ _ c.from_residual-in_err-node.ensures.1 c.in_err-node.ensures.refused (omega arith) (omega arith)

pub lookaround-returns-in_err-continuation-clause-refused : goal.lookaround-returns-in_err-continuation-clause-refused
unfolding count
lookaround-returns-in_err-continuation-clause-refused t c =
    let one = with-size (written c.args.code.now) (written c.reserve.new.self) (code.fail ∷ []) c.in_ok-at.ensures.kept in
    let two = AddsTree-counted c.args.self.now.units (table c.args.self.now.tables.now) c.args.self.now.unicode c.requires.0 c.args.backwards (tree c.args.contents.now) (written c.reserve.new.self) (written c.node.new.code) c.requires.1 c.in_ok-node.ensures.added in
    let three = with-size (written c.node.new.code) (written c.push_goal.new.self) (code.goal ∷ []) c.in_ok-push_goal.ensures in
    err-refused c.from_residual-in_err-continuation.result c.in_err-continuation.field-0.0 _ _ _ _ c.from_residual-in_err-continuation.ensures.1 c.in_err-continuation.ensures.err (omega arith) (omega arith)

pub lookaround-returns-clause-added : goal.lookaround-returns-clause-added
lookaround-returns-clause-added t c = λ backward.
    let w3 = written c.push_goal.new.self in
    let kind = lookaround c.args.negate c.args.backwards in
    let inside : ℕ → Instruction = λ a. code.submatch kind c.args.groups.start c.args.groups.end a in
    AddsTree-submatch c.args.self.now.units (table c.args.self.now.tables.now) c.args.self.now.unicode backward kind c.args.groups.start c.args.groups.end (tree c.args.contents.now) code.fail
    (written c.args.code.now) (written c.reserve.new.self) (written c.node.new.code) w3 (written c.change.new.self)
    c.in_ok-at.ensures.kept c.in_ok-node.ensures.added c.in_ok-push_goal.ensures
    (c.change.ensures ∙ ap (changed w3 c.in_ok-at.at) c.look-insn.ensures
    ∙ ap₂ (λ (a b : ℕ). changed w3 a (inside b)) c.in_ok-at.ensures.address c.in_ok-continuation.ensures.ok)

pub atomic_group-returns-in_err-node-clause-refused : goal.atomic_group-returns-in_err-node-clause-refused
unfolding count
atomic_group-returns-in_err-node-clause-refused t c =
    let one = with-size (written c.args.code.now) (written c.reserve.new.self) (code.fail ∷ []) c.in_ok-at.ensures.kept in
    err-refused c.from_residual-in_err-node.result c.in_err-node.field-0.0 _ _ _ _ c.from_residual-in_err-node.ensures.1 c.in_err-node.ensures.refused (omega arith) (omega arith)

pub atomic_group-returns-in_err-continuation-clause-refused : goal.atomic_group-returns-in_err-continuation-clause-refused
unfolding count
atomic_group-returns-in_err-continuation-clause-refused t c =
    let one = with-size (written c.args.code.now) (written c.reserve.new.self) (code.fail ∷ []) c.in_ok-at.ensures.kept in
    let two = AddsTree-counted c.args.self.now.units (table c.args.self.now.tables.now) c.args.self.now.unicode c.requires.0 c.args.backward (tree c.args.contents.now) (written c.reserve.new.self) (written c.node.new.code) c.requires.1 c.in_ok-node.ensures.added in
    let three = with-size (written c.node.new.code) (written c.push_goal.new.self) (code.goal ∷ []) c.in_ok-push_goal.ensures in
    err-refused c.from_residual-in_err-continuation.result c.in_err-continuation.field-0.0 _ _ _ _ c.from_residual-in_err-continuation.ensures.1 c.in_err-continuation.ensures.err (omega arith) (omega arith)

pub atomic_group-returns-clause-added : goal.atomic_group-returns-clause-added
atomic_group-returns-clause-added t c =
    let w3 = written c.push_goal.new.self in
    let inside : ℕ → Instruction = λ a. code.submatch atomic c.args.groups.start c.args.groups.end a in
    AddsTree-submatch c.args.self.now.units (table c.args.self.now.tables.now) c.args.self.now.unicode c.args.backward atomic c.args.groups.start c.args.groups.end (tree c.args.contents.now) code.fail
    (written c.args.code.now) (written c.reserve.new.self) (written c.node.new.code) w3 (written c.change.new.self)
    c.in_ok-at.ensures.kept c.in_ok-node.ensures.added c.in_ok-push_goal.ensures
    (c.change.ensures
    ∙ ap₂ (λ (a b : ℕ). changed w3 a (inside b)) c.in_ok-at.ensures.address c.in_ok-continuation.ensures.ok)

pub repetition-returns-in_err-node-clause-refused : goal.repetition-returns-in_err-node-clause-refused
unfolding count
repetition-returns-in_err-node-clause-refused t c =
    let none : ((written c.next_loop.new.self).loops ≡ (written c.args.code.now).loops + 1) × (length (written c.next_loop.new.self).instructions ≡ length (written c.args.code.now).instructions) = (ap (λ (v : Written). v.loops) c.in_ok-loop_id.ensures.counted, ap (λ (v : Written). length v.instructions) c.in_ok-loop_id.ensures.counted) in
    let one = with-size (written c.next_loop.new.self) (written c.reserve.new.self) (code.fail ∷ []) c.in_ok-begin.ensures.kept in
    let two = with-size (written c.reserve.new.self) (written c.push_resets.new.self) (resets c.args.groups.now.start (c.args.groups.now.end - c.args.groups.now.start)) c.in_ok-push_resets.ensures.ok in
    let reset = resets-length c.args.groups.now.start (c.args.groups.now.end - c.args.groups.now.start) in
    err-refused c.from_residual-in_err-node.result c.in_err-node.field-0.0 _ _ _ _ c.from_residual-in_err-node.ensures.1 c.in_err-node.ensures.refused (omega arith) (omega arith)

pub repetition-returns-in_err-exit-clause-refused : goal.repetition-returns-in_err-exit-clause-refused
unfolding count
repetition-returns-in_err-exit-clause-refused t c =
    let none : ((written c.next_loop.new.self).loops ≡ (written c.args.code.now).loops + 1) × (length (written c.next_loop.new.self).instructions ≡ length (written c.args.code.now).instructions) = (ap (λ (v : Written). v.loops) c.in_ok-loop_id.ensures.counted, ap (λ (v : Written). length v.instructions) c.in_ok-loop_id.ensures.counted) in
    let one = with-size (written c.next_loop.new.self) (written c.reserve.new.self) (code.fail ∷ []) c.in_ok-begin.ensures.kept in
    let two = with-size (written c.reserve.new.self) (written c.push_resets.new.self) (resets c.args.groups.now.start (c.args.groups.now.end - c.args.groups.now.start)) c.in_ok-push_resets.ensures.ok in
    let reset = resets-length c.args.groups.now.start (c.args.groups.now.end - c.args.groups.now.start) in
    let three = AddsTree-counted c.args.self.now.units (table c.args.self.now.tables.now) c.args.self.now.unicode c.requires.0 c.args.backward (tree c.args.loopee.now) (written c.push_resets.new.self) (written c.node.new.code) c.requires.1 c.in_ok-node.ensures.added in
    let four = with-size (written c.node.new.code) (written c.push_again.new.self) (code.loop_again c.in_ok-begin.begin ∷ []) c.in_ok-push_again.ensures in
    err-refused c.from_residual-in_err-exit.result c.in_err-exit.field-0.0 _ _ _ _ c.from_residual-in_err-exit.ensures.1 c.in_err-exit.ensures.err (omega arith) (omega arith)

pub repetition-returns-clause-added : goal.repetition-returns-clause-added
repetition-returns-clause-added t c =
    let first = c.args.groups.now.start in
    let last = c.args.groups.now.end in
    let quant = c.args.quant.now in
    let w0 = (written c.args.code.now) in
    let v = written c.next_loop.new.self in
    let w3 = written c.node.new.code in
    let w4 = written c.push_again.new.self in
    let begin : c.in_ok-begin.begin ≡ length w0.instructions = c.in_ok-begin.ensures.address ∙ ap (λ (u : Written). length u.instructions) c.in_ok-loop_id.ensures.counted in
    let fields : ℕ → ℕ → ℕ → Instruction = λ id m a. code.enter_loop (record { loop_id = id; least = quant.min; most = m; greedy = quant.greedy; exit = a }) in
    AddsTree-loop c.args.self.now.units (table c.args.self.now.tables.now) c.args.self.now.unicode c.args.backward (tree c.args.loopee.now) first last quant.min (most quant) quant.greedy code.fail
    w0 v (written c.reserve.new.self) (written c.push_resets.new.self) w3 w4 (written c.enter_loop.new.self)
    c.in_ok-loop_id.ensures.counted c.in_ok-begin.ensures.kept c.in_ok-push_resets.ensures.ok c.in_ok-node.ensures.added
    (c.in_ok-push_again.ensures ∙ ap (λ (a : ℕ). with w3 (code.loop_again a ∷ [])) begin)
    (c.enter_loop.ensures ∙ ap (λ (a : ℕ). changed w4 a (fields c.in_ok-loop_id.loop_id (most quant) c.in_ok-exit.exit)) begin
    ∙ ap₂ (λ (id a : ℕ). changed w4 (length w0.instructions) (fields id (most quant) a)) c.in_ok-loop_id.ensures.id c.in_ok-exit.ensures.ok)

pub single_repetition-returns-clause-added : goal.single_repetition-returns-clause-added
single_repetition-returns-clause-added t c =
    let quant = c.args.quant.now in
    IfOk-weaker c.node.result _ _
    (λ _ added. AddsTree-single_loop c.args.self.now.units (table c.args.self.now.tables.now) c.args.self.now.unicode c.args.backward (tree c.args.loopee.now) quant.min (most quant) quant.greedy
    (written c.args.code.now) (written c.push_single_loop.new.self) (written c.node.new.code)
    c.in_ok-push_single_loop.ensures added)
    c.node.ensures.added

pub single_repetition-returns-clause-refused : goal.single_repetition-returns-clause-refused
unfolding count
single_repetition-returns-clause-refused t c =
    let quant = c.args.quant.now in
    let one = with-size (written c.args.code.now) (written c.push_single_loop.new.self) (code.single_loop quant.min (most quant) quant.greedy ∷ []) c.in_ok-push_single_loop.ensures in
    let alone = single-count c.args.self.now.units (table c.args.self.now.tables.now) c.args.self.now.unicode c.requires.0 (tree c.args.loopee.now) c.requires.1.0 c.requires.1.2 in
    IfErr-weaker c.node.result _ _ (λ e may. MayRefuse-more _ _ _ _ e (omega (arith, one, alone)) (omega (arith, one, alone)) may) c.node.ensures.refused

pub parts-loop-part-init : goal.parts-loop-part-init
parts-loop-part-init t c = Adds-nothing c.args.self.now.units (written c.args.code.now)

pub parts-node-requires : goal.parts-node-requires
parts-node-requires t c =
    let parts = c.args.parts.now in
    let k = c.loop-part.part-index in
    let part = c.part-item.result in
    let nested = nesting-part parts parts k part c.loop-part-test.true refl in
    let same = ap (λ n. nesting (tree n)) c.part-item.is in
    (omega (arith, c.decreases, nested, same), (c.requires.0, (parts-lawful c.requires.0 parts k part c.loop-part-test.true c.part-item.is c.requires.1).1))

pub parts-returns-in_err-node-clause-refused : goal.parts-returns-in_err-node-clause-refused
parts-returns-in_err-node-clause-refused t c =
    let parts = c.args.parts.now in
    let k = c.loop-part.part-index in
    let part = c.part-item.result in
    let lawful = parts-lawful c.requires.0 parts k part c.loop-part-test.true c.part-item.is c.requires.1 in
    let front = AddsTree-counted c.args.self.now.units (table c.args.self.now.tables.now) c.args.self.now.unicode c.requires.0 c.args.backward (cat_of (map tree (take k parts))) (written c.args.code.now) (written c.loop-part.code) lawful.0 c.loop-part.invariant in
    let within = parts-within c.args.self.now.units (table c.args.self.now.tables.now) c.args.self.now.unicode parts k part c.loop-part-test.true c.part-item.is in
    err-refused c.from_residual.result c.in_err-node.field-0.0 _ _ _ _ c.from_residual.ensures.1 c.in_err-node.ensures.refused (omega (arith, front, within)) (omega (arith, front, within))

pub parts-loop-part-preserved : goal.parts-loop-part-preserved
parts-loop-part-preserved t c =
    let parts = c.args.parts.now in
    let k = c.loop-part.part-index in
    let part = c.part-item.result in
    subst (λ (ts : List Tree). Emits c.args.self.now c.args.backward (cat_of ts) (written c.args.code.now) (written c.node.new.code))
    (ap (λ (u : Tree). map tree (take k parts) ++ u ∷ []) (ap tree c.part-item.is) ∙ sym (parts-more parts k part c.loop-part-test.true))
    (AddsTree-more c.args.self.now.units (table c.args.self.now.tables.now) c.args.self.now.unicode c.args.backward (map tree (take k parts)) (tree part) (written c.args.code.now) (written c.loop-part.code) (written c.node.new.code) c.loop-part.invariant c.in_ok-node.ensures.added)

pub parts-returns-clause-added : goal.parts-returns-clause-added
parts-returns-clause-added t c = rw (take_all c.loop-part.part-index c.args.parts.now (omega arith)) at c.loop-part.invariant
