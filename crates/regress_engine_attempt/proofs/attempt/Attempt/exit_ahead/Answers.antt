use Rattle.std.proofs.Common.{inl, inr, map, sym, ap, ◌∙◌, subst, arith, refl}
use Rattle.regress_engine_insn.specs.InsnViews.{instruction}
use Rattle.regress_engine_code.specs.Standing.{program_of}
use Rattle.regress_engine_input.specs.Views.{direction_of, input_of}
use Rattle.regress_engine_runs.specs.Runs.{advance}
use Rattle.regress_engine_search.specs.StateViews.{marks_of}
use Rattle.regress_engine_search.specs.Ready.{IsReady}
use Rattle.regress_engine_search.proofs.ReadyLemmas.{body-asked, body-next}
use Rattle.regress_engine_undo.specs.Held.{held}
use Rattle.regress_engine_memory.specs.Held.{ExitsFailWith}
use Rattle.regress_engine_memory.specs.Remembered.{keyed_of}
use Rattle.regress_engine_memory.specs.TableViews.{table_of}
use Rattle.regress_engine_trying.proofs.ExitLemmas.{over-same, over-then, over-last, over-one, over-all, more-then, then-more, last-one, next-one}
use Rattle.regress_engine_attempt.proofs.attempt.Attempt.exit_ahead.Goals as goal

pub places-init : goal.places-init
places-init g c =
    let program = program_of c.args.self.now.program.now in
    let v = g.Input.InputIndexer.view c.args.self.now.input in
    record {
      over = over-same program v (keyed_of (table_of c.args.failures.now.table)) (held c.args.memory.now) c.requires.sound.loops c.args.forward c.args.at (instruction c.instruction-body.result.now) c.instruction-body.ensures.stands c.args.offset c.args.left;
      more = inl refl;
      body = c.requires.body;
    }

pub overflow_sub-at : goal.overflow_sub-at
overflow_sub-at g c = let some = c.requires.body.4 in omega (arith, some)

pub instruction-body-requires : goal.instruction-body-requires
instruction-body-requires g c = (c.requires.body.0, c.requires.body.1)

pub exit_fails-requires-clause-place : goal.exit_fails-requires-clause-place
exit_fails-requires-clause-place g c = c.places.invariant.body.3

pub once-requires-clause-ready : goal.once-requires-clause-ready
once-requires-clause-ready g c =
    let program = program_of c.args.self.now.program.now in
    let v = g.Input.InputIndexer.view c.args.self.now.input in
    let i = instruction c.instruction-body.result.now in
    subst (λ gs. IsReady program v i (map marks_of gs) c.places.near) (sym c.deref.ensures.value)
    (body-asked v (g.met.Input.InputIndexer.are_of_kind c.args.self.now.input) program c.requires.suits c.args.at c.places.near i (held c.args.memory.now).groups c.places.invariant.body c.instruction-body.ensures.stands
    c.requires.sound.groups)

pub returns-then-are_exits_known-clause-leads : goal.returns-then-are_exits_known-clause-leads
returns-then-are_exits_known-clause-leads g c =
    let program = program_of c.args.self.now.program.now in
    let v = g.Input.InputIndexer.view c.args.self.now.input in
    let h = held c.args.memory.now in
    let keyed = keyed_of (table_of c.args.failures.now.table) in
    let i = instruction c.instruction-body.result.now in
    let here = c.instruction-body.ensures.stands in
    over-then program v keyed h c.requires.sound.loops c.args.forward c.args.at i here c.args.offset c.args.left c.places.near c.places.rest h c.places.invariant.over
    (over-all program v keyed h c.requires.sound.loops c.args.forward c.args.at i here c.places.near c.places.rest
    (subst (ExitsFailWith program (input_of v) keyed _) c.loops.ensures (c.are_exits_known.ensures c.if-are_exits_known.true program (input_of v) c.requires.so.known)))

pub returns-then-not-exit_fails-clause-leads : goal.returns-then-not-exit_fails-clause-leads
returns-then-not-exit_fails-clause-leads g c = c.places.invariant.over

pub returns-then-rest-eq0-clause-leads : goal.returns-then-rest-eq0-clause-leads
returns-then-rest-eq0-clause-leads g c =
    let program = program_of c.args.self.now.program.now in
    let v = g.Input.InputIndexer.view c.args.self.now.input in
    let h = held c.args.memory.now in
    let keyed = keyed_of (table_of c.args.failures.now.table) in
    let i = instruction c.instruction-body.result.now in
    let here = c.instruction-body.ensures.stands in
    over-then program v keyed h c.requires.sound.loops c.args.forward c.args.at i here c.args.offset c.args.left c.places.near c.places.rest h c.places.invariant.over
    (over-last program v keyed h c.requires.sound.loops c.args.forward c.args.at i here c.places.near c.places.rest (c.exit_fails.ensures c.if-not-exit_fails.false) (inl c.if-rest-eq0.true))

pub returns-in_default-clause-leads : goal.returns-in_default-clause-leads
returns-in_default-clause-leads g c =
    let program = program_of c.args.self.now.program.now in
    let v = g.Input.InputIndexer.view c.args.self.now.input in
    let h = held c.args.memory.now in
    let keyed = keyed_of (table_of c.args.failures.now.table) in
    let i = instruction c.instruction-body.result.now in
    let here = c.instruction-body.ensures.stands in
    over-then program v keyed h c.requires.sound.loops c.args.forward c.args.at i here c.args.offset c.args.left c.places.near c.places.rest h c.places.invariant.over
    (over-last program v keyed h c.requires.sound.loops c.args.forward c.args.at i here c.places.near c.places.rest (c.exit_fails.ensures c.if-not-exit_fails.false)
    (inr (ap (λ gs. advance program (input_of v) i (direction_of c.args.forward) (map marks_of gs) c.places.near) (sym c.deref.ensures.value) ∙ sym c.in_default.ensures)))

pub places-preserved : goal.places-preserved
places-preserved g c =
    let program = program_of c.args.self.now.program.now in
    let v = g.Input.InputIndexer.view c.args.self.now.input in
    let h = held c.args.memory.now in
    let keyed = keyed_of (table_of c.args.failures.now.table) in
    let i = instruction c.instruction-body.result.now in
    let here = c.instruction-body.ensures.stands in
    let takes = ap (λ gs. advance program (input_of v) i (direction_of c.args.forward) (map marks_of gs) c.places.near) (sym c.deref.ensures.value) ∙ sym c.in-Some.ensures in
    record {
      over = over-then program v keyed h c.requires.sound.loops c.args.forward c.args.at i here c.args.offset c.args.left c.places.near c.places.rest _ c.places.invariant.over
          (over-one program v keyed h c.requires.sound.loops c.args.forward c.args.at i here c.places.near c.places.rest c.in-Some.next (c.exit_fails.ensures c.if-not-exit_fails.false) c.if-rest-eq0.false takes);
      more = inr (then-more program v keyed h c.requires.sound.loops c.args.forward c.args.at i here c.args.offset c.args.left c.places.near c.places.rest _ c.places.invariant.over
          (next-one program v keyed h c.requires.sound.loops c.args.forward c.args.at i here c.places.near c.places.rest c.in-Some.next (c.exit_fails.ensures c.if-not-exit_fails.false) c.if-rest-eq0.false takes));
      body = body-next v (g.met.Input.InputIndexer.are_of_kind c.args.self.now.input) program c.requires.suits c.args.at c.places.near c.in-Some.next i (direction_of c.args.forward) h.groups
          c.places.invariant.body here takes;
    }

pub returns-then-are_exits_known-clause-over : goal.returns-then-are_exits_known-clause-over
returns-then-are_exits_known-clause-over g c =
    let program = program_of c.args.self.now.program.now in
    let v = g.Input.InputIndexer.view c.args.self.now.input in
    let h = held c.args.memory.now in
    let keyed = keyed_of (table_of c.args.failures.now.table) in
    let i = instruction c.instruction-body.result.now in
    let here = c.instruction-body.ensures.stands in
    elim c.places.invariant.more [
      | inl same ↦ inl same
      | inr more ↦ inr (more-then program v keyed h c.requires.sound.loops c.args.forward c.args.at i here c.args.offset c.args.left c.places.near c.places.rest h more
          (over-all program v keyed h c.requires.sound.loops c.args.forward c.args.at i here c.places.near c.places.rest
          (subst (ExitsFailWith program (input_of v) keyed _) c.loops.ensures (c.are_exits_known.ensures c.if-are_exits_known.true program (input_of v) c.requires.so.known))))
    ]

pub returns-then-not-exit_fails-clause-over : goal.returns-then-not-exit_fails-clause-over
returns-then-not-exit_fails-clause-over g c = c.places.invariant.more

pub returns-then-rest-eq0-clause-over : goal.returns-then-rest-eq0-clause-over
returns-then-rest-eq0-clause-over g c =
    let program = program_of c.args.self.now.program.now in
    let v = g.Input.InputIndexer.view c.args.self.now.input in
    let h = held c.args.memory.now in
    let keyed = keyed_of (table_of c.args.failures.now.table) in
    let i = instruction c.instruction-body.result.now in
    let here = c.instruction-body.ensures.stands in
    inr (then-more program v keyed h c.requires.sound.loops c.args.forward c.args.at i here c.args.offset c.args.left c.places.near c.places.rest h c.places.invariant.over
    (last-one program v keyed h c.requires.sound.loops c.args.forward c.args.at i here c.places.near c.places.rest (c.exit_fails.ensures c.if-not-exit_fails.false) (inl c.if-rest-eq0.true)))

pub returns-in_default-clause-over : goal.returns-in_default-clause-over
returns-in_default-clause-over g c =
    let program = program_of c.args.self.now.program.now in
    let v = g.Input.InputIndexer.view c.args.self.now.input in
    let h = held c.args.memory.now in
    let keyed = keyed_of (table_of c.args.failures.now.table) in
    let i = instruction c.instruction-body.result.now in
    let here = c.instruction-body.ensures.stands in
    inr (then-more program v keyed h c.requires.sound.loops c.args.forward c.args.at i here c.args.offset c.args.left c.places.near c.places.rest h c.places.invariant.over
    (last-one program v keyed h c.requires.sound.loops c.args.forward c.args.at i here c.places.near c.places.rest (c.exit_fails.ensures c.if-not-exit_fails.false)
    (inr (ap (λ gs. advance program (input_of v) i (direction_of c.args.forward) (map marks_of gs) c.places.near) (sym c.deref.ensures.value) ∙ sym c.in_default.ensures))))
