use Rattle.std.proofs.Common.{◌≡◌, ◌+◌, ◌-◌, suc, Some, None, inl, inr, map, sym, ap, ◌∙◌, subst, arith}
use Rattle.regress_engine_insn.specs.InsnViews.{instruction}
use Rattle.regress_engine_code.specs.Standing.{program_of}
use Rattle.regress_engine_input.specs.Views.{direction_of, input_of}
use Rattle.regress_engine_runs.specs.Runs.{advance}
use Rattle.regress_engine_runs.proofs.Iterations.{after-all}
use Rattle.regress_engine_search.specs.StateViews.{marks_of}
use Rattle.regress_engine_search.specs.Ready.{IsReady}
use Rattle.regress_engine_search.proofs.ReadyLemmas.{body-asked, body-next}
use Rattle.regress_engine_undo.specs.Held.{held}
use Rattle.regress_engine_memory.specs.Held.{ExitsFailWith}
use Rattle.regress_engine_memory.specs.Remembered.{keyed_of}
use Rattle.regress_engine_memory.specs.TableViews.{table_of}
use Rattle.regress_engine_memory.proofs.Cutting.{after-one}
use Rattle.regress_engine_trying.proofs.ExitLemmas.{UpTo, up-any, up-end, up-known, up-none}
use Rattle.regress_engine_attempt.proofs.attempt.Attempt.far_exit.Goals as goal

pub overflow_sub-at : goal.overflow_sub-at
overflow_sub-at g c = let some = c.requires.body.4 in omega (arith, some)

pub instruction-body-requires : goal.instruction-body-requires
instruction-body-requires g c = (c.requires.body.0, c.requires.body.1)

pub places-init : goal.places-init
places-init g c =
    let program = program_of c.args.self.now.program.now in
    let v = g.Input.InputIndexer.view c.args.self.now.input in
    record {
      after = (0, omega arith, sym (after-all program (input_of v) (instruction c.instruction-body.result.now) (direction_of c.args.forward) (held c.args.memory.now).groups 0 c.args.near (omega arith)));
      body = c.requires.body;
    }

pub once-requires-clause-ready : goal.once-requires-clause-ready
once-requires-clause-ready g c =
    let program = program_of c.args.self.now.program.now in
    let v = g.Input.InputIndexer.view c.args.self.now.input in
    let i = instruction c.instruction-body.result.now in
    subst (λ gs. IsReady program v i (map marks_of gs) c.places.far) (sym c.deref.ensures.value)
    (body-asked v (g.met.Input.InputIndexer.are_of_kind c.args.self.now.input) program c.requires.suits c.args.at c.places.far i (held c.args.memory.now).groups c.places.invariant.body c.instruction-body.ensures.stands
    c.requires.sound.groups)

pub returns-then-are_exits_known-clause-leads : goal.returns-then-are_exits_known-clause-leads
returns-then-are_exits_known-clause-leads g c =
    let program = program_of c.args.self.now.program.now in
    let v = g.Input.InputIndexer.view c.args.self.now.input in
    let h = held c.args.memory.now in
    let keyed = keyed_of (table_of c.args.failures.now.table) in
    let i = instruction c.instruction-body.result.now in
    let here = c.instruction-body.ensures.stands in
    let all = g.met.Input.InputIndexer.are_of_kind c.args.self.now.input in
    up-any program v h c.args.forward c.args.at i here c.args.near c.args.left None
    (up-none program v keyed h c.requires.sound.loops c.args.forward c.args.at i here all c.requires.suits c.args.near c.requires.body c.args.left
    (subst (ExitsFailWith program (input_of v) keyed _) c.loops.ensures (c.are_exits_known.ensures c.if-are_exits_known.true program (input_of v) c.requires.so.known)))

pub returns-in_default-clause-leads : goal.returns-in_default-clause-leads
returns-in_default-clause-leads g c =
    let program = program_of c.args.self.now.program.now in
    let v = g.Input.InputIndexer.view c.args.self.now.input in
    let h = held c.args.memory.now in
    let keyed = keyed_of (table_of c.args.failures.now.table) in
    let i = instruction c.instruction-body.result.now in
    let here = c.instruction-body.ensures.stands in
    let all = g.met.Input.InputIndexer.are_of_kind c.args.self.now.input in
    let (m, sum, after) = c.places.invariant.after in
    let stops = ap (λ gs. advance program (input_of v) i (direction_of c.args.forward) (map marks_of gs) c.places.far) (sym c.deref.ensures.value) ∙ sym c.in_default.ensures in
    up-any program v h c.args.forward c.args.at i here c.args.near c.args.left (Some c.places.far)
    (subst (λ n. UpTo program v keyed h c.requires.sound.loops c.args.forward c.args.at i here all c.requires.suits c.args.near c.requires.body n c.places.far) sum
    (up-end program v keyed h c.requires.sound.loops c.args.forward c.args.at i here all c.requires.suits c.args.near c.requires.body m c.places.rest c.places.far after (inr stops)))

pub returns-then-are_exits_known-2-clause-leads : goal.returns-then-are_exits_known-2-clause-leads
returns-then-are_exits_known-2-clause-leads g c =
    let program = program_of c.args.self.now.program.now in
    let v = g.Input.InputIndexer.view c.args.self.now.input in
    let h = held c.args.memory.now in
    let keyed = keyed_of (table_of c.args.failures.now.table) in
    let i = instruction c.instruction-body.result.now in
    let here = c.instruction-body.ensures.stands in
    let all = g.met.Input.InputIndexer.are_of_kind c.args.self.now.input in
    let (m, sum, after) = c.places.invariant.after in
    let takes = ap (λ gs. advance program (input_of v) i (direction_of c.args.forward) (map marks_of gs) c.places.far) (sym c.deref.ensures.value) ∙ sym c.in-Some.ensures in
    let some = c.places-test.true in
    let sum' : m + suc (c.places.rest - 1) ≡ c.args.left = omega (arith, sum, some) in
    up-any program v h c.args.forward c.args.at i here c.args.near c.args.left (Some c.places.far)
    (subst (λ n. UpTo program v keyed h c.requires.sound.loops c.args.forward c.args.at i here all c.requires.suits c.args.near c.requires.body n c.places.far) sum'
    (up-known program v keyed h c.requires.sound.loops c.args.forward c.args.at i here all c.requires.suits c.args.near c.requires.body m (c.places.rest - 1) c.places.far c.in-Some.next after takes
    (subst (ExitsFailWith program (input_of v) keyed _) c.loops-in-places.ensures (c.are_exits_known-in-places.ensures c.if-are_exits_known-2.true program (input_of v) c.requires.so.known))))

pub returns-clause-leads : goal.returns-clause-leads
returns-clause-leads g c =
    let program = program_of c.args.self.now.program.now in
    let v = g.Input.InputIndexer.view c.args.self.now.input in
    let h = held c.args.memory.now in
    let keyed = keyed_of (table_of c.args.failures.now.table) in
    let i = instruction c.instruction-body.result.now in
    let here = c.instruction-body.ensures.stands in
    let all = g.met.Input.InputIndexer.are_of_kind c.args.self.now.input in
    let (m, sum, after) = c.places.invariant.after in
    let none = c.places-test.false in
    up-any program v h c.args.forward c.args.at i here c.args.near c.args.left (Some c.places.far)
    (subst (λ n. UpTo program v keyed h c.requires.sound.loops c.args.forward c.args.at i here all c.requires.suits c.args.near c.requires.body n c.places.far) sum
    (up-end program v keyed h c.requires.sound.loops c.args.forward c.args.at i here all c.requires.suits c.args.near c.requires.body m c.places.rest c.places.far after (inl (omega (arith, none)))))

pub places-preserved : goal.places-preserved
places-preserved g c =
    let program = program_of c.args.self.now.program.now in
    let v = g.Input.InputIndexer.view c.args.self.now.input in
    let h = held c.args.memory.now in
    let keyed = keyed_of (table_of c.args.failures.now.table) in
    let i = instruction c.instruction-body.result.now in
    let here = c.instruction-body.ensures.stands in
    let all = g.met.Input.InputIndexer.are_of_kind c.args.self.now.input in
    let (m, sum, after) = c.places.invariant.after in
    let takes = ap (λ gs. advance program (input_of v) i (direction_of c.args.forward) (map marks_of gs) c.places.far) (sym c.deref.ensures.value) ∙ sym c.in-Some.ensures in
    let some = c.places-test.true in
    record {
      after = (suc m, omega (arith, sum, some), after-one program (input_of v) i (direction_of c.args.forward) h.groups m c.args.near c.places.far c.in-Some.next after takes);
      body = body-next v all program c.requires.suits c.args.at c.places.far c.in-Some.next i (direction_of c.args.forward) h.groups c.places.invariant.body here takes;
    }
