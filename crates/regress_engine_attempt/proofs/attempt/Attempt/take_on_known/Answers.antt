use Rattle.std.proofs.Common.{◌≡◌, ℕ, ◌-◌, Bool, true, false, if◌then◌else◌, ap, ◌∙◌, refl, sym, subst, arith, length}
use Rattle.regress_engine_code.specs.Standing.{program_of}
use Rattle.regress_engine_input.specs.Views.{View, input_of}
use Rattle.regress_engine_insn.specs.Instructions.{Program}
use Rattle.regress_engine_runs.specs.Closed.{takes_character}
use Rattle.regress_engine_runs.specs.UndoStack.{take_on}
use Rattle.regress_engine_runs.proofs.RunViews.{one_stands}
use Rattle.regress_engine_search.specs.Tasks.{Leads}
use Rattle.regress_engine_search.proofs.TaskLemmas.{leads-then}
use Rattle.regress_engine_undo.specs.Held.{Held, held, pushed}
use Rattle.regress_engine_undo.specs.Tasks.{task}
use Rattle.regress_engine_undo.specs.declared.undo.Spot.{Spot}
use Rattle.regress_engine_undo.proofs.BackLemmas.{held-take_on, take_on-held}
use Rattle.regress_engine_trying.specs.declared.exit.Exit.{Exit}
use Rattle.regress_engine_trying.specs.Trying.{GoesBack}
use Rattle.regress_engine_trying.specs.Remembering.{taken_up}
use Rattle.regress_engine_trying.specs.Passing.{TakesUpMore}
use Rattle.regress_engine_trying.proofs.TakeLemmas.{was, passed-or, passed-both}
use Rattle.regress_engine_search.proofs.SkipLemmas.{place-lies}
use Rattle.regress_engine_attempt.proofs.attempt.Attempt.take_on_known.Goals as goal

-- what an exit leads to where it may go on, or not
led-on : (program : Program) (v : View) (p : Spot) (j h : Held) (at : ℕ) (e : Exit) → e.may_go ≡ true → GoesBack (record { program = program; view = v }) p j p (taken_up at e h) false
    → Leads program (input_of v) 0 (task program (input_of v) false p j) (task program (input_of v) false p (pushed (take_on at e.offset e.left) h))
led-on program v p j h at e may leads =
    subst (λ b. Leads program (input_of v) 0 (task program (input_of v) false p j) (task program (input_of v) false p (if b then pushed (take_on at e.offset e.left) h else h))) may leads

led-none : (program : Program) (v : View) (p : Spot) (j h : Held) (at : ℕ) (e : Exit) → e.may_go ≡ false → GoesBack (record { program = program; view = v }) p j p (taken_up at e h) false
    → Leads program (input_of v) 0 (task program (input_of v) false p j) (task program (input_of v) false p h)
led-none program v p j h at e may leads =
    subst (λ b. Leads program (input_of v) 0 (task program (input_of v) false p j) (task program (input_of v) false p (if b then pushed (take_on at e.offset e.left) h else h))) may leads

more-on : (program : Program) (v : View) (p : Spot) (h : Held) (at offset left : ℕ) (e : Exit) → e.may_go ≡ true → TakesUpMore (record { program = program; view = v }) p.forward at offset left e h
    → Leads program (input_of v) 1 (task program (input_of v) false p (pushed (take_on at offset left) h)) (task program (input_of v) false p (pushed (take_on at e.offset e.left) h))
more-on program v p h at offset left e may leads =
    subst (λ b. Leads program (input_of v) 1 (task program (input_of v) false p (pushed (take_on at offset left) h)) (task program (input_of v) false p (if b then pushed (take_on at e.offset e.left) h else h))) may (leads p refl)

more-none : (program : Program) (v : View) (p : Spot) (h : Held) (at offset left : ℕ) (e : Exit) → e.may_go ≡ false → TakesUpMore (record { program = program; view = v }) p.forward at offset left e h
    → Leads program (input_of v) 1 (task program (input_of v) false p (pushed (take_on at offset left) h)) (task program (input_of v) false p h)
more-none program v p h at offset left e may leads =
    subst (λ b. Leads program (input_of v) 1 (task program (input_of v) false p (pushed (take_on at offset left) h)) (task program (input_of v) false p (if b then pushed (take_on at e.offset e.left) h else h))) may (leads p refl)

pub exit_ahead-exit-requires-clause-sound : goal.exit_ahead-exit-requires-clause-sound
exit_ahead-exit-requires-clause-sound g c = (held-take_on _ _ (held c.args.memory.now) c.args.at c.args.offset c.args.left c.requires.sound).1

pub exit_ahead-exit-requires-clause-body : goal.exit_ahead-exit-requires-clause-body
exit_ahead-exit-requires-clause-body g c = (held-take_on _ _ (held c.args.memory.now) c.args.at c.args.offset c.args.left c.requires.sound).0

pub overflow_sub-at : goal.overflow_sub-at
overflow_sub-at g c = let some = c.exit_ahead-exit.ensures.body.4 in omega (arith, some)

pub instruction-requires : goal.instruction-requires
instruction-requires g c = (c.exit_ahead-exit.ensures.body.0, c.exit_ahead-exit.ensures.body.1)

pub learn_back-requires-clause-sound : goal.learn_back-requires-clause-sound
learn_back-requires-clause-sound g c = (held-take_on _ _ (held c.args.memory.now) c.args.at c.args.offset c.args.left c.requires.sound).1

pub learn_back-requires-clause-body : goal.learn_back-requires-clause-body
learn_back-requires-clause-body g c =
    let program = program_of c.args.self.now.program.now in
    let v = g.Input.InputIndexer.view c.args.self.now.input in
    let body = c.exit_ahead-exit.ensures.body in
    (c.instruction.ensures.stands, ap takes_character (sym (one_stands program (input_of v) (c.args.at - 1) body.0 _ body.1 c.instruction.ensures.stands)) ∙ body.2, body.4)

pub learn_back-requires-clause-place : goal.learn_back-requires-clause-place
learn_back-requires-clause-place g c = c.exit_ahead-exit.ensures.body.3

pub returns-then-not-exit-clause-leads : goal.returns-then-not-exit-clause-leads
returns-then-not-exit-clause-leads g c =
    let program = program_of c.args.self.now.program.now in
    let v = g.Input.InputIndexer.view c.args.self.now.input in
    led-none program v c.args.spot.now (pushed (take_on c.args.at c.args.offset c.args.left) (held c.args.memory.now)) (held c.args.memory.now) c.args.at c.exit_ahead-exit.result (was c.exit_ahead-exit.result.may_go true c.if-not-exit.true)
    (c.exit_ahead-exit.ensures.leads c.args.spot.now refl)

pub returns-then-not-exit-clause-sound : goal.returns-then-not-exit-clause-sound
returns-then-not-exit-clause-sound g c = (held-take_on _ _ (held c.args.memory.now) c.args.at c.args.offset c.args.left c.requires.sound).1

pub take_on-requires-clause-sound : goal.take_on-requires-clause-sound
take_on-requires-clause-sound g c =
    let program = program_of c.args.self.now.program.now in
    let v = g.Input.InputIndexer.view c.args.self.now.input in
    take_on-held program v (held c.args.memory.now) _ c.args.at c.exit_ahead-exit.result.offset c.exit_ahead-exit.result.left refl c.exit_ahead-exit.ensures.body
    (held-take_on program v (held c.args.memory.now) c.args.at c.args.offset c.args.left c.requires.sound).1

pub returns-in_ok-record_exit-clause-leads : goal.returns-in_ok-record_exit-clause-leads
returns-in_ok-record_exit-clause-leads g c =
    let program = program_of c.args.self.now.program.now in
    let v = g.Input.InputIndexer.view c.args.self.now.input in
    let input = input_of v in
    let from = task program input false c.args.spot.now (pushed (take_on c.args.at c.args.offset c.args.left) (held c.args.memory.now)) in
    subst (λ b. Leads program input 0 from (task program input b c.take_on.new.spot (held c.record_exit.new.memory))) (sym c.if-going.true)
    (leads-then program input 0 0
    (led-on program v c.args.spot.now (pushed (take_on c.args.at c.args.offset c.args.left) (held c.args.memory.now)) (held c.args.memory.now) c.args.at c.exit_ahead-exit.result (was c.exit_ahead-exit.result.may_go false c.if-not-exit.false)
    (c.exit_ahead-exit.ensures.leads c.args.spot.now refl))
    (leads-then program input 0 0
    (subst (λ b. Leads program input 0 (task program input false c.args.spot.now (pushed (take_on c.args.at c.exit_ahead-exit.result.offset c.exit_ahead-exit.result.left) (held c.args.memory.now))) (task program input b c.take_on.new.spot (held c.take_on.new.memory))) c.if-going.true
    c.in_ok-going.ensures.leads)
    c.in_ok-record_exit.ensures.leads))

pub returns-else-going-clause-leads : goal.returns-else-going-clause-leads
returns-else-going-clause-leads g c =
    let program = program_of c.args.self.now.program.now in
    let v = g.Input.InputIndexer.view c.args.self.now.input in
    let input = input_of v in
    leads-then program input 0 0
    (led-on program v c.args.spot.now (pushed (take_on c.args.at c.args.offset c.args.left) (held c.args.memory.now)) (held c.args.memory.now) c.args.at c.exit_ahead-exit.result (was c.exit_ahead-exit.result.may_go false c.if-not-exit.false)
    (c.exit_ahead-exit.ensures.leads c.args.spot.now refl))
    c.in_ok-going.ensures.leads

pub returns-then-not-exit-clause-over : goal.returns-then-not-exit-clause-over
returns-then-not-exit-clause-over g c =
    let program = program_of c.args.self.now.program.now in
    let v = g.Input.InputIndexer.view c.args.self.now.input in
    passed-or c.args.from c.args.offset c.exit_ahead-exit.result.offset _ _ c.exit_ahead-exit.ensures.over c.pass.ensures.none
    (more-none program v c.args.spot.now (held c.args.memory.now) c.args.at c.args.offset c.args.left c.exit_ahead-exit.result (was c.exit_ahead-exit.result.may_go true c.if-not-exit.true))

pub returns-then-not-exit-clause-counted : goal.returns-then-not-exit-clause-counted
returns-then-not-exit-clause-counted g c =
    let v = g.Input.InputIndexer.view c.args.self.now.input in
    let all = g.met.Input.InputIndexer.are_of_kind c.args.self.now.input in
    let most = c.pass.ensures.most (length v.units) (place-lies v all c.args.from c.requires.from) (place-lies v all c.exit_ahead-exit.result.offset c.exit_ahead-exit.ensures.body.3) in
    omega (arith, most)

pub returns-in_ok-record_exit-clause-over : goal.returns-in_ok-record_exit-clause-over
returns-in_ok-record_exit-clause-over g c =
    let program = program_of c.args.self.now.program.now in
    let v = g.Input.InputIndexer.view c.args.self.now.input in
    let p = c.args.spot.now in
    let h = held c.args.memory.now in
    let e = c.exit_ahead-exit.result in
    let may = was e.may_go false c.if-not-exit.false in
    let first = led-on program v p (pushed (take_on c.args.at c.args.offset c.args.left) h) h c.args.at e may (c.exit_ahead-exit.ensures.leads p refl) in
    let more = more-on program v p h c.args.at c.args.offset c.args.left e may in
    let input = input_of v in
    let q = c.take_on.new.spot in
    let k = held c.take_on.new.memory in
    let From : ℕ → Bool → Type 0 = λ n b. Leads program input n (task program input false p (pushed (take_on c.args.at e.offset e.left) h)) (task program input b q k) in
    let end : (n : ℕ) → Leads program input n (task program input false p (pushed (take_on c.args.at c.args.offset c.args.left) h)) (task program input true q (held c.record_exit.new.memory)) → Leads program input n (task program input false p (pushed (take_on c.args.at c.args.offset c.args.left) h)) (task program input c.in_ok-going.going q (held c.record_exit.new.memory)) =
    λ n. subst (λ b. Leads program input n (task program input false p (pushed (take_on c.args.at c.args.offset c.args.left) h)) (task program input b q (held c.record_exit.new.memory))) (sym c.if-going.true) in
    passed-both c.args.from c.args.offset e.offset _ _ c.exit_ahead-exit.ensures.over c.in_ok-going.ensures.over
    (λ x. end 1 (leads-then program input 1 0 (more x) (leads-then program input 0 0 (subst (From 0) c.if-going.true c.in_ok-going.ensures.leads) c.in_ok-record_exit.ensures.leads)))
    (λ z. end 1 (leads-then program input 0 1 first (leads-then program input 1 0 (subst (From 1) c.if-going.true z) c.in_ok-record_exit.ensures.leads)))

pub returns-else-going-clause-over : goal.returns-else-going-clause-over
returns-else-going-clause-over g c =
    let program = program_of c.args.self.now.program.now in
    let v = g.Input.InputIndexer.view c.args.self.now.input in
    let p = c.args.spot.now in
    let h = held c.args.memory.now in
    let e = c.exit_ahead-exit.result in
    let may = was e.may_go false c.if-not-exit.false in
    let first = led-on program v p (pushed (take_on c.args.at c.args.offset c.args.left) h) h c.args.at e may (c.exit_ahead-exit.ensures.leads p refl) in
    let more = more-on program v p h c.args.at c.args.offset c.args.left e may in
    let input = input_of v in
    passed-both c.args.from c.args.offset e.offset _ _ c.exit_ahead-exit.ensures.over c.in_ok-going.ensures.over
    (λ x. leads-then program input 1 0 (more x) c.in_ok-going.ensures.leads)
    (λ z. leads-then program input 0 1 first z)
