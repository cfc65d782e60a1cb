use Rattle.std.proofs.Common.{ℕ, true, false, [], replicate, refl, ap₂, ◌∙◌, subst}
use Rattle.regress_engine_code.specs.Standing.{program_of}
use Rattle.regress_engine_input.specs.Views.{input_of}
use Rattle.regress_engine_runs.specs.States.{unset}
use Rattle.regress_engine_search.specs.Tasks.{Leads}
use Rattle.regress_engine_search.proofs.TaskLemmas.{tried-on, tried-less}
use Rattle.regress_engine_undo.specs.Held.{Held, held}
use Rattle.regress_engine_undo.specs.Tasks.{task}
use Rattle.regress_engine_trying.specs.Trying.{Steps}
use Rattle.regress_engine_trying.proofs.CountLemmas.{counted-over, counts-first, counts-past, counts-step, counts-all, counts-run}
use Rattle.regress_engine_trying.proofs.TryLemmas.{trying-first, trying-way, trying-ends, trying-fails, steps-led, steps-held, steps-back}
use Rattle.regress_engine_attempt.proofs.attempt.Attempt.run_within.Goals as goal

pub steps-init : goal.steps-init
steps-init g c =
    let program = program_of c.args.self.now.program.now in
    let v = g.Input.InputIndexer.view c.args.self.now.input in
    let ends = c.args.self.now.ends in
    let trying = trying-way program v ends.0.0 ends.0.1 c.args.self.now.start 0 c.args.first (held c.begin.new.self) c.requires.begun
    (trying-first program (g.Input.Shown.shown c.args.self.now.input) v (g.met.Input.ExecutorInput.shows c.args.self.now.input) c.args.self.now.start ends (held c.begin.new.self) c.requires.reads
    (c.in_ok-begin.ensures ∙ ap₂ (λ (l n : ℕ). blank l n) c.loops.ensures c.groups.ensures)) in
    record { so = c.requires.so; trying = trying; counted = counts-first program v ends.0.0 ends.0.1 _ _ trying.tried }
  where
    blank : ℕ → ℕ → Held
    blank l n = record { stack = []; loops = replicate l (0, 0); groups = replicate n unset }

pub try_step-requires-clause-tried : goal.try_step-requires-clause-tried
try_step-requires-clause-tried g c = (_, _, c.steps.invariant.trying.tried)

pub back-requires-clause-tried : goal.back-requires-clause-tried
back-requires-clause-tried g c =
    let program = program_of c.args.self.now.program.now in
    let v = g.Input.InputIndexer.view c.args.self.now.input in (
      _,
      _,
      tried-on program v _ _ 1 _ (task program (input_of v) false c.try_step.new.spot (held c.try_step.new.memory))
          (steps-led program v c.steps.spot c.try_step.new.spot (held c.steps.memory) (held c.try_step.new.memory) _ c.in-Some.going false c.in-Some.is c.if-going.false c.in_ok-going.ensures.leads)
          c.steps.invariant.trying.tried,
    )

pub returns-in_default-clause-answer : goal.returns-in_default-clause-answer
returns-in_default-clause-answer g c =
    let program = program_of c.args.self.now.program.now in
    let v = g.Input.InputIndexer.view c.args.self.now.input in
    trying-ends program (g.Input.Shown.shown c.args.self.now.input) v (g.met.Input.ExecutorInput.shows c.args.self.now.input) c.args.self.now.start c.args.self.now.ends
    c.steps.spot c.try_step.new.spot (held c.steps.memory) (held c.try_step.new.memory) c.steps.invariant.trying.tried
    (subst (λ x. Steps (record { program = program; view = v }) c.steps.spot (held c.steps.memory) c.try_step.new.spot (held c.try_step.new.memory) x) c.in_default.is c.in_ok-going.ensures.leads)

pub steps-smaller-then-going : goal.steps-smaller-then-going
steps-smaller-then-going g c =
    let program = program_of c.args.self.now.program.now in
    let v = g.Input.InputIndexer.view c.args.self.now.input in
    tried-less program v _ _ _ (task program (input_of v) true c.try_step.new.spot (held c.try_step.new.memory))
    (steps-led program v c.steps.spot c.try_step.new.spot (held c.steps.memory) (held c.try_step.new.memory) _ c.in-Some.going true c.in-Some.is c.if-going.true c.in_ok-going.ensures.leads) c.steps.invariant.trying.tried

pub steps-preserved-then-going : goal.steps-preserved-then-going
steps-preserved-then-going g c =
    let program = program_of c.args.self.now.program.now in
    let v = g.Input.InputIndexer.view c.args.self.now.input in
    record {
      so = c.in_ok-going.ensures.so;
      trying = record {
        tried = tried-on program v _ _ 1 _ (task program (input_of v) true c.try_step.new.spot (held c.try_step.new.memory))
            (steps-led program v c.steps.spot c.try_step.new.spot (held c.steps.memory) (held c.try_step.new.memory) _ c.in-Some.going true c.in-Some.is c.if-going.true c.in_ok-going.ensures.leads) c.steps.invariant.trying.tried;
        held = steps-held program v (held c.try_step.new.memory) _ c.in-Some.going c.in-Some.is c.in_ok-going.ensures.sound;
      };
      counted = counts-step program v _ _ _ _ _ c.count.result _ _ _ _ (task program (input_of v) true c.try_step.new.spot (held c.try_step.new.memory))
          (steps-led program v c.steps.spot c.try_step.new.spot (held c.steps.memory) (held c.try_step.new.memory) _ c.in-Some.going true c.in-Some.is c.if-going.true c.in_ok-going.ensures.leads)
          c.in_ok-going.ensures.counted c.count.ensures.counted c.count.ensures.over c.steps.invariant.counted;
    }

pub returns-then-not-branch-clause-answer : goal.returns-then-not-branch-clause-answer
returns-then-not-branch-clause-answer g c =
    let program = program_of c.args.self.now.program.now in
    let v = g.Input.InputIndexer.view c.args.self.now.input in
    trying-fails program (g.Input.Shown.shown c.args.self.now.input) v (g.met.Input.ExecutorInput.shows c.args.self.now.input) c.args.self.now.start c.args.self.now.ends c.back.new.spot (held c.back.new.memory)
    (tried-on program v _ _ 1 _ (task program (input_of v) false c.back.new.spot (held c.back.new.memory))
    (steps-back program v c.steps.spot c.try_step.new.spot c.back.new.spot (held c.steps.memory) (held c.try_step.new.memory) (held c.back.new.memory) _ false c.if-not-branch.true
    (steps-led program v c.steps.spot c.try_step.new.spot (held c.steps.memory) (held c.try_step.new.memory) _ c.in-Some.going false c.in-Some.is c.if-going.false c.in_ok-going.ensures.leads) c.in_ok-back.ensures.leads)
    c.steps.invariant.trying.tried)
    (c.in_ok-back.ensures.exhausted c.if-not-branch.true)

pub steps-smaller : goal.steps-smaller
steps-smaller g c =
    let program = program_of c.args.self.now.program.now in
    let v = g.Input.InputIndexer.view c.args.self.now.input in
    tried-less program v _ _ _ (task program (input_of v) true c.back.new.spot (held c.back.new.memory))
    (steps-back program v c.steps.spot c.try_step.new.spot c.back.new.spot (held c.steps.memory) (held c.try_step.new.memory) (held c.back.new.memory) _ true c.if-not-branch.false
    (steps-led program v c.steps.spot c.try_step.new.spot (held c.steps.memory) (held c.try_step.new.memory) _ c.in-Some.going false c.in-Some.is c.if-going.false c.in_ok-going.ensures.leads) c.in_ok-back.ensures.leads)
    c.steps.invariant.trying.tried

pub steps-preserved : goal.steps-preserved
steps-preserved g c =
    let program = program_of c.args.self.now.program.now in
    let v = g.Input.InputIndexer.view c.args.self.now.input in
    record {
      so = c.in_ok-back.ensures.so;
      trying = record {
        tried = tried-on program v _ _ 1 _ (task program (input_of v) true c.back.new.spot (held c.back.new.memory))
            (steps-back program v c.steps.spot c.try_step.new.spot c.back.new.spot (held c.steps.memory) (held c.try_step.new.memory) (held c.back.new.memory) _ true c.if-not-branch.false
            (steps-led program v c.steps.spot c.try_step.new.spot (held c.steps.memory) (held c.try_step.new.memory) _ c.in-Some.going false c.in-Some.is c.if-going.false c.in_ok-going.ensures.leads) c.in_ok-back.ensures.leads)
            c.steps.invariant.trying.tried;
        held = c.in_ok-back.ensures.sound;
      };
      counted =
          let (n, few, back) = c.in_ok-back.ensures.counted in
          counts-past program v _ _ _ _ _ _ n (task program (input_of v) false c.try_step.new.spot (held c.try_step.new.memory)) (task program (input_of v) true c.back.new.spot (held c.back.new.memory))
          (subst (λ b. Leads program (input_of v) n (task program (input_of v) false c.try_step.new.spot (held c.try_step.new.memory)) (task program (input_of v) b c.back.new.spot (held c.back.new.memory))) c.if-not-branch.false back) few
          (counts-step program v _ _ _ _ _ c.count.result _ _ _ _ (task program (input_of v) false c.try_step.new.spot (held c.try_step.new.memory))
          (steps-led program v c.steps.spot c.try_step.new.spot (held c.steps.memory) (held c.try_step.new.memory) _ c.in-Some.going false c.in-Some.is c.if-going.false c.in_ok-going.ensures.leads)
          c.in_ok-going.ensures.counted c.count.ensures.counted c.count.ensures.over c.steps.invariant.counted);
    }

pub returns-in_default-clause-counted : goal.returns-in_default-clause-counted
returns-in_default-clause-counted g c =
    let program = program_of c.args.self.now.program.now in
    let v = g.Input.InputIndexer.view c.args.self.now.input in
    let self = c.args.self.now in
    counts-run program (g.Input.Shown.shown self.input) v (g.met.Input.ExecutorInput.shows self.input) self.start self.ends _ _
    (counts-all program v _ _ _ _ _ _ c.steps.invariant.counted)

pub returns-then-not-count-clause-counted : goal.returns-then-not-count-clause-counted
returns-then-not-count-clause-counted g c =
    let program = program_of c.args.self.now.program.now in
    let v = g.Input.InputIndexer.view c.args.self.now.input in
    let self = c.args.self.now in
    counts-run program (g.Input.Shown.shown self.input) v (g.met.Input.ExecutorInput.shows self.input) self.start self.ends _ _
    (counts-all program v _ _ _ _ _ (task program (input_of v) c.in-Some.going c.try_step.new.spot (held c.try_step.new.memory)) (counts-step program v _ _ _ _ _ c.count.result _ _ _ _ _
    (steps-led program v c.steps.spot c.try_step.new.spot (held c.steps.memory) (held c.try_step.new.memory) _ c.in-Some.going c.in-Some.going c.in-Some.is refl c.in_ok-going.ensures.leads)
    c.in_ok-going.ensures.counted c.count.ensures.counted c.count.ensures.over c.steps.invariant.counted))

pub returns-then-not-count-clause-stopped : goal.returns-then-not-count-clause-stopped
returns-then-not-count-clause-stopped g c =
    counted-over (g.B.Budget.left c.steps.budget) (g.B.Budget.left c.count.new.self) c.count.result _ c.count.ensures.counted c.if-not-count.true

pub returns-then-not-branch-clause-counted : goal.returns-then-not-branch-clause-counted
returns-then-not-branch-clause-counted g c =
    let program = program_of c.args.self.now.program.now in
    let v = g.Input.InputIndexer.view c.args.self.now.input in
    let self = c.args.self.now in
    counts-run program (g.Input.Shown.shown self.input) v (g.met.Input.ExecutorInput.shows self.input) self.start self.ends _ _
    (counts-all program v _ _ _ _ _ (task program (input_of v) false c.try_step.new.spot (held c.try_step.new.memory)) (counts-step program v _ _ _ _ _ c.count.result _ _ _ _ (task program (input_of v) false c.try_step.new.spot (held c.try_step.new.memory))
    (steps-led program v c.steps.spot c.try_step.new.spot (held c.steps.memory) (held c.try_step.new.memory) _ c.in-Some.going false c.in-Some.is c.if-going.false c.in_ok-going.ensures.leads)
    c.in_ok-going.ensures.counted c.count.ensures.counted c.count.ensures.over c.steps.invariant.counted))
