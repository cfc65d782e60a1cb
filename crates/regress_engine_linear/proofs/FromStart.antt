-- In each state that a run meets from the first state on the loops that are live are under way.
use Rattle.std.specs.Prelude.{IfSome}
use Rattle.std.specs.List.{AllByRecursion}
use Rattle.std.proofs.Common.{◌≡◌, ℕ, suc, ◌≤◌, true, List, length, Option, ap}
use Rattle.std.proofs.lemmas.List.{length-replicate}
use Rattle.regress_meaning.specs.Meaning.{Direction, Forward}
use Rattle.regress_front_nodes.specs.Trees.{Submatch}
use Rattle.regress_front_nodes.specs.TreeMeaning.{submatch_direction}
use Rattle.regress_engine_input.specs.Views.{View, AreOfKind, direction_of, input_of, reading_of}
use Rattle.regress_engine_insn.specs.Instructions.{Instruction, Program, Stands}
use Rattle.regress_engine_insn.specs.Instructions as code
use Rattle.regress_engine_runs.specs.States.{Whole, first_state}
use Rattle.regress_engine_runs.specs.Runs.{after_submatch, successors}
use Rattle.regress_engine_runs.specs.Meets.{Meets, now, later, inside, behind, reads_character, ReadsPlaces}
use Rattle.regress_engine_search.specs.Search.{Suits}
use Rattle.regress_engine_memory.specs.Flow.{Flow, IsFlow}
use Rattle.regress_engine_memory.proofs.EachState.{each-append}
use Rattle.regress_engine_linear.specs.Ranks.{Ranking, AreRanked, AreRunning, is_even}
use Rattle.regress_engine_linear.proofs.EndsBeyond.{Leaves, after-each, behind-beyond, behind-lies, contents-leave}
use Rattle.regress_engine_linear.proofs.Running.{running-behind, running-inside, running-step}

module _ (flow : Flow) (r : Ranking) (v : View) (all : AreOfKind v.kind v.units) (program : Program) (suits : Suits program v) (closed : IsFlow flow program) (ranked : AreRanked flow r program) where
  abbrev last : ℕ
  last = length v.units

  abbrev Live : Direction → Whole → Type 0
  Live dir s = AreRunning flow r program last dir s

  abbrev Reads : Direction → List Whole → Type 0
  Reads dir ts = (u : Whole) (i : Instruction) → Meets program (input_of v) dir ts u → Stands program u.at i → reads_character i ≡ true → ReadsPlaces (reading_of v) i u

  -- at the first instruction no loop is live
  pub running-first : flow.calm 0 ≡ true → is_even (r.level 0) ≡ true → ((id : ℕ) → flow.live 0 id ≡ true → ⊥) → (o : ℕ) → o ≤ last → Live Forward (first_state program o)
  running-first calm forward silent o lies =
      record { inside = lies; calm = calm; way = ap direction_of forward; size = length-replicate program.loops (0, 0); loops = λ id l. absurd (silent id l) }

  -- what follows a lookaround or an atomic group is under way, where its answer leaves it onward
  running-after : (dir : Direction) (kind : Submatch) (low high continuation : ℕ) (s : Whole) (q : Option Whole) → Live dir s → Stands program s.at (code.submatch kind low high continuation)
      → IfSome q (λ w. Leaves r last (submatch_direction kind dir) (suc s.at) s.offset w.offset) → AllByRecursion (Live dir) (after_submatch kind low high continuation s q)
  running-after dir kind low high continuation s q running here within =
      after-each flow r v all program suits closed ranked (Live dir) kind dir low high continuation s q within (λ o groups on.
      running-behind flow r v all program suits closed ranked dir kind low high continuation s running here o groups
      (behind-lies r last kind dir s.at s.offset o running.inside on) (behind-beyond flow r v all program suits closed ranked kind dir low high continuation s running.calm here o groups on))

  -- Each state that is met is under way, where those are that the run begins with.
  pub running-met : {dir : Direction} {ts : List Whole} {u : Whole} → Meets program (input_of v) dir ts u → AllByRecursion (Live dir) ts → Reads dir ts → (d : Direction) × Live d u
  running-met {dir = dir} now running reads = (dir, running.0)
  running-met (later {dir = dir} {i = i} {s = s} {ss = ss} here plain met) running reads =
      running-met met
      (each-append (Live dir) (successors program (input_of v) i dir s) ss (running-step flow r v all program suits closed ranked dir s i running.0 here plain (reads s i now here)) running.1)
      (λ u j met'. reads u j (later here plain met'))
  running-met (inside {dir = dir} {kind = kind} {first = low} {last = high} {continuation = continuation} {s = s} here met) running reads =
      running-met met (running-inside flow r v all program suits closed ranked dir kind low high continuation s running.0 here, tt) (λ u j met'. reads u j (inside here met'))
  running-met (behind {dir = dir} {kind = kind} {first = low} {last = high} {continuation = continuation} {s = s} {ss = ss} {q = q} here inner met) running reads =
      let within = contents-leave flow r v all program suits closed ranked dir kind low high continuation s running.0 here inner.0 q inner.1 (λ u j met'. reads u j (inside here met')) in
      running-met met
      (each-append (Live dir) (after_submatch kind low high continuation s q) ss (running-after dir kind low high continuation s q running.0 here within) running.1)
      (λ u j met'. reads u j (behind here inner met'))
