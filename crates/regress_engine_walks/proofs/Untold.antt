-- Where it is told that runs have no answer, the run from there has none.
use Rattle.std.proofs.Common.{◌≡◌, ℕ, ◌<◌, true, false, [], ◌∷◌, length, None, Some, sym, ap, ◌∙◌, subst, arith}
use Rattle.regress_meaning.specs.Meaning.{Forward}
use Rattle.regress_engine_input.specs.Views.{View, AreOfKind, direction_of, input_of, reading_of}
use Rattle.regress_engine_insn.specs.Instructions.{Program}
use Rattle.regress_engine_runs.specs.Items.{Answers as EndsIn}
use Rattle.regress_engine_runs.specs.Meets.{IsAtPlace}
use Rattle.regress_engine_runs.specs.States.{Whole, first_state}
use Rattle.regress_engine_search.specs.Search.{Suits}
use Rattle.regress_engine_search.proofs.SkipLemmas.{place-lies}
use Rattle.regress_engine_memory.specs.Flow.{Flow}
use Rattle.regress_engine_linear.specs.Answered.{Ends, ReadsAlong}
use Rattle.regress_engine_linear.specs.Linear.{IsLinear}
use Rattle.regress_engine_linear.specs.RankTables.{Heights, forward_at, ranking_of}
use Rattle.regress_engine_linear.specs.Ranks.{AreRunning}
use Rattle.regress_engine_linear.proofs.FromStart.{running-first}
use Rattle.regress_engine_answers.specs.AnswerTables.{told_by}
use Rattle.regress_engine_answers.specs.Filled.{AreRight}
use Rattle.regress_engine_answers.specs.declared.answers.Answers.{Answers}

pub untold-fails : (flow : Flow) (h : Heights) (v : View) (all : AreOfKind v.kind v.units) (program : Program) (suits : Suits program v) (linear : IsLinear flow h program) (a : Answers)
    → AreRight flow h program v a → (start : ℕ) → IsAtPlace (reading_of v) start → ReadsAlong program v Forward (first_state program start ∷ []) → told_by a 0 start ≡ false
    → EndsIn program (input_of v) start None
untold-fails flow h v all program suits linear a right start place reads none =
    by_end (subst (λ d. Ends program (input_of v) d (first_state program start ∷ []) (told_by a 0 start)) way (right 0 start within (place-lies v all start place)
    s.loops s.groups (subst (λ d. AreRunning flow (ranking_of h) program (length v.units) d s) (sym way) live) (subst (λ d. ReadsAlong program v d (s ∷ [])) (sym way) reads)))
  where
    s : Whole
    s = first_state program start

    way : direction_of (forward_at h 0) ≡ Forward
    way = ap direction_of linear.begins

    within : 0 < length h.ranks
    within = let count = linear.count in let some = linear.some in omega (arith, count, some)

    live : AreRunning flow (ranking_of h) program (length v.units) Forward s
    live = running-first flow (ranking_of h) v all program suits linear.flows linear.ranked (linear.calm 0 linear.some) linear.begins linear.silent start
        (place-lies v all start place)

    by_end : Ends program (input_of v) Forward (s ∷ []) (told_by a 0 start) → EndsIn program (input_of v) start None
    by_end (n, None, run, is) = (n, run)
    by_end (n, Some w, run, is) = absurd (let never : true ≡ false = is ∙ none in cc never)
