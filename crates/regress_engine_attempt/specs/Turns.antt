-- Iterations of one character each.
use Rattle.std.specs.Prelude.{◌≡◌, ℕ, ◌≤◌, ◌⊎◌}
use Rattle.regress_meaning.specs.Meaning.{Forward}
use Rattle.regress_engine_input.specs.Views.{input_of}
use Rattle.regress_engine_insn.specs.InsnViews.{instruction, fields}
use Rattle.regress_engine_singles.specs.Failing.{IsDead}
use Rattle.regress_engine_singles.specs.Sparing.{IsTurn}
use Rattle.regress_engine_trying.specs.Trying.{World}
use Rattle.regress_engine_attempt.specs.declared.turns.Turn.{Turn}

-- iterations that are one character of a class each begin at an address with two ways
abbrev pub IsTurnAt : World → (at second : ℕ) → Turn → Type 0
IsTurnAt w at second t = IsTurn w.program w.view at second t.begin t.again (instruction t.class.now) (fields t.repetition.now)

-- Behind so many iterations it continues where the last one ends, or behind the repetition: enough have begun, and no match can
-- be reached by the other way.
abbrev pub LeadsOut : World → Turn → (second count offset at : ℕ) → Type 0
LeadsOut w t second count offset at = (at ≡ t.again)
    ⊎ ((at ≡ t.repetition.now.exit) × (t.repetition.now.min_iters ≤ count) × IsDead w.program (input_of w.view) Forward second offset)
