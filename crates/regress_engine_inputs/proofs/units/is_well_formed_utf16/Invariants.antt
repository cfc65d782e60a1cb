use Rattle.std.proofs.Common.{◌≡◌, length}
use Rattle.std.specs.List.{list_any}
use Rattle.regress_meaning.specs.TableParts.{is_surrogate}
use Rattle.regress_meaning.specs.Offsets.{characters}
use Rattle.regress_engine_inputs.proofs.units.is_well_formed_utf16.Given as goal

abbrev pub invariant-loop-c : goal.invariant-loop-c
invariant-loop-c l = list_any is_surrogate (characters l.rest) ≡ list_any is_surrogate (characters l.units)

abbrev pub decreases-loop-c : goal.decreases-loop-c
decreases-loop-c l = length l.rest
