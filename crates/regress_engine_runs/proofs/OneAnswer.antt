-- That a run is computed has one proof at most, so a struct may keep it in a ghost field.
use mathlib.Core.HLevel.{Σ_prop_path, Π_prop}
use Rattle.std.specs.Coded.{codes}
use Rattle.std.proofs.Common.{◌≡◌, ℕ, suc, ◌+◌, List, Option, Some, sym, ◌∙◌, arith}
use Rattle.regress_meaning.specs.Meaning.{Direction}
use Rattle.regress_meaning.specs.Inputs.{Input}
use Rattle.regress_engine_insn.specs.Instructions.{Program}
use Rattle.regress_engine_runs.specs.States.{Whole}
use Rattle.regress_engine_runs.specs.Computed.{run, IsComputed}

whole-set : IsSet Whole
whole-set = hlevel codes

counted-set : IsSet (Option (ℕ × Option Whole))
counted-set = hlevel (codes, whole-set)

pub IsComputed-prop : (program : Program) (input : Input) (dir : Direction) (ss : List Whole) → IsProp (IsComputed program input dir ss)
IsComputed-prop program input dir ss x y =
    Σ_prop_path (λ (a : ℕ × Option Whole). Π_prop (λ f. Π_prop (λ few. counted-set (run program input f dir ss) (Some a)))) same
  where
    same : x.0 ≡ y.0
    same =
        let e : ◌≡◌ {A = Option (ℕ × Option Whole)} (Some x.0) (Some y.0) = sym (x.1 (suc (x.0.0 + y.0.0)) (omega arith)) ∙ y.1 (suc (x.0.0 + y.0.0)) (omega arith) in cc
