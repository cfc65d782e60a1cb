-- The parts that an iterator with a budget has still to yield.
use Rattle.std.specs.Prelude.{ℕ, List}
use Rattle.regress_matched.specs.declared.splitting.Split.{Split}
use Rattle.regress_matched.specs.declared.splitting.SplitN.{SplitN}
use Rattle.regress_matched.specs.Splitting as matched
use Rattle.regress_engine_exec.specs.declared.error.SearchError.{SearchError}
use Rattle.regress_bounded.specs.declared.matches.BoundedMatches.{BoundedMatches}
use Rattle.regress_bounded.specs.Coming.{coming}

-- the parts still to come
abbrev pub parts_left : {I : Type 0} {k g h : _} → Split (BoundedMatches I k) SearchError g h → List (List ℕ)
parts_left s = matched.parts_left coming s

-- the parts still to come, at most so many as are left of the limit
abbrev pub first_parts_left : {I : Type 0} {k g h : _} → SplitN (BoundedMatches I k) SearchError g h → List (List ℕ)
first_parts_left s = matched.first_parts_left coming s
