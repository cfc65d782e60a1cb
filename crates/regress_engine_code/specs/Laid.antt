-- Programs that are laid out from a tree.
use Rattle.std.specs.Prelude.{ℕ}
use Rattle.regress_front_nodes.specs.Trees.{Tree}
use Rattle.regress_front_nodes.specs.WellFormed.{IsWellFormed}
use Rattle.regress_engine_prefix.specs.Starts.{Serves}
use Rattle.regress_engine_prefix.specs.declared.start.StartPredicate.{StartPredicate}
use Rattle.regress_engine_insn.specs.Layout.{Target, IsLayout}

-- It is the layout of a well-formed tree, which a start predicate serves.
abbrev pub IsLaid : Target → StartPredicate → Type 0
IsLaid target start = (n : ℕ) × (t : Tree) × IsWellFormed n t × IsLayout target n t × Serves target.program.units t start
