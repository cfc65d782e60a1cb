-- What begins at one place of a text, with no search ("RegExpBuiltinExec" with `y`).
use Rattle.std.specs.Prelude.{ℕ, List, length, Option, None, nat_le, if◌then◌else◌}
use Rattle.regress_meaning.specs.Table.{Table}
use Rattle.regress_meaning.specs.Pattern.{Pattern}
use Rattle.regress_meaning.specs.Flags.{Options}
use Rattle.regress_meaning.specs.Matches.{Item, attempt}
use Rattle.regress_front.specs.NodeMatches.{node_attempt}
use Rattle.regress_front.specs.Trees.{Tree}
use Rattle.regress_engine_insn.specs.Layout.{Target}

-- The most preferred outcome of a pattern at a place of a text; past the end there is none.
abbrev pub outcome_at : Table → Options → Pattern → List ℕ → ℕ → Option Item
outcome_at t o p text place = if nat_le place (length text) then attempt t o p text place else None

-- That of a tree, with a target's table and mode.
abbrev pub outcome_of_tree : Target → ℕ → Tree → List ℕ → ℕ → Option Item
outcome_of_tree target n t text place =
    if nat_le place (length text) then node_attempt (record { text = text; table = target.table; unicode = target.unicode }) n t place else None
