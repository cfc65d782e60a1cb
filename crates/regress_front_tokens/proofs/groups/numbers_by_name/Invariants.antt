use Rattle.std.proofs.Common.{◌≡◌, ℕ, List, take, map, chars, IsUtf8}
use Rattle.regress_meaning.specs.Tokens.{numbers_from}
use Rattle.regress_front_tokens.specs.Words.{code_points_of}
use Rattle.regress_front_tokens.specs.Groups.{numbers_listed}
use Rattle.regress_front_tokens.proofs.groups.numbers_by_name.Given as goal

abbrev pub invariant-loop-group : goal.invariant-loop-group
invariant-loop-group l =
    (name : List ℕ) → IsUtf8 name → numbers_listed l.lists name ≡ numbers_from 0 (chars name) (map code_points_of (take l.group l.names))
