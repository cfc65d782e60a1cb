use Rattle.std.proofs.Common.{◌≡◌, ◌++◌, take}
use Rattle.regress_front_tokens.specs.Words.{characters_of, code_points_of}
use Rattle.regress_front_tokens.proofs.names.push_points.Given as goal

abbrev pub invariant-loop-point : goal.invariant-loop-point
invariant-loop-point l = code_points_of l.text ≡ code_points_of l.initial.text ++ characters_of (take l.point-index l.points)
