use Rattle.std.proofs.Common.{◌≡◌, ℕ, List, ◌++◌, flat_map, length}
use denote.Shadow.{shadow}
use denote.Text.{Utf8}
use Rattle.regress_replacing.specs.Replacing.{given_behind}
use Rattle.regress_replacing.specs.Pieces.{piece_gives}
use Rattle.regress_replacing.proofs.replacement.Replacement.new.Given as goal

abbrev pub invariant-loop-plain : goal.invariant-loop-plain
invariant-loop-plain l =
    shadow (Utf8 l.rest) × ((by_number : ℕ → List ℕ) (by_name : List ℕ → List ℕ) →
    flat_map (piece_gives by_number by_name) l.pieces.items ++ given_behind by_number by_name 0 l.rest ≡ given_behind by_number by_name 0 l.fn.source)

abbrev pub decreases-loop-plain : goal.decreases-loop-plain
decreases-loop-plain l = length l.rest
