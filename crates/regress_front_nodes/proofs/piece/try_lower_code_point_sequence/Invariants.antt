use Rattle.std.proofs.Common.{◌≡◌, ◌≤◌, length, take, drop, All}
use Rattle.regress_front_tables.specs.TableViews.{table}
use Rattle.regress_front_nodes.specs.Pieces.{completed, expansion, pieces_of}
use Rattle.regress_front_nodes.proofs.piece.try_lower_code_point_sequence.Given as goal

-- with those of the rest, the pieces are complete, and each code point so far stands for few
abbrev pub invariant-loop-cp : goal.invariant-loop-cp
invariant-loop-cp l =
    (completed l.front (pieces_of (table l.tables) l.icase l.unicode (drop l.cp-index l.cps)) ≡ pieces_of (table l.tables) l.icase l.unicode l.cps)
    × All (λ c. length (expansion (table l.tables) l.icase l.unicode c) ≤ 4) (take l.cp-index l.cps)
