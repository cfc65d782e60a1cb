use Rattle.std.proofs.Common.{◌≡◌, ◌++◌, flat_map, take, string_bytes}
use Rattle.regress_match.specs.Views.{item_of}
use Rattle.regress_match.specs.GroupViews.{names_of_match}
use Rattle.regress_match.specs.GroupRanges.{named}
use Rattle.regress_replacing.specs.Replacing.{range_of_number, part_at}
use Rattle.regress_replacing.specs.Pieces.{piece_gives}
use Rattle.regress_replacing.proofs.replacement.Replacement.write.Given as goal

abbrev pub invariant-loop-piece : goal.invariant-loop-piece
invariant-loop-piece l = string_bytes l.written ≡ string_bytes l.initial.written ++ flat_map
    (piece_gives (λ n. part_at l.text (range_of_number (item_of l.found) n)) (λ name. part_at l.text (named (names_of_match l.found) (item_of l.found).groups name)))
    (take l.piece-index l.self.pieces.items)
