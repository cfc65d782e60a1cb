use Rattle.std.proofs.Common.{◌≡◌, map, take}
use Rattle.regress_front_nodes.specs.Trees.{tree, cat_of}
use Rattle.regress_front_nodes.specs.Copies.{MayBeCopied}
use Rattle.regress_front_nodes.proofs.+copy.Given as goal

-- the copies so far are those of the parts so far, which may be copied
abbrev pub invariant-copy::copies-loop-part : goal.invariant-copy::copies-loop-part
invariant-copy::copies-loop-part l =
    (map tree l.copies.items ≡ map tree (take l.part-index l.parts))
    × MayBeCopied l.depth (cat_of (map tree (take l.part-index l.parts)))
