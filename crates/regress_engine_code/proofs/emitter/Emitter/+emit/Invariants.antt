use Rattle.std.proofs.Common.{◌+◌, ◌*◌, map, take}
use Rattle.regress_front_nodes.specs.Trees.{tree, cat_of, alt}
use Rattle.regress_front_nodes.specs.Forms.{nesting}
use Rattle.regress_engine_code.specs.Written.{written}
use Rattle.regress_engine_code.specs.Emitting.{Emits}
use Rattle.regress_engine_code.proofs.emitter.Emitter.+emit.Given as goal

-- the parts so far are added
abbrev pub invariant-parts-loop-part : goal.invariant-parts-loop-part
invariant-parts-loop-part l = Emits l.self l.backward (cat_of (map tree (take l.part-index l.parts))) (written l.fn.code) (written l.code)

-- how deep what is written nests: each function goes down, and hands on to one that stands lower
abbrev pub decreases-node : goal.decreases-node
decreases-node l = 2 * nesting (tree l.node.now) + 1

abbrev pub decreases-parts : goal.decreases-parts
decreases-parts l = 2 * nesting (cat_of (map tree l.parts.now))

abbrev pub decreases-alternation : goal.decreases-alternation
decreases-alternation l = 2 * nesting (alt (tree l.first.now) (tree l.second.now))

abbrev pub decreases-capture : goal.decreases-capture
decreases-capture l = 2 * nesting (tree l.contents.now) + 2

abbrev pub decreases-lookaround : goal.decreases-lookaround
decreases-lookaround l = 2 * nesting (tree l.contents.now) + 2

abbrev pub decreases-atomic_group : goal.decreases-atomic_group
decreases-atomic_group l = 2 * nesting (tree l.contents.now) + 2

abbrev pub decreases-repetition : goal.decreases-repetition
decreases-repetition l = 2 * nesting (tree l.loopee.now) + 2

abbrev pub decreases-single_repetition : goal.decreases-single_repetition
decreases-single_repetition l = 2 * nesting (tree l.loopee.now) + 2
