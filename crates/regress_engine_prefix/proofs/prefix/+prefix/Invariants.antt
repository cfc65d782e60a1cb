use Rattle.std.proofs.Common.{◌+◌, ◌*◌, All, map, take}
use Rattle.regress_front_nodes.specs.Trees.{tree, cat_of, alt}
use Rattle.regress_front_nodes.specs.Forms.{nesting}
use Rattle.regress_engine_prefix.specs.Prefixes.{Foretells}
use Rattle.regress_engine_prefix.specs.declared.prefix.Prefix.TheVariants.{Still}
use Rattle.regress_engine_prefix.proofs.prefix.+prefix.Given as goal

-- the parts so far take nothing
abbrev pub invariant-find_of_parts-loop-index : goal.invariant-find_of_parts-loop-index
invariant-find_of_parts-loop-index l = All (λ part. Foretells Still (tree part)) (take l.index l.parts)

abbrev pub invariant-find_next-loop-part : goal.invariant-find_next-loop-part
invariant-find_next-loop-part l = All (λ part. Foretells Still (tree part)) (take l.part-index l.parts)

-- how deep the tree nests: each function goes down, and hands on to one that stands lower
abbrev pub decreases-find : goal.decreases-find
decreases-find l = 4 * nesting (tree l.node.now) + 3

abbrev pub decreases-find_of_arms : goal.decreases-find_of_arms
decreases-find_of_arms l = 4 * nesting (alt (tree l.first.now) (tree l.second.now))

abbrev pub decreases-find_of_loop : goal.decreases-find_of_loop
decreases-find_of_loop l = 4 * nesting (tree l.loopee.now) + 4

abbrev pub decreases-find_of_parts : goal.decreases-find_of_parts
decreases-find_of_parts l = 4 * nesting (cat_of (map tree l.parts.now)) + 2

abbrev pub decreases-find_behind : goal.decreases-find_behind
decreases-find_behind l = 4 * nesting (cat_of (map tree l.rest.now)) + 1

abbrev pub decreases-find_next : goal.decreases-find_next
decreases-find_next l = 4 * nesting (cat_of (map tree l.parts.now))
