use Rattle.std.proofs.Common.{◌≡◌, length, map, take}
use Rattle.regress_front_tokens.specs.Trees as parsed
use Rattle.regress_front_tokens.specs.Ranges.{in_turn, opens, parts_of}
use Rattle.regress_front_nodes.specs.Trees.{tree}
use Rattle.regress_front_tree.specs.Scopes.{LowersAllInScope, LowersTermsInScope}
use Rattle.regress_front_tree.proofs.lowering.Lowering.+lowering.Given as goal

-- the nodes of the parts so far
abbrev pub invariant-each-loop-part : goal.invariant-each-loop-part
invariant-each-loop-part l = record {
  lowered : LowersAllInScope l.self l.scope (in_turn (map opens (take l.part-index l.parts))) (map parsed.tree (take l.part-index l.parts)) (map tree l.nodes.items);
  count : length l.nodes.items ≡ length (take l.part-index l.parts);
}

-- the nodes of the terms so far
abbrev pub invariant-terms-loop-term : goal.invariant-terms-loop-term
invariant-terms-loop-term l =
    LowersTermsInScope l.self l.scope (in_turn (parts_of (take l.term-index l.terms))) (parsed.trees_of (take l.term-index l.terms)) (map tree l.nodes.items)
