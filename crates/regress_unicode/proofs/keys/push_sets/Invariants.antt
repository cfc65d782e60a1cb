use Rattle.std.proofs.Common.{◌≡◌, ◌++◌, map, take}
use Rattle.regress_unicode.specs.Keys.{shown, behind}
use Rattle.regress_unicode.proofs.keys.push_sets.Given as goal

abbrev pub invariant-loop-name : goal.invariant-loop-name
invariant-loop-name l =
    map shown l.keys.items ≡ map shown l.initial.keys.items ++ behind (λ s. s) l.front (map (λ n. (n.0.now, n.1)) (take l.name-index l.names))
