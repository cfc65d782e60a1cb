use Rattle.std.proofs.Common.{◌≡◌, ◌++◌, map, take}
use Rattle.ucd_sets.specs.declared.set.Set.TheVariants as set
use Rattle.regress_unicode.specs.Keys.{shown, behind}
use Rattle.regress_unicode.proofs.keys.push_scripts.Given as goal

abbrev pub invariant-loop-name : goal.invariant-loop-name
invariant-loop-name l =
    map shown l.keys.items ≡ map shown l.initial.keys.items ++ behind set.Script l.front (map (λ n. (n.0.now, n.1)) (take l.name-index l.names))
