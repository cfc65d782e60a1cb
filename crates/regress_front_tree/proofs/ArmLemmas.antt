-- Trees that have arms, and one round of pairing them.
use Rattle.std.proofs.Common.{◌≡◌, ◌+◌, ◌*◌, ◌≤◌, List, [], ◌∷◌, ◌++◌, length, ap, subst, arith, rules, refl, length-append, map, Option, None, Some, IsSome}
use Rattle.std.specs.Option.{option_to_list, unwrap_or}
use Rattle.std.proofs.lemmas.List.{append-nil, append_assoc, length-map}
use Rattle.regress_front_nodes.specs.declared.node.Node.{Node}
use Rattle.regress_front_nodes.specs.Trees.{Tree, tree}
use Rattle.regress_front_tree.specs.Lowering.{HasArms, one_arm, two_halves}
use Rattle.regress_front_tree.specs.Pairing.{in_pairs}

-- Each tree has some of the arms, and all of them in order.
pub data AreArms : List Tree → List Tree → Type 0 where
  no_arm : AreArms [] []
  more_arms : {ts us : List Tree} {t : Tree} {trees : List Tree} → HasArms ts t → AreArms us trees → AreArms (ts ++ us) (t ∷ trees)

pub AreArms-alone : (ts : List Tree) → AreArms ts ts
AreArms-alone [] = no_arm
AreArms-alone (t ∷ ts) = more_arms {ts = t ∷ []} one_arm (AreArms-alone ts)

pub AreArms-paired : (ts trees : List Tree) → AreArms ts trees → AreArms ts (in_pairs trees)
AreArms-paired ts trees no_arm = no_arm
AreArms-paired ts trees (more_arms h no_arm) = more_arms h no_arm
AreArms-paired ts trees (more_arms {ts = xs} {t = t} h (more_arms {ts = ys} {us = zs} {t = u} {trees = others} k r)) =
    subst (λ (all : List Tree). AreArms all (in_pairs (t ∷ u ∷ others))) (append_assoc xs ys zs) (more_arms (two_halves h k) (AreArms-paired zs others r))

AreArms-none : (ts trees : List Tree) → AreArms ts trees → trees ≡ [] → ts ≡ []
AreArms-none ts trees no_arm e = refl
AreArms-none ts trees (more_arms h r) e = cc

pub AreArms-one : (ts trees : List Tree) (t : Tree) → AreArms ts trees → trees ≡ t ∷ [] → HasArms ts t
AreArms-one ts trees t no_arm e = absurd cc
AreArms-one ts trees t (more_arms {ts = xs} {us = ys} {t = u} {trees = others} h r) e =
    let none : ys ≡ [] = AreArms-none ys others r cc in
    let same : u ≡ t = cc in
    rw (none, append-nil, ← same) h

in_pairs-length : (ts : List Tree) → (length (in_pairs ts) * 2 ≤ length ts + 1) × (length ts ≤ length (in_pairs ts) * 2)
in_pairs-length [] = (omega arith, omega arith)
in_pairs-length (t ∷ []) = (omega arith, omega arith)
in_pairs-length (t ∷ u ∷ ts) = let h = in_pairs-length ts in (omega arith, omega arith)

pub pairs-length : (xs ys : List Node) → map tree ys ≡ in_pairs (map tree xs) → (length ys * 2 ≤ length xs + 1) × (length xs ≤ length ys * 2)
pairs-length xs ys e = rw (← length-map xs tree, ← length-map ys tree, e) (in_pairs-length (map tree xs))

-- of one element the last is the only one
pub alone : (xs rest : List Node) (o : Option Node) (d : Node) → xs ≡ rest ++ option_to_list o → length xs ≡ 1 → IsSome o → xs ≡ unwrap_or o d ∷ []
alone xs rest None d e h some = absurd (search rules)
alone xs [] (Some x) d e h some = e
alone xs (y ∷ rest) (Some x) d e h some = absurd (omega (arith, ap length e, length-append rest (x ∷ [])))
