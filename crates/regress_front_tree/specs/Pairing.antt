-- One round of pairing arms.
use Rattle.std.specs.Prelude.{List, [], ◌∷◌}
use Rattle.regress_front_nodes.specs.Trees.{Tree, alt}

-- neighbours as one tree each; the last of an odd number stays as it is
abbrev pub in_pairs : List Tree → List Tree
in_pairs [] = []
in_pairs (t ∷ []) = t ∷ []
in_pairs (t ∷ u ∷ ts) = alt t u ∷ in_pairs ts
