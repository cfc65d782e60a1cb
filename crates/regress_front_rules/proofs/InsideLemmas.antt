-- No outcome of a tree leaves the text.
use Rattle.std.proofs.lemmas.List.Elements.{All-weaker}
use Rattle.regress_meaning.specs.Meaning.{Direction, Context}
use Rattle.regress_meaning.specs.Laws.{IsInside}
use Rattle.regress_meaning.proofs.StepLaws.{To}
use Rattle.regress_front_nodes.specs.Trees.{Tree}
use Rattle.regress_front_nodes.specs.TreeMeaning.{node_outcomes}
use Rattle.regress_front_nodes.specs.Alike.{StayInside}
use Rattle.regress_front_nodes.proofs.OutcomeLemmas.{Goes-outcomes}

module _ (w : Context) where
  -- no outcome of a tree leaves the text
  pub tree-inside : (t : Tree) (dir : Direction) → StayInside w (node_outcomes w t dir)
  tree-inside t dir s inside = All-weaker (To w dir s) (IsInside w.text) (λ r l. l.inside inside) (node_outcomes w t dir s) (Goes-outcomes w t dir s)
