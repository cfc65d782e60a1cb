use Rattle.std.proofs.Common.{sym, ap, ◌∙◌}
use Rattle.std.specs.List.{each_same}
use Rattle.regress_front_nodes.specs.Trees.{bytes, byte_set, char_set, string_set}
use Rattle.regress_front_nodes.proofs.TreeLaws.{tree-ByteSequence, tree-ByteSet, tree-CharSet, tree-StringSet}
use Rattle.std.proofs.lemmas.Bool.{false≢true}
use Rattle.regress_front_nodes.proofs.KindLemmas.{other_than_leaf}
use Rattle.regress_front_nodes.proofs.CopyLemmas.{map-AllZip}
use Rattle.regress_front_nodes.proofs.node.Node.copy_of_leaf.Goals as goal

pub unreachable-requires : goal.unreachable-requires
unreachable-requires c =
    let i = c.in_default in
    let none = other_than_leaf c.args.self.now i.not-Empty i.not-Goal i.not-Char i.not-ByteSequence i.not-ByteSet i.not-CharSet i.not-MatchAny
    i.not-MatchAnyExceptLineTerminator i.not-Anchor i.not-WordBoundary i.not-BackRef i.not-Bracket i.not-StringSet in
    false≢true (sym none ∙ c.requires)

pub returns-in_ok-clone-in-ByteSequence : goal.returns-in_ok-clone-in-ByteSequence
returns-in_ok-clone-in-ByteSequence c =
    rw (c.in-ByteSequence.is, tree-ByteSequence, tree-ByteSequence) (ap bytes (each_same _ _ c.in_ok-clone-in-ByteSequence.ensures.cases.0))

pub returns-in_ok-clone-in-ByteSet : goal.returns-in_ok-clone-in-ByteSet
returns-in_ok-clone-in-ByteSet c =
    rw (c.in-ByteSet.is, tree-ByteSet, tree-ByteSet) (ap byte_set (each_same _ _ c.in_ok-clone-in-ByteSet.ensures.cases.0))

pub returns-in_ok-clone-in-CharSet : goal.returns-in_ok-clone-in-CharSet
returns-in_ok-clone-in-CharSet c =
    rw (c.in-CharSet.is, tree-CharSet, tree-CharSet) (ap char_set (each_same _ _ c.in_ok-clone-in-CharSet.ensures.cases.0))

pub returns-in_ok-clone-in-StringSet : goal.returns-in_ok-clone-in-StringSet
returns-in_ok-clone-in-StringSet c =
    rw (c.in-StringSet.is, tree-StringSet, tree-StringSet)
    (ap (λ strings. string_set strings c.in-StringSet.icase) (map-AllZip _ _ (λ x y h. each_same _ _ h.0) _ _ c.in_ok-clone-in-StringSet.ensures.cases.0))
