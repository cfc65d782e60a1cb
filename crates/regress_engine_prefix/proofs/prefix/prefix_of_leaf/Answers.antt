use Rattle.std.proofs.Common.{rules, ◌≡◌, inl, inr, sym, ◌∙◌}
use Rattle.std.proofs.lemmas.Bool.{false≢true}
use Rattle.regress_front_sets.specs.Sets.{ends_in}
use Rattle.regress_front_nodes.proofs.KindLemmas.{other_than_leaf}
use Rattle.regress_front_nodes.proofs.TreeLaws.{tree-Empty, tree-Goal, tree-MatchAny, tree-MatchAnyExceptLineTerminator, tree-BackRef, tree-WordBoundary, tree-StringSet, tree-Char, tree-ByteSequence, tree-ByteSet, tree-CharSet, tree-Bracket}
use Rattle.regress_engine_prefix.proofs.PrefixLemmas.{Foretells-empty, Foretells-goal, Foretells-boundary, Foretells-unknown, Foretells-char, Foretells-bytes, Foretells-byte_set, Foretells-char_set, Foretells-bracket}
use Rattle.regress_engine_prefix.proofs.prefix.prefix_of_leaf.Goals as goal

pub unreachable-requires : goal.unreachable-requires
unreachable-requires c =
    let i = c.in_default in
    let none = other_than_leaf c.args.node.now i.not-Empty i.not-Goal i.not-Char i.not-ByteSequence i.not-ByteSet i.not-CharSet i.not-MatchAny
    i.not-MatchAnyExceptLineTerminator i.not-Anchor i.not-WordBoundary i.not-BackRef i.not-Bracket i.not-StringSet in
    false≢true (sym none ∙ c.requires.leaf)

pub returns-in-Char : goal.returns-in-Char
returns-in-Char c = rw (c.in-Char.is, tree-Char) (Foretells-char c.in-Char.c c.first_of_chars.result c.first_of_chars.ensures)

pub returns-in_ok-to_vec-in-ByteSequence : goal.returns-in_ok-to_vec-in-ByteSequence
returns-in_ok-to_vec-in-ByteSequence c =
    let lawful = rw (c.in-ByteSequence.is, tree-ByteSequence) at c.requires.lawful.1 in
    let same : c.in_ok-to_vec-in-ByteSequence.field-0.items ≡ c.in-ByteSequence.bytes.items = search rules in
    rw (c.in-ByteSequence.is, tree-ByteSequence) (Foretells-bytes c.in_ok-to_vec-in-ByteSequence.field-0 c.in-ByteSequence.bytes.items same lawful.1)

pub returns-in-ByteSet : goal.returns-in-ByteSet
returns-in-ByteSet c =
    rw (c.in-ByteSet.is, tree-ByteSet) (Foretells-byte_set c.in-ByteSet.bytes.items c.first_of_ascii.result (rw c.deref-in-ByteSet.ensures.value at c.first_of_ascii.ensures))

pub returns-in-CharSet : goal.returns-in-CharSet
returns-in-CharSet c =
    rw (c.in-CharSet.is, tree-CharSet)
    (Foretells-char_set c.in-CharSet.chars.items c.first_of_chars-in-CharSet.result (rw c.deref-in-CharSet.ensures.value at c.first_of_chars-in-CharSet.ensures))

pub returns-in_ok-first_of_bracket-in-Bracket : goal.returns-in_ok-first_of_bracket-in-Bracket
returns-in_ok-first_of_bracket-in-Bracket c =
    let contents = c.in-Bracket.contents in
    rw (c.in-Bracket.is, tree-Bracket)
    (Foretells-bracket contents.invert (ends_in contents.cps) c.in_ok-first_of_bracket-in-Bracket.field-0 c.in_ok-first_of_bracket-in-Bracket.ensures)

pub returns-in-Empty : goal.returns-in-Empty
returns-in-Empty c = elim c.in-Empty.is [
  | inl is ↦ rw (is, tree-Empty) Foretells-empty
  | inr is ↦ rw (is, tree-Goal) Foretells-goal
]

pub returns-in-WordBoundary : goal.returns-in-WordBoundary
returns-in-WordBoundary c = rw (c.in-WordBoundary.is, tree-WordBoundary) (Foretells-boundary c.in-WordBoundary.invert c.in-WordBoundary.unicode_icase)

pub returns-in-MatchAny : goal.returns-in-MatchAny
returns-in-MatchAny c = elim c.in-MatchAny.is [
  | inl is ↦ rw (is, tree-MatchAny) (Foretells-unknown _ tt)
  | inr (inl is) ↦ rw (is, tree-MatchAnyExceptLineTerminator) (Foretells-unknown _ tt)
  | inr (inr is) ↦ rw (is.2, tree-BackRef) (Foretells-unknown _ tt)
]

pub returns-in-StringSet : goal.returns-in-StringSet
returns-in-StringSet c = rw (c.in-StringSet.is, tree-StringSet, ← c.deref-in-StringSet.ensures.value) c.of_strings.ensures
