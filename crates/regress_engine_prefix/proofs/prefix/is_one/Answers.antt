use Rattle.regress_front_nodes.proofs.TreeLaws.{tree-Char, tree-ByteSet, tree-CharSet, tree-Bracket}
use Rattle.regress_engine_prefix.proofs.ReachLemmas.{TakesOne-char, TakesOne-byte_set, TakesOne-char_set, TakesOne-bracket}
use Rattle.regress_engine_prefix.proofs.prefix.is_one.Goals as goal

pub returns-in-Char : goal.returns-in-Char
returns-in-Char c = λ e. rw (c.in-Char.is, tree-Char) (TakesOne-char _)

pub returns-in-ByteSet : goal.returns-in-ByteSet
returns-in-ByteSet c = λ e. rw (c.in-ByteSet.is, tree-ByteSet) (TakesOne-byte_set _)

pub returns-in-CharSet : goal.returns-in-CharSet
returns-in-CharSet c = λ e. rw (c.in-CharSet.is, tree-CharSet) (TakesOne-char_set _)

pub returns-in-Bracket : goal.returns-in-Bracket
returns-in-Bracket c = λ e. rw (c.in-Bracket.is, tree-Bracket) (TakesOne-bracket _ _)
