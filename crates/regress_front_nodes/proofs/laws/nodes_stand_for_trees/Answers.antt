use Rattle.regress_front_nodes.proofs.TreeLaws.{tree-Empty, tree-Goal, tree-Char, tree-ByteSequence, tree-ByteSet, tree-CharSet, tree-Cat, tree-Alt, tree-MatchAny, tree-MatchAnyExceptLineTerminator, tree-Anchor, tree-WordBoundary, tree-CaptureGroup, tree-BackRef, tree-Bracket, tree-StringSet, tree-LookaroundAssertion, tree-AtomicGroup, tree-Loop, tree-Loop1CharBody}
use Rattle.regress_front_nodes.proofs.laws.nodes_stand_for_trees.Goals as goal

pub returns : goal.returns
returns c = record {
  of_empty = tree-Empty;
  of_goal = tree-Goal;
  of_char = tree-Char;
  of_byte_sequence = tree-ByteSequence;
  of_byte_set = tree-ByteSet;
  of_char_set = tree-CharSet;
  of_cat = tree-Cat;
  of_alt = tree-Alt;
  of_match_any = tree-MatchAny;
  of_match_any_except_line_terminator = tree-MatchAnyExceptLineTerminator;
  of_anchor = tree-Anchor;
  of_word_boundary = tree-WordBoundary;
  of_capture_group = tree-CaptureGroup;
  of_back_ref = tree-BackRef;
  of_bracket = tree-Bracket;
  of_string_set = tree-StringSet;
  of_lookaround_assertion = tree-LookaroundAssertion;
  of_atomic_group = tree-AtomicGroup;
  of_loop = tree-Loop;
  of_loop1_char_body = tree-Loop1CharBody;
}
