use Rattle.std.proofs.Common.{sym, ap}
use Rattle.regress_front_nodes.specs.Trees.{tree}
use Rattle.regress_front_nodes.specs.TreeMeaning.{direction}
use Rattle.regress_front_rules.specs.NormalForm.{is_loose_char}
use Rattle.regress_front_nodes.proofs.TreeLaws.{tree-ByteSequence}
use Rattle.regress_front_opt.proofs.PassLemmas.{passed-refused}
use Rattle.regress_front_opt.proofs.AdvanceLemmas.{letter-advances}
use Rattle.regress_front_opt.proofs.letters.SpelledCharsPass.rewrite.Goals as goal

pub returns-in_err-bytes : goal.returns-in_err-bytes
returns-in_err-bytes c = passed-refused (direction c.args._in_lookbehind) is_loose_char (tree c.args.node.now) c.from_residual.result c.from_residual.ensures.1

pub returns : goal.returns
returns c = rw (tree-ByteSequence, c.in_ok-bytes.ensures) (letter-advances _ (tree c.args.node.now) c.in-Some.letter c.in-Some.ensures.0 c.in-Some.ensures.1)
