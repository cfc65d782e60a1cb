use Rattle.std.proofs.Common.{◌+◌, length}
use Rattle.regress_front_words.proofs.sharing.+word_tree.Given as goal

abbrev pub decreases-word_tree : goal.decreases-word_tree
decreases-word_tree l = length l.words.now + l.levels
