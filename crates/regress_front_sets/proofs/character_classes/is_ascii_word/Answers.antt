use Rattle.regress_front_sets.proofs.ClassLemmas.{rows_of_words}
use Rattle.regress_front_sets.proofs.character_classes.is_ascii_word.Goals as goal

pub returns-then-point-lt128 : goal.returns-then-point-lt128
returns-then-point-lt128 c = rows_of_words c.args.point c.if-point-lt128.true
