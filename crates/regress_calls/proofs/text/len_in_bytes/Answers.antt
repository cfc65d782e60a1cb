use Rattle.regress_front_bytes.proofs.TextLemmas.{offset_of_end}
use Rattle.regress_calls.proofs.text.len_in_bytes.Goals as goal

pub returns-clause-end : goal.returns-clause-end
returns-clause-end c = offset_of_end c.args.text.now c.utf8.text
