use Rattle.regress_front_tokens.proofs.SpanLemmas.{span_up_to-unread}
use Rattle.regress_front_tokens.proofs.cursor.Cursor.take_up_to.Goals as goal

pub returns-clause-read : goal.returns-clause-read
returns-clause-read g c passes tells =
    span_up_to-unread c.args.most _ passes _ _ _ c.min.ensures (c.front_length-count.ensures.count passes tells)
