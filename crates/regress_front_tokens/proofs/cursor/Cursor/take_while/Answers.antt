use Rattle.regress_front_tokens.proofs.SpanLemmas.{span-unread}
use Rattle.regress_front_tokens.proofs.cursor.Cursor.take_while.Goals as goal

pub returns-clause-read : goal.returns-clause-read
returns-clause-read g c passes tells = span-unread passes _ _ _ (c.front_length-count.ensures.count passes tells)
