use Rattle.std.proofs.Common.{◌≡◌, length, chars, ◌∙◌}
use Rattle.std.proofs.lemmas.Iterator.Consumers.{count_from_yields_List}
use Rattle.std.proofs.lemmas.Iterator.{YieldsList-from_chars}
use Rattle.std.proofs.lemmas.Str.{scalars-chars, encodes-chars}
use Rattle.regress_front_nodes.proofs.NodeLemmas.{same_text-same, and_true_true}
use Rattle.regress_front_nodes.proofs.node.is_one_char.Goals as goal

pub returns-in-Ok : goal.returns-in-Ok
returns-in-Ok c =
    let bs = c.args.bytes.now in
    let is_utf8 = (c.in-Ok.ensures.cases).1 in
    let counted : c.count.result ≡ length (chars bs) = count_from_yields_List c.chars.result c.count.result c.count.ensures.ran
    (YieldsList-from_chars bs is_utf8 (c.chars.ensures.rest ∙ c.in-Ok.ensures.cases.0)) in
    rw (counted, scalars-chars bs is_utf8, encodes-chars bs is_utf8) (and_true_true _ _ (same_text-same bs))
