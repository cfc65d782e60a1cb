use Rattle.std.proofs.Common.{◌≡◌, ◌<◌, length, chars, sym, ◌∙◌, arith}
use Rattle.std.proofs.lemmas.Iterator.Consumers.{count_from_yields_List}
use Rattle.std.proofs.lemmas.Iterator.{YieldsList-from_chars}
use Rattle.engine_tests.proofs.singles.spelled_leads.Goals as goal

pub leads-requires-clause-suits : goal.leads-requires-clause-suits
leads-requires-clause-suits g c =
    let bs = c.args.character.now in
    let counted : c.count.result ≡ length (chars bs) = count_from_yields_List c.chars.result c.count.result c.count.ensures.ran
    (YieldsList-from_chars bs c.utf8.character c.chars.ensures.rest) in
    let one : length (chars bs) ≡ 1 = sym counted ∙ c.if-count-ne1.false in
    let some : 0 < length bs = grind (arith, c.is_empty.ensures, c.if-is_empty.false) in
    rw c.as_bytes.ensures.value (c.requires.bytes, (some, c.utf8.character), one)
