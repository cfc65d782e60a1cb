use Rattle.std.proofs.Common.{chars}
use Rattle.regress_meaning.specs.WholeText.{whole_text}
use Rattle.regress_front.specs.FlagWords.{options}
use Rattle.regress_front.specs.TableViews.{table}
use Rattle.caller_tests.proofs.whole.is_valid.Goals as goal

pub returns : goal.returns
returns c =
    let t = table c.args.tables.now in
    let o = options c.args.flags in
    let (p, spelled, within, stands, in_units) = c.in_ok-regex.ensures.accepted in
    let answered = c.in_ok-found.ensures.found t o (whole_text p) stands in
    let law = c.whole_texts_match_by_some_outcome.ensures.found t o p (chars c.args.text.now) in
    (p, spelled, (λ yes. law.0 (answered.0 yes), λ matches. answered.1 (law.1 matches)))
