use Rattle.std.proofs.Common.{Ok, Err}
use Rattle.regress_front_core.specs.FlagWords.{options}
use Rattle.regress_front_tables.specs.TableViews.{table}
use Rattle.regress_front_syntax.proofs.PatternLemmas.{spelled, refused, answer-moved}
use Rattle.regress_front_syntax.proofs.whole.parse_telling_place.Goals as goal

pub returns-in-Ok-pattern-clause-accepted : goal.returns-in-Ok-pattern-clause-accepted
returns-in-Ok-pattern-clause-accepted c =
    let tb = table c.args.tables.now in
    let o = options c.args.flags in
    let t = c.args.points.now in
    let s = c.in-Ok-pattern.syntax in
    spelled tb o t (c.reading_decides_the_grammar.ensures tb o t) s (answer-moved _ _ _ t (Ok s) c.new-parser.ensures.text c.in-Ok.ensures.mode c.in-Ok-pattern.ensures.answer)

pub returns-in-Ok-pattern-clause-ranges : goal.returns-in-Ok-pattern-clause-ranges
returns-in-Ok-pattern-clause-ranges c = c.in-Ok-pattern.ensures.ranges

pub returns-clause-refused : goal.returns-clause-refused
returns-clause-refused c =
    let tb = table c.args.tables.now in
    let o = options c.args.flags in
    let t = c.args.points.now in
    let e = c.in-Err-pattern.error in
    refused tb o t (c.reading_decides_the_grammar.ensures tb o t) e (answer-moved _ _ _ t (Err e) c.new-parser.ensures.text c.in-Ok.ensures.mode c.in-Err-pattern.ensures.answer)
