use Rattle.std.specs.Prelude.{get_or}
use Rattle.std.proofs.Common.{◌≡◌, ◌<◌, ◌==◌, false, rules, arith, ◌∙◌, subst}
use Rattle.std.proofs.lemmas.Bool.Decides.{nat_tests}
use Rattle.regress_meaning.specs.Meaning.{Forward as ahead}
use Rattle.regress_front_bytes.specs.Bitmaps.{ascii_bitmap_contains}
use Rattle.regress_front_sets.specs.Intervals.{ends_of}
use Rattle.regress_front_nodes.specs.TreeMeaning.{bracket_has}
use Rattle.regress_engine_input.specs.Views.{input_of}
use Rattle.regress_engine_search.proofs.BracketLemmas.{bracket_takes}
use Rattle.regress_engine_singles.proofs.AsciiLemmas.{ascii-other}
use Rattle.regress_engine_singles.proofs.ByteLemmas.{other-stands}
use Rattle.regress_engine_singles.proofs.PassingLemmas.{by-members}
use Rattle.regress_engine_singles.proofs.stopped.is_stopped.Goals as goal

pub returns-in-AsciiBracket : goal.returns-in-AsciiBracket
returns-in-AsciiBracket g c = λ other groups.
    let v = g.Input.InputIndexer.view c.args.input.now in
    let has = ascii_bitmap_contains c.in-AsciiBracket.bitmap in
    rw c.in-AsciiBracket.is
    (ascii-other v has c.args.offset c.in-Some.byte c.contains.result c.in-Some.ensures c.contains.ensures other ∙ by-members has c.ascii_bitmap_holds_ascii.ensures ((input_of v).next ahead c.args.offset))

pub returns-in-Bracket : goal.returns-in-Bracket
returns-in-Bracket g c = λ other groups.
    let v = g.Input.InputIndexer.view c.args.input.now in
    let told = c.of-class.result in
    let class = told.bc.now in
    let within = rw c.in-Bracket.is at c.requires in
    let low : c.in-Some.byte < 0x80 = subst (λ b. b < 0x80) c.in-Some.ensures.1 c.in-Some.ensures.0.low in
    rw c.in-Bracket.is
    (ascii-other v (bracket_has class.invert (ends_of class.cps.intervals.items)) c.args.offset c.in-Some.byte c.contains-in-Bracket.result c.in-Some.ensures (c.contains-in-Bracket.ensures ∙ told.told c.in-Some.byte low) other
    ∙ bracket_takes ((input_of v).next ahead c.args.offset) _ _ _ within c.of-class.ensures)

pub returns-in-ByteSeq1 : goal.returns-in-ByteSeq1
returns-in-ByteSeq1 g c = λ other groups.
    let bs = c.in-ByteSeq1.first in
    let differs : (c.in-Some.byte == get_or bs 0 0) ≡ false = grind (arith, nat_tests) in
    rw c.in-ByteSeq1.is (other-stands (g.Input.InputIndexer.view c.args.input.now) bs c.args.offset c.in-Some.byte (search rules) c.in-Some.ensures.1 differs)
