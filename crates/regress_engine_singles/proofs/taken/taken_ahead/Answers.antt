use Rattle.regress_meaning.specs.Meaning.{Forward as ahead}
use Rattle.regress_front_bytes.specs.Bitmaps.{ascii_bitmap_contains}
use Rattle.regress_front_bytes.specs.ByteSets.{members}
use Rattle.regress_front_sets.specs.Intervals.{ends_of}
use Rattle.regress_front_nodes.specs.TreeMeaning.{bracket_has}
use Rattle.regress_engine_input.specs.Views.{input_of}
use Rattle.regress_engine_insn.specs.Instructions as code
use Rattle.regress_engine_code.specs.Standing.{program_of}
use Rattle.regress_engine_search.proofs.BracketLemmas.{bracket_takes}
use Rattle.regress_engine_singles.proofs.PassingLemmas.{by-members, option-taken}
use Rattle.regress_engine_singles.proofs.taken.taken_ahead.Goals as goal

pub returns-in-AsciiBracket : goal.returns-in-AsciiBracket
returns-in-AsciiBracket g c = λ groups.
    let input = input_of (g.Input.InputIndexer.view c.args.input.now) in
    let has = ascii_bitmap_contains c.in-AsciiBracket.bitmap in
    rw c.in-AsciiBracket.is
    (option-taken (program_of c.args.program.now) input has (code.ascii_bracket (members has)) ahead groups (λ o. by-members has c.ascii_bitmap_holds_ascii.ensures (input.next ahead o)) c.args.more c.args.offset c.taken_told.result c.taken_told.ensures)

pub returns-in-Bracket : goal.returns-in-Bracket
returns-in-Bracket g c = λ groups.
    let input = input_of (g.Input.InputIndexer.view c.args.input.now) in
    let class = c.of-class.result.bc.now in
    let within = rw c.in-Bracket.is at c.requires.fits in
    rw c.in-Bracket.is
    (option-taken (program_of c.args.program.now) input (bracket_has class.invert (ends_of class.cps.intervals.items)) (code.bracket c.in-Bracket.index) ahead groups (λ o. bracket_takes (input.next ahead o) _ _ _ within c.of-class.ensures) c.args.more c.args.offset c.taken_beside.result c.taken_beside.ensures)
