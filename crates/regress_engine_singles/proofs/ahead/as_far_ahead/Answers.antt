use Rattle.std.proofs.Common.{true, not, ◌∙◌, refl}
use Rattle.regress_meaning.specs.Meaning.{Forward as ahead, is_line_end}
use Rattle.regress_front_bytes.specs.Bitmaps.{ascii_bitmap_contains}
use Rattle.regress_front_bytes.specs.ByteSets.{members}
use Rattle.regress_front_sets.specs.Intervals.{ends_of}
use Rattle.regress_front_nodes.specs.TreeMeaning.{bracket_has}
use Rattle.regress_engine_input.specs.Views.{input_of}
use Rattle.regress_engine_insn.specs.Instructions as code
use Rattle.regress_engine_code.specs.Standing.{program_of}
use Rattle.regress_engine_search.proofs.BracketLemmas.{bracket_takes}
use Rattle.regress_engine_singles.proofs.PassingLemmas.{by-members, far-taken}
use Rattle.regress_engine_singles.proofs.ahead.as_far_ahead.Goals as goal

pub returns-in-AsciiBracket : goal.returns-in-AsciiBracket
returns-in-AsciiBracket g c = λ groups.
    let input = input_of (g.Input.InputIndexer.view c.args.input.now) in
    let has = ascii_bitmap_contains c.in-AsciiBracket.bitmap in
    rw c.in-AsciiBracket.is
    (c.as_far_members.ensures ∙ far-taken (program_of c.args.program.now) input has (code.ascii_bracket (members has)) ahead groups (λ o. by-members has c.ascii_bitmap_holds_ascii.ensures (input.next ahead o)) c.args.times c.args.offset)

pub returns-in-Bracket : goal.returns-in-Bracket
returns-in-Bracket g c = λ groups.
    let input = input_of (g.Input.InputIndexer.view c.args.input.now) in
    let class = c.of-class.result.bc.now in
    let within = rw c.in-Bracket.is at c.requires.fits in
    rw c.in-Bracket.is
    (c.as_far_told.ensures
    ∙ far-taken (program_of c.args.program.now) input (bracket_has class.invert (ends_of class.cps.intervals.items)) (code.bracket c.in-Bracket.index) ahead groups (λ o. bracket_takes (input.next ahead o) _ _ _ within c.of-class.ensures) c.args.times c.args.offset)

pub returns-in-ByteSeq1 : goal.returns-in-ByteSeq1
returns-in-ByteSeq1 g c = λ groups. rw c.in-ByteSeq1.is (c.as_far_byte.ensures (program_of c.args.program.now) groups)

pub returns-in-MatchAny : goal.returns-in-MatchAny
returns-in-MatchAny g c = λ groups.
    let input = input_of (g.Input.InputIndexer.view c.args.input.now) in
    rw c.in-MatchAny.is (c.as_far_any.ensures.any refl ∙ far-taken (program_of c.args.program.now) input (λ _. true) code.any ahead groups (λ o. refl) c.args.times c.args.offset)

pub returns-in-MatchAnyExceptLineTerminator : goal.returns-in-MatchAnyExceptLineTerminator
returns-in-MatchAnyExceptLineTerminator g c = λ groups.
    let input = input_of (g.Input.InputIndexer.view c.args.input.now) in
    rw c.in-MatchAnyExceptLineTerminator.is
    (c.as_far_any-in-MatchAnyExceptLineTerminator.ensures.line refl ∙ far-taken (program_of c.args.program.now) input (λ d. not (is_line_end d)) code.any_in_line ahead groups (λ o. refl) c.args.times c.args.offset)
