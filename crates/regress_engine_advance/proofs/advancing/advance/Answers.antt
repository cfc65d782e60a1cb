use Rattle.std.proofs.Common.{◌∙◌, refl}
use Rattle.regress_engine_input.specs.Views.{input_of, direction_of}
use Rattle.regress_engine_search.proofs.BracketLemmas.{bracket_takes}
use Rattle.regress_engine_search.proofs.ReadyLemmas.{ready_read}
use Rattle.regress_engine_advance.proofs.advancing.advance.Goals as goal

pub this_char-requires : goal.this_char-requires
this_char-requires g c =
    ready_read _ (g.Input.InputIndexer.view c.args.input.now) (g.met.Input.InputIndexer.are_of_kind c.args.input.now) _ _ _ c.requires.ready (rw c.in-Char.is refl)

pub char_set-requires : goal.char_set-requires
char_set-requires g c =
    ready_read _ (g.Input.InputIndexer.view c.args.input.now) (g.met.Input.InputIndexer.are_of_kind c.args.input.now) _ _ _ c.requires.ready (rw c.in-CharSet.is refl)

pub byte_set-requires : goal.byte_set-requires
byte_set-requires g c =
    ready_read _ (g.Input.InputIndexer.view c.args.input.now) (g.met.Input.InputIndexer.are_of_kind c.args.input.now) _ _ _ c.requires.ready (rw c.in-ByteSet2.is refl)

pub byte_set-requires-in-ByteSet3 : goal.byte_set-requires-in-ByteSet3
byte_set-requires-in-ByteSet3 g c =
    ready_read _ (g.Input.InputIndexer.view c.args.input.now) (g.met.Input.InputIndexer.are_of_kind c.args.input.now) _ _ _ c.requires.ready (rw c.in-ByteSet3.is refl)

pub byte_set-requires-in-ByteSet4 : goal.byte_set-requires-in-ByteSet4
byte_set-requires-in-ByteSet4 g c =
    ready_read _ (g.Input.InputIndexer.view c.args.input.now) (g.met.Input.InputIndexer.are_of_kind c.args.input.now) _ _ _ c.requires.ready (rw c.in-ByteSet4.is refl)

pub ascii_member-requires : goal.ascii_member-requires
ascii_member-requires g c =
    ready_read _ (g.Input.InputIndexer.view c.args.input.now) (g.met.Input.InputIndexer.are_of_kind c.args.input.now) _ _ _ c.requires.ready (rw c.in-AsciiBracket.is refl)

pub bracket-requires : goal.bracket-requires
bracket-requires g c =
    ready_read _ (g.Input.InputIndexer.view c.args.input.now) (g.met.Input.InputIndexer.are_of_kind c.args.input.now) _ _ _ c.requires.ready (rw c.in-Bracket.is refl)

pub any-requires : goal.any-requires
any-requires g c =
    ready_read _ (g.Input.InputIndexer.view c.args.input.now) (g.met.Input.InputIndexer.are_of_kind c.args.input.now) _ _ _ c.requires.ready (rw c.in-MatchAny.is refl)

pub in_line-requires : goal.in_line-requires
in_line-requires g c =
    ready_read _ (g.Input.InputIndexer.view c.args.input.now) (g.met.Input.InputIndexer.are_of_kind c.args.input.now) _ _ _ c.requires.ready (rw c.in-MatchAnyExceptLineTerminator.is refl)

pub line_edge-requires : goal.line_edge-requires
line_edge-requires g c =
    ready_read _ (g.Input.InputIndexer.view c.args.input.now) (g.met.Input.InputIndexer.are_of_kind c.args.input.now) _ _ _ c.requires.ready (rw c.in-StartOfLine.is refl)

pub line_edge-requires-in-EndOfLine : goal.line_edge-requires-in-EndOfLine
line_edge-requires-in-EndOfLine g c =
    ready_read _ (g.Input.InputIndexer.view c.args.input.now) (g.met.Input.InputIndexer.are_of_kind c.args.input.now) _ _ _ c.requires.ready (rw c.in-EndOfLine.is refl)

pub boundary-requires : goal.boundary-requires
boundary-requires g c =
    ready_read _ (g.Input.InputIndexer.view c.args.input.now) (g.met.Input.InputIndexer.are_of_kind c.args.input.now) _ _ _ c.requires.ready (rw c.in-WordBoundary.is refl)

pub boundary-requires-in-WordBoundaryUnicodeICase : goal.boundary-requires-in-WordBoundaryUnicodeICase
boundary-requires-in-WordBoundaryUnicodeICase g c =
    ready_read _ (g.Input.InputIndexer.view c.args.input.now) (g.met.Input.InputIndexer.are_of_kind c.args.input.now) _ _ _ c.requires.ready (rw c.in-WordBoundaryUnicodeICase.is refl)

pub returns-in-Bracket : goal.returns-in-Bracket
returns-in-Bracket g c =
    let within = rw c.in-Bracket.is at c.requires.ready.fits in
    rw c.in-Bracket.is (c.bracket.ensures ∙ bracket_takes ((input_of (g.Input.InputIndexer.view c.args.input.now)).next (direction_of c.args.forward) c.args.offset) _ _ _ within c.of.ensures)
