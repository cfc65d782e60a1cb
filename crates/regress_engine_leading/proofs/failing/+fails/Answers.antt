use Rattle.std.proofs.Common.{true, not, refl, sym, ap, ◌∙◌}
use Rattle.regress_meaning.specs.Meaning.{Forward}
use Rattle.regress_engine_code.specs.Standing.{program_of}
use Rattle.regress_engine_input.specs.Views.{input_of}
use Rattle.regress_engine_insn.specs.declared.insn.Insn.TheVariants.{Goal}
use Rattle.regress_engine_search.proofs.InsnLemmas.{stands-as}
use Rattle.regress_engine_search.proofs.PlaceLemmas.{can-read}
use Rattle.regress_engine_singles.proofs.LeadingLemmas.{class-simple, class-fits}
use Rattle.regress_engine_singles.proofs.DeadLemmas.{simple-dead, taken-dead, begin-dead, end-dead}
use Rattle.regress_engine_advance.proofs.ReadLemmas.{none-is, stands-read, assertion-simple}
use Rattle.regress_engine_leading.proofs.failing.+fails.Goals as goal

pub byte_ahead-requires-clause-kind : goal.byte_ahead-requires-clause-kind
byte_ahead-requires-clause-kind g t c =
    let program = program_of c.args.program.now in
    let here = stands-read c.insns-insns.result.now c.args.program.now.insns.items c.args.at Goal c.insns-insns.ensures c.if-at-insns.false in
    c.requires.suits.kind ∙ ap not (c.requires.suits.closed c.args.at _ (stands-as program c.args.at _ _ c.in-ByteSeq1.is here))

pub class_ahead-requires : goal.class_ahead-requires
class_ahead-requires g t c =
    let program = program_of c.args.program.now in
    let here = stands-read c.insns-insns.result.now c.args.program.now.insns.items c.args.at Goal c.insns-insns.ensures c.if-at-insns.false in
    let class = sym c.is_class.ensures ∙ c.if-is_class.true in
    record {
      class = class;
      fits = class-fits program c.args.at _ class (c.requires.suits.closed c.args.at _ here);
      place = can-read (g.Input.InputIndexer.view c.args.input.now) (g.met.Input.InputIndexer.are_of_kind c.args.input.now) c.args.offset c.requires.place;
    }

pub returns-in-BeginCaptureGroup : goal.returns-in-BeginCaptureGroup
returns-in-BeginCaptureGroup g t c = λ yes.
    let program = program_of c.args.program.now in
    let here = stands-read c.insns-insns.result.now c.args.program.now.insns.items c.args.at Goal c.insns-insns.ensures c.if-at-insns.false in
    begin-dead program (input_of (g.Input.InputIndexer.view c.args.input.now)) Forward c.args.at c.args.offset _ (stands-as program c.args.at _ _ c.in-BeginCaptureGroup.is here) (c.fails-in-BeginCaptureGroup.ensures yes)

pub returns-in-EndCaptureGroup : goal.returns-in-EndCaptureGroup
returns-in-EndCaptureGroup g t c = λ yes.
    let program = program_of c.args.program.now in
    let here = stands-read c.insns-insns.result.now c.args.program.now.insns.items c.args.at Goal c.insns-insns.ensures c.if-at-insns.false in
    end-dead program (input_of (g.Input.InputIndexer.view c.args.input.now)) Forward c.args.at c.args.offset _ (stands-as program c.args.at _ _ c.in-EndCaptureGroup.is here) (c.fails-in-EndCaptureGroup.ensures yes)

pub returns-in-Some : goal.returns-in-Some
returns-in-Some g t c = λ yes.
    let program = program_of c.args.program.now in
    let here = stands-read c.insns-insns.result.now c.args.program.now.insns.items c.args.at Goal c.insns-insns.ensures c.if-at-insns.false in
    taken-dead program (input_of (g.Input.InputIndexer.view c.args.input.now)) Forward c.args.at c.args.offset c.in-Some.behind _ (stands-as program c.args.at _ _ c.in-ByteSeq1.is here) refl
    (λ groups. sym c.in-Some.is ∙ c.byte_ahead.ensures.stands) (c.fails-in-Some.ensures yes)

pub returns-in-None : goal.returns-in-None
returns-in-None g t c = λ yes.
    let program = program_of c.args.program.now in
    let here = stands-read c.insns-insns.result.now c.args.program.now.insns.items c.args.at Goal c.insns-insns.ensures c.if-at-insns.false in
    simple-dead program (input_of (g.Input.InputIndexer.view c.args.input.now)) Forward c.args.at c.args.offset _ (stands-as program c.args.at _ _ c.in-ByteSeq1.is here) refl
    (λ groups. sym c.in-None.is ∙ c.byte_ahead.ensures.stands)

pub returns-then-is_class : goal.returns-then-is_class
returns-then-is_class g t c = λ none.
    let program = program_of c.args.program.now in
    let here = stands-read c.insns-insns.result.now c.args.program.now.insns.items c.args.at Goal c.insns-insns.ensures c.if-at-insns.false in
    let class = sym c.is_class.ensures ∙ c.if-is_class.true in
    simple-dead program (input_of (g.Input.InputIndexer.view c.args.input.now)) Forward c.args.at c.args.offset _ here (class-simple _ class)
    (λ groups. none-is _ (c.is_none.ensures ∙ ap not none) ∙ c.class_ahead.ensures groups)

pub holds_at-requires : goal.holds_at-requires
holds_at-requires g t c = can-read (g.Input.InputIndexer.view c.args.input.now) (g.met.Input.InputIndexer.are_of_kind c.args.input.now) c.args.offset c.requires.place

pub returns-then-not-holds_at : goal.returns-then-not-holds_at
returns-then-not-holds_at g t c = λ yes.
    let program = program_of c.args.program.now in
    let here = stands-read c.insns-insns.result.now c.args.program.now.insns.items c.args.at Goal c.insns-insns.ensures c.if-at-insns.false in
    let edge = sym c.is_assertion.ensures ∙ c.if-is_assertion.true in
    simple-dead program (input_of (g.Input.InputIndexer.view c.args.input.now)) Forward c.args.at c.args.offset _ here (assertion-simple _ edge)
    (λ groups. c.if-not-holds_at.ensures program true groups edge)

pub returns-then-is_assertion : goal.returns-then-is_assertion
returns-then-is_assertion g t c = λ yes.
    let program = program_of c.args.program.now in
    let here = stands-read c.insns-insns.result.now c.args.program.now.insns.items c.args.at Goal c.insns-insns.ensures c.if-at-insns.false in
    let edge = sym c.is_assertion.ensures ∙ c.if-is_assertion.true in
    taken-dead program (input_of (g.Input.InputIndexer.view c.args.input.now)) Forward c.args.at c.args.offset c.args.offset _ here (assertion-simple _ edge)
    (λ groups. c.if-not-holds_at.ensures program true groups edge) (c.fails.ensures yes)

pub returns-in-Some-char_ahead : goal.returns-in-Some-char_ahead
returns-in-Some-char_ahead g t c = λ yes.
    let program = program_of c.args.program.now in
    let here = stands-read c.insns-insns.result.now c.args.program.now.insns.items c.args.at Goal c.insns-insns.ensures c.if-at-insns.false in
    taken-dead program (input_of (g.Input.InputIndexer.view c.args.input.now)) Forward c.args.at c.args.offset c.in-Some-char_ahead.behind _ (stands-as program c.args.at _ _ c.in-Char.is here) refl
    (λ groups. sym c.in-Some-char_ahead.is ∙ c.char_ahead.ensures.stands) (c.fails-in-Some-char_ahead.ensures yes)

pub returns-in-None-char_ahead : goal.returns-in-None-char_ahead
returns-in-None-char_ahead g t c = λ yes.
    let program = program_of c.args.program.now in
    let here = stands-read c.insns-insns.result.now c.args.program.now.insns.items c.args.at Goal c.insns-insns.ensures c.if-at-insns.false in
    simple-dead program (input_of (g.Input.InputIndexer.view c.args.input.now)) Forward c.args.at c.args.offset _ (stands-as program c.args.at _ _ c.in-Char.is here) refl
    (λ groups. sym c.in-None-char_ahead.is ∙ c.char_ahead.ensures.stands)
