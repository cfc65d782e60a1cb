use Rattle.std.proofs.Common.{◌-◌, [], ◌∷◌, sym, ap, ◌∙◌}
use Rattle.std.proofs.lemmas.Bool.{false≢true}
use Rattle.std.proofs.lemmas.Result.{IfOk-weaker}
use Rattle.regress_front_tables.specs.TableViews.{table}
use Rattle.regress_front_nodes.proofs.KindLemmas.{other_than_leaf}
use Rattle.regress_front_nodes.proofs.TreeLaws.{tree-Goal, tree-Char, tree-ByteSet, tree-CharSet, tree-MatchAny, tree-MatchAnyExceptLineTerminator, tree-Anchor, tree-WordBoundary, tree-BackRef, tree-Bracket}
use Rattle.regress_engine_insn.specs.Instructions.{Instruction}
use Rattle.regress_engine_insn.specs.Instructions as code
use Rattle.regress_engine_insn.specs.InsnViews.{instruction}
use Rattle.regress_engine_insn.specs.Layout.{char_set_code, byte_set_code}
use Rattle.regress_engine_code.specs.Written.{written, with}
use Rattle.regress_engine_code.proofs.AddLemmas.{Adds-one}
use Rattle.regress_engine_code.proofs.EmitLemmas.{AddsTree-byte_set, AddsTree-anchor}
use Rattle.regress_engine_code.proofs.emitter.Emitter.leaf.Goals as goal

pub unreachable-requires : goal.unreachable-requires
unreachable-requires c =
    let i = c.in_default in
    let none = other_than_leaf c.args.node.now i.not-Empty i.not-Goal i.not-Char i.not-ByteSequence i.not-ByteSet i.not-CharSet i.not-MatchAny
    i.not-MatchAnyExceptLineTerminator i.not-Anchor i.not-WordBoundary i.not-BackRef i.not-Bracket i.not-StringSet in
    false≢true (sym none ∙ c.requires.leaf)

pub returns-in-Goal-clause-added : goal.returns-in-Goal-clause-added
returns-in-Goal-clause-added c =
    rw (c.in-Goal.is, tree-Goal)
    (IfOk-weaker c.push.result _ _ (λ _ told. Adds-one c.args.self.now.units (written c.args.code.now) (written c.push.new.self) code.goal told) c.push.ensures.ok)

pub returns-in-Char-clause-added : goal.returns-in-Char-clause-added
returns-in-Char-clause-added c =
    rw (c.in-Char.is, tree-Char)
    (IfOk-weaker c.push-in-Char.result _ _ (λ _ told. Adds-one c.args.self.now.units (written c.args.code.now) (written c.push-in-Char.new.self) (code.char c.in-Char.c) told) c.push-in-Char.ensures.ok)

pub returns-in-MatchAny-clause-added : goal.returns-in-MatchAny-clause-added
returns-in-MatchAny-clause-added c =
    rw (c.in-MatchAny.is, tree-MatchAny)
    (IfOk-weaker c.push-in-MatchAny.result _ _ (λ _ told. Adds-one c.args.self.now.units (written c.args.code.now) (written c.push-in-MatchAny.new.self) code.any told) c.push-in-MatchAny.ensures.ok)

pub returns-in-MatchAnyExceptLineTerminator-clause-added : goal.returns-in-MatchAnyExceptLineTerminator-clause-added
returns-in-MatchAnyExceptLineTerminator-clause-added c =
    rw (c.in-MatchAnyExceptLineTerminator.is, tree-MatchAnyExceptLineTerminator)
    (IfOk-weaker c.push-in-MatchAnyExceptLineTerminator.result _ _ (λ _ told. Adds-one c.args.self.now.units (written c.args.code.now) (written c.push-in-MatchAnyExceptLineTerminator.new.self) code.any_in_line told) c.push-in-MatchAnyExceptLineTerminator.ensures.ok)

pub returns-in-BackRef-clause-added : goal.returns-in-BackRef-clause-added
returns-in-BackRef-clause-added c =
    rw (c.in-BackRef.is, tree-BackRef)
    (IfOk-weaker c.push-in-BackRef.result _ _ (λ _ told. Adds-one c.args.self.now.units (written c.args.code.now) (written c.push-in-BackRef.new.self) (code.back (c.in-BackRef.group - 1) c.in-BackRef.icase) told) c.push-in-BackRef.ensures.ok)

pub returns-in-WordBoundary-clause-added : goal.returns-in-WordBoundary-clause-added
returns-in-WordBoundary-clause-added c =
    rw (c.in-WordBoundary.is, tree-WordBoundary)
    (IfOk-weaker c.push-in-WordBoundary.result _ _ (λ _ told. Adds-one c.args.self.now.units (written c.args.code.now) (written c.push-in-WordBoundary.new.self) (code.boundary c.in-WordBoundary.invert c.in-WordBoundary.unicode_icase) (told ∙ ap (λ (i : Instruction). with (written c.args.code.now) (i ∷ [])) c.word_boundary.ensures)) c.push-in-WordBoundary.ensures.ok)

pub returns-in-CharSet-clause-added : goal.returns-in-CharSet-clause-added
returns-in-CharSet-clause-added c =
    rw (c.in-CharSet.is, tree-CharSet)
    (IfOk-weaker c.push-in-CharSet.result _ _ (λ _ told. Adds-one c.args.self.now.units (written c.args.code.now) (written c.push-in-CharSet.new.self) (char_set_code c.in-CharSet.chars.items) (told ∙ ap (λ (i : Instruction). with (written c.args.code.now) (i ∷ [])) (c.char_set.ensures ∙ ap char_set_code c.deref-in-CharSet.ensures.value))) c.push-in-CharSet.ensures.ok)

pub returns-in-ByteSet-clause-added : goal.returns-in-ByteSet-clause-added
returns-in-ByteSet-clause-added c =
    rw (c.in-ByteSet.is, tree-ByteSet)
    (IfOk-weaker c.push-in-ByteSet.result _ _
    (λ _ told. AddsTree-byte_set c.args.self.now.units (table c.args.self.now.tables.now) c.args.self.now.unicode c.args.backward _ (instruction c.byte_set.result) (written c.args.code.now) (written c.push-in-ByteSet.new.self)
    (c.byte_set.ensures ∙ ap (byte_set_code c.args.self.now.units) c.deref-in-ByteSet.ensures.value) told)
    c.push-in-ByteSet.ensures.ok)

pub returns-in-Anchor-clause-added : goal.returns-in-Anchor-clause-added
returns-in-Anchor-clause-added c =
    rw (c.in-Anchor.is, tree-Anchor)
    (IfOk-weaker c.push-in-Anchor.result _ _
    (λ _ told. AddsTree-anchor c.args.self.now.units (table c.args.self.now.tables.now) c.args.self.now.unicode c.args.backward c.in-Anchor.anchor_type c.in-Anchor.multiline (written c.args.code.now) (written c.push-in-Anchor.new.self)
    (told ∙ ap (λ (i : Instruction). with (written c.args.code.now) (i ∷ [])) c.anchor.ensures))
    c.push-in-Anchor.ensures.ok)

pub returns-in-Bracket-clause-added : goal.returns-in-Bracket-clause-added
returns-in-Bracket-clause-added c =
    rw (c.in-Bracket.is, tree-Bracket) (IfOk-weaker c.bracket.result _ _ (λ _ added. added c.args.backward) c.bracket.ensures.added)
