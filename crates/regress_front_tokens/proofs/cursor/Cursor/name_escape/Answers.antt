use Rattle.std.proofs.Common.{refl, sym, ◌∙◌, ap}
use Rattle.regress_meaning.specs.Tokens.{escape_at, named_reference, identity, property_at}
use Rattle.regress_front_tokens.specs.Cursors.{unread}
use Rattle.regress_front_tokens.specs.Trees.{class_view}
use Rattle.regress_front_tokens.specs.Escapes.{mode_view, escape_view, from_first}
use Rattle.std.proofs.lemmas.Result.{err_from_is_err_and}
use Rattle.regress_front_tokens.proofs.EscapeLemmas.{IsRead-along, IsRead-same, IsRead-fails, escape_at-named, escape_at-k, escape_at-property, escape_at-letter}
use Rattle.regress_front_tokens.proofs.cursor.Cursor.name_escape.Goals as goal

pub returns-then-mode-clause-read : goal.returns-then-mode-clause-read
returns-then-mode-clause-read c =
    let m = mode_view c.args.mode.now in
    IsRead-along escape_view (escape_at m) (unread c.args.self.now) (named_reference m) (unread c.eat.new.self) c.named_reference.result _
    (escape_at-named m _ c.if-eat.ensures.found c.if-mode.true ∙ ap (named_reference m) (sym c.if-eat.ensures.read)) c.named_reference.ensures.read

pub returns-then-eat-clause-read : goal.returns-then-eat-clause-read
returns-then-eat-clause-read c =
    rw (c.from.ensures, c.if-eat.ensures.read) (escape_at-k (mode_view c.args.mode.now) _ c.if-eat.ensures.found c.if-mode.false)

pub returns-then-not-mode-clause-read : goal.returns-then-not-mode-clause-read
returns-then-not-mode-clause-read c =
    let m = mode_view c.args.mode.now in
    IsRead-same escape_view (escape_at m) (from_first (identity m)) _ c.identity.result _
    (escape_at-letter m _ c.requires.letter c.if-eat.ensures.found c.if-not-mode.true) c.identity.ensures.read

pub returns-in_err-property-clause-read : goal.returns-in_err-property-clause-read
returns-in_err-property-clause-read c =
    let p = err_from_is_err_and c.from_residual.result c.from_residual.ensures.1 in
    let m = mode_view c.args.mode.now in
    let t = unread c.args.self.now in
    rw (p.1, p.2)
    (IsRead-fails class_view (from_first (property_at m)) t c.in_err-property.field-0.0 _ escape_view (escape_at m) t _ c.in_err-property.ensures.read
    (λ none. rw (escape_at-property m t c.requires.letter c.if-eat.ensures.found c.if-not-mode.false, none) refl))

pub returns-clause-read : goal.returns-clause-read
returns-clause-read c =
    rw (escape_at-property (mode_view c.args.mode.now) _ c.requires.letter c.if-eat.ensures.found c.if-not-mode.false, c.in_ok-property.ensures.read) refl
