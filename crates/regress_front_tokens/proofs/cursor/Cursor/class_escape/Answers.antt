use Rattle.std.proofs.Common.{◌≡◌, refl}
use Rattle.regress_meaning.specs.Tokens.{class_escape_at, escape_at, octal_or_digit}
use Rattle.regress_front_tokens.specs.Cursors.{unread}
use Rattle.regress_front_tokens.specs.Escapes.{mode_view, escape_view, from_first}
use Rattle.regress_front_tokens.proofs.EscapeLemmas.{IsRead-along, class_escape_at-is}
use Rattle.regress_front_tokens.proofs.cursor.Cursor.class_escape.Goals.{else-is_at_digit-via-then-is_at_digit+else-not-is_at, else-is_at_digit-via-else-is_at_digit}
use Rattle.regress_front_tokens.proofs.cursor.Cursor.class_escape.Goals as goal

pub returns-then-eat-clause-read : goal.returns-then-eat-clause-read
returns-then-eat-clause-read c = rw (class_escape_at-is, ← c.if-eat.ensures.found, c.if-eat.ensures.read) refl

pub returns-then-eat-2-clause-read : goal.returns-then-eat-2-clause-read
returns-then-eat-2-clause-read c = rw (class_escape_at-is, ← c.if-eat.ensures.found, ← c.if-eat.ensures.read, ← c.if-eat-2.ensures.found, c.if-eat-2.ensures.read, c.from.ensures) refl

pub returns-in-Some-clause-read : goal.returns-in-Some-clause-read
returns-in-Some-clause-read c = rw (class_escape_at-is, ← c.if-eat.ensures.found, ← c.if-eat.ensures.read, ← c.if-eat-2.ensures.found, ← c.if-eat-2.ensures.read, c.in-Some.ensures.read) refl

pub returns-then-not-is_at-clause-read : goal.returns-then-not-is_at-clause-read
returns-then-not-is_at-clause-read c =
    let m = mode_view c.args.mode.now in
    let same : class_escape_at m (unread c.args.self.now) ≡ from_first (octal_or_digit m) (unread c.class_control.new.self) =
    rw (class_escape_at-is, ← c.if-eat.ensures.found, ← c.if-eat.ensures.read, ← c.if-eat-2.ensures.found, ← c.if-eat-2.ensures.read, c.in_default.ensures.read.0, ← c.in_default.ensures.read.1, ← c.if-is_at_digit.ensures, ← c.if-not-is_at.ensures) refl in
    IsRead-along escape_view (class_escape_at m) _ (from_first (octal_or_digit m)) _ c.octal_or_digit.result _ same c.octal_or_digit.ensures.read

pub returns-then-not-is_at-2-clause-read : goal.returns-then-not-is_at-2-clause-read
returns-then-not-is_at-2-clause-read c =
    let m = mode_view c.args.mode.now in
    let same : class_escape_at m (unread c.args.self.now) ≡ escape_at m (unread c.class_control.new.self) = elim c.else-is_at_digit.branch [
      | else-is_at_digit-via-then-is_at_digit+else-not-is_at w ↦ rw (class_escape_at-is, ← c.if-eat.ensures.found, ← c.if-eat.ensures.read, ← c.if-eat-2.ensures.found, ← c.if-eat-2.ensures.read, c.in_default.ensures.read.0, ← c.in_default.ensures.read.1, ← w.if-is_at_digit.ensures, ← w.if-not-is_at.ensures, ← c.if-not-is_at-2.ensures) refl
      | else-is_at_digit-via-else-is_at_digit w ↦ rw (class_escape_at-is, ← c.if-eat.ensures.found, ← c.if-eat.ensures.read, ← c.if-eat-2.ensures.found, ← c.if-eat-2.ensures.read, c.in_default.ensures.read.0, ← c.in_default.ensures.read.1, ← w.if-is_at_digit.ensures, ← c.if-not-is_at-2.ensures) refl
    ] in
    IsRead-along escape_view (class_escape_at m) _ (escape_at m) _ c.escape.result _ same c.escape.ensures.read

pub returns-then-mode-clause-read : goal.returns-then-mode-clause-read
returns-then-mode-clause-read c = elim c.else-is_at_digit.branch [
  | else-is_at_digit-via-then-is_at_digit+else-not-is_at w ↦ rw (class_escape_at-is, ← c.if-eat.ensures.found, ← c.if-eat.ensures.read, ← c.if-eat-2.ensures.found, ← c.if-eat-2.ensures.read, c.in_default.ensures.read.0, ← c.in_default.ensures.read.1, ← w.if-is_at_digit.ensures, ← w.if-not-is_at.ensures, ← c.if-not-is_at-2.ensures, c.if-mode.true) refl
  | else-is_at_digit-via-else-is_at_digit w ↦ rw (class_escape_at-is, ← c.if-eat.ensures.found, ← c.if-eat.ensures.read, ← c.if-eat-2.ensures.found, ← c.if-eat-2.ensures.read, c.in_default.ensures.read.0, ← c.in_default.ensures.read.1, ← w.if-is_at_digit.ensures, ← c.if-not-is_at-2.ensures, c.if-mode.true) refl
]

pub returns-clause-read : goal.returns-clause-read
returns-clause-read c = elim c.else-is_at_digit.branch [
  | else-is_at_digit-via-then-is_at_digit+else-not-is_at w ↦ rw (class_escape_at-is, ← c.if-eat.ensures.found, ← c.if-eat.ensures.read, ← c.if-eat-2.ensures.found, ← c.if-eat-2.ensures.read, c.in_default.ensures.read.0, ← c.in_default.ensures.read.1, ← w.if-is_at_digit.ensures, ← w.if-not-is_at.ensures, ← c.if-not-is_at-2.ensures, c.if-mode.false, c.bump.ensures.read, c.from-2.ensures) refl
  | else-is_at_digit-via-else-is_at_digit w ↦ rw (class_escape_at-is, ← c.if-eat.ensures.found, ← c.if-eat.ensures.read, ← c.if-eat-2.ensures.found, ← c.if-eat-2.ensures.read, c.in_default.ensures.read.0, ← c.in_default.ensures.read.1, ← w.if-is_at_digit.ensures, ← c.if-not-is_at-2.ensures, c.if-mode.false, c.bump.ensures.read, c.from-2.ensures) refl
]
