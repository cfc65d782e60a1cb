use Rattle.std.proofs.Common.{◌==◌, string_bytes, sym, ap, ◌∙◌, arith}
use Rattle.std.specs.Rc.{rc_slice_items}
use Rattle.regress_meaning.specs.Tokens.{named_reference, name_at}
use Rattle.regress_front_tokens.specs.Cursors.{unread}
use Rattle.regress_front_tokens.specs.Words.{code_points_of}
use Rattle.regress_front_tokens.specs.Escapes.{mode_view, escape_view}
use Rattle.std.proofs.lemmas.Str.{IsUtf8-string_bytes}
use Rattle.std.proofs.lemmas.Result.{err_from_is_err_and}
use Rattle.regress_front_tokens.proofs.EscapeLemmas.{IsRead-fails, named-no_angle, named-no_name, named-no_group, named-groups}
use Rattle.regress_front_tokens.proofs.cursor.Cursor.named_reference.Goals as goal

pub returns-then-not-eat-clause-read : goal.returns-then-not-eat-clause-read
returns-then-not-eat-clause-read c = named-no_angle _ _ c.if-not-eat.ensures.found

pub returns-in_err-name-clause-read : goal.returns-in_err-name-clause-read
returns-in_err-name-clause-read c =
    let p = err_from_is_err_and c.from_residual.result c.from_residual.ensures.1 in
    let m = mode_view c.args.mode.now in
    rw (p.1, p.2)
    (IsRead-fails code_points_of (name_at m.table) (unread c.eat.new.self) c.in_err-name.field-0.0 _ escape_view (named_reference m) _ _ c.in_err-name.ensures.read
    (λ none. named-no_name m _ c.if-not-eat.ensures.found (rw c.if-not-eat.ensures.read at none)))

pub returns-then-is_empty-clause-read : goal.returns-then-is_empty-clause-read
returns-then-is_empty-clause-read c =
    let groups = c.in_ok-groups.groups in
    let name = string_bytes c.in_ok-name.name in
    let numbers = rw c.deref.ensures at c.in_ok-groups.ensures ∙ c.args.mode.now.indexed c.requires name (IsUtf8-string_bytes c.in_ok-name.name) in
    named-no_group (mode_view c.args.mode.now) _ (code_points_of c.in_ok-name.name) _ (rc_slice_items groups) c.if-not-eat.ensures.found (rw c.if-not-eat.ensures.read at c.in_ok-name.ensures.read) numbers
    (ap (λ n. n == 0) (sym c.deref-2.ensures.len) ∙ sym c.is_empty.ensures ∙ c.if-is_empty.true)

pub returns-clause-read : goal.returns-clause-read
returns-clause-read c =
    let groups = c.in_ok-groups.groups in
    let name = string_bytes c.in_ok-name.name in
    let numbers = rw c.deref.ensures at c.in_ok-groups.ensures ∙ c.args.mode.now.indexed c.requires name (IsUtf8-string_bytes c.in_ok-name.name) in
    named-groups (mode_view c.args.mode.now) _ (code_points_of c.in_ok-name.name) _ (rc_slice_items groups) c.if-not-eat.ensures.found (rw c.if-not-eat.ensures.read at c.in_ok-name.ensures.read) numbers
    (ap (λ n. n == 0) (sym c.deref-2.ensures.len) ∙ sym c.is_empty.ensures ∙ c.if-is_empty.false)
