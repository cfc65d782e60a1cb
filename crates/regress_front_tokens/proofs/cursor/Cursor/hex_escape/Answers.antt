use Rattle.std.proofs.Common.{◌≡◌, refl, sym, ◌∙◌}
use Rattle.regress_meaning.specs.Tokens.{escape_at, identity, hex_at, unicode_escape}
use Rattle.regress_front_tokens.specs.Cursors.{unread}
use Rattle.regress_front_tokens.specs.Escapes.{mode_view, escape_view, from_first}
use Rattle.regress_front_tokens.proofs.EscapeLemmas.{IsRead-same, reading-some, reading-none, escape_at-x, escape_at-u}
use Rattle.regress_front_tokens.proofs.cursor.Cursor.hex_escape.Goals.{then-eat, else-eat+then-mode, else-eat+else-mode}
use Rattle.regress_front_tokens.proofs.cursor.Cursor.hex_escape.Goals as goal

pub returns-in-Some-clause-read : goal.returns-in-Some-clause-read
returns-in-Some-clause-read c =
    let m = mode_view c.args.mode.now in
    elim c.if-eat.branch [
      | then-eat w ↦
          let point = reading-some (λ c. c) (hex_at 2) _ c.in-Some.point _ (sym w.point-is ∙ c.in-Some.is) w.hex-point.ensures.read in
          rw (escape_at-x m _ w.if-eat.ensures.found, ← w.if-eat.ensures.read, point, w.ahead-is) refl
      | else-eat+then-mode w ↦
          let point = reading-some (λ c. c) unicode_escape _ c.in-Some.point _ (sym w.point-is ∙ c.in-Some.is) w.unicode_escape.ensures.read in
          rw (escape_at-u m _ c.requires w.if-eat.ensures.found, w.if-mode.true, ← w.if-eat.ensures.read, ← w.bump.ensures.read, point, w.ahead-is) refl
      | else-eat+else-mode w ↦
          let point = reading-some (λ c. c) (hex_at 4) _ c.in-Some.point _ (sym w.point-is ∙ c.in-Some.is) w.hex.ensures.read in
          rw (escape_at-u m _ c.requires w.if-eat.ensures.found, w.if-mode.false, ← w.if-eat.ensures.read, ← w.bump.ensures.read, point, w.ahead-is) refl
    ]

pub returns-in-None-clause-read : goal.returns-in-None-clause-read
returns-in-None-clause-read c =
    let m = mode_view c.args.mode.now in
    let same : escape_at m (unread c.args.self.now) ≡ from_first (identity m) (unread c.args.self.now) = elim c.if-eat.branch [
      | then-eat w ↦
          let point = reading-none (λ c. c) (hex_at 2) _ _ (sym w.point-is ∙ c.in-None.is) w.hex-point.ensures.read in
          rw (escape_at-x m _ w.if-eat.ensures.found, ← w.if-eat.ensures.read, point.0) refl
      | else-eat+then-mode w ↦
          let point = reading-none (λ c. c) unicode_escape _ _ (sym w.point-is ∙ c.in-None.is) w.unicode_escape.ensures.read in
          rw (escape_at-u m _ c.requires w.if-eat.ensures.found, w.if-mode.true, ← w.if-eat.ensures.read, ← w.bump.ensures.read, point.0) refl
      | else-eat+else-mode w ↦
          let point = reading-none (λ c. c) (hex_at 4) _ _ (sym w.point-is ∙ c.in-None.is) w.hex.ensures.read in
          rw (escape_at-u m _ c.requires w.if-eat.ensures.found, w.if-mode.false, ← w.if-eat.ensures.read, ← w.bump.ensures.read, point.0) refl
    ] in
    IsRead-same escape_view (escape_at m) (from_first (identity m)) _ c.identity.result _ same c.identity.ensures.read
