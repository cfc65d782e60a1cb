use Rattle.std.proofs.Common.{ℕ, ◌++◌, List, chars, string_bytes, refl, ap, ◌∙◌}
use Rattle.std.proofs.lemmas.Str.{IsUtf8-string_bytes, chars-nil}
use Rattle.regress_front_tokens.specs.Cursors.{unread}
use Rattle.regress_front_tokens.specs.Words.{characters_of}
use Rattle.regress_front_tokens.proofs.NameLemmas.{code_points-push, key-text, key-parts}
use Rattle.regress_front_tokens.proofs.cursor.Cursor.key.Goals as goal
use Rattle.regress_front_tokens.proofs.cursor.Cursor.key.Goals.{in-Some-value+in_ok-push+in_ok-push_points-2, in_default-value}

pub returns-clause-read : goal.returns-clause-read
returns-clause-read c =
    let name = c.in-Some.name.now in
    let first = c.in_ok-push_points.ensures ∙ ap (λ (t : List ℕ). t ++ characters_of name) (ap chars c.new-key.ensures.bytes ∙ chars-nil) in
    elim c.match-value.branch [
      | in-Some-value+in_ok-push+in_ok-push_points-2 w ↦
          let value = w.in-Some-value.value.now in
          let text = string_bytes c.push_points.new.text in
          let mark = ap chars w.in_ok-push.ensures.bytes ∙ code_points-push text 0x3D (IsUtf8-string_bytes c.push_points.new.text) refl in
          rw w.key-is
          (key-text (unread c.args.self.now) _ (rw w.in-Some-value.is at c.in-Some.ensures.read) (key-parts name value _ _ _ first mark w.in_ok-push_points-2.ensures))
      | in_default-value w ↦ rw w.key-is (key-text (unread c.args.self.now) _ (rw w.in_default-value.is at c.in-Some.ensures.read) first)
    ]
