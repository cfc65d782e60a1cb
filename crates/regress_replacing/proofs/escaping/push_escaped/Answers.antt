use Rattle.std.proofs.Common.{sym, append-nil, append_assoc, refl}
use Rattle.regress_replacing.proofs.EscapeLemmas.{escaped-syntax, escaped-plain}
use Rattle.regress_replacing.proofs.escaping.push_escaped.Goals as goal
use Rattle.regress_replacing.proofs.escaping.push_escaped.Goals.{then-is_syntax_character+in_ok-push, else-is_syntax_character}

pub returns : goal.returns
returns c =
    elim c.if-is_syntax_character.branch [
      | then-is_syntax_character+in_ok-push w ↦
          rw (c.in_ok-push-2.ensures.bytes, w.escaped-is, w.in_ok-push.ensures.bytes, escaped-syntax c.args.c (sym w.if-is_syntax_character.ensures))
          (simp (append_assoc, append-nil))
      | else-is_syntax_character w ↦
          rw (c.in_ok-push-2.ensures.bytes, w.escaped-is, escaped-plain c.args.c (sym w.if-is_syntax_character.ensures), append-nil) refl
    ]
