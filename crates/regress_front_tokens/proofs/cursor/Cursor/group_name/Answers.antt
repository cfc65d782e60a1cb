use Rattle.std.proofs.Common.{ℕ, List, ◌∷◌, [], ap, sym, ◌∙◌, chars}
use Rattle.std.proofs.lemmas.Str.{chars-nil}
use Rattle.regress_front_tokens.specs.Cursors.{unread}
use Rattle.regress_front_tokens.proofs.cursor.Cursor.group_name.Goals as goal

pub returns-then-not-eat : goal.returns-then-not-eat
returns-then-not-eat c =
    rw (← c.if-not-eat.ensures.found) (ap (λ (name : List ℕ). (name ∷ [], unread c.args.self.now)) (sym (ap chars c.new.ensures.bytes ∙ chars-nil)))
