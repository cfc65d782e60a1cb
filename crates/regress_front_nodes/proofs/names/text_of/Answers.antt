use Rattle.std.proofs.Common.{[], chars, unwrap_or, option_map, sym, ap, ◌∙◌}
use Rattle.std.proofs.lemmas.Str.{chars-nil}
use Rattle.std.specs.String.{string_bytes}
use Rattle.regress_front_nodes.proofs.names.text_of.Goals as goal

pub returns-in-None : goal.returns-in-None
returns-in-None c = ap chars c.new.ensures.bytes ∙ chars-nil ∙ sym (ap (λ name. unwrap_or (option_map (λ text. chars (string_bytes text)) name) []) c.in-None.is)
