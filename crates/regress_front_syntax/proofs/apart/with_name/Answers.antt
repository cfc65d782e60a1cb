use Rattle.std.proofs.Common.{not, ap, sym, ◌∙◌}
use Rattle.regress_front_syntax.proofs.ApartLemmas.{added-names, put-names}
use Rattle.regress_front_syntax.proofs.apart.with_name.Goals as goal

pub returns-then-branch : goal.returns-then-branch
returns-then-branch c = (
  added-names c.args.names c.args.name c.in_ok-insert.field-0 c.in_ok-insert.ensures.added ∙ ap not c.if-branch.true,
  put-names c.args.names c.insert.new.self c.args.name c.in_ok-insert.ensures.updates,
)

pub returns : goal.returns
returns c = added-names c.args.names c.args.name c.in_ok-insert.field-0 c.in_ok-insert.ensures.added ∙ ap not c.if-branch.false
