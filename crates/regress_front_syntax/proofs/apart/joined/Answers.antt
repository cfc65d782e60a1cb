use Rattle.regress_front_syntax.proofs.ApartLemmas.{disjoint-names, joined-names}
use Rattle.std.proofs.Math.Bool.{or_comm}
use Rattle.regress_front_syntax.specs.Names.{has_name}
use Rattle.regress_front_syntax.proofs.apart.joined.Goals.{then-len, else-len}
use Rattle.regress_front_syntax.proofs.apart.joined.Goals as goal

pub returns : goal.returns
returns c = (
  λ name. let both = joined-names c.if-len.names c.if-len.more c.append.new.self c.in_ok-append.ensures.inserts_all name in
      elim c.if-len.branch [ then-len w ↦ cc (or_comm (has_name c.args.names name) (has_name c.args.more name)) | else-len w ↦ cc ],
  disjoint-names c.args.names c.args.more c.is_disjoint-apart.result c.is_disjoint-apart.ensures,
)
