use Rattle.regress_engine_prefix.proofs.PrefixLemmas.{Foretells-start, Foretells-any_anchor}
use Rattle.regress_engine_prefix.proofs.prefix.of_anchor.Goals as goal

pub returns-in-StartOfLine : goal.returns-in-StartOfLine
returns-in-StartOfLine c = rw (c.in-StartOfLine.is, c.if-not-multiline.true) Foretells-start

pub returns-in_default : goal.returns-in_default
returns-in_default c = Foretells-any_anchor c.args.anchor_type c.args.multiline
