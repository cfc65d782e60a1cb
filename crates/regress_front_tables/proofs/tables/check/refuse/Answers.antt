use Rattle.regress_front_tables.specs.Parts.{parts_of}
use Rattle.regress_front_tables.proofs.LawLemmas.{IsFirstBroken-from}
use Rattle.regress_front_tables.proofs.tables.check.refuse.Goals as goal

pub returns-in-Some-clause-broken : goal.returns-in-Some-clause-broken
returns-in-Some-clause-broken c =
    let p = parts_of c.args.parts.now in
    IsFirstBroken-from c.args.law p c.requires.earlier c.in-Some.code_point (rw c.in-Some.is at c.requires.some)
