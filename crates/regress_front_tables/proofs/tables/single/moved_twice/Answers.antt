use Rattle.regress_meaning.specs.TableParts.{IsIdempotentAt}
use Rattle.regress_front_tables.specs.Parts.{parts_of}
use Rattle.regress_front_tables.proofs.TellingLemmas.{IsLeast-both_maps}
use Rattle.regress_front_tables.proofs.tables.single.moved_twice.Goals as goal

pub returns-clause-broken : goal.returns-clause-broken
returns-clause-broken c =
    IsLeast-both_maps IsIdempotentAt (parts_of c.args.parts.now) _ _ _ c.least.ensures
    (rw c.deref.ensures.value at c.moved_twice_by.ensures) (rw c.deref-2.ensures.value at c.moved_twice_by-2.ensures)
