use Rattle.regress_meaning.specs.TableParts.{AvoidsSurrogates}
use Rattle.regress_front_tables.specs.Parts.{parts_of}
use Rattle.regress_front_tables.proofs.TellingLemmas.{IsLeast-both_maps}
use Rattle.regress_front_tables.proofs.tables.single.mapped_to_surrogate.Goals as goal

pub returns-clause-broken : goal.returns-clause-broken
returns-clause-broken c =
    IsLeast-both_maps AvoidsSurrogates (parts_of c.args.parts.now) _ _ _ c.least.ensures
    (rw c.deref.ensures.value at c.mapped_to_surrogate_by.ensures) (rw c.deref-2.ensures.value at c.mapped_to_surrogate_by-2.ensures)
