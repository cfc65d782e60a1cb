use Rattle.regress_engine_prefix.proofs.start.StartPredicate.for_units.Goals as goal

pub is_plain-requires : goal.is_plain-requires
is_plain-requires c = c.requires
