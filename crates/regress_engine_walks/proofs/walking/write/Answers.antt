use Rattle.std.proofs.lemmas.List.{map-set}
use Rattle.regress_engine_search.specs.StateViews.{marks_of}
use Rattle.regress_engine_walks.proofs.walking.write.Goals as goal

pub returns-clause-marks : goal.returns-clause-marks
returns-clause-marks c = map-set marks_of c.args.groups.now.items c.args.group c.args.marks
