use Rattle.std.proofs.Common.{ap, List}
use Rattle.std.proofs.lemmas.List.{map-set}
use Rattle.regress_engine_runs.specs.States.{Marks}
use Rattle.regress_engine_search.specs.StateViews.{marks_of}
use Rattle.regress_engine_undo.specs.Held.{Held, held}
use Rattle.regress_engine_undo.proofs.memory.Memory.restore_group.Goals as goal

pub returns : goal.returns
returns c = let h : Held = held c.args.self.now in ap (λ (gs : List Marks). record h { groups = gs }) (map-set marks_of c.args.self.now.groups.items c.args.group c.args.value)
