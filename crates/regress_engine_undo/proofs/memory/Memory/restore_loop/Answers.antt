use Rattle.std.proofs.Common.{ap, List, ℕ}
use Rattle.std.proofs.lemmas.List.{map-set}
use Rattle.regress_engine_search.specs.StateViews.{loop_of}
use Rattle.regress_engine_undo.specs.Held.{Held, held}
use Rattle.regress_engine_undo.proofs.memory.Memory.restore_loop.Goals as goal

pub returns : goal.returns
returns c = let h : Held = held c.args.self.now in ap (λ (ls : List (ℕ × ℕ)). record h { loops = ls }) (map-set loop_of c.args.self.now.loops.items c.args.id c.args.value)
