use Rattle.std.specs.Prelude.{map}
use Rattle.std.proofs.Common.{true, sym, ◌∙◌}
use Rattle.regress_engine_search.specs.StateViews.{loop_of}
use Rattle.regress_engine_memory.specs.TableViews.{table_of}
use Rattle.regress_engine_memory.proofs.PlaneLemmas.{told-of_spot}
use Rattle.regress_engine_memory.proofs.failures.Failures.are_exits_known.Goals as goal

pub returns-in-Some : goal.returns-in-Some
returns-in-Some c set program input known =
    let (p, there, is, none) = c.in-Some.ensures in
    let s = c.args.spot.now in
    told-of_spot program input (table_of c.args.self.now.table) s true (map loop_of c.args.loops.now) p is (known c.in-Some.k s.offset p there (sym (c.has.ensures p there) ∙ set))
