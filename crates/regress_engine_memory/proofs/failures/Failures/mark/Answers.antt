use Rattle.std.specs.Prelude.{slice_get}
use Rattle.std.proofs.Common.{◌≡◌, List, Some, sym, ◌∙◌, ap, arith}
use Rattle.std.proofs.lemmas.Option.{slice_get-get_or}
use Rattle.regress_engine_memory.specs.Deciding.{Table}
use Rattle.regress_engine_memory.specs.TableViews.{table_of}
use Rattle.regress_engine_memory.specs.declared.failures.Plane.{Plane}
use Rattle.regress_engine_memory.proofs.PlaneLemmas.{known-set, known-same}
use Rattle.regress_engine_memory.proofs.failures.Failures.mark.Goals as goal

pub returns-in-Ok-clause-known : goal.returns-in-Ok-clause-known
returns-in-Ok-clause-known c program input known fails =
    let t : Table = table_of c.args.self.now.table in
    let planes : List Plane = c.args.self.now.planes.items in
    let p : Plane = c.index_mut.result.now in
    let there : slice_get planes c.args.k ≡ Some p =
    slice_get-get_or planes c.args.k p (omega (arith, c.if-k-len.false)) ∙ ap (λ x. Some x) (sym c.index_mut.ensures.value) in
    known-set program input t planes c.args.k c.args.offset p c.insert.new.self there c.in-Ok.ensures.ok known (fails p there)

pub returns-in-Err-clause-known : goal.returns-in-Err-clause-known
returns-in-Err-clause-known c program input known fails =
    let t : Table = table_of c.args.self.now.table in
    let planes : List Plane = c.args.self.now.planes.items in
    let p : Plane = c.index_mut.result.now in
    let there : slice_get planes c.args.k ≡ Some p =
    slice_get-get_or planes c.args.k p (omega (arith, c.if-k-len.false)) ∙ ap (λ x. Some x) (sym c.index_mut.ensures.value) in
    known-same program input t planes c.args.k p c.insert.new.self there c.in-Err.ensures.err known
