use Rattle.std.proofs.Common.{inr, refl}
use Rattle.std.proofs.lemmas.Result.{on_ok_weaker}
use Rattle.regress_program.specs.Running.{small}
use Rattle.regress_program.proofs.RunLemmas.{accepted, searched, not-text, on_err-of}
use Rattle.regress_program.proofs.program.run.Goals as goal

pub returns-clause-ok : goal.returns-clause-ok
returns-clause-ok g c =
    let a = accepted _ _ _ _ c.in_ok-regex.regex c.in-Ok.ensures.small c.from.ensures c.in_ok-regex.ensures.accepted in
    on_ok_weaker c.write_lines.result
    (λ w. searched _ _ _ _ _ _ _ _ c.in_ok-bytes.ensures.read c.as_slice.ensures.value c.in-Ok-from_utf8.ensures.cases a.0 w)
    (c.write_lines.ensures.ok small _ a.0.tree a.1)

pub returns-clause-on_write : goal.returns-clause-on_write
returns-clause-on_write g c = λ e.
    let a = accepted _ _ _ _ c.in_ok-regex.regex c.in-Ok.ensures.small c.from.ensures c.in_ok-regex.ensures.accepted in
    searched _ _ _ _ _ _ _ _ c.in_ok-bytes.ensures.read c.as_slice.ensures.value c.in-Ok-from_utf8.ensures.cases a.0
    (on_err-of _ _ e (c.write_lines.ensures.err small _ a.0.tree a.1))

pub returns-clause-out_of_memory : goal.returns-clause-out_of_memory
returns-clause-out_of_memory g c = λ e.
    let a = accepted _ _ _ _ c.in_ok-regex.regex c.in-Ok.ensures.small c.from.ensures c.in_ok-regex.ensures.accepted in
    inr (searched _ _ _ _ _ _ _ _ c.in_ok-bytes.ensures.read c.as_slice.ensures.value c.in-Ok-from_utf8.ensures.cases a.0
    (on_err-of _ _ e (c.write_lines.ensures.err small _ a.0.tree a.1)))

pub returns-in_default-from_utf8-clause-not_utf8 : goal.returns-in_default-from_utf8-clause-not_utf8
returns-in_default-from_utf8-clause-not_utf8 g c = λ e.
    let a = accepted _ _ _ _ c.in_ok-regex.regex c.in-Ok.ensures.small c.from.ensures c.in_ok-regex.ensures.accepted in
    (a.0, refl, not-text _ _ _ _ c.in_ok-bytes.ensures.read c.as_slice.ensures.value c.in_default-from_utf8.ensures.cases.0)
