use Rattle.std.proofs.Common.{[], sym, ap, ◌∙◌, ◌++◌}
use Rattle.std.proofs.KnownBytes.{Appends-nil}
use Rattle.std.proofs.lemmas.Result.{err_from_is_err_and}
use Rattle.regress_meaning.specs.Output.{line_of, lines_of}
use Rattle.regress.specs.Coming.{coming}
use Rattle.regress_match.specs.Views.{item_of}
use Rattle.regress_program.proofs.RunLemmas.{IsWritten-front, IsWritten-all, IsWritten-more, IsWritten-part, on_ok-at, on_err-at}
use Rattle.regress_program.specs.Errors.{tool_error_of}
use Rattle.regress_program.proofs.program.put_lines.Goals as goal

pub loop-found-init : goal.loop-found-init
loop-found-init g c = (
  c.requires.sink,
  λ t o p s. record {
    done = [];
    appended = Appends-nil _;
    whole = ap (λ ps. ps ++ lines_of (coming c.into_iter-found-iterator.result)) c.requires.pending
        ∙ ap (λ ms. lines_of (coming ms)) c.into_iter-found-iterator.ensures.into_iter_gives ∙ ap lines_of (c.in_ok-found-items.ensures.matches t o p s);
  },
)

pub returns-in_err-found-clause-refused : goal.returns-in_err-found-clause-refused
returns-in_err-found-clause-refused g c = λ t o p s e. IsWritten-front _ _ _ _ _ (c.loop-found.invariant.1 t o p s)

pub returns-in_err-found-clause-failed : goal.returns-in_err-found-clause-failed
returns-in_err-found-clause-failed g c =
    let error = err_from_is_err_and c.from_residual-in_err-found.result c.from_residual-in_err-found.ensures.1 in
    let refused = (rw c.in_err-found.was at c.in-Some.ensures.steps.2.first).0 in
    let told = error.2 ∙ ap tool_error_of refused in
    λ t o p s h. absurd (cc (error.1, told, h))

pub returns-in_err-found-clause-write : goal.returns-in_err-found-clause-write
returns-in_err-found-clause-write g c =
    let error = err_from_is_err_and c.from_residual-in_err-found.result c.from_residual-in_err-found.ensures.1 in
    let refused = (rw c.in_err-found.was at c.in-Some.ensures.steps.2.first).0 in
    let told = error.2 ∙ ap tool_error_of refused in
    (λ h. cc (error.1, told, h), λ h. cc (h, c.loop-found.invariant.0))

pub returns-in_err-push_line-clause-refused : goal.returns-in_err-push_line-clause-refused
returns-in_err-push_line-clause-refused g c = λ t o p s e. IsWritten-front _ _ _ _ _ (c.loop-found.invariant.1 t o p s)

pub returns-in_err-push_line-clause-failed : goal.returns-in_err-push_line-clause-failed
returns-in_err-push_line-clause-failed g c =
    let error = err_from_is_err_and c.from_residual-in_err-push_line.result c.from_residual-in_err-push_line.ensures.1 in
    λ t o p s h. absurd (cc (error.1, error.2, h))

pub returns-in_err-push_line-clause-write : goal.returns-in_err-push_line-clause-write
returns-in_err-push_line-clause-write g c =
    let error = err_from_is_err_and c.from_residual-in_err-push_line.result c.from_residual-in_err-push_line.ensures.1 in
    (λ h. cc (error.1, error.2, h), λ h. cc (h, c.loop-found.invariant.0))

pub put_line-requires : goal.put_line-requires
put_line-requires g c = c.loop-found.invariant.0

pub returns-then-is_err-clause-failed : goal.returns-then-is_err-clause-failed
returns-then-is_err-clause-failed g c = λ t o p s e.
    IsWritten-part _ _ _ _ _ _ (item_of c.in_ok-found.found) _ _ (c.loop-found.invariant.1 t o p s)
    (rw c.in_ok-found.was at c.in-Some.ensures.steps.2.first).0
    (c.as_bytes.ensures.value ∙ c.in_ok-push_line.ensures ∙ ap (λ bs. bs ++ line_of (item_of c.in_ok-found.found)) c.clear.ensures.bytes)
    (on_err-at _ c.if-is_err.ensures.value c.put_line.ensures.err)

pub loop-found-preserved : goal.loop-found-preserved
loop-found-preserved g c = (
  c.put_line.ensures.failure ∙ sym c.is_err.ensures.value ∙ c.if-is_err.false,
  λ t o p s.
      IsWritten-more _ _ _ _ _ _ _ (item_of c.in_ok-found.found) _ _ (c.loop-found.invariant.1 t o p s)
      (rw c.in_ok-found.was at c.in-Some.ensures.steps.2.first).0
      (c.as_bytes.ensures.value ∙ c.in_ok-push_line.ensures ∙ ap (λ bs. bs ++ line_of (item_of c.in_ok-found.found)) c.clear.ensures.bytes)
      (on_ok-at _ (sym c.if-is_err.false ∙ c.is_err.ensures.value) c.put_line.ensures.ok),
)

pub returns-clause-ok : goal.returns-clause-ok
returns-clause-ok g c = λ t o p s.
    IsWritten-all _ _ _ _ _ (c.loop-found.invariant.1 t o p s) c.in-None.ensures.steps.2.first.0

pub returns-clause-write : goal.returns-clause-write
returns-clause-write g c = (λ h. cc h, λ h. cc (h, c.loop-found.invariant.0))
