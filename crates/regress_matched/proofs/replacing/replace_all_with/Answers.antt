use Rattle.std.proofs.Common.{◌≡◌, ◌++◌, slice_range, string_bytes, append-nil, Some, Ok, Err, inl, inr, refl, ap, ◌∙◌}
use Rattle.std.proofs.lemmas.Result.{err_from_is_err_and}
use Rattle.regress_match.specs.Views.{item_of}
use Rattle.std.specs.Fn.{FnReturnsAt}
use Rattle.regress_matched.specs.Answering.{AnswersText}
use Rattle.regress_matched.proofs.ReplacingLemmas.{IsGiven, behind-start, given-one, given-none, errs-start, errs-more, errs-here, written-more, written-end, refuses-more, refuses-here}
use Rattle.regress_matched.proofs.replacing.replace_all_with.Goals as goal

pub loop-given-init : goal.loop-given-init
loop-given-init g c = record {
  behind = behind-start g.M.TextMatches.searched g.M.TextMatches.names g.M.TextMatches.coming c.args.text.now c.args.matches c.utf8.text c.requires.over c.requires.rise;
  errs = errs-start g.M.TextMatches.gives c.args.matches;
  written = λ rest answers. (rest, answers, rw c.new-written.ensures.bytes refl);
  refuses = λ e refused. refused;
}

pub returns-in_err-found-clause-refused : goal.returns-in_err-found-clause-refused
returns-in_err-found-clause-refused g c =
    let x = c.in_err-found.field-0.0 in
    let came : c.next_match.result ≡ Some (Err x) = c.in-Some.is ∙ ap Some c.in_err-found.was in
    let answered = err_from_is_err_and c.from_residual.result c.from_residual.ensures.1 in
    rw (answered.1) (inl (x, inr (errs-here g.M.TextMatches.gives c.args.matches c.loop-given.matches c.next_match.new.self x c.loop-given.invariant.errs (rw came at c.next_match.ensures.gives)), answered.2))

pub returns-in_err-new-clause-refused : goal.returns-in_err-new-clause-refused
returns-in_err-new-clause-refused g c =
    let text = c.args.text.now in
    let names = g.M.TextMatches.names c.args.matches in
    let coming = g.M.TextMatches.coming in
    let m = c.in_ok-found.found in
    let came : c.next_match.result ≡ Some (Ok m) = c.in-Some.is ∙ ap Some c.in_ok-found.was in
    let given : IsGiven g.M.TextMatches.searched g.M.TextMatches.names coming text names c.loop-given.behind c.loop-given.matches m c.next_match.new.self =
    given-one g.M.TextMatches.searched g.M.TextMatches.names coming text names c.loop-given.behind c.loop-given.matches c.next_match.new.self c.next_match.result m
    c.loop-given.invariant.behind c.next_match.ensures.first came in
    let answered = err_from_is_err_and c.from_residual-in_err-new.result c.from_residual-in_err-new.ensures.1 in
    rw (answered.1, answered.2)
    (inr (refuses-here (FnReturnsAt g.F.Fn c.args.with) names (coming c.args.matches) (item_of m) (coming c.loop-given.matches)
    (coming c.next_match.new.self) _ c.loop-given.invariant.refuses given.first
    record { found = m; item = refl; named = given.called; answers = record { shown = _; shows = refl; says = record { met = c.in_err-new.ensures } } }))

pub loop-given-preserved : goal.loop-given-preserved
loop-given-preserved g c =
    let text = c.args.text.now in
    let names = g.M.TextMatches.names c.args.matches in
    let coming = g.M.TextMatches.coming in
    let m = c.in_ok-found.found in
    let came : c.next_match.result ≡ Some (Ok m) = c.in-Some.is ∙ ap Some c.in_ok-found.was in
    let given : IsGiven g.M.TextMatches.searched g.M.TextMatches.names coming text names c.loop-given.behind c.loop-given.matches m c.next_match.new.self =
    given-one g.M.TextMatches.searched g.M.TextMatches.names coming text names c.loop-given.behind c.loop-given.matches c.next_match.new.self c.next_match.result m
    c.loop-given.invariant.behind c.next_match.ensures.first came in
    let new = string_bytes c.in_ok-new.new in
    let answered : AnswersText (FnReturnsAt g.F.Fn c.args.with) names (item_of m) new =
    (c.in_ok-new.new, record { found = m; item = refl; named = given.called; answers = record { shown = _; shows = refl; says = record { met = c.in_ok-new.ensures } } }, refl) in
    let bytes : string_bytes c.append.new.written ≡ (string_bytes c.loop-given.written ++ slice_range text c.loop-given.behind m.range.start) ++ new =
    rw (c.in_ok-append.ensures.added, c.range.ensures.value, c.start.ensures, c.as_str.ensures.value) refl in
    let all = coming c.args.matches in
    record {
      behind = rw c.end-behind.ensures given.behind;
      errs = errs-more g.M.TextMatches.gives c.args.matches c.loop-given.matches c.next_match.new.self m c.loop-given.invariant.errs (rw came at c.next_match.ensures.gives);
      written = rw (bytes, c.end-behind.ensures)
          (written-more (FnReturnsAt g.F.Fn c.args.with) names text all (string_bytes c.loop-given.written) c.loop-given.behind (item_of m)
          (coming c.loop-given.matches) (coming c.next_match.new.self) new c.loop-given.invariant.written given.first answered);
      refuses = refuses-more (FnReturnsAt g.F.Fn c.args.with) names all (item_of m) (coming c.loop-given.matches) (coming c.next_match.new.self) new
          c.loop-given.invariant.refuses given.first answered;
    }

pub returns-clause-replaced : goal.returns-clause-replaced
returns-clause-replaced g c =
    let coming = g.M.TextMatches.coming in
    let left = given-none g.M.TextMatches.searched g.M.TextMatches.names coming c.loop-given.matches c.next_match.new.self c.next_match.result c.next_match.ensures.first c.in_default.is in
    rw (c.in_ok-append-2.ensures.added, c.range_from.ensures.value, append-nil)
    (written-end (FnReturnsAt g.F.Fn c.args.with) (g.M.TextMatches.names c.args.matches) c.args.text.now (coming c.args.matches)
    (string_bytes c.loop-given.written) c.loop-given.behind (coming c.loop-given.matches) c.loop-given.invariant.written left)
