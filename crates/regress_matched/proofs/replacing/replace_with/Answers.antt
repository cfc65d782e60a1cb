use Rattle.std.proofs.Common.{◌≡◌, ◌++◌, [], ◌∷◌, drop, slice_range, string_bytes, append-nil, Some, Ok, inl, inr, refl, ap, ◌∙◌}
use Rattle.std.proofs.lemmas.Result.{err_from_is_err_and}
use Rattle.regress_match.specs.Views.{item_of}
use Rattle.regress_matched.proofs.ReplacingLemmas.{behind-start, given-one, given-none, replaced-one, replaced-none}
use Rattle.regress_matched.proofs.replacing.replace_with.Goals as goal

pub returns-in_default-clause-replaced : goal.returns-in_default-clause-replaced
returns-in_default-clause-replaced g c =
    let none = given-none g.M.TextMatches.searched g.M.TextMatches.names g.M.TextMatches.coming c.args.matches c.next_match.new.self c.next_match.result c.next_match.ensures.first c.in_default.is in
    rw none ([], tt, rw (c.in_ok-append.ensures.added, c.new-written.ensures.bytes, append-nil) (replaced-none c.args.text.now))

pub returns-in_err-answer-clause-refused : goal.returns-in_err-answer-clause-refused
returns-in_err-answer-clause-refused g c =
    let m = c.in_ok-found.found in
    let came : c.next_match.result ≡ Some (Ok m) = c.in-Some.is ∙ ap Some c.in_ok-found.was in
    let start = behind-start g.M.TextMatches.searched g.M.TextMatches.names g.M.TextMatches.coming c.args.text.now c.args.matches c.utf8.text c.requires.over c.requires.rise in
    let given = given-one g.M.TextMatches.searched g.M.TextMatches.names g.M.TextMatches.coming c.args.text.now (g.M.TextMatches.names c.args.matches) 0 c.args.matches c.next_match.new.self
    c.next_match.result m start c.next_match.ensures.first came in
    let answered = err_from_is_err_and c.from_residual-in_err-answer.result c.from_residual-in_err-answer.ensures.1 in
    rw (answered.1, answered.2, given.first) (inr (inl record { found = m; item = refl; named = given.called; answers = (_, c.in_err-answer.ensures, refl) }))

pub returns-clause-replaced : goal.returns-clause-replaced
returns-clause-replaced g c =
    let text = c.args.text.now in
    let m = c.in_ok-found.found in
    let came : c.next_match.result ≡ Some (Ok m) = c.in-Some.is ∙ ap Some c.in_ok-found.was in
    let start = behind-start g.M.TextMatches.searched g.M.TextMatches.names g.M.TextMatches.coming c.args.text.now c.args.matches c.utf8.text c.requires.over c.requires.rise in
    let given = given-one g.M.TextMatches.searched g.M.TextMatches.names g.M.TextMatches.coming text (g.M.TextMatches.names c.args.matches) 0 c.args.matches c.next_match.new.self
    c.next_match.result m start c.next_match.ensures.first came in
    let new = string_bytes c.in_ok-answer.answer in
    let front : string_bytes c.append-2.new.written ≡ slice_range text 0 m.range.start ++ new =
    rw (c.in_ok-append-2.ensures.added, c.new-written.ensures.bytes, c.range.ensures.value, c.start.ensures, c.as_str.ensures.value) refl in
    let all : string_bytes c.append-3.new.written ≡ (slice_range text 0 m.range.start ++ new) ++ drop m.range.end text =
    rw (c.in_ok-append-3.ensures.added, front, c.range_from.ensures.value, c.end.ensures, append-nil) refl in
    rw given.first (
      new ∷ [],
      ((c.in_ok-answer.answer, record { found = m; item = refl; named = given.called; answers = (_, c.in_ok-answer.ensures, refl) }, refl), tt),
      all ∙ replaced-one text (item_of m) new,
    )
