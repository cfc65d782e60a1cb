use Rattle.std.proofs.Common.{◌≡◌, ◌++◌, slice_range, string_bytes, append-nil, Some, Ok, refl, ap, ◌∙◌}
use Rattle.regress_match.specs.Views.{item_of}
use Rattle.regress_replacing.specs.Syntax.{replacement_text}
use Rattle.regress_replacing.specs.SyntaxViews.{syntax_of, text_of}
use Rattle.regress_matched.proofs.ReplacingLemmas.{IsGiven, behind-start, given-one, given-none, errs-start, errs-more, finished-more, finished-end}
use Rattle.regress_matched.proofs.replacing.replace_each.Goals as goal

pub loop-given-init : goal.loop-given-init
loop-given-init g c = record {
  behind = behind-start g.M.TextMatches.searched g.M.TextMatches.names g.M.TextMatches.coming c.args.text.now c.args.matches c.utf8.text c.requires.over c.requires.rise;
  errs = errs-start g.M.TextMatches.gives c.args.matches;
  written = refl;
}

pub loop-given-preserved : goal.loop-given-preserved
loop-given-preserved g c =
    let text = c.args.text.now in
    let names = g.M.TextMatches.names c.args.matches in
    let coming = g.M.TextMatches.coming in
    let m = c.in-Ok.found in
    let new_text = replacement_text (syntax_of c.args.read.now) names (text_of c.args.read.now) text in
    let came : c.next_match.result ≡ Some (Ok m) = c.in-Some.is ∙ ap Some c.in-Ok.is in
    let given : IsGiven g.M.TextMatches.searched g.M.TextMatches.names coming text names c.loop-given.behind c.loop-given.matches m c.next_match.new.self =
    given-one g.M.TextMatches.searched g.M.TextMatches.names coming text names c.loop-given.behind c.loop-given.matches c.next_match.new.self c.next_match.result m
    c.loop-given.invariant.behind c.next_match.ensures.first came in
    let bytes : string_bytes c.append_replacement.new.written ≡ (string_bytes c.loop-given.written ++ slice_range text c.loop-given.behind m.range.start) ++ new_text (item_of m) =
    rw (c.in_ok-append_replacement.ensures.added, c.range.ensures.value, c.start.ensures, given.called) refl in
    record {
      behind = rw c.end-behind.ensures given.behind;
      errs = errs-more g.M.TextMatches.gives c.args.matches c.loop-given.matches c.next_match.new.self m c.loop-given.invariant.errs (rw came at c.next_match.ensures.gives);
      written = rw (bytes, c.end-behind.ensures)
          (finished-more text new_text (string_bytes c.loop-given.written) c.loop-given.behind (item_of m) (coming c.loop-given.matches) (coming c.next_match.new.self) given.first
          ∙ c.loop-given.invariant.written);
    }

pub returns-clause-replaced : goal.returns-clause-replaced
returns-clause-replaced g c =
    let text = c.args.text.now in
    let new_text = replacement_text (syntax_of c.args.read.now) (g.M.TextMatches.names c.args.matches) (text_of c.args.read.now) text in
    let coming = g.M.TextMatches.coming in
    let left = given-none g.M.TextMatches.searched g.M.TextMatches.names coming c.loop-given.matches c.next_match.new.self c.next_match.result c.next_match.ensures.first c.in_default.is in
    rw (c.in_ok-append.ensures.added, c.range_from.ensures.value, append-nil)
    (finished-end text new_text (string_bytes c.loop-given.written) c.loop-given.behind (coming c.loop-given.matches) left ∙ c.loop-given.invariant.written
    ∙ rw c.new-written.ensures.bytes refl)
