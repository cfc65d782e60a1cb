use Rattle.std.proofs.Common.{◌≡◌, ◌+◌, ◌-◌, ◌++◌, [], take, slice_range, string_bytes, append-nil, Some, Ok, refl, ap, ◌∙◌, arith}
use Rattle.regress_match.specs.Views.{item_of}
use Rattle.regress_replacing.specs.Syntax.{replacement_text}
use Rattle.regress_replacing.specs.SyntaxViews.{syntax_of, text_of}
use Rattle.regress_matched.proofs.ReplacingLemmas.{IsGiven, behind-start, given-one, given-none, errs-start, errs-more, finished, finished-more, finished-end, first-of, none-of, no-more}
use Rattle.regress_matched.proofs.replacing.replace_first.Goals.{else-loop-test, then-loop-test+in_default}
use Rattle.regress_matched.proofs.replacing.replace_first.Goals as goal

pub loop-init : goal.loop-init
loop-init g c =
    let text = c.args.text.now in
    let read = c.args.read.now in
    let coming = g.M.TextMatches.coming in
    let none_done : c.args.limit - 0 ≡ c.args.limit = omega arith in
    record {
      behind = behind-start g.M.TextMatches.searched g.M.TextMatches.names coming text c.args.matches c.utf8.text c.requires.over c.requires.rise;
      errs = errs-start g.M.TextMatches.gives c.args.matches;
      written = ap (λ n. finished text (replacement_text (syntax_of read) (g.M.TextMatches.names c.args.matches) (text_of read) text) (string_bytes c.new-written.result) 0 (take n (coming c.args.matches))) none_done;
    }

pub loop-preserved : goal.loop-preserved
loop-preserved g c =
    let text = c.args.text.now in
    let names = g.M.TextMatches.names c.args.matches in
    let coming = g.M.TextMatches.coming in
    let read = c.args.read.now in
    let m = c.in-Ok.found in
    let limit = c.args.limit in
    let count = c.loop.counter in
    let new_text = replacement_text (syntax_of read) names (text_of read) text in
    let came : c.next_match.result ≡ Some (Ok m) = c.in-Some.is ∙ ap Some c.in-Ok.is in
    let given : IsGiven g.M.TextMatches.searched g.M.TextMatches.names coming text names c.loop.behind c.loop.matches m c.next_match.new.self =
    given-one g.M.TextMatches.searched g.M.TextMatches.names coming text names c.loop.behind c.loop.matches c.next_match.new.self c.next_match.result m
    c.loop.invariant.behind c.next_match.ensures.first came in
    let bytes : string_bytes c.append_replacement.new.written ≡ (string_bytes c.loop.written ++ slice_range text c.loop.behind m.range.start) ++ new_text (item_of m) =
    rw (c.in_ok-append_replacement.ensures.added, c.range.ensures.value, c.start.ensures, given.called) refl in
    record {
      behind = rw c.end-behind.ensures given.behind;
      errs = errs-more g.M.TextMatches.gives c.args.matches c.loop.matches c.next_match.new.self m c.loop.invariant.errs (rw came at c.next_match.ensures.gives);
      written = rw (bytes, c.end-behind.ensures)
          (finished-more text new_text (string_bytes c.loop.written) c.loop.behind (item_of m) (take (limit - count) (coming c.loop.matches)) (take (limit - (count + 1)) (coming c.next_match.new.self))
          (first-of limit count (coming c.loop.matches) (coming c.next_match.new.self) (item_of m) c.loop-test.true given.first)
          ∙ c.loop.invariant.written);
    }

pub returns-clause-replaced : goal.returns-clause-replaced
returns-clause-replaced g c =
    let text = c.args.text.now in
    let read = c.args.read.now in
    let coming = g.M.TextMatches.coming in
    let new_text = replacement_text (syntax_of read) (g.M.TextMatches.names c.args.matches) (text_of read) text in
    let left : take (c.args.limit - c.loop.counter) (coming c.loop.matches) ≡ [] =
    elim c.loop-test.branch [
      | else-loop-test w ↦ no-more c.args.limit c.loop.counter (coming c.loop.matches) w.loop-test.false
      | then-loop-test+in_default w ↦
          none-of (c.args.limit - c.loop.counter) (coming c.loop.matches)
          (given-none g.M.TextMatches.searched g.M.TextMatches.names coming c.loop.matches w.next_match.new.self w.next_match.result w.next_match.ensures.first w.in_default.is)
    ] in
    rw (c.in_ok-append.ensures.added, c.range_from.ensures.value, append-nil)
    (finished-end text new_text (string_bytes c.loop.written) c.loop.behind (take (c.args.limit - c.loop.counter) (coming c.loop.matches)) left ∙ c.loop.invariant.written
    ∙ rw c.new-written.ensures.bytes refl)
