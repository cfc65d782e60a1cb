use Rattle.std.proofs.Common.{◌≡◌, ◌+◌, ◌++◌, ◌∷◌, [], List, drop, string_bytes, slice_range, refl, sym, subst, ap, ◌∙◌, arith}
use Rattle.std.proofs.lemmas.Str.{IsCharBoundary-start}
use Rattle.regress_match.specs.declared.found.Match.{Match}
use Rattle.esgrep_rows.specs.Found.{found_of, LieInOrder}
use Rattle.esgrep_rows.specs.Views.{template_text}
use Rattle.esgrep_rows.proofs.RewritingLemmas.{finished, finished-more, finished-end, left-next, left-none}
use Rattle.esgrep_rows.proofs.rows.push_rewritten.Goals as goal

pub loop-found-init : goal.loop-found-init
loop-found-init c = record { cut = IsCharBoundary-start c.args.text.now c.utf8.text; order = c.requires; written = refl }

pub loop-found-preserved : goal.loop-found-preserved
loop-found-preserved c =
    let text = c.args.text.now in
    let template = template_text c.args.shown.now in
    let m = c.found-item.result in
    let i = c.loop-found.found-index in
    let rest : List Match = drop (i + 1) c.args.founds.now in
    let next : drop i c.args.founds.now ≡ m ∷ rest = left-next c.args.founds.now i m (omega arith) c.found-item.is in
    let order : LieInOrder text c.loop-found.behind (m ∷ rest) = subst (λ (ms : List Match). LieInOrder text c.loop-found.behind ms) next c.loop-found.invariant.order in
    let bytes : string_bytes c.push.new.row ≡ (string_bytes c.loop-found.row ++ slice_range text c.loop-found.behind m.range.start) ++ (found_of template text m).shown =
    rw (c.in_ok-push.ensures.shown, c.in_ok-push_str.ensures.bytes, c.range.ensures.value, c.start.ensures) refl in
    record {
      cut = rw c.end-behind.ensures order.1.0.2;
      order = rw c.end-behind.ensures order.2;
      written = rw (bytes, c.end-behind.ensures)
          (finished-more template text (string_bytes c.loop-found.row) c.loop-found.behind m rest
          ∙ ap (λ (ms : List Match). finished template text (string_bytes c.loop-found.row) c.loop-found.behind ms) (sym next) ∙ c.loop-found.invariant.written);
    }

pub returns-clause-pushed : goal.returns-clause-pushed
returns-clause-pushed c =
    let text = c.args.text.now in
    let template = template_text c.args.shown.now in
    let none : drop c.loop-found.found-index c.args.founds.now ≡ [] = left-none c.args.founds.now c.loop-found.found-index (omega arith) in
    let written = rw none at c.loop-found.invariant.written in
    rw (c.in_ok-push_str-2.ensures.bytes, c.range_from.ensures.value)
    (finished-end template text (string_bytes c.loop-found.row) c.loop-found.behind ∙ written)
