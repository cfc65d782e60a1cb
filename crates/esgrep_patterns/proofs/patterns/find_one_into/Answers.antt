use Rattle.std.proofs.Common.{List, ◌∷◌, map, ap, subst, ◌∙◌}
use Rattle.regress_meaning.specs.Matches.{Item}
use Rattle.regress_match.specs.Views.{item_of}
use Rattle.regress.specs.Standing.{names_of_regex}
use Rattle.regress.specs.Behind.{LieBehind}
use Rattle.regress.specs.Coming.{coming, searched, searched_names}
use Rattle.regress.proofs.RisingLemmas.{behind-front}
use Rattle.esgrep_rows.specs.Found.{found_at}
use Rattle.esgrep_patterns.proofs.OrderLemmas.{reached, reached-more, order-more, found-more, found-all}
use Rattle.esgrep_patterns.proofs.patterns.find_one_into.Goals as goal

pub loop-found-init : goal.loop-found-init
loop-found-init c =
    let made = c.in_ok-found-items.ensures in
    let same = c.into_iter-found-iterator.ensures.into_iter_gives in
    record {
      over = ap searched same ∙ made.over;
      named = ap searched_names same ∙ made.named;
      order = rw c.requires tt;
      behind = rw (same, c.requires) (behind-front _ made.rise);
      found = λ t o p stands template. rw (same, c.requires) (ap (map (found_at template (names_of_regex c.args.regex.now) c.args.text.now)) (made.matches t o p stands));
    }

pub loop-found-preserved : goal.loop-found-preserved
loop-found-preserved c =
    let text = c.args.text.now in
    let names = names_of_regex c.args.regex.now in
    let before = c.loop-found.invariant in
    let ms = c.loop-found.founds.items in
    let m = c.in_ok-found.found in
    let steps = c.in-Some.ensures.steps in
    let given = rw c.in_ok-found.was at steps.2.first in
    let lies = rw (before.over, before.named) at given.1 in
    let rest : List Item = coming c.next.new.self in
    let next : LieBehind (reached 0 ms) (item_of m ∷ rest) = subst (LieBehind (reached 0 ms)) given.0 before.behind in
    rw c.in_ok-push.ensures.items (record {
      over = steps.0 ∙ before.over;
      named = steps.1 ∙ before.named;
      order = order-more text 0 ms m before.order next.0 lies.0;
      behind = rw (reached-more 0 ms m) next.2;
      found = λ t o p stands template. found-more template names text ms m _ rest _ lies.1 given.0 (before.found t o p stands template);
    })

pub returns-clause-found : goal.returns-clause-found
returns-clause-found c = λ t o p stands template.
    found-all template (names_of_regex c.args.regex.now) c.args.text.now c.loop-found.founds.items _ _ c.in-None.ensures.steps.2.first.0
    (c.loop-found.invariant.found t o p stands template)
