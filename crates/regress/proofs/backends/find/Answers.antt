use Rattle.std.proofs.Common.{◌≡◌, chars, map, sym, subst}
use Rattle.regress_meaning.specs.Matches.{match_list}
use Rattle.regress_meaning.specs.Offsets.{of_utf8, told}
use Rattle.regress_match.specs.Iterating.{coming_on}
use Rattle.regress.specs.Standing.{tree_list}
use Rattle.regress.proofs.ListedLemmas.{pattern-searched, tree-searched}
use Rattle.regress.proofs.backends.find.Goals as goal

pub returns-clause-matches_of_tree : goal.returns-clause-matches_of_tree
returns-clause-matches_of_tree g c = λ n t laid place begins.
    let bytes = c.args.text.now in
    let e = c.in_ok-executor.executor in
    let s = g.E.MatchProducer.search_of e in
    let position = c.new-2.result.position in
    subst (λ x. coming_on (g.E.MatchProducer.items_from (g.E.MatchProducer.search_of x)) position ≡ map (told (of_utf8 bytes)) (tree_list c.args.regex.now n t (chars bytes) place)) (sym c.new-2.ensures.over)
    (tree-searched c.args.regex.now.compiled.byte_program bytes c.utf8.text (g.E.MatchProducer.is_start s) (g.E.MatchProducer.starts_at s) (g.E.MatchProducer.items_from s) (g.E.MatchProducer.is_of_search s)
    c.in_ok-executor.ensures n t laid c.args.start place begins position c.new-2.ensures.begins)

pub returns-clause-matches : goal.returns-clause-matches
returns-clause-matches g c = λ t o p stands place begins.
    let bytes = c.args.text.now in
    let e = c.in_ok-executor.executor in
    let s = g.E.MatchProducer.search_of e in
    let position = c.new-2.result.position in
    subst (λ x. coming_on (g.E.MatchProducer.items_from (g.E.MatchProducer.search_of x)) position ≡ map (told (of_utf8 bytes)) (match_list t o p (chars bytes) place)) (sym c.new-2.ensures.over)
    (pattern-searched c.args.regex.now.compiled.byte_program bytes c.utf8.text (g.E.MatchProducer.is_start s) (g.E.MatchProducer.starts_at s) (g.E.MatchProducer.items_from s) (g.E.MatchProducer.is_of_search s)
    c.in_ok-executor.ensures t o p stands c.args.start place begins position c.new-2.ensures.begins)
