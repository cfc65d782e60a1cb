use Rattle.std.proofs.Common.{sym, rules}
use Rattle.std.proofs.lemmas.List.Sorted.{answers_always}
use Rattle.regress_front_tables.proofs.ListedLemmas.{listed-found, listed-missed}
use Rattle.regress_front_tables.proofs.tables.case_map.listed_image.Goals as goal

pub returns-in-Ok : goal.returns-in-Ok
returns-in-Ok c =
    let facts = c.in-Ok.ensures in
    let by_key = facts.position (λ p. p.0) (answers_always _ _ _ (λ f a r g called. search rules)) in
    sym (listed-found _ c.requires.order c.args.c c.in-Ok.place facts.bound by_key)

pub returns-in-Err : goal.returns-in-Err
returns-in-Err c =
    let facts = c.in-Err.ensures in
    let by_key = facts.position (λ p. p.0) (answers_always _ _ _ (λ f a r g called. search rules)) in
    sym (listed-missed _ c.requires.order c.args.c c.in-Err.field-0 by_key)
