use Rattle.std.proofs.Common.{◌≡◌, ◌==◌, ℕ, not, rules}
use Rattle.std.specs.Option.{option_map}
use Rattle.std.proofs.lemmas.Iterator.{YieldsList-from_slice}
use Rattle.std.proofs.lemmas.Iterator.Search.{find_from_yields_List}
use borrow.Author.Tests.{tests}
use Rattle.regress_meaning.specs.TableParts.{image, IsIdempotentAt}
use Rattle.regress_front_tables.proofs.ImageLemmas.{idempotent-at_pairs, idempotent-unlisted}
use Rattle.regress_front_tables.proofs.TellingLemmas.{TellsLeast-find}
use Rattle.regress_front_tables.proofs.tables.single.moved_twice_by.Goals as goal

pub returns : goal.returns
returns c =
    let pairs = c.args.pairs.now in
    let test : ℕ × ℕ → _ = λ p. not (image pairs p.1 == p.1) in
    let told = TellsLeast-find (λ d. IsIdempotentAt d pairs) test pairs c.requires (idempotent-unlisted pairs) (idempotent-at_pairs pairs c.requires) in
    let found = find_from_yields_List test _ _ c.find.result c.find.ensures.ran (YieldsList-from_slice pairs cc) (λ x b q k. search (rules, tests)) in
    let mapped : c.map.result ≡ option_map (λ p. p.0) (option_map (λ x. x.now) c.find.result) = search rules in
    rw (mapped, found) told
