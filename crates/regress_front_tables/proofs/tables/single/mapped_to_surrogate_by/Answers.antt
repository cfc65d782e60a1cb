use Rattle.std.proofs.Common.{◌≡◌, ◌&&◌, ℕ, not, rules}
use Rattle.std.specs.Option.{option_map}
use Rattle.std.proofs.lemmas.Iterator.{YieldsList-from_slice}
use Rattle.std.proofs.lemmas.Iterator.Search.{find_from_yields_List}
use borrow.Author.Tests.{tests}
use Rattle.regress_meaning.specs.TableParts.{is_surrogate, AvoidsSurrogates}
use Rattle.regress_front_tables.proofs.ImageLemmas.{surrogates-at_pairs, surrogates-unlisted}
use Rattle.regress_front_tables.proofs.TellingLemmas.{TellsLeast-find}
use Rattle.regress_front_tables.proofs.tables.single.mapped_to_surrogate_by.Goals as goal

pub returns : goal.returns
returns c =
    let pairs = c.args.pairs.now in
    let test : ℕ × ℕ → _ = λ p. not (is_surrogate p.0) && is_surrogate p.1 in
    let told = TellsLeast-find (λ d. AvoidsSurrogates d pairs) test pairs c.requires (surrogates-unlisted pairs) (surrogates-at_pairs pairs c.requires) in
    let found = find_from_yields_List test _ _ c.find.result c.find.ensures.ran (YieldsList-from_slice pairs cc) (λ x b q k. search (rules, tests)) in
    let mapped : c.map.result ≡ option_map (λ p. p.0) (option_map (λ x. x.now) c.find.result) = search rules in
    rw (mapped, found) told
