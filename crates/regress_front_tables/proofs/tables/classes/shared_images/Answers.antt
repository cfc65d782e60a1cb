use Rattle.std.proofs.Common.{◌≡◌, ◌==◌, ℕ, not, List, All, Contains, eqb, subst, sym, rules}
use borrow.Author.Tests.{tests}
use Rattle.std.specs.List.{dedup}
use Rattle.std.specs.List.Sorted.{IsStrictlyIncreasing}
use Rattle.std.proofs.lemmas.Iterator.{YieldsList-from_slice, YieldsList-from_map, items_from_collect}
use Rattle.std.proofs.lemmas.Iterator.Consumers.{YieldsList-at, YieldsList-from_filter}
use Rattle.std.proofs.lemmas.List.Filters.{dedup_is, All-dedup}
use Rattle.std.proofs.lemmas.List.Kept.{Contains-dedup_nat}
use Rattle.std.proofs.lemmas.List.Sorted.{All-permutation, Contains-permutation}
use Rattle.std.proofs.lemmas.Map.Keys.{IsStrictlyIncreasing-dedup}
use Rattle.regress_meaning.specs.TableParts.{image, is_code_point}
use Rattle.regress_front_tables.proofs.SharedLemmas.{moved, moved-own, moved-all}
use Rattle.regress_front_tables.proofs.tables.classes.shared_images.Goals as goal

-- what is gathered before the sort
gathered : (c : goal.After-dedup) → c.in_ok-images.images.items ≡ moved c.args.pairs.now
gathered c =
    let pairs = c.args.pairs.now in
    let collected = items_from_collect _ c.collect.ensures.ran (YieldsList-from_map _ (λ p. p.1) (YieldsList-at c.map.ensures.source
    (YieldsList-from_filter _ (λ p. not (p.0 == p.1)) (YieldsList-at c.filter.ensures.source (YieldsList-from_slice pairs cc))
    c.filter.ensures.closure (λ x b q k. search (rules, tests)))) c.map.ensures.closure (λ x r q k. search rules)) in
    rw c.in_ok-images.was at collected

-- what is left of it once it is sorted
left : (c : goal.After-dedup) → c.dedup.new.self.items ≡ dedup eqb c.sort_unstable.new.self.items
left c = dedup_is eqb _ _ c.dedup.ensures.filtered

pub returns-clause-rise : goal.returns-clause-rise
returns-clause-rise c =
    let Rises : List ℕ → Type 0 = IsStrictlyIncreasing in
    subst Rises (sym (left c)) (IsStrictlyIncreasing-dedup _ c.sort_unstable.ensures.sorted)

pub returns-clause-own : goal.returns-clause-own
returns-clause-own c =
    let pairs = c.args.pairs.now in
    let IsOwn : ℕ → Type 0 = λ d. is_code_point d × (image pairs d ≡ d) in
    let AreOwn : List ℕ → Type 0 = λ ds. All IsOwn ds in
    let sorted = All-permutation IsOwn _ _ c.sort_unstable.ensures.permutation (subst AreOwn (sym (gathered c)) (moved-own pairs c.requires)) in
    subst AreOwn (sym (left c)) (All-dedup eqb IsOwn _ sorted)

pub returns-clause-all : goal.returns-clause-all
returns-clause-all c d ne =
    let to = image c.args.pairs.now d in
    let HasIt : List ℕ → Type 0 = λ ds. Contains ds to in
    let sorted = Contains-permutation _ _ to c.sort_unstable.ensures.permutation (subst HasIt (sym (gathered c)) (moved-all c.args.pairs.now d ne)) in
    subst HasIt (sym (left c)) (Contains-dedup_nat _ to sorted)
