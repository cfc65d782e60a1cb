use Rattle.std.proofs.Common.{◌≡◌, ℕ, ◌<◌, List, All, Option, Result, length, subst, arith}
use Rattle.std.proofs.lemmas.List.{get_or_default}
use Rattle.regress_meaning.specs.Offsets.{of_ucs2}
use Rattle.regress_engine_input.proofs.UnitTexts.{single_offset}
use Rattle.regress_front_core.specs.declared.error.Error.{Error}
use Rattle.regress_match.specs.declared.found.Match.{Match}
use Rattle.regress_match.specs.Views.{item_of}
use Rattle.regress_match.specs.Iterating.{GivesMatch}
use Rattle.regress_engine_search.specs.Search.{IsItemAtPlaces, IsMatchOf}
use Rattle.regress_programs.specs.declared.units.Ucs2Matches.{Ucs2Matches}
use Rattle.regress.specs.Units.{search_in_ucs2, coming_in_ucs2, HasEndedUcs2, IsMatchInUnits}
use Rattle.regress.proofs.UnitLemmas.{begins-anywhere, match-in, each-match}
use Rattle.regress.proofs.ListedLemmas.{coming-searched, tree-searchable}
use Rattle.regress.proofs.api.Regex.find_from_ucs2.Goals as goal

pub new-requires : goal.new-requires
new-requires c = begins-anywhere c.args.units.now c.args.start

pub returns-clause-matches_of_tree : goal.returns-clause-matches_of_tree
returns-clause-matches_of_tree c = λ n t laid place begins.
    let units = c.args.units.now in
    let short : All (λ u. u < 0x1_0000) units = λ k d room. let same = get_or_default units k d 0 room in let fits = c.type_inv.units k in omega (arith, same, fits) in
    tree-searchable (search_in_ucs2 c.new.result) c.args.self.now.compiled.unit_program units c.new.ensures.over short c.args.start place begins
    c.new.result.position c.new.ensures.begins n t laid

pub returns-clause-matches : goal.returns-clause-matches
returns-clause-matches c = λ t o p stands place begins.
    let units = c.args.units.now in
    let short : All (λ u. u < 0x1_0000) units = λ k d room. let same = get_or_default units k d 0 room in let fits = c.type_inv.units k in omega (arith, same, fits) in
    coming-searched (search_in_ucs2 c.new.result) c.args.self.now.compiled.unit_program units c.new.ensures.over short c.args.start place begins
    c.new.result.position c.new.ensures.begins t o p stands

-- what a step of the iterator is
abbrev gives_next : Ucs2Matches → Option (Result Match Error) → Ucs2Matches → Type 0
gives_next old r new = (search_in_ucs2 new ≡ search_in_ucs2 old) × GivesMatch coming_in_ucs2 HasEndedUcs2 (IsMatchOf (search_in_ucs2 old)) old r new

pub returns-clause-inside : goal.returns-clause-inside
returns-clause-inside c =
    let units = c.args.units.now in
    each-match search_in_ucs2 gives_next (λ old new r step. step.0) (λ old new m step. step.1.first.1) (IsMatchInUnits (of_ucs2 units) units) c.new.result
    (λ m inside. match-in (of_ucs2 units) units (single_offset units (length units) (omega arith)) m
    (subst (λ (us : List ℕ). IsItemAtPlaces (of_ucs2 us) (item_of m)) c.new.ensures.over.over inside.0))
