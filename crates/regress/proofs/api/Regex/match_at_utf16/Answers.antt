use Rattle.std.proofs.Common.{◌<◌, All, length, arith, refl}
use Rattle.std.proofs.lemmas.List.{get_or_default}
use Rattle.regress_meaning.specs.Offsets.{of_utf16}
use Rattle.regress_meaning.specs.Pattern.{names_of}
use Rattle.regress_engine_input.proofs.Utf16Texts.{utf16_end}
use Rattle.regress_engine_input.specs.Views.{utf16}
use Rattle.regress_engine_input.proofs.KindLemmas.{tells}
use Rattle.regress.specs.Standing.{unit_target}
use Rattle.regress_programs.proofs.OutcomeLemmas.{pattern-outcome}
use Rattle.regress.proofs.ToldLemmas.{told-shown, inside-shown, lies-in_units}
use Rattle.regress.proofs.api.Regex.match_at_utf16.Goals as goal

pub returns-clause-found_of_tree : goal.returns-clause-found_of_tree
returns-clause-found_of_tree c = λ n t laid.
    told-shown _ _ c.new-input.ensures (unit_target c.args.self.now) n t c.args.start c.in_ok-found.found (c.in_ok-found.ensures.of_tree n t laid)

pub returns-clause-found : goal.returns-clause-found
returns-clause-found c = λ t o p stands place begins.
    let units = c.args.units.now in
    let short : All (λ u. u < 0x1_0000) units = λ k d room. let same = get_or_default units k d 0 room in let fits = c.type_inv.units k in omega (arith, same, fits) in
    let target = unit_target c.args.self.now in
    rw (pattern-outcome c.args.self.now.compiled.unit_program t o p stands (of_utf16 units).points (tells utf16 target.table target.unicode units short).points place)
    (returns-clause-found_of_tree c (length (names_of p)) stands.node (stands.well_formed, stands.layout) place begins)

pub returns-clause-inside : goal.returns-clause-inside
returns-clause-inside c =
    let units = c.args.units.now in
    let short : All (λ u. u < 0x1_0000) units = λ k d room. let same = get_or_default units k d 0 room in let fits = c.type_inv.units k in omega (arith, same, fits) in
    lies-in_units (of_utf16 units) units (utf16_end units short) c.in_ok-found.found (inside-shown _ _ c.new-input.ensures c.in_ok-found.found c.in_ok-found.ensures.inside)

pub returns-clause-begins : goal.returns-clause-begins
returns-clause-begins c = c.in_ok-found.ensures.begins refl
