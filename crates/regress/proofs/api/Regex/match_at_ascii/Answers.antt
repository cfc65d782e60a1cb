use Rattle.std.proofs.Common.{ℕ, List, length, chars, option_map, refl, sym, ap, ◌∙◌, subst}
use Rattle.regress_meaning.specs.Matches.{Item}
use Rattle.regress_meaning.specs.Offsets.{Begins, of_ascii, of_utf8, told}
use Rattle.regress_meaning.specs.Pattern.{names_of}
use Rattle.regress_front_bytes.proofs.TextLemmas.{chars-code_points}
use Rattle.regress_engine_input.specs.Views.{View, ascii, reading_of}
use Rattle.regress_engine_search.proofs.ByteTexts.{begins-alike, told-alike, bytes-alike}
use Rattle.regress.specs.Standing.{byte_target}
use Rattle.regress.specs.Standing.{tree_outcome}
use Rattle.regress_programs.proofs.OutcomeLemmas.{pattern-outcome}
use Rattle.regress.proofs.ToldLemmas.{told-shown, inside-shown, lies-in_text, starts-in_text}
use Rattle.regress.proofs.UnitLemmas.{begins-anywhere}
use Rattle.regress.proofs.api.Regex.match_at_ascii.Goals as goal

pub first_within-requires-clause-start : goal.first_within-requires-clause-start
first_within-requires-clause-start c = subst (λ (x : View). (place : ℕ) × Begins (reading_of x) c.args.start place) (sym c.new-input.ensures) (begins-anywhere c.args.text.now c.args.start)

pub returns-clause-found_of_tree : goal.returns-clause-found_of_tree
returns-clause-found_of_tree c = λ n t laid place begins.
    let bytes = c.args.text.now in
    let alike = bytes-alike ascii bytes refl c.requires in
    told-shown _ _ c.new-input.ensures (byte_target c.args.self.now) n t c.args.start c.in_ok-found.found (c.in_ok-found.ensures.of_tree n t laid) place
    (begins-alike (of_ascii bytes) (of_utf8 bytes) alike c.args.start place begins)
    ∙ ap (λ (points : List ℕ). option_map (told (of_ascii bytes)) (tree_outcome c.args.self.now n t points place)) alike.points
    ∙ ap (λ (tell : Item → Item). option_map tell (tree_outcome c.args.self.now n t (chars bytes) place)) (told-alike (of_ascii bytes) (of_utf8 bytes) alike)

pub returns-clause-found : goal.returns-clause-found
returns-clause-found c = λ t o p stands place begins.
    let text = chars c.args.text.now in
    rw (pattern-outcome c.args.self.now.compiled.byte_program t o p stands text (chars-code_points c.args.text.now c.utf8.text) place)
    (returns-clause-found_of_tree c (length (names_of p)) stands.node (stands.well_formed, stands.layout) place begins)

pub returns-clause-inside : goal.returns-clause-inside
returns-clause-inside c =
    lies-in_text ascii c.args.text.now refl c.requires c.in_ok-found.found (inside-shown _ _ c.new-input.ensures c.in_ok-found.found c.in_ok-found.ensures.inside)

pub returns-clause-starts : goal.returns-clause-starts
returns-clause-starts c = starts-in_text c.args.text.now c.utf8.text c.in_ok-found.found (returns-clause-inside c)

pub returns-clause-begins : goal.returns-clause-begins
returns-clause-begins c = c.in_ok-found.ensures.begins refl
