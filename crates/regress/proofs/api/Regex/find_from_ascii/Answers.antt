use Rattle.std.proofs.Common.{List, ℕ, chars, map, refl, ap, ◌∙◌}
use Rattle.std.proofs.lemmas.Str.{IsUtf8-from_ascii}
use Rattle.regress_meaning.specs.Matches.{Item, match_list}
use Rattle.regress_meaning.specs.Offsets.{of_ascii, of_utf8, told}
use Rattle.regress_engine_input.specs.Views.{ascii}
use Rattle.regress_engine_code.specs.Standing.{names_of}
use Rattle.regress_engine_search.proofs.ByteTexts.{begins-alike, told-alike, bytes-alike}
use Rattle.regress.specs.Ascii.{search_in_ascii, searched_in_ascii, names_in_ascii, coming_in_ascii, HasEndedAscii}
use Rattle.regress.specs.Standing.{tree_list}
use Rattle.regress.proofs.IterationLemmas.{searched-along, inside-each, starts-each}
use Rattle.regress.proofs.ListedLemmas.{coming-searched, tree-searchable, searched-rises}
use Rattle.regress.proofs.UnitLemmas.{begins-anywhere}
use Rattle.regress.proofs.api.Regex.find_from_ascii.Goals as goal

pub new-requires-clause-start : goal.new-requires-clause-start
new-requires-clause-start c = begins-anywhere c.args.text.now c.args.start

pub returns-clause-matches_of_tree : goal.returns-clause-matches_of_tree
returns-clause-matches_of_tree c = λ n t laid place begins.
    let bytes = c.args.text.now in
    let alike = bytes-alike ascii bytes refl c.requires in
    tree-searchable (search_in_ascii c.new.result) c.args.self.now.compiled.byte_program bytes c.new.ensures.over c.requires c.args.start place
    (begins-alike (of_ascii bytes) (of_utf8 bytes) alike c.args.start place begins) c.new.result.position c.new.ensures.begins n t laid
    ∙ ap (λ (points : List ℕ). map (told (of_ascii bytes)) (tree_list c.args.self.now n t points place)) alike.points
    ∙ ap (λ (tell : Item → Item). map tell (tree_list c.args.self.now n t (chars bytes) place)) (told-alike (of_ascii bytes) (of_utf8 bytes) alike)

pub returns-clause-matches : goal.returns-clause-matches
returns-clause-matches c = λ t o p stands place begins.
    let bytes = c.args.text.now in
    let alike = bytes-alike ascii bytes refl c.requires in
    coming-searched (search_in_ascii c.new.result) c.args.self.now.compiled.byte_program bytes c.new.ensures.over c.requires c.args.start place
    (begins-alike (of_ascii bytes) (of_utf8 bytes) alike c.args.start place begins) c.new.result.position c.new.ensures.begins t o p stands
    ∙ ap (λ (points : List ℕ). map (told (of_ascii bytes)) (match_list t o p points place)) alike.points
    ∙ ap (λ (tell : Item → Item). map tell (match_list t o p (chars bytes) place)) (told-alike (of_ascii bytes) (of_utf8 bytes) alike)

pub returns-clause-along : goal.returns-clause-along
returns-clause-along c = record { at = λ given now yields. searched-along searched_in_ascii names_in_ascii coming_in_ascii HasEndedAscii c.new.result now given yields ∙ c.new.ensures.over.over }

pub returns-clause-inside : goal.returns-clause-inside
returns-clause-inside c = inside-each searched_in_ascii names_in_ascii coming_in_ascii HasEndedAscii c.new.result c.args.text.now c.new.ensures.over.over

pub returns-clause-starts : goal.returns-clause-starts
returns-clause-starts c =
    starts-each searched_in_ascii names_in_ascii coming_in_ascii HasEndedAscii c.new.result c.args.text.now (IsUtf8-from_ascii c.args.text.now c.requires) c.new.ensures.over.over

pub returns-clause-rise : goal.returns-clause-rise
returns-clause-rise c =
    let (place, begins) = begins-anywhere c.args.text.now c.args.start in
    searched-rises (search_in_ascii c.new.result) c.args.self.now.compiled.byte_program c.args.text.now c.new.ensures.over c.requires c.args.start place begins
    c.new.result.position c.new.ensures.begins

pub returns-clause-named : goal.returns-clause-named
returns-clause-named c = ap names_of c.new.ensures.over.program
