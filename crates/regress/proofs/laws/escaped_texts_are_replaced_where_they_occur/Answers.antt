use Rattle.std.proofs.Common.{List, map, ap, ◌∙◌}
use Rattle.std.specs.Str.{chars}
use Rattle.regress_meaning.specs.Matches.{Item, match_list}
use Rattle.regress_meaning.specs.Literal.{literal_pattern}
use Rattle.regress_meaning.specs.Offsets.{of_utf8, told}
use Rattle.regress_replacing.specs.Replacing.{replaced}
use Rattle.regress.proofs.LawLemmas.{plain-expansions}
use Rattle.regress.proofs.laws.escaped_texts_are_replaced_where_they_occur.Goals as goal

pub returns : goal.returns
returns c = λ t o names literal replacement text none.
    let items = map (told (of_utf8 text)) (match_list t o (literal_pattern literal) (chars text) 0) in
    ap (replaced text items) (plain-expansions names replacement text none items)
    ∙ ap (λ (found : List Item). replaced text (map (told (of_utf8 text)) found) (map (λ _. replacement) (map (told (of_utf8 text)) found)))
    (c.literals_match_their_occurrences.ensures t o literal (chars text) 0)
