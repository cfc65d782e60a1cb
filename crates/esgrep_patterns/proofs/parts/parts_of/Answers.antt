use Rattle.std.proofs.Common.{◌≡◌, List, map, None, refl, ap, subst, ◌∙◌}
use Rattle.regress_meaning.specs.Matches.{Item}
use Rattle.regress_match.specs.Views.{item_of}
use Rattle.esgrep_lines.specs.Parts.{found_parts}
use Rattle.esgrep_lines.specs.Finding.{FindsParts}
use Rattle.esgrep_patterns.specs.Seeking.{found_of_all, items_of_all}
use Rattle.esgrep_patterns.proofs.FoundLemmas.{items-found}
use Rattle.esgrep_patterns.proofs.parts.parts_of.Goals as goal

pub returns-clause-found : goal.returns-clause-found
returns-clause-found c = λ ss seek template.
    let text = c.args.text.now in
    let founds = c.find_into.new.founds.items in
    let all = c.in_ok-find_into.ensures.found None (λ start text. found_of_all ss None text) (record { sought = ss; seek = seek; finds = λ start text. refl }) in
    let items : map item_of founds ≡ items_of_all ss text = items-found None text founds ∙ ap (map (λ f. f.item)) all in
    subst (λ (items : List Item). FindsParts c.new.result template (found_parts c.args.ending text items template)) items (c.new.ensures template)
