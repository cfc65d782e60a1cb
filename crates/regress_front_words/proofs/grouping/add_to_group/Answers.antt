use Rattle.std.proofs.Common.{◌++◌, [], ◌∷◌, Vec, ℕ, Global, get_or, refl, sym, ap, ◌∙◌}
use Rattle.std.proofs.lemmas.List.{map-append}
use Rattle.regress_front_words.specs.declared.grouping.Group.{Group}
use Rattle.regress_front_words.specs.Sharing.{spelled}
use Rattle.regress_front_words.proofs.grouping.add_to_group.Goals as goal

pub returns : goal.returns
returns c =
    let groups = c.args.groups.now in
    let at = c.args.at in
    let group = c.index-groups-at.result in
    let word = c.args.word in
    let more : Group = record { letter = (get_or c.args.groups.now c.args.at c.index-groups-at.result).letter; words = c.push.new.self } in (
      group,
      more,
      c.index-groups-at.is,
      refl,
      (
        ap (λ (g : Group). g.letter) (sym c.index-groups-at.is),
        ap spelled c.in_ok-push.ensures.items ∙ map-append (λ (v : Vec ℕ Global). v.items) (get_or groups at group).words.items (word ∷ [])
            ∙ ap (λ (g : Group). spelled g.words.items ++ word.items ∷ []) (sym c.index-groups-at.is),
      ),
    )
