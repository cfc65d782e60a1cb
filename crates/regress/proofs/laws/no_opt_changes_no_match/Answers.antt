use Rattle.std.proofs.Common.{refl, ap}
use Rattle.regress_meaning.specs.Matches.{match_list}
use Rattle.regress_front.specs.FlagWords.{options}
use Rattle.regress.proofs.laws.no_opt_changes_no_match.Goals as goal

pub returns-clause-options : goal.returns-clause-options
returns-clause-options c = λ f no_opt. refl

pub returns-clause-listed : goal.returns-clause-listed
returns-clause-listed c = λ t f no_opt source p q one other text place.
    ap (λ x. match_list t (options f) x text place) (c.spells_one_tree.ensures t (options f) source p q one other)
