use Rattle.std.proofs.Common.{sym, ◌∙◌}
use Rattle.regress_front_opt.proofs.AdvanceLemmas.{choice-advances}
use Rattle.regress_front_opt.proofs.choices.EmptyChoicesPass.rewrite.Goals as goal

pub returns-then-is_choice_of_empties : goal.returns-then-is_choice_of_empties
returns-then-is_choice_of_empties c = choice-advances _ _ (sym c.is_choice_of_empties.ensures ∙ c.if-is_choice_of_empties.true)
