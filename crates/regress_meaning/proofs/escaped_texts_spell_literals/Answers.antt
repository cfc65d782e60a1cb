use Rattle.regress_meaning.proofs.LiteralLemmas.{spells-literal, within-literal}
use Rattle.regress_meaning.proofs.escaped_texts_spell_literals.Goals as goal

pub returns-clause-spells : goal.returns-clause-spells
returns-clause-spells c = spells-literal

pub returns-clause-within : goal.returns-clause-within
returns-clause-within c = within-literal
