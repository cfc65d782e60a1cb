-- The two languages of replacement texts.
use Rattle.std.specs.Prelude.{ℕ, List}
use Rattle.regress_meaning.specs.Matches.{Item}
use Rattle.regress_replacing.specs.Replacing.{expansion}
use Rattle.regress_replacing.specs.Substitution.{substitution}
use Rattle.regress_replacing.specs.declared.syntax.ReplacementSyntax.{ReplacementSyntax}
use Rattle.regress_replacing.specs.declared.syntax.ReplacementSyntax.TheVariants.{Regress, EcmaScript}

-- What a replacement text gives at an item of a text in the language that it is in, where the groups have these names.
abbrev pub replacement_text : ReplacementSyntax → List (List ℕ) → List ℕ → List ℕ → Item → List ℕ
replacement_text Regress names replacement text i = expansion names replacement text i
replacement_text EcmaScript names replacement text i = substitution names replacement text i
