-- How the values of the calls stand to the definitions.
use Rattle.std.specs.Prelude.{ℕ, Bool, true, false, List, Option, option_map}
use Rattle.regress_replacing.specs.TemplateViews.{template_of}
use Rattle.esgrep_rows.specs.declared.options.Mode.{Mode}
use Rattle.esgrep_rows.specs.declared.options.Mode.TheVariants.{Matches}
use Rattle.esgrep_rows.specs.declared.shown.Shown.{Shown}

-- matches are put out, not lines
abbrev pub puts_matches : Mode → Bool
puts_matches Matches = true
puts_matches _ = false

-- the replacement text of what is shown, if any
abbrev pub template_text : Shown → Option (List ℕ)
template_text s = option_map template_of s.template
