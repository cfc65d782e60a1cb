-- How a replacement text of either language that was read stands to its text.
use Rattle.std.specs.Prelude.{ℕ, List}
use Rattle.regress_replacing.specs.declared.syntax.ReplacementSyntax.{ReplacementSyntax}
use Rattle.regress_replacing.specs.declared.syntax.ReplacementSyntax.TheVariants as language
use Rattle.regress_replacing.specs.declared.reading.AnyReplacement.{AnyReplacement}
use Rattle.regress_replacing.specs.declared.reading.AnyReplacement.TheVariants as read
use Rattle.regress_replacing.specs.Views.{source_of}
use Rattle.regress_replacing.specs.TemplateViews.{template_of}

-- the language that it was read in
abbrev pub syntax_of : AnyReplacement → ReplacementSyntax
syntax_of (read.Regress r) = language.Regress
syntax_of (read.EcmaScript t) = language.EcmaScript

-- the text that was read
abbrev pub text_of : AnyReplacement → List ℕ
text_of (read.Regress r) = source_of r
text_of (read.EcmaScript t) = template_of t
