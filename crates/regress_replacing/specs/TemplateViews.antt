-- How a template that was read stands to its text.
use Rattle.std.specs.Prelude.{ℕ, List}
use Rattle.regress_replacing.specs.declared.template.Template.{Template}

-- the text that was read
abbrev pub template_of : Template → List ℕ
template_of t = t.source.now
