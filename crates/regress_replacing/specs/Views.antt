-- How a replacement that was read stands to its text.
use Rattle.std.specs.Prelude.{ℕ, List}
use Rattle.regress_replacing.specs.declared.replacement.Replacement.{Replacement}

-- the text that was read
abbrev pub source_of : Replacement → List ℕ
source_of r = r.source.now
