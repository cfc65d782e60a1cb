-- What matches exactly one character.
use Rattle.std.specs.Prelude.{ℕ, Bool, true, not, nat_eq}
use Rattle.regress_meaning.specs.Text.{holds}
use Rattle.regress_meaning.specs.Meaning.{is_line_end}
use Rattle.regress_front_sets.specs.Sets.{ends_in}
use Rattle.regress_front_nodes.specs.TreeMeaning.{bracket_has}
use Rattle.regress_evaluator.specs.declared.singles.Single.{Single}
use Rattle.regress_evaluator.specs.declared.singles.Single.TheVariants.{Char, ByteSet, CharSet, Any, AnyInLine, Bracket}

-- the code point passes
abbrev pub passes : Single → ℕ → Bool
passes (Char wanted) c = nat_eq wanted c
passes (ByteSet bytes) c = holds bytes.now c
passes (CharSet points) c = holds points.now c
passes Any c = true
passes AnyInLine c = not (is_line_end c)
passes (Bracket contents) c = bracket_has contents.now.invert (ends_in contents.now.cps) c
