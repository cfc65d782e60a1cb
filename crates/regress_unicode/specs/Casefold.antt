-- The code points that NFKC_Casefold moves.
use Rattle.std.specs.Prelude.{ℕ, Bool, true, false, ◌||◌, if◌then◌else◌}
use Rattle.regress_meaning.specs.TableParts.{is_surrogate}
use Rattle.ucd_derived.specs.Binary.{is_default_ignorable_code_point, changes_when_casefolded}
use Rattle.ucd_normal.specs.declared.forms.Form.TheVariants.{Nfkc}
use Rattle.ucd_normal.specs.declared.forms.QuickCheck.{QuickCheck}
use Rattle.ucd_normal.specs.declared.forms.QuickCheck.TheVariants.{No}
use Rattle.ucd_normal.specs.QuickCheck.{quick_check}

-- the answer of a quick check is no
abbrev pub is_no : QuickCheck → Bool
is_no No = true
is_no _ = false

-- a character can be left out, has its case folded, or can't stand in text of the form NFKC
abbrev pub is_moved : ℕ → Bool
is_moved c = is_default_ignorable_code_point c || changes_when_casefolded c || is_no (quick_check Nfkc c)

-- Changes_When_NFKC_Casefolded: NFKC_Casefold moves the character; a surrogate is none
unfoldable pub changes_when_nfkc_casefolded : ℕ → Bool
changes_when_nfkc_casefolded c = if is_surrogate c then false else is_moved c
