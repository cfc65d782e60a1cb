-- What is compiled, and why nothing is.
use Rattle.std.specs.Prelude.{◌≡◌, ℕ, Bool, true, false, List, Some, chars}
use Rattle.std.specs.Str.{IsUtf8}
use Rattle.regress_meaning.specs.Flags.{Options, options_of, is_unicode}
use Rattle.regress_meaning.specs.Pattern.{Pattern}
use Rattle.regress_meaning.specs.Table.{Table}
use Rattle.regress_meaning.specs.TableParts.{TableParts, table_of}
use Rattle.regress_meaning.specs.WholeText.{whole_text}
use Rattle.regress_front_core.specs.FlagWords.{word_error}
use Rattle.regress_front_core.specs.declared.script_flags.FlagError.{FlagError}
use Rattle.regress_errors.specs.declared.errors.CompileError.{CompileError}
use Rattle.regress.specs.declared.api.Regex.{Regex}
use Rattle.regress_pattern_units.specs.PatternUnits.{pattern_points}
use Rattle.regress.specs.Limited.{MayRefuseWithin, StandsWithin}
use Rattle.regress_call_errors.specs.declared.call_error.CallError.{CallError}
use Rattle.regress_call_errors.specs.declared.call_error.CallError.TheVariants.{NotUtf8}
use Rattle.regress_calls.specs.declared.compiling.Source.{Source}
use Rattle.regress_calls.specs.declared.compiling.Source.TheVariants.{Utf8, Units, Whole}
use Rattle.regress_calls.specs.Codes.{of_compile_error, of_flag_error}
use Rattle.regress_calls.specs.Handles.{Content, OfTables}
use Rattle.regress_calls.specs.Refusals.{MayRefuseTables}

-- how many instructions a program may have where a caller says nothing
abbrev pub default_limit : ℕ
default_limit = 1000000

-- the code points that a source is
abbrev pub points_of_source : Source → Options → List ℕ
points_of_source (Utf8 text) o = chars text.now
points_of_source (Units units) o = pattern_points (is_unicode o) units.now
points_of_source (Whole text) o = chars text.now

-- a source is to match whole texts alone
abbrev pub is_whole : Source → Bool
is_whole (Whole text) = true
is_whole _ = false

-- what a pattern stands for that is to match whole texts alone, or anywhere
abbrev pub meant : (whole : Bool) → Pattern → Pattern
meant true = whole_text
meant false = λ p. p

-- A regex is compiled from code points within a limit: it stands for what the pattern that they spell within the limits is meant to
-- match, in texts and in units, and a program of that may have no more instructions than the limit.
abbrev pub IsCompiled : (limit : ℕ) (whole : Bool) (points : List ℕ) → Table → Options → Regex → Type 0
IsCompiled limit whole points t o r = StandsWithin limit (meant whole) t o points r

-- why letters are no flags
abbrev pub MayRefuseFlags : List ℕ → CallError → Type 0
MayRefuseFlags letters e = (f : FlagError) × (word_error (chars letters) ≡ Some f) × (e ≡ of_flag_error f)

-- why code points are not compiled with tables
abbrev pub MayRefusePoints : (limit : ℕ) (whole : Bool) → Table → Options → List ℕ → CallError → Type 0
MayRefusePoints limit whole t o points e = (x : CompileError) × MayRefuseWithin limit (meant whole) t o points x × (e ≡ of_compile_error x)

-- Why nothing is compiled within a limit: no tables are held, or can be shared; the letters are not UTF-8, or no flags; or the pattern
-- is refused, whose code points may depend on the flags.
pub data MayRefuseCompile (c : Content) (limit : ℕ) (whole : Bool) (points : Options → List ℕ) (letters : List ℕ) (e : CallError) : Type 0 where
  of_tables : MayRefuseTables c e → MayRefuseCompile c limit whole points letters e
  of_bytes : e ≡ NotUtf8 → ¬ (IsUtf8 letters) → MayRefuseCompile c limit whole points letters e
  of_flags : MayRefuseFlags letters e → MayRefuseCompile c limit whole points letters e
  of_pattern : (ps : TableParts) → c ≡ OfTables ps
      → MayRefusePoints limit whole (table_of ps) (options_of (chars letters)) (points (options_of (chars letters))) e
      → MayRefuseCompile c limit whole points letters e
