-- The flags of a pattern, and what it begins with under them.
use Rattle.std.specs.Prelude.{ℕ, Bool, false, ◌||◌, List}
use Rattle.regress_meaning.specs.Text.{holds}
use Rattle.regress_meaning.specs.Pattern.{Settings}

-- What a flags word switches on, for the whole pattern ("RegExp Records").
pub record Options : Type 0 where
  pub icase : Bool
  pub multiline : Bool
  pub dot_all : Bool
  -- `u`
  pub unicode : Bool
  -- `v`
  pub sets : Bool

-- What a word sets: `i`, `m`, `s`, `u` and `v` wherever they stand in it; all else is skipped.
abbrev pub options_of : List ℕ → Options
options_of word = record { icase = holds word 0x69; multiline = holds word 0x6D; dot_all = holds word 0x73; unicode = holds word 0x75; sets = holds word 0x76 }

-- nothing is switched on
abbrev pub no_flags : Options
no_flags = record { icase = false; multiline = false; dot_all = false; unicode = false; sets = false }

-- Unicode mode
abbrev pub is_unicode : Options → Bool
is_unicode o = o.unicode || o.sets

-- what holds where no modifier has changed it
abbrev pub first_settings : Options → Settings
first_settings o = record { icase = o.icase; multiline = o.multiline; dot_all = o.dot_all }

-- what the letters of a modifier switch
abbrev pub settings_of : List ℕ → Settings
settings_of letters = record { icase = holds letters 0x69; multiline = holds letters 0x6D; dot_all = holds letters 0x73 }
