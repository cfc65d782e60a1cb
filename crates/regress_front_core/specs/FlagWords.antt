-- What flags switch on, what a flags word sets, and what a value of flags is written as.
use Rattle.std.specs.Prelude.{ℕ, Bool, false, not, ◌&&◌, List, [], ◌∷◌, ◌++◌, Option, Some, None, codes, if◌then◌else◌}
use Rattle.std.specs.Option.{option_or}
use Rattle.regress_meaning.specs.Text.{holds, ◌∈◌}
use Rattle.regress_meaning.specs.Flags.{Options, options_of}
use Rattle.regress_front_core.specs.declared.flags.Flags.{Flags}
use Rattle.regress_front_core.specs.declared.script_flags.ScriptFlags.{ScriptFlags}
use Rattle.regress_front_core.specs.declared.script_flags.FlagError.{FlagError}
use Rattle.regress_front_core.specs.declared.script_flags.FlagError.TheVariants.{Unknown, Repeated, BothUnicodeModes}

-- what flags switch on
abbrev pub options : Flags → Options
options f = record { icase = f.icase; multiline = f.multiline; dot_all = f.dot_all; unicode = f.unicode; sets = f.unicode_sets }

-- the flags that a word switches on
abbrev pub flags_of : List ℕ → Flags
flags_of word =
    let o = options_of word in
    record { icase = o.icase; multiline = o.multiline; dot_all = o.dot_all; no_opt = false; unicode = o.unicode; unicode_sets = o.sets }

-- a letter where its flag is set, and else nothing
abbrev pub letter_if : Bool → List ℕ → List ℕ
letter_if is_set letter = if is_set then letter else []

-- the letters that are set, in the order `misuv`
abbrev pub letters_of : Flags → List ℕ
letters_of f =
    letter_if f.multiline (codes "m") ++ letter_if f.icase (codes "i") ++ letter_if f.dot_all (codes "s")
    ++ letter_if f.unicode (codes "u") ++ letter_if f.unicode_sets (codes "v")

-- ---- words as a script has them ("RegExpInitialize")

-- what a word sets: the flags, and `g`, `y` and `d` beside them
abbrev pub script_flags_of : List ℕ → ScriptFlags
script_flags_of word = record { flags = flags_of word; global = holds word 0x67; sticky = holds word 0x79; has_indices = holds word 0x64 }

-- what is wrong with a letter behind others: no flag has it, or it stands among them
abbrev pub letter_error : List ℕ → ℕ → Option FlagError
letter_error before c = if not (c ∈ "dgimsuvy") then Some (Unknown c) else if holds before c then Some (Repeated c) else None

-- what is wrong with the first wrong letter of the rest of a word, behind those before it
abbrev pub first_error : List ℕ → List ℕ → Option FlagError
first_error before [] = None
first_error before (c ∷ rest) = option_or (letter_error before c) (first_error (before ++ (c ∷ [])) rest)

-- `u` and `v` are both in a word
abbrev pub mode_error : List ℕ → Option FlagError
mode_error word = if holds word 0x75 && holds word 0x76 then Some BothUnicodeModes else None

-- what is wrong with a word: with its first wrong letter, and else with its modes
abbrev pub word_error : List ℕ → Option FlagError
word_error word = option_or (first_error [] word) (mode_error word)
