-- Trees that take one character by themselves.
use Rattle.std.specs.Prelude.{◌≡◌, ℕ, Bool, true, false, not, nat_eq}
use Rattle.regress_meaning.specs.Text.{holds}
use Rattle.regress_meaning.specs.TableParts.{is_code_point}
use Rattle.regress_meaning.specs.Meaning.{is_line_end}
use Rattle.regress_front_nodes.specs.Trees.{Tree, char, byte_set, char_set, any, any_in_line, bracket}
use Rattle.regress_front_nodes.specs.TreeMeaning.{bracket_has}
use Rattle.regress_front_nodes.specs.WellFormed.{AreLawful}

-- by itself the tree takes one character
abbrev pub is_character : Tree → Bool
is_character (char c) = true
is_character (byte_set bs) = true
is_character (char_set cs) = true
is_character any = true
is_character any_in_line = true
is_character (bracket inverted intervals) = true
is_character _ = false

-- the characters that it takes
abbrev pub taken : Tree → ℕ → Bool
taken (char c) d = nat_eq c d
taken (byte_set bs) d = holds bs d
taken (char_set cs) d = holds cs d
taken any d = true
taken any_in_line d = not (is_line_end d)
taken (bracket inverted intervals) d = bracket_has inverted intervals d
taken _ d = false

-- The tree takes one character, of the code points those that pass.
pub record Takes (t : Tree) (test : ℕ → Bool) : Type 0 where
  pub alone : is_character t ≡ true
  pub members : (c : ℕ) → is_code_point c → taken t c ≡ test c
  pub lawful : AreLawful 0 t
