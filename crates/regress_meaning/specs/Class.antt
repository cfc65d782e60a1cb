-- Classes: their syntax, and the sets of strings that they stand for.
use Rattle.std.specs.Prelude.{ℕ, Bool, true, false, not, ◌&&◌, ◌||◌, ◌==◌, List, [], ◌∷◌, ◌++◌, length, filter, max, unwrap_or}
use Rattle.std.specs.List.{list_any}
use Rattle.regress_meaning.specs.Text.{between, same_text}
use Rattle.regress_meaning.specs.Table.{Table, last_code_point}

-- What stands between the brackets of a class, or for a class escape ("CharacterClass", "ClassSetExpression").
-- A set character is a range of one.
pub data Class : Type 0 where
  no_string : Class
  range : (first last : ℕ) → Class
  digits : Class
  spaces : Class
  words : Class
  -- a property of code points
  property : List ℕ → Class
  -- a property of strings
  sequences : List ℕ → Class
  -- `\q{..}`
  strings : List (List ℕ) → Class
  union : Class → Class → Class
  intersection : Class → Class → Class
  difference : Class → Class → Class
  -- `\D`, `\S`, `\W`, `\P{..}`
  complement : Class → Class
  -- `[..]` and `[^..]` inside a class
  nested : (negated : Bool) → Class → Class

-- A set of strings: those of one code point, and a list of the others ("CharSet").
pub record Strings : Type 0 where
  pub singles : ℕ → Bool
  pub others : List (List ℕ)

-- strings of one code point alone
abbrev pub only : (ℕ → Bool) → Strings
only test = record { singles = test; others = [] }

-- the list holds the string
abbrev pub among : List (List ℕ) → List ℕ → Bool
among ss s = list_any (same_text s) ss

-- the strings of a list
abbrev pub of_list : List (List ℕ) → Strings
of_list ss = record { singles = λ c. among ss (c ∷ []); others = filter (λ s. not (length s == 1)) ss }

-- the code points that are no member ("CharacterComplement")
abbrev pub complement_of : Strings → Strings
complement_of v = only (λ c. between 0 last_code_point c && not (v.singles c))

-- white space and line terminators ("WhiteSpace", "LineTerminator")
abbrev pub is_space : ℕ → Bool
is_space c = between 9 0xD c || c == 0x20 || c == 0xA0 || c == 0x1680 || between 0x2000 0x200A c || between 0x2028 0x2029 c || c == 0x202F || c == 0x205F || c == 0x3000 || c == 0xFEFF

-- what `\d` holds
abbrev pub is_digit : ℕ → Bool
is_digit c = between 0x30 0x39 c

-- an ASCII letter
abbrev pub is_letter : ℕ → Bool
is_letter c = between 0x41 0x5A c || between 0x61 0x7A c

-- an ASCII letter, a digit or `_`
abbrev pub is_ascii_word : ℕ → Bool
is_ascii_word c = is_digit c || is_letter c || c == 0x5F

module _ (table : Table) where
  -- What `\w` holds. `folded`: in Unicode mode, with case ignored ("WordCharacters").
  unfoldable pub is_word : Bool → ℕ → Bool
  is_word folded c = is_ascii_word c || (folded && is_ascii_word (table.fold c))

  -- The set that a class stands for, before case is ignored ("CompileToCharSet").
  unfoldable pub value_of : Bool → Class → Strings
  value_of folded no_string = only (λ c. false)
  value_of folded (range a b) = only (between a b)
  value_of folded digits = only is_digit
  value_of folded spaces = only is_space
  value_of folded words = only (is_word folded)
  value_of folded (property key) = only (unwrap_or (table.property key) (λ c. false))
  value_of folded (sequences key) = of_list (unwrap_or (table.sequences key) [])
  value_of folded (strings ss) = of_list ss
  value_of folded (union a b) =
      let v = value_of folded a in let w = value_of folded b in
      record { singles = λ c. v.singles c || w.singles c; others = v.others ++ w.others }
  value_of folded (intersection a b) =
      let v = value_of folded a in let w = value_of folded b in
      record { singles = λ c. v.singles c && w.singles c; others = filter (among w.others) v.others }
  value_of folded (difference a b) =
      let v = value_of folded a in let w = value_of folded b in
      record { singles = λ c. v.singles c && not (w.singles c); others = filter (λ s. not (among w.others s)) v.others }
  value_of folded (complement a) = complement_of (value_of folded a)
  value_of folded (nested true a) = complement_of (value_of folded a)
  value_of folded (nested false a) = value_of folded a

-- By its form the class may hold a string that is no single code point ("MayContainStrings").
abbrev pub may_hold_strings : Class → Bool
may_hold_strings (sequences key) = true
may_hold_strings (strings ss) = list_any (λ s. not (length s == 1)) ss
may_hold_strings (union a b) = may_hold_strings a || may_hold_strings b
may_hold_strings (intersection a b) = may_hold_strings a && may_hold_strings b
may_hold_strings (difference a b) = may_hold_strings a
may_hold_strings (nested negated a) = may_hold_strings a
may_hold_strings _ = false

-- the length of the longest
abbrev pub longest : List (List ℕ) → ℕ
longest [] = 0
longest (s ∷ ss) = max (length s) (longest ss)
