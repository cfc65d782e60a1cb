-- The syntax of a pattern, as a tree.
use Rattle.std.specs.Prelude.{ℕ, Bool, List, [], ◌∷◌, ◌++◌, Option, Some, None}
use Rattle.regress_meaning.specs.Class.{Class}

-- What holds in a part of a pattern; modifiers switch it ("RegExp Records").
pub record Settings : Type 0 where
  pub icase : Bool
  pub multiline : Bool
  pub dot_all : Bool

-- The tree of a pattern ("Patterns"). Trees are binary; lists of terms end in `nothing`.
pub data Pattern : Type 0 where
  nothing : Pattern
  character : ℕ → Pattern
  -- `.`
  any : Pattern
  -- `[..]`, `[^..]`
  class : (negated : Bool) → Class → Pattern
  -- `\d`, `\P{..}` and their like, outside a class
  class_escape : Class → Pattern
  sequence : Pattern → Pattern → Pattern
  choice : Pattern → Pattern → Pattern
  -- a capturing group, with its number from 0 and its name
  capture : ℕ → Option (List ℕ) → Pattern → Pattern
  -- `(?:..)`
  grouped : Pattern → Pattern
  -- `(?>..)`: of its contents the first outcome alone
  atomic : Pattern → Pattern
  -- `(?i-m:..)`: what is switched on, and what off
  modified : (on off : Settings) → Pattern → Pattern
  -- the body, the first group inside, the group behind the last one inside, and the quantifier
  repeated : Pattern → (first last least most : ℕ) → (greedy : Bool) → Pattern
  -- `(?=..)`, `(?!..)`, `(?<=..)`, `(?<!..)`
  look : (negated backward : Bool) → Pattern → Pattern
  -- to groups by their numbers: one, or those of a name
  reference : List ℕ → Pattern
  line_start : Pattern
  line_end : Pattern
  word_boundary : (negated : Bool) → Pattern

-- the name of each capturing group in order of opening, empty where it has none ("GroupSpecifiersThatMatch")
abbrev pub names_of : Pattern → List (List ℕ)
names_of (sequence a b) = names_of a ++ names_of b
names_of (choice a b) = names_of a ++ names_of b
names_of (capture k None a) = [] ∷ names_of a
names_of (capture k (Some name) a) = name ∷ names_of a
names_of (grouped a) = names_of a
names_of (atomic a) = names_of a
names_of (modified on off a) = names_of a
names_of (repeated a from to least most greedy) = names_of a
names_of (look negated backward a) = names_of a
names_of _ = []
