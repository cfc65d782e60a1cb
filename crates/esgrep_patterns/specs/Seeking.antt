-- What a search for patterns finds.
use Rattle.std.specs.Prelude.{◌≡◌, ◌≤◌, ℕ, zero, suc, ◌+◌, List, [], ◌∷◌, length, nat_lt, if◌then◌else◌, map, option_map, chars, Any, Option, Some, None}
use Rattle.regress_meaning.specs.Table.{Table}
use Rattle.regress_meaning.specs.Pattern.{Pattern}
use Rattle.regress_meaning.specs.Flags.{Options}
use Rattle.regress_meaning.specs.Matches.{Item, next_place, first_match, match_list}
use Rattle.regress_meaning.specs.Offsets.{of_utf8, told}
use Rattle.regress_match.specs.declared.found.Match.{Match}
use Rattle.regress_match.specs.Views.{item_of}
use Rattle.regress_match.specs.GroupViews.{names_of_match}
use Rattle.regress_match.specs.TextRanges.{LiesInText}
use Rattle.regress.specs.declared.api.Regex.{Regex}
use Rattle.regress.specs.Standing.{StandsFor, names_of_regex}
use Rattle.regress_engine_input.specs.Views.{utf8}
use Rattle.regress_programs.specs.declared.slots.Anchored.TheVariants.{No}
use Rattle.regress_programs.specs.Counting.{Stops}
use Rattle.regress_programs.specs.Tables.{byte_table_of}
use Rattle.regress_bounded.specs.Stopping.{seen_by}
use Rattle.esgrep_rows.specs.Found.{Found, Find, found_at}
use Rattle.esgrep_patterns.specs.declared.patterns.Patterns.{Patterns}

-- What is found of a pattern in a text: its match list, told in bytes, with what is shown of each match.
abbrev pub found_in : Table → Options → Pattern → Option (List ℕ) → List (List ℕ) → List ℕ → List Found
found_in t o p template names text = map (found_at template names text) (map (told (of_utf8 text)) (match_list t o p (chars text) 0))

-- A pattern that is searched for: the table and the options that it is read by, its tree, and the names of its groups.
pub record Sought : Type 0 where
  pub table : Table
  pub options : Options
  pub pattern : Pattern
  pub names : List (List ℕ)

-- A match of one of several patterns, with the names of that pattern's groups.
pub record Hit : Type 0 where
  pub item : Item
  pub names : List (List ℕ)

-- the one of two that begins first, and the first of them where both begin at one place
abbrev pub sooner : Option Hit → Option Hit → Option Hit
sooner None second = second
sooner (Some a) None = Some a
sooner (Some a) (Some b) = if nat_lt b.item.start a.item.start then Some b else Some a

module _ (text : List ℕ) where
  -- the first match of a pattern from a place on
  abbrev pub first_hit : ℕ → Sought → Option Hit
  first_hit place s = option_map (λ i. record { item = i; names = s.names }) (first_match s.table s.options s.pattern text place)

  -- of a hit and the first ones of some patterns from a place on that which begins first
  abbrev pub leftmost_of : ℕ → Option Hit → List Sought → Option Hit
  leftmost_of place hit [] = hit
  leftmost_of place hit (s ∷ ss) = leftmost_of place (sooner hit (first_hit place s)) ss

  -- Of the first matches of some patterns from a place on the leftmost, and of those that begin there that of the first pattern.
  abbrev pub leftmost : List Sought → ℕ → Option Hit
  leftmost ss place = leftmost_of place None ss

  -- from a place on the leftmost, and then the same from where the search goes on; n bounds how many there are
  unfoldable pub hits_from : List Sought → ℕ → ℕ → List Hit
  hits_from ss zero place = []
  hits_from ss (suc n) place = elim (leftmost ss place) [ None ↦ [] | Some h ↦ h ∷ hits_from ss n (next_place h.item) ]

-- a hit, told in bytes, with what is shown of it
abbrev pub found_hit : Option (List ℕ) → List ℕ → Hit → Found
found_hit template text h = found_at template h.names text (told (of_utf8 text) h.item)

-- What is found of several patterns in a text: from each place on the leftmost match.
abbrev pub found_of_several : List Sought → Option (List ℕ) → List ℕ → List Found
found_of_several ss template text = map (found_hit template text) (hits_from (chars text) ss (length (chars text) + 1) 0)

-- What is found of patterns in a text: of one its matches, of several from each place on the leftmost.
abbrev pub found_of_all : List Sought → Option (List ℕ) → List ℕ → List Found
found_of_all (s ∷ []) template text = found_in s.table s.options s.pattern template s.names text
found_of_all [] template text = found_of_several [] template text
found_of_all (s ∷ r ∷ ss) template text = found_of_several (s ∷ r ∷ ss) template text

-- the matches of patterns in a text, told in bytes
abbrev pub items_of_all : List Sought → List ℕ → List Item
items_of_all ss text = map (λ f. f.item) (found_of_all ss None text)

-- a match lies in a text, and does not begin before an offset
abbrev pub BeginsInText : List ℕ → ℕ → Match → Type 0
BeginsInText text at m = LiesInText text m × (at ≤ m.range.start)

-- a match is a hit, told in bytes of a text in which that lies
pub record IsHit (text : List ℕ) (m : Match) (h : Hit) : Type 0 where
  pub item : item_of m ≡ told (of_utf8 text) h.item
  pub names : names_of_match m ≡ h.names
  pub order : h.item.start ≤ h.item.end
  pub within : h.item.end ≤ length (chars text)

-- there is a match where there is a hit, and it is that
abbrev pub AreHits : List ℕ → Option Match → Option Hit → Type 0
AreHits text None None = Unit {0}
AreHits text (Some m) (Some h) = IsHit text m h
AreHits text found hit = ⊥

-- a regex stands for a pattern
abbrev pub Seeks : Regex → Sought → Type 0
Seeks regex s = StandsFor regex s.table s.options s.pattern × (names_of_regex regex ≡ s.names)

-- regexes stand for patterns, one for each
abbrev pub SeekAll : List Regex → List Sought → Type 0
SeekAll [] [] = Unit {0}
SeekAll (regex ∷ regexes) (s ∷ ss) = Seeks regex s × SeekAll regexes ss
SeekAll regexes ss = ⊥

-- what is searched for
abbrev pub regexes_of : Patterns → List Regex
regexes_of patterns = patterns.searched.regexes.now

-- how many steps each search may take, if there is a bound
abbrev pub steps_of : Patterns → Option ℕ
steps_of patterns = patterns.steps

-- In a text a search for a regex may not turn to a table with so many steps, and from some offset its runs take as many as it may take, or more.
abbrev pub IsTooLong : Option ℕ → List ℕ → Regex → Type 0
IsTooLong None text regex = ⊥
IsTooLong (Some steps) text regex =
    let program = regex.compiled.byte_program in (at : ℕ) × Stops (byte_table_of regex.compiled) No program (seen_by program utf8 text) at (Some steps)

-- a search for one of the patterns in a text is too long
abbrev pub GivesUp : Patterns → List ℕ → Type 0
GivesUp patterns text = Any (IsTooLong (steps_of patterns) text) (regexes_of patterns)

-- Patterns find this in each text: what is found of those that their regexes stand for, with what is shown of a match.
pub record Finds (patterns : Patterns) (template : Option (List ℕ)) (find : Find) : Type 0 where
  pub sought : List Sought
  pub seek : SeekAll (regexes_of patterns) sought
  pub finds : (start : ℕ) → (text : List ℕ) → find start text ≡ found_of_all sought template text
