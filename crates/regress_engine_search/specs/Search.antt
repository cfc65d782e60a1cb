-- What is searched with a program, and what searches find.
use Rattle.std.specs.Prelude.{◌≡◌, ℕ, zero, suc, ◌-◌, ◌≤◌, not, List, [], ◌∷◌, length, Option, Some, None, Result, Ok, Err, All, IfSome, if◌then◌else◌, nat_le}
use Rattle.std.specs.declared.ops.Range.{Range}
use Rattle.std.proofs.Common.{arith}
use Rattle.std.proofs.lemmas.Bool.{cond_both}
use Rattle.regress_meaning.specs.Meaning.{Forward}
use Rattle.regress_meaning.specs.Matches.{Item}
use Rattle.regress_meaning.specs.Offsets.{Reading, offset, Begins}
use Rattle.regress_match.specs.declared.found.Match.{Match}
use Rattle.regress_match.specs.GroupViews.{names_of_match}
use Rattle.regress_match.specs.Iterating.{coming_on}
use Rattle.regress_match.specs.Slots.{Fills}
use Rattle.regress_match.specs.Views as match
use Rattle.regress_engine_input.specs.Views.{View, are_bytes, input_of, reading_of}
use Rattle.regress_engine_insn.specs.Instructions.{Program}
use Rattle.regress_engine_code.specs.Standing.{names_of, program_of, target_of}
use Rattle.regress_engine_code.specs.declared.compiled.CompiledRegex.{CompiledRegex}
use Rattle.regress_engine_runs.specs.States.{first_state}
use Rattle.regress_engine_runs.specs.Computed.{IsComputed}
use Rattle.regress_engine_runs.specs.Closed.{IsClosed}
use Rattle.regress_engine_runs.specs.Items.{Lists, begins_at}
use Rattle.regress_engine_runs.specs.Meets.{IsAtPlace, AreAtPlaces}
use Rattle.regress_engine_runs.specs.Stand.{IsMadeFor}
use Rattle.regress_engine_runs.specs.UndoStack.{ReadOn, outermost}

-- A program reads a text: it is closed, and of bytes or of units as the text is.
pub record Suits (program : Program) (v : View) : Type 0 where
  pub closed : IsClosed program
  pub kind : are_bytes v.kind ≡ not program.units

-- A program is made for a text: of bytes or of units as it is, with its table and its mode.
pub record IsMadeOf (compiled : CompiledRegex) (v : View) : Type 0 where
  pub kind : are_bytes v.kind ≡ not compiled.units
  pub made : IsMadeFor (target_of compiled) (input_of v)

-- both ends of an item are at places, and so are those of each range that a group took
abbrev pub IsItemAtPlaces : Reading → Item → Type 0
IsItemAtPlaces reading i = AreAtPlaces reading (i.start, i.end) × All (λ g. IfSome g (AreAtPlaces reading)) i.groups

-- An item at places, if any, is the result of a run or of a search, and was written to slots.
abbrev pub IsWritten : (Option Item → Type 0) → Reading → Option (Range ℕ) → List (Option (Range ℕ)) → List (Option (Range ℕ)) → Type 0
IsWritten IsResult reading found before after = (i : Option Item) × IsResult i × IfSome i (IsItemAtPlaces reading) × Fills i found before after

-- The items that searches find one behind another from an offset on, all of them at places.
pub record Listed (program : Program) (v : View) (at : ℕ) : Type 0 where
  pub items : List Item
  pub lists : ∥ Lists program (input_of v) (Some at) items ∥₁
  pub inside : All (IsItemAtPlaces (reading_of v)) items

-- A text may be searched with a program: from each place its run ends, and reads at places, and searches find items one behind
-- another.
pub record IsSearchable (program : Program) (v : View) : Type 0 where
  pub suits : Suits program v
  pub ends : (o : ℕ) → IsAtPlace (reading_of v) o → IsComputed program (input_of v) Forward (first_state program o ∷ [])
  pub reads : (o : ℕ) → IsAtPlace (reading_of v) o → ReadOn program (input_of v) (reading_of v) Forward (first_state program o ∷ []) (outermost [])
  pub lists : (p : ℕ) → p ≤ length (reading_of v).points → Listed program v (offset (reading_of v) p)

-- A search: a program, and what is shown of a text.
pub record Search : Type 0 where
  pub compiled : CompiledRegex
  pub view : View
  pub searchable : IsSearchable (program_of compiled) view

-- of the places up to one, the last that has no greater offset
unfoldable pub last_place : Reading → (at : ℕ) → ℕ → ℕ
last_place reading at zero = zero
last_place reading at (suc p) = if nat_le (offset reading (suc p)) at then suc p else last_place reading at p

-- the place at an offset
abbrev pub place_at : Reading → ℕ → ℕ
place_at reading at = last_place reading at (length reading.points)

pub last_place-le : (reading : Reading) (at p : ℕ) → last_place reading at p ≤ p
unfolding last_place
last_place-le reading at zero = omega arith
last_place-le reading at (suc p) =
    let before = last_place-le reading at p in
    cond_both (nat_le (offset reading (suc p)) at) (suc p) (last_place reading at p) (λ q. q ≤ suc p) (λ _. omega arith) (λ _. omega (arith, before))

-- the items from an offset on
abbrev pub items_from : Search → ℕ → List Item
items_from s at = (s.searchable.lists (place_at (reading_of s.view) at) (last_place-le (reading_of s.view) at (length (reading_of s.view).points))).items

-- how many places lie behind that of an offset
abbrev pub places_behind : Search → ℕ → ℕ
places_behind s at = length (reading_of s.view).points - place_at (reading_of s.view) at

-- an offset is that of a place of the text
abbrev pub IsPosition : Search → ℕ → Type 0
IsPosition s at = IsAtPlace (reading_of s.view) at

-- a search may start at the offset of a place, or past the end
abbrev pub IsStart : Search → ℕ → Type 0
IsStart s at = (place : ℕ) × Begins (reading_of s.view) at place

-- a search begins where it starts, and past the end nowhere
abbrev pub StartsAt : Search → ℕ → Option ℕ → Type 0
StartsAt s at position = position ≡ begins_at (input_of s.view) at

-- a match lies in the text that is searched, between characters, and its groups have the program's names
abbrev pub IsMatchOf : Search → Match → Type 0
IsMatchOf s m = IsItemAtPlaces (reading_of s.view) (match.item_of m) × (names_of_match m ≡ names_of s.compiled)

-- What a step of an iterator gave, from one position to another: the first of the items that were coming, before the others;
-- nothing where none was coming; or an error. With nothing and with an error there is no position any more.
abbrev pub Steps : {E : Type 0} → Search → Option ℕ → Option (Result Match E) → Option ℕ → Type 0
Steps s before None after = (coming_on (items_from s) before ≡ []) × (after ≡ None)
Steps s before (Some (Ok m)) after = (coming_on (items_from s) before ≡ match.item_of m ∷ coming_on (items_from s) after) × IsMatchOf s m
Steps s before (Some (Err e)) after = after ≡ None
