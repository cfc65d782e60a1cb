-- Why calls may be refused.
use Rattle.std.specs.Prelude.{◌≡◌, ◌<◌, ◌⊎◌, ℕ, List, length}
use Rattle.regress_meaning.specs.Offsets.{Reading, Begins}
use Rattle.regress_engine_input.specs.Views.{Kind, reading_of_kind}
use Rattle.regress_programs.specs.declared.slots.Anchored.{Anchored}
use Rattle.regress_programs.specs.declared.slots.Anchored.TheVariants.{No}
use Rattle.regress_front_tables.specs.declared.tables.law.TableError.{TableError}
use Rattle.regress_unicode.specs.Unicode.{IsRefusal}
use Rattle.regress.specs.declared.api.Regex.{Regex}
use Rattle.regress.specs.Standing.{names_of_regex}
use Rattle.regress_call_errors.specs.declared.call_error.CallError.{CallError}
use Rattle.regress_call_errors.specs.declared.call_error.CallError.TheVariants.{OutOfMemory, WrongHandle, BadStart, NoRoom, NoGroup, TooManyGroups, TooManySteps}
use Rattle.regress_calls.specs.Codes.{of_table_error}
use Rattle.regress_calls.specs.Handles.{Content, OfTables, OfPattern, OfSearch}
use Rattle.regress_calls.specs.Stopping.{IsStopped}

-- the handle holds no search
abbrev pub HoldsNoSearch : Content → Type 0
HoldsNoSearch (OfSearch r bound) = ⊥
HoldsNoSearch _ = Unit {0}

-- the handle holds no pattern
abbrev pub HoldsNoPattern : Content → Type 0
HoldsNoPattern (OfPattern r) = ⊥
HoldsNoPattern _ = Unit {0}

-- the handle holds no tables
abbrev pub HoldsNoTables : Content → Type 0
HoldsNoTables (OfTables ps) = ⊥
HoldsNoTables _ = Unit {0}

-- no search may begin there
abbrev pub IsNoStart : Reading → ℕ → Type 0
IsNoStart reading start = (place : ℕ) → Begins reading start place → ⊥

-- Why a search in a text of a kind may be refused: no search is held, it may not begin there, memory is refused, or its bound stops it.
abbrev pub MayRefuseSearch : Content → Anchored → Kind → List ℕ → (start : ℕ) → CallError → Type 0
MayRefuseSearch c anchored kind units start WrongHandle = HoldsNoSearch c
MayRefuseSearch c anchored kind units start BadStart = IsNoStart (reading_of_kind kind units) start
MayRefuseSearch c anchored kind units start OutOfMemory = Unit {0}
MayRefuseSearch c anchored kind units start TooManySteps = IsStopped c anchored kind units start
MayRefuseSearch c anchored kind units start _ = ⊥

-- The same of a search for many matches: a match takes no range, or more than there are; and its bound stops it where it then goes on.
abbrev pub MayRefuseMany : Content → Kind → List ℕ → (start next room width : ℕ) → CallError → Type 0
MayRefuseMany c kind units start next room width NoRoom = (width ≡ 0) ⊎ (room < width)
MayRefuseMany c kind units start next room width TooManySteps = IsStopped c No kind units next
MayRefuseMany c kind units start next room width e = MayRefuseSearch c No kind units start e

-- Why a bound is not set: no search is held.
abbrev pub MayRefuseBound : Content → CallError → Type 0
MayRefuseBound c e = (e ≡ WrongHandle) × HoldsNoSearch c

-- Why a call on a pattern may be refused: none is held, or memory is refused.
abbrev pub MayRefusePattern : Content → CallError → Type 0
MayRefusePattern c WrongHandle = HoldsNoPattern c
MayRefusePattern c OutOfMemory = Unit {0}
MayRefusePattern c _ = ⊥

-- Why a call that counts the groups of a pattern may be refused: none is held, it has more than can be counted, or memory is refused.
abbrev pub MayRefuseCounted : Content → CallError → Type 0
MayRefuseCounted c WrongHandle = HoldsNoPattern c
MayRefuseCounted c TooManyGroups = (r : Regex) × (c ≡ OfPattern r) × (65535 < length (names_of_regex r))
MayRefuseCounted c OutOfMemory = Unit {0}
MayRefuseCounted c _ = ⊥

-- Why a call on tables may be refused: none are held, or memory is refused.
abbrev pub MayRefuseTables : Content → CallError → Type 0
MayRefuseTables c WrongHandle = HoldsNoTables c
MayRefuseTables c OutOfMemory = Unit {0}
MayRefuseTables c _ = ⊥

-- Why nothing is shared: neither tables nor a pattern are held, or memory is refused.
abbrev pub MayRefuseSharing : Content → CallError → Type 0
MayRefuseSharing c WrongHandle = HoldsNoTables c × HoldsNoPattern c
MayRefuseSharing c OutOfMemory = Unit {0}
MayRefuseSharing c _ = ⊥

-- Why Unicode's tables are not made: memory is refused, or Unicode's data breaks a law.
abbrev pub MayRefuseMaking : CallError → Type 0
MayRefuseMaking e = (x : TableError) × IsRefusal x × (e ≡ of_table_error x)

-- Why a text is not copied: there is no room, or memory is refused.
abbrev pub MayRefuseCopy : CallError → Type 0
MayRefuseCopy NoRoom = Unit {0}
MayRefuseCopy OutOfMemory = Unit {0}
MayRefuseCopy _ = ⊥

-- The same of a text that a pattern makes.
abbrev pub MayRefuseCopyOf : Content → CallError → Type 0
MayRefuseCopyOf c NoRoom = Unit {0}
MayRefuseCopyOf c e = MayRefusePattern c e

-- The same of the name of a group.
abbrev pub MayRefuseName : Content → (number : ℕ) → CallError → Type 0
MayRefuseName c number NoGroup = (r : Regex) × (c ≡ OfPattern r) × ((number ≡ 0) ⊎ (length (names_of_regex r) < number))
MayRefuseName c number e = MayRefuseCopyOf c e
