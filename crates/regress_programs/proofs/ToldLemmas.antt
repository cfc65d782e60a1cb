-- What is told of an input is told of the text that it shows, and lies in it.
use Rattle.std.proofs.Common.{◌≡◌, ℕ, List, [], ◌∷◌, All, length, Option, Some, None, option_map, IfSome, true, sym, subst}
use Rattle.std.proofs.lemmas.List.Elements.{All-nil, All-cons, All-head, All-tail}
use Rattle.std.specs.Str.{IsUtf8, IsCharBoundary}
use Rattle.std.specs.declared.ops.Range.{Range}
use Rattle.regress_meaning.specs.Offsets.{Reading, offset, of_utf8, told, Begins}
use Rattle.regress_front.specs.Trees.{Tree}
use Rattle.regress_match.specs.declared.found.Match.{Match}
use Rattle.regress_match.specs.Slots.{Fills}
use Rattle.regress_match.specs.TextRanges.{LiesBetween, LiesInText}
use Rattle.regress_match.specs.Views.{ends, item_of}
use Rattle.regress_front_bytes.proofs.TextLemmas.{offset_is_boundary}
use Rattle.regress_engine_input.specs.Views.{View, Kind, AreOfKind, are_bytes, reading_of, reading_of_kind}
use Rattle.regress_engine_insn.specs.Layout.{Target}
use Rattle.regress_engine_code.specs.declared.compiled.CompiledRegex.{CompiledRegex}
use Rattle.regress_engine_runs.specs.Meets.{AreAtPlaces, IsAtPlace}
use Rattle.regress_engine_search.specs.Search.{IsItemAtPlaces}
use Rattle.regress_engine_search.proofs.ProducerLemmas.{match-in_bytes}
use Rattle.regress_programs.specs.declared.slots.Anchored.{Anchored}
use Rattle.regress_programs.specs.Filling.{HoldsOfSlots, SlotsAreAtPlaces, first_told}
use Rattle.regress_programs.specs.Outcomes.{outcome_of_tree}
use Rattle.regress_programs.specs.Coming.{BeginsAndEndsAtStarts}
use Rattle.regress_programs.specs.Slotted.{SlotsLieInText, SlotsLieInUnits, EndsAreStarts}
use Rattle.regress_programs.specs.Units.{LiesInUnits, IsMatchInUnits}
use Rattle.regress_programs.proofs.IterationLemmas.{start_of_boundary, starts-inside as starts-at_ends}
use Rattle.regress_programs.proofs.UnitLemmas.{match-in, range-in}

pub told-shown : (v w : View) → v ≡ w → (target : Target) (n : ℕ) (t : Tree) (start : ℕ) (found : Option Match)
    → ((place : ℕ) → Begins (reading_of v) start place → option_map item_of found ≡ option_map (told (reading_of v)) (outcome_of_tree target n t (reading_of v).points place))
    → (place : ℕ) → Begins (reading_of w) start place → option_map item_of found ≡ option_map (told (reading_of w)) (outcome_of_tree target n t (reading_of w).points place)
told-shown v w same target n t start found =
    subst (λ (x : View). (place : ℕ) → Begins (reading_of x) start place
    → option_map item_of found ≡ option_map (told (reading_of x)) (outcome_of_tree target n t (reading_of x).points place)) same

pub inside-shown : (v w : View) → v ≡ w → (found : Option Match) → IfSome found (λ m. IsItemAtPlaces (reading_of v) (item_of m))
    → IfSome found (λ m. IsItemAtPlaces (reading_of w) (item_of m))
inside-shown v w same found = subst (λ (x : View). IfSome found (λ m. IsItemAtPlaces (reading_of x) (item_of m))) same

-- over bytes a match lies in the text
pub lies-in_text : (kind : Kind) (bytes : List ℕ) → are_bytes kind ≡ true → AreOfKind kind bytes → (found : Option Match)
    → IfSome found (λ m. IsItemAtPlaces (reading_of_kind kind bytes) (item_of m)) → IfSome found (LiesInText bytes)
lies-in_text kind bytes are all None inside = tt
lies-in_text kind bytes are all (Some m) inside = match-in_bytes kind bytes are all m inside

-- and a search may begin at both its ends
pub starts-in_text : (bytes : List ℕ) → IsUtf8 bytes → (found : Option Match) → IfSome found (LiesInText bytes) → IfSome found (BeginsAndEndsAtStarts bytes)
starts-in_text bytes utf8 None lies = tt
starts-in_text bytes utf8 (Some m) lies = starts-at_ends bytes utf8 m lies

-- over units it lies in them
pub lies-in_units : (r : Reading) (units : List ℕ) → offset r (length r.points) ≡ length units → (found : Option Match)
    → IfSome found (λ m. IsItemAtPlaces r (item_of m)) → IfSome found (IsMatchInUnits r units)
lies-in_units r units last None inside = tt
lies-in_units r units last (Some m) inside = match-in r units last m inside

-- ---- slots

pub fills-shown : (v w : View) → v ≡ w → (anchored : Anchored) (compiled : CompiledRegex) (n : ℕ) (t : Tree) (start : ℕ) (found : Option (Range ℕ)) (before after : List (Option (Range ℕ)))
    → ((place : ℕ) → Begins (reading_of v) start place → Fills (first_told anchored compiled (reading_of v) n t place) found before after)
    → (place : ℕ) → Begins (reading_of w) start place → Fills (first_told anchored compiled (reading_of w) n t place) found before after
fills-shown v w same anchored compiled n t start found before after =
    subst (λ (x : View). (place : ℕ) → Begins (reading_of x) start place → Fills (first_told anchored compiled (reading_of x) n t place) found before after) same

-- another property of the ranges
pub holds-weaker : (P Q : Range ℕ → Type 0) → ((r : Range ℕ) → P r → Q r) → (found : Option (Range ℕ)) (slots : List (Option (Range ℕ)))
    → HoldsOfSlots P found slots → HoldsOfSlots Q found slots
holds-weaker P Q weaker None slots holds = tt
holds-weaker P Q weaker (Some r) slots (whole, all) = (weaker r whole, each slots all)
  where
    one : (g : Option (Range ℕ)) → IfSome g P → IfSome g Q
    one None h = tt
    one (Some x) h = weaker x h

    each : (gs : List (Option (Range ℕ))) → All (λ g. IfSome g P) gs → All (λ g. IfSome g Q) gs
    each [] all = All-nil (λ g. IfSome g Q)
    each (g ∷ gs) all =
        All-cons (λ g. IfSome g Q) g gs (one g (All-head (λ g. IfSome g P) g gs all)) (each gs (All-tail (λ g. IfSome g P) g gs all))

-- over bytes they lie in the text between characters, and a search may begin at both ends of the match
pub slots-in_text : (bytes : List ℕ) → IsUtf8 bytes → (found : Option (Range ℕ)) (slots : List (Option (Range ℕ)))
    → SlotsAreAtPlaces (of_utf8 bytes) found slots → SlotsLieInText bytes found slots
slots-in_text bytes utf8 =
    holds-weaker (λ r. AreAtPlaces (of_utf8 bytes) (ends r)) (LiesBetween bytes)
    (λ r places. (places.2, boundary r.start places.0, boundary r.end places.1))
  where
    boundary : (at : ℕ) → IsAtPlace (of_utf8 bytes) at → IsCharBoundary bytes at
    boundary at (p, room, here) = subst (IsCharBoundary bytes) (sym here) (offset_is_boundary bytes utf8 p)

pub ends-are_starts : (bytes : List ℕ) → IsUtf8 bytes → (found : Option (Range ℕ)) (slots : List (Option (Range ℕ)))
    → SlotsLieInText bytes found slots → EndsAreStarts bytes found
ends-are_starts bytes utf8 None slots lie = tt
ends-are_starts bytes utf8 (Some r) slots lie = (start_of_boundary bytes utf8 r.start lie.0.1, start_of_boundary bytes utf8 r.end lie.0.2)

-- over units they lie in the units
pub slots-in_units : (reading : Reading) (units : List ℕ) → offset reading (length reading.points) ≡ length units
    → (found : Option (Range ℕ)) (slots : List (Option (Range ℕ))) → SlotsAreAtPlaces reading found slots → SlotsLieInUnits reading units found slots
slots-in_units reading units last = holds-weaker (λ r. AreAtPlaces reading (ends r)) (LiesInUnits reading units) (range-in reading units last)

-- what is read is what is shown
pub slots-shown : (v w : View) → v ≡ w → (found : Option (Range ℕ)) (slots : List (Option (Range ℕ)))
    → SlotsAreAtPlaces (reading_of v) found slots → SlotsAreAtPlaces (reading_of w) found slots
slots-shown v w same found slots = subst (λ (x : View). SlotsAreAtPlaces (reading_of x) found slots) same
