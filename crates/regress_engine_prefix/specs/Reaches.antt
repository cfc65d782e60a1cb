-- What matches take, and which byte stands by them.
use Rattle.std.specs.Prelude.{◌≡◌, ℕ, ◌<◌, ◌≤◌, Bool, true, List, ◌∷◌, ◌++◌, length, take, drop, slice_get, All, encode_utf8, encode_utf8_all}
use Rattle.std.specs.List.{list_all}
use Rattle.regress_meaning.specs.TableParts.{is_code_point}
use Rattle.regress_meaning.specs.Meaning.{Context, State, Forward, is_some_and}
use Rattle.regress_front_bytes.specs.Bitmaps.{byte_bitmap_contains}
use Rattle.regress_front_nodes.specs.Trees.{Tree}
use Rattle.regress_front_nodes.specs.TreeMeaning.{node_outcomes}
use Rattle.regress_engine_scanning.specs.Landmarks.{stands}
use Rattle.regress_engine_scanning.specs.declared.landmark.Landmark.{Landmark}
use Rattle.regress_engine_scanning.specs.declared.landmark.Landmark.TheVariants.{Ahead, BehindRun}
use Rattle.regress_engine_prefix.specs.declared.reach.Span.{Span}
use Rattle.regress_engine_prefix.specs.declared.reach.Reach.{Reach}
use Rattle.regress_engine_prefix.specs.declared.reach.Reach.TheVariants.{Unknown, Taken, By}

-- A text up to a rest of it is taken: its bytes are of the set, and so many; where they are exactly so many, all are ASCII.
pub record Takes (span : Span) (text rest : List ℕ) : Type 0 where
  pub front : List ℕ
  pub cut : text ≡ front ++ rest
  pub run : list_all (byte_bitmap_contains span.run) (encode_utf8_all front) ≡ true
  pub least : span.least ≤ length (encode_utf8_all front)
  pub exact : span.exact ≡ true → length (encode_utf8_all front) ≡ span.least
  pub low : span.exact ≡ true → All (λ c. c < 0x80) front

-- nothing may be taken
abbrev pub TakesNothing : Span → Type 0
TakesNothing span = (text : List ℕ) → Takes span text text

-- one character may be taken that begins with a byte that passes
abbrev pub CoversOne : (ℕ → Bool) → Span → Type 0
CoversOne first span = (c : ℕ) (rest : List ℕ) → is_code_point c → is_some_and (slice_get (encode_utf8 c) 0) first ≡ true → Takes span (c ∷ rest) rest

-- the byte stands by a place of a text
abbrev pub StandsAt : Landmark → List ℕ → ℕ → Type 0
StandsAt landmark text place = stands landmark (encode_utf8_all text) (length (encode_utf8_all (take place text))) ≡ true

-- so many characters below 0x80 stand in front as a landmark has its byte further on; behind a run nothing is told
abbrev pub AreLowTo : Landmark → List ℕ → Type 0
AreLowTo (Ahead distance byte) points = All (λ c. c < 0x80) (take distance points)
AreLowTo (BehindRun run byte) points = Unit {0}

-- what holds of a match of a text from a place to another
abbrev pub HoldsTo : Reach → List ℕ → ℕ → ℕ → Type 0
HoldsTo Unknown text place end = Unit {0}
HoldsTo (Taken span) text place end = Takes span (drop place text) (drop end text)
HoldsTo (By landmark) text place end = StandsAt landmark text place × AreLowTo landmark (drop place text)

-- where one holds behind the other, it holds of both
abbrev pub IsBoth : Reach → Reach → Reach → Type 0
IsBoth first second both = (text : List ℕ) (place mid end : ℕ) → HoldsTo first text place mid → HoldsTo second text mid end → HoldsTo both text place end

-- It holds of each outcome of the tree, in each text.
pub record Reaches (reach : Reach) (t : Tree) : Type 0 where
  pub each : (context : Context) → All is_code_point context.text → (s : State)
      → All (λ u. HoldsTo reach context.text s.place u.place) (node_outcomes context t Forward s)

-- Each outcome of the tree takes one character.
pub record TakesOne (t : Tree) : Type 0 where
  pub each : (context : Context) → (s : State)
      → All (λ u. (c : ℕ) × (drop s.place context.text ≡ c ∷ drop u.place context.text)) (node_outcomes context t Forward s)
