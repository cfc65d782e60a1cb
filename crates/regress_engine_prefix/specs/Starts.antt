-- What start predicates say of the bytes at an offset.
use Rattle.std.specs.Prelude.{◌≡◌, ◌≢◌, ℕ, ◌≤◌, Bool, true, false, List, [], length, take, drop, slice_get, chars, encode_utf8_all, All, IfSome}
use Rattle.std.specs.Str.{IsUtf8, IsCharBoundary}
use Rattle.regress_meaning.specs.Text.{holds}
use Rattle.regress_meaning.specs.TableParts.{is_code_point}
use Rattle.regress_meaning.specs.Meaning.{Context, State, Forward, is_some_and}
use Rattle.regress_meaning.specs.Offsets.{of_utf8, offset}
use Rattle.regress_front_bytes.specs.Bitmaps.{byte_bitmap_contains}
use Rattle.regress_front_nodes.specs.Trees.{Tree}
use Rattle.regress_front_nodes.specs.TreeMeaning.{node_outcomes}
use Rattle.regress_engine_scanning.specs.Units.{AreAscii}
use Rattle.regress_engine_scanning.specs.BytePairs.{IsLowPair, begins_pair}
use Rattle.regress_engine_prefix.specs.FirstBytes.{MayLead}
use Rattle.regress_engine_scanning.specs.Landmarks.{IsLow, begins_by}
use Rattle.regress_engine_scanning.specs.NibbleSets.{nibble_set_contains}
use Rattle.regress_engine_scanning.specs.WordStarts.{IsLowWord, begins_word, passes_before}
use Rattle.regress_engine_prefix.specs.Reaches.{AreLowTo}
use Rattle.regress_engine_prefix.specs.Prefixes.{Holds, first_literal, HasBytes}
use Rattle.regress_engine_prefix.specs.declared.prefix.Prefix.{Prefix}
use Rattle.regress_engine_prefix.specs.declared.prefix.Prefix.TheVariants.{Start}
use Rattle.regress_engine_prefix.specs.declared.start.StartPredicate.{StartPredicate}
use Rattle.regress_engine_prefix.specs.declared.start.StartPredicate.TheVariants.{Arbitrary, ByteSet1, ByteSet2, ByteSet3, ByteSeq, ByteBracket, ByteNear, StartAnchored}
use Rattle.regress_engine_prefix.specs.declared.start.StartPredicate.TheVariants as variant

-- the bytes from the offset on begin as the predicate says
abbrev pub BeginsAs : StartPredicate → List ℕ → ℕ → Type 0
BeginsAs Arbitrary bytes at = Unit {0}
BeginsAs (ByteSet1 set) bytes at = is_some_and (slice_get bytes at) (holds set) ≡ true
BeginsAs (ByteSet2 set) bytes at = is_some_and (slice_get bytes at) (holds set) ≡ true
BeginsAs (ByteSet3 set) bytes at = is_some_and (slice_get bytes at) (holds set) ≡ true
BeginsAs (ByteSeq front) bytes at = take (length front.items) (drop at bytes) ≡ front.items
BeginsAs (ByteBracket set) bytes at = is_some_and (slice_get bytes at) (byte_bitmap_contains set) ≡ true
BeginsAs (ByteNear set landmark) bytes at = begins_by set landmark bytes at ≡ true
BeginsAs (variant.BytePair pair) bytes at = begins_pair pair bytes at ≡ true
BeginsAs (variant.WordStart word) bytes at = begins_word word bytes at ≡ true
BeginsAs StartAnchored bytes at = at ≡ 0

-- wherever the prefix holds, the bytes begin as the predicate says
abbrev pub SaysNoMore : StartPredicate → Prefix → Type 0
SaysNoMore start prefix = (place : ℕ) (bytes : List ℕ) (at : ℕ) (end : ℕ) → (place ≡ 0 → at ≡ 0)
    → Holds prefix place (drop at bytes) end → BeginsAs start bytes at

-- it is `Arbitrary`
abbrev pub is_arbitrary : StartPredicate → Bool
is_arbitrary Arbitrary = true
is_arbitrary _ = false

-- wherever the bytes of a text begin as the predicate says a character begins or the text ends, unless it is `Arbitrary`
abbrev pub HitsBoundaries : StartPredicate → Type 0
HitsBoundaries start = is_arbitrary start ≡ false → (bytes : List ℕ) → IsUtf8 bytes → (at : ℕ) → BeginsAs start bytes at → IsCharBoundary bytes at

-- it is `StartAnchored` only if the condition holds
abbrev pub IsAnchoredOnlyIf : Type 0 → StartPredicate → Type 0
IsAnchoredOnlyIf condition StartAnchored = condition
IsAnchoredOnlyIf condition _ = Unit {0}

-- these bytes are looked for
abbrev pub IsSequence : StartPredicate → List ℕ → Type 0
IsSequence (ByteSeq front) bs = front.items ≡ bs
IsSequence _ bs = ⊥

-- where two or more bytes are known, all of them are looked for
abbrev pub KeepsSequence : Prefix → StartPredicate → Type 0
KeepsSequence prefix start = (bs : List ℕ) → HasBytes prefix bs → 2 ≤ length bs → IsSequence start bs

-- a literal of two or more bytes with which a tree begins is looked for
abbrev pub KeepsLiteral : Tree → StartPredicate → Type 0
KeepsLiteral t start = IfSome (first_literal t) (λ bs. 2 ≤ length bs → IsSequence start bs)

-- In each text of UTF-8 the bytes begin so at the offset of each place from which the tree has an outcome.
pub record IsStartOf (start : StartPredicate) (t : Tree) : Type 0 where
  pub each : (bytes : List ℕ) → IsUtf8 bytes → (context : Context) → context.text ≡ chars bytes → (s : State)
      → node_outcomes context t Forward s ≢ [] → BeginsAs start bytes (offset (of_utf8 bytes) s.place)

-- the prefix is that the place is the start of the text
abbrev pub IsAtStart : Prefix → Type 0
IsAtStart Start = Unit {0}
IsAtStart _ = ⊥

-- where it is `StartAnchored` the tree has outcomes at the start of a text alone
abbrev pub HoldsAtStart : Tree → StartPredicate → Type 0
HoldsAtStart t StartAnchored = (context : Context) → All is_code_point context.text → (s : State) → node_outcomes context t Forward s ≢ [] → s.place ≡ 0
HoldsAtStart t _ = Unit {0}

-- it speaks of bytes
abbrev pub tells_bytes : StartPredicate → Bool
tells_bytes Arbitrary = false
tells_bytes StartAnchored = false
tells_bytes _ = true

-- each byte that it tells is below 0x80: so it may be told of 16-bit units too
abbrev pub IsPlain : StartPredicate → Type 0
IsPlain Arbitrary = Unit {0}
IsPlain (ByteSet1 set) = AreAscii (holds set)
IsPlain (ByteSet2 set) = AreAscii (holds set)
IsPlain (ByteSet3 set) = AreAscii (holds set)
IsPlain (ByteSeq front) = AreAscii (holds front.items)
IsPlain (ByteBracket set) = AreAscii (byte_bitmap_contains set)
IsPlain (ByteNear set landmark) = AreAscii (byte_bitmap_contains set) × IsLow landmark
IsPlain (variant.BytePair pair) = IsLowPair pair
IsPlain (variant.WordStart word) = IsLowWord word
IsPlain StartAnchored = Unit {0}

-- each byte of its set is one with which a character may begin
abbrev pub TellsLeads : StartPredicate → Type 0
TellsLeads (ByteBracket set) = (b : ℕ) → byte_bitmap_contains set b ≡ true → MayLead b
TellsLeads _ = Unit {0}

-- a literal of two or more bytes below 0x80 with which a tree begins is looked for
abbrev pub KeepsAscii : Tree → StartPredicate → Type 0
KeepsAscii t start = IfSome (first_literal t) (λ bs. 2 ≤ length bs → AreAscii (holds bs) → IsSequence start bs)

-- up to where the byte of a landmark stands there are characters below 0x80 alone, where so many are told
abbrev pub AreNear : StartPredicate → List ℕ → Type 0
AreNear (ByteNear set landmark) points = AreLowTo landmark points
AreNear _ points = Unit {0}

-- no character of a word stands in front of a place, where it tells that words begin
abbrev pub IsApart : StartPredicate → List ℕ → ℕ → Type 0
IsApart (variant.WordStart word) points place = ¬ (passes_before (nibble_set_contains word.word) points place ≡ true)
IsApart _ points place = Unit {0}

-- it tells a landmark, or what stands in front
abbrev pub tells_beside : StartPredicate → Bool
tells_beside (ByteNear set landmark) = true
tells_beside (variant.WordStart word) = true
tells_beside _ = false

-- In each text of code points the bytes of the characters from a place on begin so, wherever the tree has an outcome; a byte so
-- far on is so many characters on; and what may not stand in front does not.
pub record BeginsCharacters (start : StartPredicate) (t : Tree) : Type 0 where
  pub each : (context : Context) → All is_code_point context.text → (s : State) → node_outcomes context t Forward s ≢ []
      → BeginsAs start (encode_utf8_all (drop s.place context.text)) 0
  pub near : (context : Context) → All is_code_point context.text → (s : State) → node_outcomes context t Forward s ≢ []
      → AreNear start (drop s.place context.text)
  pub apart : (context : Context) → All is_code_point context.text → (s : State) → node_outcomes context t Forward s ≢ []
      → IsApart start context.text s.place

-- A start predicate serves a tree, for a program of bytes or of units: the bytes begin so wherever the tree has an outcome, only
-- where a character begins or the text ends they begin so, and for units it is plain, and characters begin so.
pub record Serves (units : Bool) (t : Tree) (start : StartPredicate) : Type 0 where
  pub begins : IsStartOf start t
  pub boundary : HitsBoundaries start
  pub first : HoldsAtStart t start
  pub plain : units ≡ true → IsPlain start
  pub characters : units ≡ true → BeginsCharacters start t

-- they are equal, a sequence in its bytes
abbrev pub IsSameStart : StartPredicate → StartPredicate → Type 0
IsSameStart (ByteSeq bytes) (ByteSeq others) = others.items ≡ bytes.items
IsSameStart (ByteSeq bytes) _ = ⊥
IsSameStart start other = other ≡ start
