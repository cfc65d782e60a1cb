-- What a table is made of, as plain lists, when such parts are lawful, and the small table's parts.
use Rattle.std.specs.Prelude.{◌≡◌, ℕ, ◌+◌, ◌-◌, ◌<◌, ◌≤◌, Bool, true, false, ◌==◌, List, [], ◌∷◌, ◌++◌, Option, Some, None, option_map, if◌then◌else◌, map, All}
use Rattle.std.specs.List.{list_any}
use lib.Chars.{codes}
use Rattle.regress_meaning.specs.Text.{between, count_up, same_text}
use Rattle.regress_meaning.specs.Table.{Table, last_code_point, code_points, count_below}
use Rattle.regress_meaning.specs.Class.{is_letter, is_ascii_word}

-- Pairs (from, to), intervals (first, last), and lists by name.
pub record TableParts : Type 0 where
  pub fold : List (ℕ × ℕ)
  pub upper : List (ℕ × ℕ)
  pub id_start : List (ℕ × ℕ)
  pub id_continue : List (ℕ × ℕ)
  pub properties : List (List ℕ × List (ℕ × ℕ))
  pub sequences : List (List ℕ × List (List ℕ))

-- what the first pair from c gives, and c itself where there is none
unfoldable pub image : List (ℕ × ℕ) → ℕ → ℕ
image [] c = c
image (pair ∷ pairs) c = if pair.0 == c then pair.1 else image pairs c

-- c lies in one of the intervals
unfoldable pub in_intervals : List (ℕ × ℕ) → ℕ → Bool
in_intervals intervals c = list_any (λ i. between i.0 i.1 c) intervals

-- the first entry with that key
unfoldable pub entry : {A : Type 0} → List ℕ → List (List ℕ × A) → Option A
entry key [] = None
entry key (e ∷ es) = if same_text key e.0 then Some e.1 else entry key es

-- The table that the parts stand for.
abbrev pub table_of : TableParts → Table
table_of parts = record {
  fold = image parts.fold;
  upper = image parts.upper;
  is_id_start = in_intervals parts.id_start;
  is_id_continue = in_intervals parts.id_continue;
  property = λ key. option_map in_intervals (entry key parts.properties);
  sequences = λ key. entry key parts.sequences;
}

abbrev pub is_surrogate : ℕ → Bool
is_surrogate = between 0xD800 0xDFFF

abbrev pub is_code_point : ℕ → Type 0
is_code_point c = c ≤ last_code_point

-- the first parts of the pairs strictly rise
abbrev pub PairsRise : List (ℕ × ℕ) → Type 0
PairsRise [] = Unit {0}
PairsRise (p ∷ []) = Unit {0}
PairsRise (p ∷ q ∷ pairs) = (p.0 < q.0) × PairsRise (q ∷ pairs)

-- the intervals are of code points, none is empty, and between two of them lies a code point of neither
abbrev pub IntervalsRise : List (ℕ × ℕ) → Type 0
IntervalsRise [] = Unit {0}
IntervalsRise (i ∷ []) = (i.0 ≤ i.1) × is_code_point i.1
IntervalsRise (i ∷ j ∷ intervals) = (i.0 ≤ i.1) × (i.1 + 1 < j.0) × IntervalsRise (j ∷ intervals)

-- ASCII's lower case, and anything else as it is
abbrev pub ascii_lower : ℕ → ℕ
ascii_lower c = if between 0x41 0x5A c then c + 0x20 else c

-- ASCII's upper case, and anything else as it is
abbrev pub ascii_upper : ℕ → ℕ
ascii_upper c = if between 0x61 0x7A c then c - 0x20 else c

-- both maps of case are so
abbrev pub BothMaps : TableParts → (List (ℕ × ℕ) → Type 0) → Type 0
BothMaps parts fact = fact parts.fold × fact parts.upper

-- all lists of intervals are so
abbrev pub EachSet : TableParts → (List (ℕ × ℕ) → Type 0) → Type 0
EachSet parts fact = fact parts.id_start × fact parts.id_continue × All (λ e. fact e.1) parts.properties

-- pairs and strings are of code points
abbrev pub KeepsRange : TableParts → Type 0
KeepsRange parts = BothMaps parts (All (λ p. is_code_point p.0 × is_code_point p.1)) × All (λ e. All (All is_code_point) e.1) parts.sequences

-- no pair is out of order
abbrev pub KeepsOrder : TableParts → Type 0
KeepsOrder parts = BothMaps parts PairsRise

-- on c, the maps are ASCII's
abbrev pub HasAsciiCase : TableParts → ℕ → Type 0
HasAsciiCase parts c = (image parts.fold c ≡ ascii_lower c) × (image parts.upper c ≡ ascii_upper c)

-- on c, a map applied twice is the map applied once
abbrev pub IsIdempotentAt : ℕ → List (ℕ × ℕ) → Type 0
IsIdempotentAt c pairs = image pairs (image pairs c) ≡ image pairs c

-- at most four code points have the image d
abbrev pub HasSmallClass : ℕ → List (ℕ × ℕ) → Type 0
HasSmallClass d pairs = count_below code_points (λ c. image pairs c == d) ≤ 4

-- c is no surrogate's source: unless it is one itself, its image is none
abbrev pub AvoidsSurrogates : ℕ → List (ℕ × ℕ) → Type 0
AvoidsSurrogates c pairs = is_surrogate c ≡ false → is_surrogate (image pairs c) ≡ false

-- each list of intervals is in order, with no two that meet
abbrev pub KeepsCanonical : TableParts → Type 0
KeepsCanonical parts = EachSet parts IntervalsRise

-- c is no surrogate, and passes where it is below 80
abbrev pub FitsIdentifier : (ℕ → Bool) → ℕ → Type 0
FitsIdentifier passes c = (c < 0x80 → passes c ≡ true) × (is_surrogate c ≡ false)

-- where c is in an identifier, it may be: below 80 identifiers begin with letters alone and go on with letters, digits and `_`
abbrev pub KeepsIdentifierAt : TableParts → ℕ → Type 0
KeepsIdentifierAt parts c =
    (in_intervals parts.id_start c ≡ true → FitsIdentifier is_letter c) × (in_intervals parts.id_continue c ≡ true → FitsIdentifier is_ascii_word c)

-- The eight laws of a table's parts. A table is lawful where its parts keep them.
pub record IsLawful (parts : TableParts) : Type 0 where
  pub range : KeepsRange parts
  pub order : KeepsOrder parts
  -- below 80 the maps are ASCII's
  pub ascii_case : (c : ℕ) → c < 0x80 → HasAsciiCase parts c
  -- a map applied twice is the map applied once
  pub idempotent : BothMaps parts (λ pairs. (c : ℕ) → IsIdempotentAt c pairs)
  -- at most four code points have the same image
  pub class_size : BothMaps parts (λ pairs. (d : ℕ) → HasSmallClass d pairs)
  -- what is no surrogate never maps to one
  pub surrogate : BothMaps parts (λ pairs. (c : ℕ) → AvoidsSurrogates c pairs)
  pub canonical : KeepsCanonical parts
  -- identifiers hold no surrogate, and of ASCII what they may
  pub identifier : (c : ℕ) → KeepsIdentifierAt parts c

-- n pairs from c on, each to what lies as far above it as d lies above c
abbrev pub shifted : ℕ → ℕ → ℕ → List (ℕ × ℕ)
shifted c d n = map (λ k. (c + k, d + k)) (count_up 0 n)

-- The parts of the small table, which knows ASCII, a few letters beyond it and four names.
abbrev pub small_parts : TableParts
small_parts = record {
  fold = shifted 0x41 0x61 26 ++ (0xC9, 0xE9) ∷ (0x17F, 0x73) ∷ (0x398, 0x3B8) ∷ (0x3A3, 0x3C3) ∷ (0x3C2, 0x3C3) ∷ (0x3D1, 0x3B8) ∷ (0x3F4, 0x3B8) ∷ (0x212A, 0x6B) ∷ [];
  upper = shifted 0x61 0x41 26 ++ (0xE9, 0xC9) ∷ (0x3B8, 0x398) ∷ (0x3C2, 0x3A3) ∷ (0x3C3, 0x3A3) ∷ (0x3D1, 0x398) ∷ [];
  id_start = (0x41, 0x5A) ∷ (0x61, 0x7A) ∷ (0xC9, 0xC9) ∷ (0xE9, 0xE9) ∷ [];
  id_continue = (0x30, 0x39) ∷ (0x41, 0x5A) ∷ (0x5F, 0x5F) ∷ (0x61, 0x7A) ∷ (0xC9, 0xC9) ∷ (0xE9, 0xE9) ∷ [];
  properties = (codes "Any", (0, last_code_point) ∷ []) ∷ (codes "ASCII", (0, 0x7F) ∷ []) ∷ (codes "ASCII_Hex_Digit", (0x30, 0x39) ∷ (0x41, 0x46) ∷ (0x61, 0x66) ∷ []) ∷ [];
  sequences = (codes "Emoji_Keycap_Sequence", map (λ c. c ∷ 0xFE0F ∷ 0x20E3 ∷ []) (codes "#*0123456789")) ∷ [];
}
