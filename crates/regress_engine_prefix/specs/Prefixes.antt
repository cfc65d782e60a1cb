-- What is foretold of a node before it is matched.
use Rattle.std.specs.Prelude.{◌≡◌, ℕ, true, List, length, take, drop, slice_get, All, Option, Some, None, IfSome, encode_utf8_all}
use Rattle.regress_meaning.specs.TableParts.{is_code_point}
use Rattle.regress_meaning.specs.Meaning.{Context, State, Forward, is_some_and}
use Rattle.regress_front_bytes.specs.declared.bitmaps.ByteBitmap.{ByteBitmap}
use Rattle.regress_front_bytes.specs.Bitmaps.{byte_bitmap_contains}
use Rattle.regress_front_nodes.specs.Trees.{Tree}
use Rattle.regress_front_nodes.specs.Trees as node
use Rattle.regress_front_nodes.specs.TreeMeaning.{node_outcomes}
use Rattle.regress_front_nodes.specs.WellFormed.{AreLawful}
use Rattle.regress_engine_prefix.specs.FirstBytes.{MayLead}
use Rattle.regress_engine_prefix.specs.declared.prefix.Prefix.{Prefix}
use Rattle.regress_engine_prefix.specs.declared.prefix.Prefix.TheVariants.{Still, Unknown, Start, Bytes, First, Pair}

-- each node of the tree is as it has to be, for some number of groups
abbrev pub IsLawful : Tree → Type 0
IsLawful t = (n : ℕ) × AreLawful n t

-- what holds of a match from a place to another, before these bytes
abbrev pub Holds : Prefix → ℕ → List ℕ → ℕ → Type 0
Holds Still place bytes end = end ≡ place
Holds Unknown place bytes end = Unit {0}
Holds Start place bytes end = place ≡ 0
Holds (Bytes front) place bytes end = take (length front.items) bytes ≡ front.items
Holds (First set) place bytes end = is_some_and (slice_get bytes 0) (byte_bitmap_contains set) ≡ true
Holds (Pair first second) place bytes end =
    (is_some_and (slice_get bytes 0) (byte_bitmap_contains first) ≡ true) × (is_some_and (slice_get bytes 1) (byte_bitmap_contains second) ≡ true)

-- it holds of each outcome from a state
abbrev pub HoldsFrom : Prefix → Context → State → List State → Type 0
HoldsFrom prefix context s outcomes = All (λ u. Holds prefix s.place (encode_utf8_all (drop s.place context.text)) u.place) outcomes

-- where the second holds the first does
abbrev pub IsWeaker : Prefix → Prefix → Type 0
IsWeaker weak strong = (place : ℕ) (bytes : List ℕ) (end : ℕ) → Holds strong place bytes end → Holds weak place bytes end

-- where the prefix holds, a byte of the set stands second
abbrev pub HasSecondByte : Prefix → ByteBitmap → Type 0
HasSecondByte prefix set =
    (place : ℕ) (bytes : List ℕ) (end : ℕ) → Holds prefix place bytes end → is_some_and (slice_get bytes 1) (byte_bitmap_contains set) ≡ true

-- known bytes begin with the first byte of a character
abbrev pub LeadsCharacters : Prefix → Type 0
LeadsCharacters (Bytes front) = (b : ℕ) → slice_get front.items 0 ≡ Some b → MayLead b
LeadsCharacters (First set) = (b : ℕ) → byte_bitmap_contains set b ≡ true → MayLead b
LeadsCharacters (Pair first second) = (b : ℕ) → byte_bitmap_contains first b ≡ true → MayLead b
LeadsCharacters _ = Unit {0}

-- the literal with which a tree begins
abbrev pub first_literal : Tree → Option (List ℕ)
first_literal (node.bytes bs) = Some bs
first_literal (node.cat a b) = first_literal a
first_literal (node.capture k name a) = first_literal a
first_literal (node.submatch node.atomic first last a) = first_literal a
first_literal node.empty = None
first_literal node.goal = None
first_literal (node.char c) = None
first_literal (node.byte_set bs) = None
first_literal (node.char_set cs) = None
first_literal node.no_part = None
first_literal (node.alt a b) = None
first_literal node.any = None
first_literal node.any_in_line = None
first_literal (node.line_start multiline) = None
first_literal (node.line_end multiline) = None
first_literal (node.boundary inverted folded) = None
first_literal (node.back k icase) = None
first_literal (node.bracket inverted intervals) = None
first_literal (node.string_set strings icase) = None
first_literal (node.submatch (node.lookaround negated backward) first last a) = None
first_literal (node.loop a first last least most greedy) = None
first_literal (node.single_loop a least most greedy) = None

-- these bytes are known
abbrev pub HasBytes : Prefix → List ℕ → Type 0
HasBytes (Bytes front) bs = front.items ≡ bs
HasBytes _ bs = ⊥

-- It holds of each outcome of the tree, in each text, and keeps all of the literal with which the tree begins, if it does.
pub record Foretells (prefix : Prefix) (t : Tree) : Type 0 where
  pub each : (context : Context) → All is_code_point context.text → (s : State) → HoldsFrom prefix context s (node_outcomes context t Forward s)
  pub leads : LeadsCharacters prefix
  pub spelled : IfSome (first_literal t) (HasBytes prefix)
