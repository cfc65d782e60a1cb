-- What holds of each tree that is rewritten and emitted.
use Rattle.std.specs.Prelude.{◌≡◌, ◌≢◌, ℕ, ◌+◌, ◌<◌, ◌≤◌, true, ◌&&◌, ◌==◌, Option, Some, None, List, [], ◌∷◌, ◌++◌, length, if◌then◌else◌, nat_le, nat_lt, count_by, unwrap_or, All, IfSome}
use Rattle.std.specs.Option.{option_or}
use Rattle.std.specs.Str.{IsUtf8}
use Rattle.regress_meaning.specs.TableParts.{IntervalsRise, is_code_point}
use Rattle.regress_front_core.specs.Limits.{most_members}
use Rattle.regress_front_nodes.specs.Trees.{Tree, empty, goal, char, bytes, byte_set, char_set, cat, no_part, alt, any, any_in_line, line_start, line_end, boundary, capture, back, bracket, string_set, submatch, loop, single_loop}
use Rattle.regress_front_nodes.specs.Singles.{takes_one}

-- the numbers of the capture groups
abbrev pub group_ids : Tree → List ℕ
group_ids (cat a b) = group_ids a ++ group_ids b
group_ids (alt a b) = group_ids a ++ group_ids b
group_ids (capture k name a) = k ∷ group_ids a
group_ids (submatch kind first last a) = group_ids a
group_ids (loop a first last least most greedy) = group_ids a
group_ids (single_loop a least most greedy) = group_ids a
group_ids empty = []
group_ids goal = []
group_ids (char c) = []
group_ids (bytes bs) = []
group_ids (byte_set bs) = []
group_ids (char_set cs) = []
group_ids no_part = []
group_ids any = []
group_ids any_in_line = []
group_ids (line_start multiline) = []
group_ids (line_end multiline) = []
group_ids (boundary inverted folded) = []
group_ids (back k icase) = []
group_ids (bracket inverted intervals) = []
group_ids (string_set strings icase) = []

-- The numbers from the first up to before the last stand in the list, each once, and no other does.
pub record AreNumbered (first last : ℕ) (ids : List ℕ) : Type 0 where
  pub order : first ≤ last
  pub once : (k : ℕ) → count_by (λ id. id == k) ids ≡ (if nat_le first k && nat_lt k last then 1 else 0)

-- how many `Goal`s there are
abbrev pub goals : Tree → ℕ
goals goal = 1
goals (cat a b) = goals a + goals b
goals (alt a b) = goals a + goals b
goals (capture k name a) = goals a
goals (submatch kind first last a) = goals a
goals (loop a first last least most greedy) = goals a
goals (single_loop a least most greedy) = goals a
goals empty = 0
goals (char c) = 0
goals (bytes bs) = 0
goals (byte_set bs) = 0
goals (char_set cs) = 0
goals no_part = 0
goals any = 0
goals any_in_line = 0
goals (line_start multiline) = 0
goals (line_end multiline) = 0
goals (boundary inverted folded) = 0
goals (back k icase) = 0
goals (bracket inverted intervals) = 0
goals (string_set strings icase) = 0

-- the part that stands last
abbrev pub last_part : Tree → Tree
last_part (cat a no_part) = last_part a
last_part (cat a b) = last_part b
last_part a = a

-- the bytes are the UTF-8 of some characters, at least one
abbrev pub AreCharacters : List ℕ → Type 0
AreCharacters bs = (0 < length bs) × IsUtf8 bs

-- the bytes are ASCII, and few
abbrev pub AreFewBytes : List ℕ → Type 0
AreFewBytes bs = (length bs ≤ most_members) × All (λ b. b < 0x80) bs

-- they are code points, and few
abbrev pub AreFewCodePoints : List ℕ → Type 0
AreFewCodePoints cs = (length cs ≤ most_members) × All is_code_point cs

-- Each node is as it has to be, in a tree of n capture groups. A group without a name has none, never the empty text.
abbrev pub AreLawful : ℕ → Tree → Type 0
AreLawful n (char c) = is_code_point c
AreLawful n (bytes bs) = AreCharacters bs
AreLawful n (byte_set bs) = AreFewBytes bs
AreLawful n (char_set cs) = AreFewCodePoints cs
AreLawful n (cat a b) = AreLawful n a × AreLawful n b
AreLawful n (alt a b) = AreLawful n a × AreLawful n b
AreLawful n (capture k name a) = IfSome name (λ text. text ≢ []) × AreLawful n a
AreLawful n (back k icase) = (1 ≤ k) × (k ≤ n)
AreLawful n (bracket inverted intervals) = IntervalsRise intervals
AreLawful n (string_set strings icase) = All (All is_code_point) strings
AreLawful n (submatch kind first last a) = AreNumbered first last (group_ids a) × AreLawful n a
AreLawful n (loop a first last least most greedy) = AreNumbered first last (group_ids a) × (least ≤ most) × AreLawful n a
AreLawful n (single_loop a least most greedy) = (takes_one a ≡ true) × (least ≤ most) × AreLawful n a
AreLawful n empty = Unit {0}
AreLawful n goal = Unit {0}
AreLawful n no_part = Unit {0}
AreLawful n any = Unit {0}
AreLawful n any_in_line = Unit {0}
AreLawful n (line_start multiline) = Unit {0}
AreLawful n (line_end multiline) = Unit {0}
AreLawful n (boundary inverted folded) = Unit {0}

-- The tree of n capture groups is well formed.
pub record IsWellFormed (n : ℕ) (t : Tree) : Type 0 where
  -- one `Goal`
  pub one_goal : goals t ≡ 1
  -- and it stands last
  pub ended : last_part t ≡ goal
  -- groups are numbered from 0, each once
  pub numbered : AreNumbered 0 n (group_ids t)
  -- each node is as it has to be
  pub lawful : AreLawful n t

-- the name of a group, by its number, empty where it has none
abbrev pub name_by_number : ℕ → Tree → Option (List ℕ)
name_by_number k (cat a b) = option_or (name_by_number k a) (name_by_number k b)
name_by_number k (alt a b) = option_or (name_by_number k a) (name_by_number k b)
name_by_number k (capture j name a) = if j == k then Some (unwrap_or name []) else name_by_number k a
name_by_number k (submatch kind first last a) = name_by_number k a
name_by_number k (loop a first last least most greedy) = name_by_number k a
name_by_number k (single_loop a least most greedy) = name_by_number k a
name_by_number k empty = None
name_by_number k goal = None
name_by_number k (char c) = None
name_by_number k (bytes bs) = None
name_by_number k (byte_set bs) = None
name_by_number k (char_set cs) = None
name_by_number k no_part = None
name_by_number k any = None
name_by_number k any_in_line = None
name_by_number k (line_start multiline) = None
name_by_number k (line_end multiline) = None
name_by_number k (boundary inverted folded) = None
name_by_number k (back j icase) = None
name_by_number k (bracket inverted intervals) = None
name_by_number k (string_set strings icase) = None

-- The tree has no repetition of what matches exactly one character.
abbrev pub HoldsNoSingleLoop : Tree → Type 0
HoldsNoSingleLoop (cat a b) = HoldsNoSingleLoop a × HoldsNoSingleLoop b
HoldsNoSingleLoop (alt a b) = HoldsNoSingleLoop a × HoldsNoSingleLoop b
HoldsNoSingleLoop (capture k name a) = HoldsNoSingleLoop a
HoldsNoSingleLoop (submatch kind first last a) = HoldsNoSingleLoop a
HoldsNoSingleLoop (loop a first last least most greedy) = HoldsNoSingleLoop a
HoldsNoSingleLoop (single_loop a least most greedy) = ⊥
HoldsNoSingleLoop empty = Unit {0}
HoldsNoSingleLoop goal = Unit {0}
HoldsNoSingleLoop (char c) = Unit {0}
HoldsNoSingleLoop (bytes bs) = Unit {0}
HoldsNoSingleLoop (byte_set bs) = Unit {0}
HoldsNoSingleLoop (char_set cs) = Unit {0}
HoldsNoSingleLoop no_part = Unit {0}
HoldsNoSingleLoop any = Unit {0}
HoldsNoSingleLoop any_in_line = Unit {0}
HoldsNoSingleLoop (line_start multiline) = Unit {0}
HoldsNoSingleLoop (line_end multiline) = Unit {0}
HoldsNoSingleLoop (boundary inverted folded) = Unit {0}
HoldsNoSingleLoop (back k icase) = Unit {0}
HoldsNoSingleLoop (bracket inverted intervals) = Unit {0}
HoldsNoSingleLoop (string_set strings icase) = Unit {0}
