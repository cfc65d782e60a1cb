-- The functions that read a class, behind its opening bracket: the part of the reading function that knows brackets.
use Rattle.std.specs.Prelude.{ℕ, zero, suc, ◌+◌, ◌*◌, Bool, true, false, not, ◌&&◌, ◌==◌, nat_le, List, [], ◌∷◌, length, drop, Option, Some, None, option_and_then, option_map}
use Rattle.regress_meaning.specs.Text.{◌∈◌, is_at}
use Rattle.regress_meaning.specs.Class.{Class, no_string, range, strings, union, intersection, difference, nested, may_hold_strings}
use Rattle.regress_meaning.specs.Tokens.{Mode, Reads, Escape, point, set, groups, guard, escape_at, class_escape_at}
use Rattle.regress_meaning.specs.Grammar.{class_of, member_class, dash_before_member, reserved_pair}

-- the closing bracket of a class stands here
abbrev pub closes_class : List ℕ → Bool
closes_class t = is_at (λ c. c == 0x5D) t

-- one member
unfoldable pub read_member : Mode → List ℕ → Option (Escape × List ℕ)
read_member m [] = None
read_member m (c ∷ t) = elim (c == 0x5C) [
  | true ↦ class_escape_at m t
  | false ↦ elim (c == 0x5D) [ true ↦ None | false ↦ Some (point c, t) ]
]

-- two members with a dash between them, and the class s behind: a range of two code points, or three members
abbrev pub dashed : Mode → Escape → Escape → Class → Option Class
dashed m (point a) (point b) s = guard (nat_le a b) (Some (union (range a b) s))
dashed m d e s = guard (not m.unicode) (Some (union (member_class d) (union (class_of 0x2D) (union (member_class e) s))))

-- the members up to the closing bracket, and what follows that; the number bounds how many they are
unfoldable pub read_members : Mode → ℕ → List ℕ → Option (Class × List ℕ)
read_members m zero t = None
read_members m (suc n) t = elim (closes_class t) [
  | true ↦ Some (no_string, drop 1 t)
  | false ↦ option_and_then (λ (d, u). elim (dash_before_member u) [
    | true ↦ option_and_then (λ (e, v). option_and_then (λ (s, r). option_map (λ k. (k, r)) (dashed m d e s)) (read_members m n v)) (read_member m (drop 1 u))
    | false ↦ option_map (λ (s, r). (union (member_class d) s, r)) (read_members m n u)
  ]) (read_member m t)
]

-- the text begins with j and k
abbrev pub two_at : ℕ → ℕ → List ℕ → Bool
two_at j k t = is_at (λ c. c == j) t && is_at (λ c. c == k) (drop 1 t)

-- a mark that only behind a backslash stands for itself ("ClassSetSyntaxCharacter")
abbrev pub is_set_syntax : ℕ → Bool
is_set_syntax c = c ∈ "()[]{}/-\\|"

-- a mark that a backslash may precede ("ClassSetReservedPunctuator")
abbrev pub is_set_mark : ℕ → Bool
is_set_mark c = c ∈ "&-!#%,:;<=>@`~"

-- the opening of `\q{..}`
abbrev pub opens_strings : List ℕ → Bool
opens_strings t = is_at (λ c. c == 0x5C) t && two_at 0x71 0x7B (drop 1 t)

-- what stands side by side in a class: one code point, or any other operand
pub data SetItem : Type 0 where
  one_point : ℕ → SetItem
  any_class : Class → SetItem

-- its class
abbrev pub item_class : SetItem → Class
item_class (one_point c) = class_of c
item_class (any_class s) = s

-- what an escape stands for, but for groups
abbrev pub item_of : Escape → List ℕ → Option (SetItem × List ℕ)
item_of (point c) r = Some (one_point c, r)
item_of (set s) r = Some (any_class s, r)
item_of (groups ks) r = None

-- an item, if it is one code point
abbrev pub only_character : SetItem → List ℕ → Option (ℕ × List ℕ)
only_character (one_point c) r = Some (c, r)
only_character (any_class s) r = None

-- behind a backslash
unfoldable pub read_set_escape : Mode → List ℕ → Option (SetItem × List ℕ)
read_set_escape m [] = None
read_set_escape m (c ∷ t) = elim (c == 0x62) [
  | true ↦ Some (one_point 8, t)
  | false ↦ elim (is_set_mark c) [
    | true ↦ Some (one_point c, t)
    | false ↦ option_and_then (λ (e, r). item_of e r) (escape_at m (c ∷ t))
  ]
]

-- one code point, or the class of an escape
unfoldable pub read_set_atom : Mode → List ℕ → Option (SetItem × List ℕ)
read_set_atom m [] = None
read_set_atom m (c ∷ t) = elim (c == 0x5C) [
  | true ↦ read_set_escape m t
  | false ↦ guard (not (is_set_syntax c) && not (reserved_pair (c ∷ t))) (Some (one_point c, t))
]

-- one code point
unfoldable pub read_set_character : Mode → List ℕ → Option (ℕ × List ℕ)
read_set_character m t = option_and_then (λ (i, r). only_character i r) (read_set_atom m t)

-- a string of `\q{..}`, up to `|` or `}`
unfoldable pub read_set_string : Mode → ℕ → List ℕ → Option (List ℕ × List ℕ)
read_set_string m zero t = None
read_set_string m (suc n) t = elim (is_at (λ c. c ∈ "|}") t) [
  | true ↦ Some ([], t)
  | false ↦ option_and_then (λ (c, u). option_map (λ (cs, r). (c ∷ cs, r)) (read_set_string m n u)) (read_set_character m t)
]

-- the strings of `\q{..}`, and what follows the brace
unfoldable pub read_set_strings : Mode → ℕ → List ℕ → Option (List (List ℕ) × List ℕ)
read_set_strings m zero t = None
read_set_strings m (suc n) t = option_and_then (λ (cs, u). elim (is_at (λ c. c == 0x7D) u) [
  | true ↦ Some (cs ∷ [], drop 1 u)
  | false ↦ elim (is_at (λ c. c == 0x7C) u) [
    | true ↦ option_map (λ (ss, r). (cs ∷ ss, r)) (read_set_strings m n (drop 1 u))
    | false ↦ None
  ]
]) (read_set_string m n t)

-- contents were read: they end at a closing bracket, and what follows it
abbrev pub behind_bracket : Option (Class × List ℕ) → Option (Class × List ℕ)
behind_bracket o = option_and_then (λ (s, r). guard (closes_class r) (Some (s, drop 1 r))) o

-- an inner class, by its contents; a negated one holds no strings
abbrev pub inner_item : Bool → Option (Class × List ℕ) → Option (SetItem × List ℕ)
inner_item negated o = option_and_then (λ (s, r). guard (not (negated && may_hold_strings s)) (Some (any_class (nested negated s), r))) (behind_bracket o)

-- behind an item, the class of both: a dash makes it a range
unfoldable pub read_range : Mode → SetItem → List ℕ → Option (Class × List ℕ)
read_range m (one_point first) t = elim (is_at (λ c. c == 0x2D) t) [
  | true ↦ option_and_then (λ (last, r). guard (nat_le first last) (Some (range first last, r))) (read_set_character m (drop 1 t))
  | false ↦ Some (class_of first, t)
]
read_range m (any_class s) t = guard (not (is_at (λ c. c == 0x2D) t)) (Some (s, t))

-- behind the first item of a union, that union; `rest` reads one
abbrev pub union_from : Mode → (List ℕ → Option (Class × List ℕ)) → SetItem → List ℕ → Option (Class × List ℕ)
union_from m rest i t = option_and_then (λ (a, u). option_map (λ (s, r). (union a s, r)) (rest u)) (read_range m i t)

unfoldable mutual
  pub read_operand : Mode → ℕ → List ℕ → Option (SetItem × List ℕ)
  read_operand m zero t = None
  read_operand m (suc n) t = elim (is_at (λ c. c == 0x5B) t) [
    | true ↦ elim (is_at (λ c. c == 0x5E) (drop 1 t)) [
      | true ↦ inner_item true (read_contents m n (drop 2 t))
      | false ↦ inner_item false (read_contents m n (drop 1 t))
    ]
    | false ↦ elim (opens_strings t) [
      | true ↦ option_map (λ (ss, r). (any_class (strings ss), r)) (read_set_strings m n (drop 3 t))
      | false ↦ read_set_atom m t
    ]
  ]

  -- up to the closing bracket, which is left
  pub read_contents : Mode → ℕ → List ℕ → Option (Class × List ℕ)
  read_contents m zero t = None
  read_contents m (suc n) t = elim (closes_class t) [
    | true ↦ Some (no_string, t)
    | false ↦ option_and_then (λ (i, u). elim (two_at 0x26 0x26 u) [
      | true ↦ read_intersection m n (item_class i) u
      | false ↦ elim (two_at 0x2D 0x2D u) [
        | true ↦ read_difference m n (item_class i) u
        | false ↦ union_from m (λ v. read_union m n v) i u
      ]
    ]) (read_operand m n t)
  ]

  -- items and ranges side by side
  pub read_union : Mode → ℕ → List ℕ → Option (Class × List ℕ)
  read_union m zero t = None
  read_union m (suc n) t = elim (closes_class t) [
    | true ↦ Some (no_string, t)
    | false ↦ option_and_then (λ (i, u). union_from m (λ v. read_union m n v) i u) (read_operand m n t)
  ]

  -- behind what is joined so far: `&&` and one more operand, at least once
  pub read_intersection : Mode → ℕ → Class → List ℕ → Option (Class × List ℕ)
  read_intersection m zero a t = None
  read_intersection m (suc n) a t = elim (two_at 0x26 0x26 t && not (is_at (λ c. c == 0x26) (drop 2 t))) [
    | true ↦ option_and_then (λ (i, u). elim (closes_class u) [
      | true ↦ Some (intersection a (item_class i), u)
      | false ↦ read_intersection m n (intersection a (item_class i)) u
    ]) (read_operand m n (drop 2 t))
    | false ↦ None
  ]

  -- the same with `--`
  pub read_difference : Mode → ℕ → Class → List ℕ → Option (Class × List ℕ)
  read_difference m zero a t = None
  read_difference m (suc n) a t = elim (two_at 0x2D 0x2D t) [
    | true ↦ option_and_then (λ (i, u). elim (closes_class u) [
      | true ↦ Some (difference a (item_class i), u)
      | false ↦ read_difference m n (difference a (item_class i)) u
    ]) (read_operand m n (drop 2 t))
    | false ↦ None
  ]

-- behind the opening bracket of a class, and behind its `^`: the class, and what follows its closing bracket
unfoldable pub read_class : Mode → List ℕ → Option (Class × List ℕ)
read_class m t = elim (m.sets) [
  | true ↦ behind_bracket (read_contents m (2 * length t + 2) t)
  | false ↦ read_members m (suc (length t)) t
]

-- The same with numbers that are enough, whatever the text.

-- a string of `\q{..}` at the front of a text, up to `|` or `}`
unfoldable pub set_string_at : Mode → Reads (List ℕ)
set_string_at m t = read_set_string m (suc (length t)) t

-- the strings of `\q{..}` at the front of a text, behind the brace
unfoldable pub set_strings_at : Mode → Reads (List (List ℕ))
set_strings_at m t = read_set_strings m (length t + 2) t

-- the operand at the front of a text
unfoldable pub operand_at : Mode → Reads SetItem
operand_at m t = read_operand m (2 * length t + 1) t

-- the contents of a class at the front of a text, up to the closing bracket
unfoldable pub contents_at : Mode → Reads Class
contents_at m t = read_contents m (2 * length t + 2) t

-- the rest of a union at the front of a text
unfoldable pub union_at : Mode → Reads Class
union_at m t = read_union m (2 * length t + 2) t

-- the rest of an intersection at the front of a text, behind what is joined so far
unfoldable pub intersection_at : Mode → Class → Reads Class
intersection_at m a t = read_intersection m (2 * length t + 2) a t

-- the same of a difference
unfoldable pub difference_at : Mode → Class → Reads Class
difference_at m a t = read_difference m (2 * length t + 2) a t
