-- Words for the laws of these definitions.
use Rattle.std.specs.Prelude.{◌≡◌, ℕ, ◌+◌, ◌<◌, ◌≤◌, true, false, not, ◌&&◌, ◌==◌, List, [], ◌∷◌, ◌++◌, length, drop, Option, Some, None, option_and_then, option_map, codes, All, IfSome}
use Rattle.regress_meaning.specs.Text.{◌∈◌, is_at}
use Rattle.regress_meaning.specs.Class.{Class, no_string, strings, intersection, difference}
use Rattle.regress_meaning.specs.Limits.{class_depth}
use Rattle.regress_meaning.specs.Tokens.{Mode, bounds_at, name_point, name_at, escape_at, class_escape_at}
use Rattle.regress_meaning.specs.ReadingClass.{closes_class, two_at, opens_strings, SetItem, any_class, item_class, read_set_atom, read_set_character, inner_item, read_range, union_from, set_string_at, set_strings_at, operand_at, contents_at, union_at, intersection_at, difference_at, read_members, read_class}
use Rattle.regress_meaning.specs.Meaning.{State, Direction, Forward, Backward}
use Rattle.regress_meaning.specs.Matches.{Item}
use Rattle.regress_meaning.specs.Offsets.{Reading, offset}

-- a range of places lies in a text of n code points, its start no later than its end
abbrev pub LiesIn : ℕ → ℕ × ℕ → Type 0
LiesIn n range = (range.0 ≤ range.1) × (range.1 ≤ n)

-- A state lies in a text: its place does, and each range that a group took.
pub record IsInside (text : List ℕ) (s : State) : Type 0 where
  pub place : s.place ≤ length text
  pub groups : All (λ g. IfSome g (LiesIn (length text))) s.groups

-- A match lies in a text: its range does, and each range that a group took.
pub record IsItemInside (text : List ℕ) (i : Item) : Type 0 where
  pub range : LiesIn (length text) (i.start, i.end)
  pub groups : All (λ g. IfSome g (LiesIn (length text))) i.groups

-- the second place is the first, or on the side that is read next
abbrev pub IsAhead : Direction → ℕ → ℕ → Type 0
IsAhead Forward p q = p ≤ q
IsAhead Backward p q = q ≤ p

-- Starts strictly increase, and each is at least the end before it.
abbrev pub ItemsRise : List Item → Type 0
ItemsRise [] = Unit {0}
ItemsRise (i ∷ []) = i.start ≤ i.end
ItemsRise (i ∷ j ∷ items) = (i.start ≤ i.end) × (i.start < j.start) × (i.end ≤ j.start) × ItemsRise (j ∷ items)

-- A later place of the text has a greater offset.
abbrev pub OffsetsRise : Reading → Type 0
OffsetsRise r = (p q : ℕ) → p < q → q ≤ length r.points → offset r p < offset r q

-- `(?:` and `)` around a pattern
abbrev pub in_group : List ℕ → List ℕ
in_group text = codes "(?:" ++ text ++ codes ")"

-- `(?>` and `)` around a pattern
abbrev pub in_atomic_group : List ℕ → List ℕ
in_atomic_group text = codes "(?>" ++ text ++ codes ")"

-- what was read leaves a text of fewer than n code points
abbrev pub LeavesBelow : {A : Type 0} → ℕ → Option (A × List ℕ) → Type 0
LeavesBelow {A} n o = (x : A) (r : List ℕ) → o ≡ Some (x, r) → length r < n

-- What is read at the front of a text leaves less of it; an escape, whose backslash was read before, no more.
pub record LeavesLess (m : Mode) (text : List ℕ) : Type 0 where
  pub bounds : LeavesBelow (length text) (bounds_at text)
  pub name_point : LeavesBelow (length text) (name_point text)
  pub name : LeavesBelow (length text) (name_at m.table text)
  pub escape : LeavesBelow (length text + 1) (escape_at m text)
  pub class_escape : LeavesBelow (length text + 1) (class_escape_at m text)
  pub class : LeavesBelow (length text) (read_class m text)

-- The functions that read a class with `v` go step by step.
pub record ContentsBySteps (m : Mode) (t : List ℕ) : Type 0 where
  pub string_step : set_string_at m t ≡ elim (is_at (λ c. c ∈ "|}") t) [
    | true ↦ Some ([], t)
    | false ↦ option_and_then (λ (c, u). option_map (λ (cs, r). (c ∷ cs, r)) (set_string_at m u)) (read_set_character m t)
  ]
  pub strings_step : set_strings_at m t ≡ option_and_then (λ (cs, u). elim (is_at (λ c. c == 0x7D) u) [
    | true ↦ Some (cs ∷ [], drop 1 u)
    | false ↦ elim (is_at (λ c. c == 0x7C) u) [
      | true ↦ option_map (λ (ss, r). (cs ∷ ss, r)) (set_strings_at m (drop 1 u))
      | false ↦ None
    ]
  ]) (set_string_at m t)
  pub operand_step : operand_at m t ≡ elim (is_at (λ c. c == 0x5B) t) [
    | true ↦ elim (is_at (λ c. c == 0x5E) (drop 1 t)) [
      | true ↦ inner_item true (contents_at m (drop 2 t))
      | false ↦ inner_item false (contents_at m (drop 1 t))
    ]
    | false ↦ elim (opens_strings t) [
      | true ↦ option_map (λ (ss, r). (any_class (strings ss), r)) (set_strings_at m (drop 3 t))
      | false ↦ read_set_atom m t
    ]
  ]
  pub contents_step : contents_at m t ≡ elim (closes_class t) [
    | true ↦ Some (no_string, t)
    | false ↦ option_and_then (λ (i, u). elim (two_at 0x26 0x26 u) [
      | true ↦ intersection_at m (item_class i) u
      | false ↦ elim (two_at 0x2D 0x2D u) [
        | true ↦ difference_at m (item_class i) u
        | false ↦ union_from m (λ v. union_at m v) i u
      ]
    ]) (operand_at m t)
  ]
  pub union_step : union_at m t ≡ elim (closes_class t) [
    | true ↦ Some (no_string, t)
    | false ↦ option_and_then (λ (i, u). union_from m (λ v. union_at m v) i u) (operand_at m t)
  ]
  pub intersection_step : (a : Class) → intersection_at m a t ≡ elim (two_at 0x26 0x26 t && not (is_at (λ c. c == 0x26) (drop 2 t))) [
    | true ↦ option_and_then (λ (i, u). elim (closes_class u) [
      | true ↦ Some (intersection a (item_class i), u)
      | false ↦ intersection_at m (intersection a (item_class i)) u
    ]) (operand_at m (drop 2 t))
    | false ↦ None
  ]
  pub difference_step : (a : Class) → difference_at m a t ≡ elim (two_at 0x2D 0x2D t) [
    | true ↦ option_and_then (λ (i, u). elim (closes_class u) [
      | true ↦ Some (difference a (item_class i), u)
      | false ↦ difference_at m (difference a (item_class i)) u
    ]) (operand_at m (drop 2 t))
    | false ↦ None
  ]
  -- what is read leaves less of the text
  pub character_less : LeavesBelow (length t) (read_set_character m t)
  pub string_less : LeavesBelow (length t + 1) (set_string_at m t)
  pub operand_less : LeavesBelow (length t) (operand_at m t)
  pub range_less : (i : SetItem) → LeavesBelow (length t + 1) (read_range m i t)
  -- an escape, and members without `v`, hold no brackets
  pub atom_flat : (i : SetItem) (r : List ℕ) → read_set_atom m t ≡ Some (i, r) → class_depth (item_class i) ≡ 0
  pub members_flat : (n : ℕ) (s : Class) (r : List ℕ) → read_members m n t ≡ Some (s, r) → class_depth s ≡ 0
