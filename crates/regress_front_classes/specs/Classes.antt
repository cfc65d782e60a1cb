-- What the parser's calls read of a class.
use Rattle.std.specs.Prelude.{◌≡◌, ℕ, suc, List, [], ◌∷◌, length, map, Option, Some, None, option_map, Result, Ok, Err}
use Rattle.std.specs.Global.{Vec, Box}
use Rattle.regress_meaning.specs.Text.{holds}
use Rattle.regress_meaning.specs.Class as meaning
use Rattle.regress_meaning.specs.Tokens.{Mode, Reads, Escape, point, guard}
use Rattle.regress_meaning.specs.ReadingClass as meaning_set
use Rattle.regress_meaning.specs.ReadingClass.{dashed, read_members, item_class}
use Rattle.regress_meaning.specs.Limits.{class_depth}
use Rattle.regress_front_core.specs.declared.error.Error.{Error}
use Rattle.regress_front_core.specs.declared.error.Error.TheVariants.{Syntax, OutOfMemory}
use Rattle.regress_front_tokens.specs.declared.syntax.Class.{Class}
use Rattle.regress_front_classes.specs.declared.class.SetItem.{SetItem}
use Rattle.regress_front_classes.specs.declared.class.SetItem.TheVariants.{Point, Set}
use Rattle.regress_front_tokens.specs.Trees.{class_view}

-- the code point that an escape stands for, if it is one
abbrev pub point_of : Escape → Option ℕ
point_of (point c) = Some c
point_of _ = None

-- members side by side, before what follows them
abbrev pub union_before : List meaning.Class → meaning.Class → meaning.Class
union_before [] s = s
union_before (c ∷ cs) s = meaning.union c (union_before cs s)

-- behind the opening bracket of a class without `v`: its members, up to the closing one
abbrev pub members_at : Mode → Reads meaning.Class
members_at m t = read_members m (suc (length t)) t

-- The members were added that two give with a dash between them, or they may not stand so.
abbrev pub AddsDashed : {A : Type 0} → Mode → Escape → Escape → (old new : List Class) → Result A Error → Type 0
AddsDashed m d e old new (Ok _) = (s : meaning.Class) → option_map (union_before (map class_view old)) (dashed m d e s) ≡ Some (union_before (map class_view new) s)
AddsDashed m d e old new (Err (Syntax message)) = (s : meaning.Class) → dashed m d e s ≡ None
AddsDashed m d e old new (Err OutOfMemory) = Unit {0}
AddsDashed m d e old new (Err _) = ⊥

-- the class in a box
abbrev pub boxed_view : Box Class → meaning.Class
boxed_view s = class_view s.value

-- what an item of a class with `v` stands for
abbrev pub item_view : SetItem → meaning_set.SetItem
item_view (Point c) = meaning_set.one_point c
item_view (Set s) = meaning_set.any_class (boxed_view s)

-- an item, if it is one code point
abbrev pub only_point : meaning_set.SetItem → Option ℕ
only_point (meaning_set.one_point c) = Some c
only_point (meaning_set.any_class s) = None

-- one of these marks
abbrev pub mark_at : List ℕ → Reads ℕ
mark_at marks [] = None
mark_at marks (c ∷ t) = guard (holds marks c) (Some (c, t))

-- how many brackets of an item are open at once
abbrev pub item_depth : meaning_set.SetItem → ℕ
item_depth i = class_depth (item_class i)

-- the code points of a string
abbrev pub string_view : Vec ℕ → List ℕ
string_view s = s.items

-- those of strings
abbrev pub strings_view : Vec (Vec ℕ) → List (List ℕ)
strings_view ss = map string_view ss.items
