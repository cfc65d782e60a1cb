-- What the values of classes hold.
use Rattle.std.specs.Prelude.{◌≡◌, ℕ, false, ◌&&◌, ◌||◌, not, List, ◌++◌, Vec, map, filter, fold}
use Rattle.std.specs.BTreeSet.{BTreeSet, contains}
use Rattle.std.specs.Cmp.Lexicographic.{slice_cmp}
use Rattle.std.specs.Ordering.{nat_cmp}
use Rattle.std.specs.declared.cmp.Ordering.{Ordering}
use Rattle.std.specs.declared.alloc.Global.{Global}
use Rattle.regress_meaning.specs.Class.{Strings, only, among}
use Rattle.regress_front_sets.specs.Sets.{in_set}
use Rattle.regress_front_class_values.specs.declared.value.ClassValue.{ClassValue}

-- the strings of a list, as lists
abbrev pub lists : List (Vec ℕ Global) → List (List ℕ)
lists = map (λ s. s.items)

-- the order of strings, by the first code points that differ
abbrev pub by_order : Vec ℕ Global → Vec ℕ Global → Ordering
by_order s t = slice_cmp nat_cmp s.items t.items

-- the set holds just the strings of the list
abbrev pub HoldsStrings : BTreeSet (Vec ℕ Global) → List (List ℕ) → Type 0
HoldsStrings set strings = (s : Vec ℕ Global) → contains by_order set s ≡ among strings s.items

-- the strings that a value holds
abbrev pub strings_of : ClassValue → Strings
strings_of v = record { singles = in_set v.singles; others = lists v.strings.items }

-- what is a member of either
abbrev pub united : Strings → Strings → Strings
united v w = record { singles = λ c. v.singles c || w.singles c; others = v.others ++ w.others }

-- what is a member of both
abbrev pub intersected : Strings → Strings → Strings
intersected v w = record { singles = λ c. v.singles c && w.singles c; others = filter (among w.others) v.others }

-- what is a member of the first alone
abbrev pub subtracted : Strings → Strings → Strings
subtracted v w = record { singles = λ c. v.singles c && not (w.singles c); others = filter (λ s. not (among w.others s)) v.others }

-- what is a member of any of the values, the strings in their order
abbrev pub all_united : List ClassValue → Strings
all_united vs = fold united (only (λ c. false)) (map strings_of vs)
