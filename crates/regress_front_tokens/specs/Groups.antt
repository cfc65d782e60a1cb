-- The groups of a pattern by their names.
use Rattle.std.specs.Prelude.{◌≡◌, ◌≤◌, ℕ, List, [], length, map, chars, IsUtf8}
use Rattle.std.specs.Option.{option_map_or}
use Rattle.std.specs.BTreeMap.{BTreeMap, get_by_text}
use Rattle.std.specs.Global.{Vec}
use Rattle.std.specs.Rc.{rc_slice_items}
use Rattle.std.specs.declared.alloc.Global.{Global}
use Rattle.std.specs.declared.string.String.{String}
use Rattle.std.specs.declared.rc.RcSlice.{RcSlice}
use Rattle.regress_meaning.specs.Tokens.{numbers_from}
use Rattle.regress_front_tokens.specs.declared.groups.GroupsByName.{GroupsByName}
use Rattle.regress_front_tokens.specs.Words.{code_points_of}

-- the numbers that are listed under a name, none where none are
abbrev pub numbers_listed : BTreeMap (String Global) (Vec ℕ) → List ℕ → List ℕ
numbers_listed lists name = option_map_or (λ numbers. numbers.items) (get_by_text lists name) []

-- those under a name where lists are shared
abbrev pub numbers_shared : BTreeMap (String Global) (RcSlice ℕ Global) → List ℕ → List ℕ
numbers_shared numbers name = option_map_or rc_slice_items (get_by_text numbers name) []

-- the numbers that stand under a name, none where none do
abbrev pub numbers_under : GroupsByName → List ℕ → List ℕ
numbers_under groups = numbers_shared groups.numbers

-- Under each name stand the numbers of the groups that have it, of as many groups as a pattern may have.
abbrev pub IsIndex : GroupsByName → List (String Global) → Type 0
IsIndex groups names = length names ≤ 65535 → (name : List ℕ) → IsUtf8 name → numbers_under groups name ≡ numbers_from 0 (chars name) (map code_points_of names)
