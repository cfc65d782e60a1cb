-- The code points that have one image, as they are listed.
use Rattle.std.specs.Prelude.{ℕ, ◌-◌, ◌==◌, List, [], Option, Some, None, Vec, map, unwrap_or, slice_index_or, if◌then◌else◌}
use Rattle.std.specs.declared.alloc.Global.{Global}
use Rattle.regress_front_tables.specs.declared.tables.classes.Classes.{Classes}
use Rattle.regress_front_tables.specs.Pages.{number_at}

-- the members of each class
abbrev pub members_of : List (Vec ℕ Global) → List (List ℕ)
members_of = map (λ members. members.items)

-- the list that stands under a number, counted from 1, if one does
unfoldable pub list_numbered : List (List ℕ) → ℕ → Option (List ℕ)
list_numbered lists k = if k == 0 then None else Some (slice_index_or lists (k - 1) [])

-- the class that is listed for an image, if one is
abbrev pub class_at : Classes → ℕ → Option (List ℕ)
class_at classes to = list_numbered (members_of classes.lists.items) (unwrap_or (number_at classes.numbers to) 0)
