-- The names of a tree's groups, as sets of the parser hold them.
use Rattle.std.specs.Prelude.{◌≡◌, ℕ, Bool, true, false, IsTrue, ◌↔◌, ◌||◌, ◌&&◌, List, Option, Some, None}
use Rattle.std.specs.List.{list_any}
use Rattle.std.specs.BTreeSet.{BTreeSet}
use denote.Ref.{Bor}
use Rattle.std.specs.declared.alloc.Global.{Global}
use Rattle.std.specs.declared.string.String.{String}
use Rattle.regress_meaning.specs.Text.{same_text}
use Rattle.regress_meaning.specs.Class.{among}
use Rattle.regress_meaning.specs.Pattern.{Pattern, names_of}
use Rattle.regress_meaning.specs.Grammar.{is_name, names_apart}
use Rattle.regress_front_tokens.specs.Words.{code_points_of}

-- whether the set holds the name
abbrev pub has_name : BTreeSet (Bor (String Global)) → List ℕ → Bool
has_name names name = list_any (λ n. same_text name (code_points_of n.now)) names.keys

-- all holds the names of both, and apart says that no name stands in both
abbrev pub AreJoined : (names more all : BTreeSet (Bor (String Global))) → Bool → Type 0
AreJoined names more all apart =
    ((name : List ℕ) → has_name all name ≡ (has_name names name || has_name more name))
    × (IsTrue apart ↔ ((name : List ℕ) → IsTrue (has_name names name) → has_name more name ≡ false))

-- the set holds the names and this one, which is not among them; where there is none, it is
abbrev pub IsAdding : BTreeSet (Bor (String Global)) → List ℕ → Option (BTreeSet (Bor (String Global))) → Type 0
IsAdding names name None = has_name names name ≡ true
IsAdding names name (Some all) = (has_name names name ≡ false) × ((other : List ℕ) → has_name all other ≡ (same_text other name || has_name names other))

-- The set holds the names of the tree's groups, which stand apart; where there is none, they do not.
abbrev pub IsNaming : Pattern → Option (BTreeSet (Bor (String Global))) → Type 0
IsNaming p None = names_apart p ≡ false
IsNaming p (Some names) = (names_apart p ≡ true) × ((name : List ℕ) → has_name names name ≡ (is_name name && among (names_of p) name))
