-- Where a part of a pattern stands when it is lowered, and what is asked of it.
use Rattle.std.specs.Prelude.{◌≡◌, ℕ, List, ◌++◌, Option, Some}
use Rattle.regress_meaning.specs.Pattern.{Pattern, Settings}
use Rattle.regress_meaning.specs.Points.{IsOfPoints}
use Rattle.regress_meaning.specs.Named.{HoldsNoEmptyName}
use Rattle.regress_front_tables.specs.TableViews.{table}
use Rattle.regress_front_tree.specs.declared.lowering.Lowering.{Lowering}
use Rattle.regress_front_tree.specs.declared.lowering.Scope.{Scope}
use Rattle.regress_front_nodes.specs.Trees.{Tree}
use Rattle.regress_front_tree.specs.Lowering.{Lowers, LowersAll, LowersTerms, ArePieces}

-- the settings that hold in a scope
abbrev pub settings_of : Scope → Settings
settings_of s = record { icase = s.icase; multiline = s.multiline; dot_all = s.dot_all }

-- The tree is of code points, and no name in it is empty.
pub record IsLowerable (p : Pattern) : Type 0 where
  pub points : IsOfPoints p
  pub names : HoldsNoEmptyName p

-- In the scope a part is lowered to the tree, from all groups opened before it up to all opened up to its end, where that is told.
abbrev pub LowersInScope : Lowering → Scope → (ℕ → Option ℕ) → Pattern → Tree → Type 0
LowersInScope l s opened p t = (j k : ℕ) → opened j ≡ Some k → Lowers (table l.tables.now) l.unicode s.backward (settings_of s) j p t k

-- In the scope each part is lowered to a tree, one after another.
abbrev pub LowersAllInScope : Lowering → Scope → (ℕ → Option ℕ) → List Pattern → List Tree → Type 0
LowersAllInScope l s opened ps ts = (j k : ℕ) → opened j ≡ Some k → LowersAll (table l.tables.now) l.unicode s.backward (settings_of s) j ps ts k

-- In the scope parts are lowered to trees as terms one after another.
abbrev pub LowersTermsInScope : Lowering → Scope → (ℕ → Option ℕ) → List Pattern → List Tree → Type 0
LowersTermsInScope l s opened ps ts = (j k : ℕ) → opened j ≡ Some k → LowersTerms (table l.tables.now) l.unicode s.backward (settings_of s) j ps ts k

-- In the scope a part that opens no group is lowered to the tree.
abbrev pub LowersAlone : Lowering → Scope → Pattern → Tree → Type 0
LowersAlone l s p t = (k : ℕ) → Lowers (table l.tables.now) l.unicode s.backward (settings_of s) k p t k

-- In the scope the pieces of a text stand behind other trees.
abbrev pub AddsTextInScope : Lowering → Scope → List ℕ → (old new : List Tree) → Type 0
AddsTextInScope l s cs old new = (us : List Tree) × ArePieces (table l.tables.now) l.unicode s.icase cs us × (new ≡ old ++ us)
