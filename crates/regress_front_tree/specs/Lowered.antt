-- What holds of a lowered tree besides its meaning.
use Rattle.std.specs.Prelude.{◌≡◌, ℕ, ◌+◌, ◌*◌, ◌<◌, ◌≤◌, false, List, length, None, slice_get}
use Rattle.regress_meaning.specs.Flags.{Options}
use Rattle.regress_meaning.specs.Pattern.{Pattern, names_of}
use Rattle.regress_meaning.specs.Limits.{quantifiers}
use Rattle.regress_meaning.specs.Points.{HoldsNoStrings}
use Rattle.regress_meaning.specs.Weights.{weight}
use Rattle.regress_front_nodes.specs.Trees.{Tree}
use Rattle.regress_front_nodes.specs.WellFormed.{group_ids, AreNumbered, goals, AreLawful, IsWellFormed, name_by_number, HoldsNoSingleLoop}
use Rattle.regress_front_nodes.specs.Sizes.{size, loops}

-- The tree that a part of a pattern was lowered to: the whole has n groups, k of them opened before the part, and l up to
-- its end.
pub record IsLowered (n k : ℕ) (p : Pattern) (t : Tree) (l : ℕ) : Type 0 where
  -- each group of the part was counted
  pub counted : l ≡ k + length (names_of p)
  -- the tree's groups are numbered from k up to before l, each once
  pub numbered : AreNumbered k l (group_ids t)
  -- each node is as it has to be
  pub lawful : AreLawful n t
  -- the end of the whole is not in it
  pub no_goal : goals t ≡ 0
  -- it has a loop for each quantifier
  pub looped : loops t ≡ quantifiers p
  -- without strings in classes it has no more nodes than the part takes
  pub small : HoldsNoStrings p → size t ≤ weight p
  -- its groups have the names of the part's, in their order, and there are no others behind them
  pub named : (i : ℕ) → name_by_number (k + i) t ≡ slice_get (names_of p) i
  -- no group opened before it is in it
  pub none_before : (i : ℕ) → i < k → name_by_number i t ≡ None
  -- no repetition is told to be of one character
  pub plain : HoldsNoSingleLoop t

-- The whole tree of a pattern: well formed, its groups named as the pattern's, with few loops and few groups for its text, and
-- without `v` small for it.
pub record IsWhole (o : Options) (text : List ℕ) (p : Pattern) (t : Tree) : Type 0 where
  pub well_formed : IsWellFormed (length (names_of p)) t
  pub named : (k : ℕ) → name_by_number k t ≡ slice_get (names_of p) k
  pub small : o.sets ≡ false → size t ≤ (length text + 4) * (length text + 4)
  pub few_loops : loops t ≤ length text
  pub few_groups : length (names_of p) ≤ length text
  pub plain : HoldsNoSingleLoop t
