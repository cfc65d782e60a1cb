-- What rewriting keeps, besides the meaning.
use Rattle.std.specs.Prelude.{◌≡◌, ℕ, ◌≤◌}
use Rattle.regress_front_nodes.specs.Trees.{Tree, goal}
use Rattle.regress_front_nodes.specs.Sizes.{loops}
use Rattle.regress_front_nodes.specs.WellFormed.{group_ids, goals, last_part, AreLawful, name_by_number}
use Rattle.regress_front_rules.specs.Weight.{room}

-- The second tree has what the first has.
pub record Keeps (t u : Tree) : Type 0 where
  -- the numbers of the groups, in their order
  pub ids : group_ids u ≡ group_ids t
  -- the name of each group
  pub named : (k : ℕ) → name_by_number k u ≡ name_by_number k t
  -- no more loops
  pub few_loops : loops u ≤ loops t
  -- no `Goal` where there was none
  pub no_goal : goals t ≡ 0 → goals u ≡ 0
  -- one `Goal`, and last, where there was one, and last
  pub goal_last : goals t ≡ 1 → last_part t ≡ goal → (goals u ≡ 1) × (last_part u ≡ goal)
  -- each node as it has to be
  pub lawful : (n : ℕ) → AreLawful n t → AreLawful n u
  -- no more nodes than unrolling may add
  pub no_larger : (n : ℕ) → AreLawful n t → room u ≤ room t
