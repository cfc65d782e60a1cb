-- The levels of a linear program: the deepest is worked out first, each against the direction in which it is read.
use Rattle.std.specs.Prelude.{◌≡◌, ℕ, ◌<◌, ◌≤◌, length}
use Rattle.regress_engine_linear.specs.RankTables.{Heights, address_at, forward_at, index_at, level_at}
use Rattle.regress_engine_linear.specs.declared.levels.Level.{Level}

-- What stands in the order before an index is of a deeper level than all behind.
abbrev pub IsCut : Heights → (index : ℕ) → Type 0
IsCut h index = (a b : ℕ) → a < length h.ranks → b < length h.ranks → index_at h a < index → index ≤ index_at h b → level_at h b < level_at h a

-- The addresses of a level, and no others, stand in the order from one index up to before another; they are read forward, or backward.
pub record IsLevel (h : Heights) (l : Level) : Type 0 where
  pub some : l.from < l.to
  pub within : l.to ≤ length h.order
  pub way : (k : ℕ) → l.from ≤ k → k < l.to → forward_at h (address_at h k) ≡ l.forward
  pub all : (k b : ℕ) → l.from ≤ k → k < l.to → b < length h.ranks → level_at h b ≡ level_at h (address_at h k) → (l.from ≤ index_at h b) × (index_at h b < l.to)

-- Addresses from one index up to before another are of one level.
pub record IsRun (h : Heights) (from to : ℕ) : Type 0 where
  pub some : from < to
  pub within : to ≤ length h.order
  pub same : (k : ℕ) → from ≤ k → k < to → level_at h (address_at h k) ≡ level_at h (address_at h from)
