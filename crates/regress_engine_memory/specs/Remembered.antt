-- What an executor has found to fail, as it is kept.
use Rattle.std.specs.Prelude.{◌≡◌, ℕ, ◌==◌, true, List, [], ◌∷◌, get_or, if◌then◌else◌, nat_le}
use Rattle.regress_meaning.specs.Text.{holds}
use Rattle.regress_engine_memory.specs.Deciding.{Table, bounds_of, flow_of, live_at}
use Rattle.regress_engine_memory.specs.Keys.{Keyed, class_of}

-- a loop is counted that has at most so many iterations
abbrev pub most_counted : ℕ
most_counted = 4096

-- what a table tells, with these loops counted
abbrev pub keyed_of : Table → Keyed
keyed_of t = record { flow = flow_of t; counted = λ id. nat_le (bounds_of t id).1 most_counted }

-- of some loops with a class each, the class of one
abbrev pub class_in : List ℕ → List ℕ → ℕ → ℕ
class_in [] classes id = 0
class_in (x ∷ ids) [] id = 0
class_in (x ∷ ids) (c ∷ classes) id = if x == id then c else class_in ids classes id

-- the loops that are live at an address have these classes
abbrev pub HaveClasses : Table → (at : ℕ) → List ℕ → List (ℕ × ℕ) → Type 0
HaveClasses t at classes loops = (id : ℕ) → holds (live_at t at) id ≡ true
    → class_of (keyed_of t) id (get_or loops id (0, 0)).0 ≡ class_in (live_at t at) classes id
