-- When two meanings lead to the same distinct outcomes, and what is made of such parts.
use Rattle.std.specs.Prelude.{◌≡◌, ℕ, Bool, true, false, not, ◌&&◌, ◌==◌, List, [], ◌∷◌, ◌++◌, Option, Some, None, filter, map, All}
use Rattle.std.specs.List.{flat_map}
use lib.Pointwise.{pointwise}
use Rattle.regress_meaning.specs.Table.{Table}
use Rattle.regress_meaning.specs.TableParts.{is_code_point}
use Rattle.regress_meaning.specs.Meaning.{State, Outcomes, Context, iterations}
use Rattle.regress_meaning.specs.Laws.{IsInside}
use Rattle.regress_front_nodes.specs.Trees.{Submatch}
use Rattle.regress_front_nodes.specs.TreeMeaning.{submatched}

-- the same range, or none in either
abbrev pub same_range : Option (ℕ × ℕ) → Option (ℕ × ℕ) → Bool
same_range None None = true
same_range None (Some y) = false
same_range (Some x) None = false
same_range (Some x) (Some y) = (x.0 == y.0) && (x.1 == y.1)

-- the same place, and for each group the same range
abbrev pub same_state : State → State → Bool
same_state s t = (s.place == t.place) && pointwise same_range s.groups t.groups

-- the states without later repeats
unfoldable pub distinct : List State → List State
distinct [] = []
distinct (s ∷ states) = s ∷ filter (λ t. not (same_state s t)) (distinct states)

-- the same states but for later repeats
abbrev pub AreAlike : List State → List State → Type 0
AreAlike ss ts = distinct ss ≡ distinct ts

module _ (context : Context) where
  -- from every state in the text the two lead to the same distinct outcomes in the same order
  abbrev pub GoAlike : Outcomes → Outcomes → Type 0
  GoAlike f g = (s : State) → IsInside context.text s → AreAlike (f s) (g s)

  -- no outcome leaves the text
  abbrev pub StayInside : Outcomes → Type 0
  StayInside f = (s : State) → IsInside context.text s → All (IsInside context.text) (f s)

-- The two do so on every text of code points.
abbrev pub IsAlike : Table → Bool → (Context → Outcomes) → (Context → Outcomes) → Type 0
IsAlike table unicode f g = (text : List ℕ) → All is_code_point text →
    let context : Context = record { text = text; table = table; unicode = unicode } in GoAlike context (f context) (g context)

-- What is made of alike parts is alike.
pub record MakeAlike (context : Context) : Type 0 where
  pub joined : (rs ss ts us : List State) → AreAlike rs ts → AreAlike ss us → AreAlike (rs ++ ss) (ts ++ us)
  pub followed : (f g : Outcomes) (ss ts : List State) → GoAlike context f g → All (IsInside context.text) ts → AreAlike ss ts
      → AreAlike (flat_map f ss) (flat_map g ts)
  pub changed : (h : State → State) (ss ts : List State) → AreAlike ss ts → AreAlike (map h ss) (map h ts)
  pub submatched : (kind : Submatch) (s : State) (ss ts : List State) → AreAlike ss ts → submatched kind s ss ≡ submatched kind s ts
  pub iterated : (f g : Outcomes) (greedy : Bool) (most least : ℕ) → GoAlike context f g → StayInside context g
      → GoAlike context (iterations f greedy most least) (iterations g greedy most least)
