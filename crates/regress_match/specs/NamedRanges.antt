-- The names of the groups of a match, each once.
use Rattle.std.specs.Prelude.{ℕ, ◌+◌, Bool, false, not, List, [], ◌∷◌, ◌++◌, take, drop, map, Option, None, if◌then◌else◌}
use Rattle.std.specs.List.{list_any}
use Rattle.std.specs.Option.{option_or}
use Rattle.std.specs.declared.ops.Range.{Range}
use Rattle.regress_meaning.specs.Text.{same_text}
use Rattle.regress_match.specs.declared.found.Match.{Match}
use Rattle.regress_match.specs.GroupRanges.{numbered}
use Rattle.regress_match.specs.GroupViews.{names_of_match}

-- What the first group took that has the name and took part, from group k on, whose names these are.
unfoldable pub first_taken : {A : Type 0} → List ℕ → (ℕ → Option A) → ℕ → List (List ℕ) → Option A
first_taken name group k [] = None
first_taken name group k (n ∷ names) =
    if same_text n name then option_or (group k) (first_taken name group (k + 1) names) else first_taken name group (k + 1) names

-- what the first group took that has the name and took part, and nothing for the empty name
abbrev pub named_taken : {A : Type 0} → List (List ℕ) → List (Option A) → List ℕ → Option A
named_taken names groups [] = None
named_taken names groups (c ∷ name) = first_taken (c ∷ name) (numbered groups) 0 names

-- a name that is not empty, and none of these
abbrev pub is_new : List (List ℕ) → List ℕ → Bool
is_new seen [] = false
is_new seen (c ∷ name) = not (list_any (λ n. same_text n (c ∷ name)) seen)

-- Each name once, in order of first appearance, without those that stood before.
unfoldable pub new_names : List (List ℕ) → List (List ℕ) → List (List ℕ)
new_names seen [] = []
new_names seen (n ∷ names) = if is_new seen n then n ∷ new_names (seen ++ n ∷ []) names else new_names (seen ++ n ∷ []) names

-- what the first group of a name took that took part
abbrev pub taken_by : Match → List ℕ → Option (Range ℕ)
taken_by m name = first_taken name (numbered m.captures.items) 0 (names_of_match m)

-- each name of a group, from an index on, once, and what the first group of that name took that took part
abbrev pub named_from : Match → ℕ → List (List ℕ × Option (Range ℕ))
named_from m index = map (λ name. (name, taken_by m name)) (new_names (take index (names_of_match m)) (drop index (names_of_match m)))
