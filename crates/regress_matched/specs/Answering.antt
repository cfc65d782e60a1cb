-- The texts that a closure answers to the matches of a text.
use Rattle.std.specs.Prelude.{◌≡◌, ℕ, ◌⊎◌, List, [], ◌∷◌, Result, Ok, Err, string_bytes}
use Rattle.std.specs.declared.alloc.Global.{Global}
use Rattle.std.specs.declared.string.String.{String}
use Rattle.regress_meaning.specs.Matches.{Item}
use Rattle.regress_match.specs.declared.found.Match.{Match}
use Rattle.regress_match.specs.GroupViews.{names_of_match}
use Rattle.regress_match.specs.Views.{item_of}

-- what a closure answers to a match
abbrev pub Answering : Type 0 → Type 1
Answering E = Match → Result (String Global) E → Type 0

-- The closure answers so to a match that is this item, with these names of its groups.
pub record AnswersTo {E : Type 0} (Answers : Answering E) (names : List (List ℕ)) (i : Item) (r : Result (String Global) E) : Type 0 where
  pub found : Match
  pub item : item_of found ≡ i
  pub named : names_of_match found ≡ names
  pub answers : Answers found r

-- the closure answers this text to the item
abbrev pub AnswersText : {E : Type 0} → Answering E → List (List ℕ) → Item → List ℕ → Type 0
AnswersText Answers names i new = (s : String Global) × AnswersTo Answers names i (Ok s) × (string_bytes s ≡ new)

-- The closure answers these texts to the items, one for each in order.
abbrev pub AnswersEach : {E : Type 0} → Answering E → List (List ℕ) → List Item → List (List ℕ) → Type 0
AnswersEach Answers names [] [] = Unit {0}
AnswersEach Answers names (i ∷ items) (new ∷ news) = AnswersText Answers names i new × AnswersEach Answers names items news
AnswersEach Answers names _ _ = ⊥

-- The closure answers this error to one of the items, and texts to those before it.
abbrev pub RefusesOne : {E : Type 0} → Answering E → List (List ℕ) → List Item → E → Type 0
RefusesOne Answers names [] e = ⊥
RefusesOne Answers names (i ∷ items) e =
    AnswersTo Answers names i (Err e) ⊎ (((new : List ℕ) × AnswersText Answers names i new) × RefusesOne Answers names items e)
