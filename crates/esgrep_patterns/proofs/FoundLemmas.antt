-- What is found of one pattern.
use Rattle.std.proofs.Common.{◌≡◌, ◌≢◌, ◌↔◌, ℕ, Bool, List, [], ◌∷◌, map, chars, Option, Result, Ok, Err, OnOk, refl, sym, ap, ◌∙◌}
use Rattle.std.specs.Prelude.{IsTrue, IfOk}
use Rattle.regress_meaning.specs.Table.{Table}
use Rattle.regress_meaning.specs.Pattern.{Pattern}
use Rattle.regress_meaning.specs.Flags.{Options}
use Rattle.regress_meaning.specs.Matches.{match_list}
use Rattle.regress_meaning.specs.Offsets.{of_utf8, told}
use Rattle.regress_match.specs.declared.found.Match.{Match}
use Rattle.regress_match.specs.Views.{item_of}
use Rattle.esgrep_rows.specs.Found.{Found, found_of, found_at}
use Rattle.esgrep_patterns.specs.Seeking.{found_in}

-- what is mapped to nothing is nothing
map-none : {A B : Type 0} (f : A → B) (xs : List A) → map f xs ≡ [] → xs ≡ []
map-none f [] none = refl
map-none f (x ∷ xs) none = absurd (cc none)

-- there is a match where something is found
found-some : (t : Table) (o : Options) (p : Pattern) (template : Option (List ℕ)) (names : List (List ℕ)) (text : List ℕ) (all : List Found) (b : Bool)
    → all ≡ found_in t o p template names text → IsTrue b ↔ (match_list t o p (chars text) 0 ≢ []) → IsTrue b ↔ (all ≢ [])
found-some t o p template names text all b is found = (
  λ yes none. found.0 yes (map-none (told (of_utf8 text)) _ (map-none (found_at template names text) _ (sym is ∙ none))),
  λ some. found.1 (λ none. some (is ∙ ap (λ ms. map (found_at template names text) (map (told (of_utf8 text)) ms)) none)),
)

pub found-ok : {E : Type 0} (r : Result Bool E) (t : Table) (o : Options) (p : Pattern) (template : Option (List ℕ)) (names : List (List ℕ)) (text : List ℕ) (all : List Found)
    → all ≡ found_in t o p template names text → IfOk r (λ b. IsTrue b ↔ (match_list t o p (chars text) 0 ≢ [])) → IfOk r (λ b. IsTrue b ↔ (all ≢ []))
found-ok (Ok b) t o p template names text all is found = found-some t o p template names text all b is found
found-ok (Err e) t o p template names text all is found = tt

-- what is found is what is to be found
pub found-all_ok : {T E : Type 0} (r : Result T E) (founds one all : List Found) → all ≡ one → OnOk r (founds ≡ one) → OnOk r (founds ≡ all)
found-all_ok (Ok x) founds one all is found = found ∙ sym is
found-all_ok (Err e) founds one all is found = tt

-- of what is found the matches
pub items-found : (template : Option (List ℕ)) (text : List ℕ) (ms : List Match) → map item_of ms ≡ map (λ f. f.item) (map (found_of template text) ms)
items-found template text [] = refl
items-found template text (m ∷ ms) = ap (λ is. item_of m ∷ is) (items-found template text ms)
