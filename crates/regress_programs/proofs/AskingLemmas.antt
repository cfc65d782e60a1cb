-- Whether there is a match.
use Rattle.std.proofs.Common.{◌≡◌, ◌≢◌, true, List, [], ◌∷◌, Option, Some, None, option_map, refl}
use Rattle.std.specs.Option.{is_some}
use Rattle.std.specs.Prelude.{slice_get}
use Rattle.regress_meaning.specs.Matches.{Item}
use Rattle.regress_match.specs.declared.found.Match.{Match}
use Rattle.regress_match.specs.Views.{item_of}

-- something was found just where there are items
pub found-some : (tell : Item → Item) (items : List Item) (found : Option Match) → option_map item_of found ≡ option_map tell (slice_get items 0)
    → (is_some found ≡ true → items ≢ []) × (items ≢ [] → is_some found ≡ true)
found-some tell [] None same = ((λ some e. absurd (cc)), (λ none. absurd (none refl)))
found-some tell [] (Some m) same = absurd (cc)
found-some tell (i ∷ items) None same = absurd (cc)
found-some tell (i ∷ items) (Some m) same = ((λ some e. cc), (λ none. refl))
