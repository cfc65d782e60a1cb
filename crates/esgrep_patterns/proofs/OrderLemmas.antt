-- Matches that were found one behind the other.
use Rattle.std.proofs.Common.{◌≡◌, ℕ, ◌≤◌, List, [], ◌∷◌, ◌++◌, map, Option, refl, sym, ap, ◌∙◌, append_assoc, append-nil}
use Rattle.std.proofs.lemmas.List.{map-append}
use Rattle.regress_meaning.specs.Matches.{Item}
use Rattle.regress_match.specs.declared.found.Match.{Match}
use Rattle.regress_match.specs.Views.{item_of}
use Rattle.regress_match.specs.GroupViews.{names_of_match}
use Rattle.regress_match.specs.TextRanges.{LiesInText}
use Rattle.esgrep_rows.specs.Found.{Found, found_of, found_at, LieInOrder}

-- where matches end that lie behind an offset
abbrev pub reached : ℕ → List Match → ℕ
reached at [] = at
reached at (m ∷ ms) = reached m.range.end ms

pub reached-more : (at : ℕ) (ms : List Match) (m : Match) → reached at (ms ++ m ∷ []) ≡ m.range.end
reached-more at [] m = refl
reached-more at (n ∷ ms) m = reached-more n.range.end ms m

-- one more lies behind them
pub order-more : (text : List ℕ) (at : ℕ) (ms : List Match) (m : Match) → LieInOrder text at ms → reached at ms ≤ m.range.start → LiesInText text m
    → LieInOrder text at (ms ++ m ∷ [])
order-more text at [] m order later inside = (later, inside, tt)
order-more text at (n ∷ ms) m order later inside = (order.0, order.1, order-more text n.range.end ms m order.2 later inside)

-- the next of the items that are coming was found
pub found-more : (template : Option (List ℕ)) (names : List (List ℕ)) (text : List ℕ) (ms : List Match) (m : Match) (before after : List Item) (all : List Found)
    → names_of_match m ≡ names → before ≡ item_of m ∷ after
    → map (found_of template text) ms ++ map (found_at template names text) before ≡ all
    → map (found_of template text) (ms ++ m ∷ []) ++ map (found_at template names text) after ≡ all
found-more template names text ms m before after all named next found =
    let here : found_of template text m ≡ found_at template names text (item_of m) = ap (λ ns. found_at template ns text (item_of m)) named in
    ap (λ fs. fs ++ map (found_at template names text) after) (map-append (found_of template text) ms (m ∷ []))
    ∙ append_assoc (map (found_of template text) ms) (found_of template text m ∷ []) (map (found_at template names text) after)
    ∙ ap (λ fs. map (found_of template text) ms ++ fs)
    (ap (λ f. f ∷ map (found_at template names text) after) here ∙ ap (map (found_at template names text)) (sym next))
    ∙ found

-- nothing is coming any more
pub found-all : (template : Option (List ℕ)) (names : List (List ℕ)) (text : List ℕ) (ms : List Match) (coming : List Item) (all : List Found)
    → coming ≡ [] → map (found_of template text) ms ++ map (found_at template names text) coming ≡ all → map (found_of template text) ms ≡ all
found-all template names text ms coming all none found =
    sym (append-nil (map (found_of template text) ms)) ∙ ap (λ is. map (found_of template text) ms ++ map (found_at template names text) is) (sym none) ∙ found
