-- A match told in bytes, one group after another.
use Rattle.std.proofs.Common.{◌≡◌, ℕ, zero, suc, ◌+◌, ◌<◌, List, [], ◌∷◌, ◌++◌, length, get_or, take, map, Option, Some, None, option_map, sym, ap, ◌∙◌, arith}
use Rattle.std.proofs.lemmas.List.{map_more, length-map}
use Rattle.std.specs.Prelude.{All, IfSome}
use Rattle.std.specs.declared.ops.Range.{Range}
use Rattle.regress_meaning.specs.Matches.{Item}
use Rattle.regress_meaning.specs.Offsets.{offset_range, told}
use Rattle.regress_meaning.specs.Laws.{LiesIn}
use Rattle.regress_match.specs.declared.found.Match.{Match}
use Rattle.regress_match.specs.Views.{item_of, ends as range_ends}
use Rattle.regress_match.specs.TextRanges.{utf8_reading}
use Rattle.regress_evaluator.specs.declared.found.Found.{Found}
use Rattle.regress_evaluator.specs.declared.found.Places.{Places}
use Rattle.regress_evaluator.specs.PlaceViews.{ends, told_range, item_of as found_item}

-- groups told in bytes take the ranges told in bytes
groups_told : (points : List ℕ) (gs : List (Option Places))
    → map (option_map range_ends) (map (option_map (told_range points)) gs) ≡ map (option_map (offset_range (utf8_reading points))) (map (option_map ends) gs)
groups_told points [] = cc
groups_told points (None ∷ gs) = ap (λ hs. None ∷ hs) (groups_told points gs)
groups_told points (Some p ∷ gs) = ap (λ hs. Some (offset_range (utf8_reading points) (ends p)) ∷ hs) (groups_told points gs)

-- a match is told in bytes where its range is, and each of its groups
pub match_told : (points : List ℕ) (found : Found) (m : Match) → m.range ≡ told_range points found.span
    → m.captures.items ≡ map (option_map (told_range points)) found.groups.items → item_of m ≡ told (utf8_reading points) (found_item found)
match_told points found m whole groups =
    let item : Range ℕ → List (Option (ℕ × ℕ)) → Item = λ r gs. record { start = r.start; end = r.end; groups = gs } in
    ap (λ r. item r (map (option_map range_ends) m.captures.items)) whole
    ∙ ap (item (told_range points found.span)) (ap (map (option_map range_ends)) groups ∙ groups_told points found.groups.items)

-- the member k of groups, seen as the places that they took
member_group : (gs : List (Option Places)) (k : ℕ) → get_or (map (option_map ends) gs) k None ≡ option_map ends (get_or gs k None)
member_group [] k = cc
member_group (g ∷ gs) zero = cc
member_group (g ∷ gs) (suc k) = member_group gs k

-- what a group took lies in the text where all groups do
pub group_within : (n : ℕ) (gs : List (Option Places)) (k : ℕ) (p : Places) → All (λ g. IfSome g (LiesIn n)) (map (option_map ends) gs)
    → k < length gs → get_or gs k None ≡ Some p → LiesIn n (ends p)
group_within n gs k p all within there =
    let e : get_or (map (option_map ends) gs) k None ≡ Some (ends p) = member_group gs k ∙ ap (option_map ends) there in
    let short : k < length (map (option_map ends) gs) = omega (arith, within, length-map gs (option_map ends)) in
    rw e at (all k None short)

-- one more group is told
pub group_told : (points : List ℕ) (gs : List (Option Places)) (cs cs' : List (Option (Range ℕ))) (k : ℕ) (g : Option Places) (r : Option (Range ℕ))
    → cs ≡ map (option_map (told_range points)) (take k gs) → k < length gs → get_or gs k None ≡ g → r ≡ option_map (told_range points) g
    → cs' ≡ cs ++ r ∷ [] → cs' ≡ map (option_map (told_range points)) (take (k + 1) gs)
group_told points gs cs cs' k g r before within there told_so pushed =
    let f : Option Places → Option (Range ℕ) = option_map (told_range points) in
    let e : r ≡ f (get_or gs k None) = told_so ∙ ap f (sym there) in
    pushed ∙ cc (before, e) ∙ sym (map_more f gs k None within)
