use Rattle.std.proofs.Common.{◌≡◌, ◌<◌, ◌≤◌, ℕ, List, [], ◌∷◌, Some, length, map, option_map, refl, sym, ap, subst, ◌∙◌, arith}
use Rattle.std.proofs.lemmas.Option.{IfSome_then}
use Rattle.std.specs.String.{string_bytes}
use Rattle.std.specs.Str.{encode_utf8_all}
use Rattle.regress_meaning.specs.Meaning.{Context}
use Rattle.regress_meaning.specs.Matches.{Item, next_place}
use Rattle.regress_meaning.specs.Offsets.{told}
use Rattle.regress_meaning.specs.Laws.{IsItemInside}
use Rattle.regress_front_nodes.specs.Trees.{tree}
use Rattle.regress_match.specs.TextRanges.{utf8_reading, LiesInText}
use Rattle.regress_match.specs.Iterating.{coming_on}
use Rattle.regress_evaluator.proofs.BetweenLemmas.{told-between}
use Rattle.regress_front_nodes.specs.NodeMatches.{node_first_match}
use Rattle.regress_evaluator.specs.PlaceViews.{item_of}
use Rattle.regress_evaluator.specs.Searching.{searching, points_of, group_count_of, matches_of, items_from}
use Rattle.regress_evaluator.specs.StateViews.{context_of}
use Rattle.regress_front_nodes.proofs.MatchLemmas.{first_match_past, matches_go, matches_end, first_match-later}
use Rattle.regress_evaluator.proofs.SearchLemmas.{coming_on_within}
use Rattle.regress_evaluator.proofs.search.Search.first_from.Goals as goal

-- the match that was found is the first
first_is : (c : goal.After-drop-found-2) → let s = c.args.self.now in
    node_first_match (searching s.pattern (points_of s)) (group_count_of s.pattern) (tree s.pattern.node.now) c.args.position ≡ Some (item_of c.in-Some.found)
first_is c =
    let s = c.args.self.now in
    ap (λ (context : Context). node_first_match context (group_count_of s.pattern) (tree s.pattern.node.now) c.args.position) (sym c.evaluator.ensures.context)
    ∙ ap (λ (n : ℕ). node_first_match (context_of c.evaluator.result) n (tree s.pattern.node.now) c.args.position) (sym c.evaluator.ensures.groups)
    ∙ sym c.in_ok-found.ensures.value ∙ ap (option_map item_of) c.in-Some.is

pub returns-in_default-clause-found : goal.returns-in_default-clause-found
returns-in_default-clause-found c =
    let s = c.args.self.now in
    let points = points_of s in
    let none = ap (λ (context : Context). node_first_match context (group_count_of s.pattern) (tree s.pattern.node.now) c.args.position) (sym c.evaluator.ensures.context)
    ∙ ap (λ (n : ℕ). node_first_match (context_of c.evaluator.result) n (tree s.pattern.node.now) c.args.position) (sym c.evaluator.ensures.groups)
    ∙ sym c.in_ok-found.ensures.value ∙ ap (option_map item_of) c.in_default.is in
    (ap (map (told (utf8_reading points))) (matches_end (searching s.pattern points) (group_count_of s.pattern) (tree s.pattern.node.now) c.args.position none), refl)

pub returns-clause-found : goal.returns-clause-found
returns-clause-found c =
    let s = c.args.self.now in
    let points = points_of s in
    let context = searching s.pattern points in
    let count = group_count_of s.pattern in
    let t = tree s.pattern.node.now in
    let i = item_of c.in-Some.found in
    let list : ℕ → List Item = matches_of s.pattern points in
    let here = rw c.in-Some.is at c.in_ok-found.ensures.inside in
    let Inside : List ℕ → Type 0 = λ ps. IsItemInside ps i in
    let inside : IsItemInside points i = subst Inside c.evaluator.ensures.text here in
    let goes : list c.args.position ≡ i ∷ list (next_place i) = matches_go context count t c.args.position i (first_is c) in
    let past : length points < next_place i → items_from s (next_place i) ≡ [] = λ h.
    ap (map (told (utf8_reading points))) (matches_end context count t (next_place i) (first_match_past context count t (next_place i) h)) in
    let behind : coming_on (items_from s) c.place_after.result ≡ items_from s (next_place i) =
    ap (coming_on (items_from s)) (rw c.points.ensures at c.place_after.ensures.value) ∙ coming_on_within (items_from s) (length points) (next_place i) past in
    let named = c.in_ok-told.ensures.named ∙ ap (map string_bytes) c.in_ok-clone.ensures.cases in
    let between : LiesInText (encode_utf8_all points) c.in_ok-told.told =
    told-between points s.characters c.in_ok-told.told i c.in_ok-told.ensures.told inside.range inside.groups in
    (ap (map (told (utf8_reading points))) goes ∙ rw (behind, c.in_ok-told.ensures.told) refl, (between, named))

pub returns-clause-nearer : goal.returns-clause-nearer
returns-clause-nearer c =
    let s = c.args.self.now in
    let points = points_of s in
    let from : c.args.position ≤ c.in-Some.found.span.start =
    first_match-later (searching s.pattern points) (group_count_of s.pattern) (tree s.pattern.node.now) c.args.position (item_of c.in-Some.found) (first_is c) in
    let same : length c.points.result.now ≡ length points = ap length c.points.ensures in
    IfSome_then c.place_after.result c.place_after.ensures.later (λ q later. omega (arith, later.0, later.1, same, from))
