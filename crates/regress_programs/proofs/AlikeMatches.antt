-- A tree that is alike a pattern has its matches.
use Rattle.std.proofs.Common.{◌≡◌, ℕ, ◌≤◌, List, [], ◌∷◌, length, Option, Some, None, replicate, All, IfSome, refl, ap}
use Rattle.std.proofs.lemmas.List.Elements.{All-replicate}
use Rattle.regress_meaning.specs.Table.{Table}
use Rattle.regress_meaning.specs.TableParts.{is_code_point}
use Rattle.regress_meaning.specs.Pattern.{Pattern, names_of}
use Rattle.regress_meaning.specs.Flags.{Options, is_unicode, first_settings}
use Rattle.regress_meaning.specs.Meaning.{State, Context, Forward, outcomes}
use Rattle.regress_meaning.specs.Matches.{item_at, attempt, match_list}
use Rattle.regress_meaning.specs.Laws.{LiesIn, IsInside}
use Rattle.regress_meaning.proofs.MatchLaws.{all_found-same}
use Rattle.regress_front_nodes.specs.Trees.{Tree}
use Rattle.regress_front_nodes.specs.TreeMeaning.{node_outcomes}
use Rattle.regress_front_nodes.specs.Alike.{distinct, IsAlike}
use Rattle.regress_front_nodes.specs.NodeMatches.{node_attempt, node_match_list}

-- lists of the same distinct states have the same first
item-same : (q : ℕ) (ss ts : List State) → distinct ss ≡ distinct ts → item_at q ss ≡ item_at q ts
unfolding distinct
item-same q [] [] e = refl
item-same q [] (t ∷ ts) e = absurd (cc)
item-same q (s ∷ ss) [] e = absurd (cc)
item-same q (s ∷ ss) (t ∷ ts) e = let same : s ≡ t = cc in ap (λ (u : State). Some (record { start = q; end = u.place; groups = u.groups })) same

module _ (table : Table) (o : Options) (p : Pattern) (text : List ℕ) (tree : Tree) (count : ℕ) (counted : count ≡ length (names_of p))
    (alike : IsAlike table (is_unicode o) (λ context. node_outcomes context tree Forward) (λ context. outcomes context p Forward (first_settings o)))
    (points : All is_code_point text) where
  -- what the tree is searched by
  abbrev context : Context
  context = record { text = text; table = table; unicode = is_unicode o }

  -- what is attempted at a place of the text is the same
  pub attempt-same : (q : ℕ) → q ≤ length text → node_attempt context count tree q ≡ attempt table o p text q
  unfolding node_attempt attempt
  attempt-same q within =
      let lies : Option (ℕ × ℕ) → Type 0 = λ g. IfSome g (LiesIn (length text)) in
      let s : State = record { place = q; groups = replicate (length (names_of p)) None } in
      let begins : IsInside text s = record { place = within; groups = All-replicate lies (length (names_of p)) None tt } in
      rw counted (item-same q (node_outcomes context tree Forward s) (outcomes context p Forward (first_settings o) s) (alike text points s begins))

  -- the match lists are the same
  pub match_list-same : (q : ℕ) → node_match_list context count tree q ≡ match_list table o p text q
  unfolding node_match_list match_list
  match_list-same q = all_found-same (node_attempt context count tree) (attempt table o p text) (length text) attempt-same q
