-- Where a tree leads: its outcomes lie on one side of the place that it starts from, stay inside the text, and have as
-- many groups.
use Rattle.std.proofs.Common.{ℕ, ◌-◌, Bool, List, [], ◌∷◌, length, slice_get}
use Rattle.std.proofs.lemmas.List.Elements.{All-take}
use Rattle.regress_meaning.specs.Meaning.{Direction, Outcomes, Context, step, same_all, cleared}
use Rattle.regress_meaning.proofs.StepLaws.{To, Goes, none, stays, Goes-then, Goes-both, Goes-step, Goes-keep_if, Goes-repeat_group, Goes-cleared, Goes-iterations, Goes-looked, Goes-captured}
use Rattle.regress_front_nodes.specs.Trees.{Tree, empty, goal, char, bytes, byte_set, char_set, cat, no_part, alt, any, any_in_line, line_start, line_end, boundary, capture, back, bracket, string_set, submatch, loop, single_loop, Submatch, lookaround, atomic}
use Rattle.regress_front_nodes.specs.TreeMeaning.{direction, submatch_direction, submatched, alternatives, node_outcomes}

module _ (context : Context) where
  Goes-alternatives : (dir : Direction) (icase : Bool) (strings : List (List ℕ)) → Goes context dir (alternatives context dir icase strings)
  Goes-alternatives dir icase [] s = none context dir s
  Goes-alternatives dir icase (cs ∷ strings) s =
      Goes-both context dir (step context dir (length cs) (same_all context.table context.unicode icase cs)) (alternatives context dir icase strings)
      (Goes-step context dir (length cs) (same_all context.table context.unicode icase cs)) (Goes-alternatives dir icase strings) s

  -- what is matched by itself stays in the text and leads ahead, if its contents do
  Goes-submatched : (dir : Direction) (kind : Submatch) (f : Direction → Outcomes) → ((d : Direction) → Goes context d (f d))
      → Goes context dir (λ s. submatched kind s (f (submatch_direction kind dir) s))
  Goes-submatched dir (lookaround negated backward) f goes s =
      let turned : Direction = direction backward in Goes-looked context dir turned negated (f turned) (goes turned) s
  Goes-submatched dir atomic f goes s = All-take (To context dir s) 1 (f dir s) (goes dir s)

  -- from each state all outcomes of a tree are ahead, and inside the text if the state is
  pub Goes-outcomes : (t : Tree) (dir : Direction) → Goes context dir (node_outcomes context t dir)
  unfolding node_outcomes
  Goes-outcomes empty dir s = stays context dir s
  Goes-outcomes goal dir s = stays context dir s
  Goes-outcomes (char c) dir s = Goes-step context dir 1 _ s
  Goes-outcomes (bytes bs) dir s = Goes-step context dir _ _ s
  Goes-outcomes (byte_set bs) dir s = Goes-step context dir 1 _ s
  Goes-outcomes (char_set cs) dir s = Goes-step context dir 1 _ s
  Goes-outcomes (cat a b) dir s =
      Goes-then context dir (node_outcomes context a dir) (node_outcomes context b dir) (Goes-outcomes a dir) (Goes-outcomes b dir) s
  Goes-outcomes no_part dir s = stays context dir s
  Goes-outcomes (alt a b) dir s =
      Goes-both context dir (node_outcomes context a dir) (node_outcomes context b dir) (Goes-outcomes a dir) (Goes-outcomes b dir) s
  Goes-outcomes any dir s = Goes-step context dir 1 _ s
  Goes-outcomes any_in_line dir s = Goes-step context dir 1 _ s
  Goes-outcomes (line_start multiline) dir s = Goes-keep_if context dir _ s
  Goes-outcomes (line_end multiline) dir s = Goes-keep_if context dir _ s
  Goes-outcomes (boundary inverted folded) dir s = Goes-keep_if context dir _ s
  Goes-outcomes (capture k name a) dir s = Goes-captured context dir k (node_outcomes context a dir) (Goes-outcomes a dir) s
  Goes-outcomes (back k icase) dir s = Goes-repeat_group context dir icase (slice_get s.groups (k - 1)) s
  Goes-outcomes (bracket inverted intervals) dir s = Goes-step context dir 1 _ s
  Goes-outcomes (string_set strings icase) dir s = Goes-alternatives dir icase strings s
  Goes-outcomes (submatch kind first last a) dir s = Goes-submatched dir kind (node_outcomes context a) (Goes-outcomes a) s
  Goes-outcomes (loop a first last least most greedy) dir s =
      Goes-iterations context dir (λ t. node_outcomes context a dir (cleared first last t))
      (Goes-cleared context dir first last (node_outcomes context a dir) (Goes-outcomes a dir)) greedy most least s
  Goes-outcomes (single_loop a least most greedy) dir s =
      Goes-iterations context dir (node_outcomes context a dir) (Goes-outcomes a dir) greedy most least s
