-- What a tree matches: the ordered list of its outcomes from a state, by the words of `regress_meaning`. A tree is taken as
-- it is stored: its parts in their order in both directions, its sets without a closure.
use Rattle.std.specs.Prelude.{ℕ, ◌-◌, Bool, true, not, ◌&&◌, ◌||◌, ◌==◌, List, [], ◌∷◌, ◌++◌, length, take, if◌then◌else◌, slice_get, map, nat_eq, chars}
use Rattle.std.specs.List.{flat_map, list_all}
use Rattle.regress_meaning.specs.Text.{holds, same_text}
use Rattle.regress_meaning.specs.TableParts.{in_intervals}
use Rattle.regress_meaning.specs.Meaning.{State, Direction, Forward, Backward, Outcomes, Context, is_some_and, is_line_end, differ, before, after, step, same_all, iterations, cleared, looked, captured, repeat_group, keep_if}
use Rattle.regress_front_nodes.specs.Trees.{Tree, empty, goal, char, bytes, byte_set, char_set, cat, no_part, alt, any, any_in_line, line_start, line_end, boundary, capture, back, bracket, string_set, submatch, loop, single_loop, Submatch, lookaround, atomic}

-- in which direction a part is read
abbrev pub direction : Bool → Direction
direction backward = if backward then Backward else Forward

-- in which direction what is matched by itself is read, inside what is read in a direction
abbrev pub submatch_direction : Submatch → Direction → Direction
submatch_direction (lookaround negated backward) dir = direction backward
submatch_direction atomic dir = dir

-- whether it is read backward, inside what is or is not
abbrev pub reads_backward : Submatch → Bool → Bool
reads_backward (lookaround negated backward) behind = backward
reads_backward atomic behind = behind

-- what follows it, by the outcomes of its contents: of an atomic group the first alone
abbrev pub submatched : Submatch → State → List State → List State
submatched (lookaround negated backward) s ts = looked negated s ts
submatched atomic s ts = take 1 ts

-- a bracket matches the code point
abbrev pub bracket_has : Bool → List (ℕ × ℕ) → ℕ → Bool
bracket_has inverted intervals c = if inverted then not (in_intervals intervals c) else in_intervals intervals c

module _ (context : Context) where
  -- one character that passes the test
  abbrev pub one : Direction → (ℕ → Bool) → Outcomes
  one dir test s = step context dir 1 (list_all test) s

  -- the characters stand beside the place, in the order of the text in both directions
  abbrev pub literal_steps : Direction → List ℕ → Outcomes
  literal_steps dir cs s = step context dir (length cs) (same_text cs) s

  -- the strings that stand beside the place, one after another
  abbrev pub alternatives : Direction → Bool → List (List ℕ) → Outcomes
  alternatives dir icase strings s = flat_map (λ cs. step context dir (length cs) (same_all context.table context.unicode icase cs) s) strings

  -- The outcomes of a tree, in a direction.
  unfoldable pub node_outcomes : Tree → Direction → Outcomes
  node_outcomes empty dir s = s ∷ []
  node_outcomes goal dir s = s ∷ []
  node_outcomes (char c) dir s = one dir (nat_eq c) s
  node_outcomes (bytes bs) dir s = literal_steps dir (chars bs) s
  node_outcomes (byte_set bs) dir s = one dir (holds bs) s
  node_outcomes (char_set cs) dir s = one dir (holds cs) s
  node_outcomes (cat a b) dir s = flat_map (node_outcomes b dir) (node_outcomes a dir s)
  node_outcomes no_part dir s = s ∷ []
  node_outcomes (alt a b) dir s = node_outcomes a dir s ++ node_outcomes b dir s
  node_outcomes any dir s = one dir (λ c. true) s
  node_outcomes any_in_line dir s = one dir (λ c. not (is_line_end c)) s
  node_outcomes (line_start multiline) dir s =
      keep_if (s.place == 0 || (multiline && is_some_and (before context s.place) is_line_end)) s
  node_outcomes (line_end multiline) dir s =
      keep_if (s.place == length context.text || (multiline && is_some_and (after context s.place) is_line_end)) s
  node_outcomes (boundary inverted folded) dir s =
      let d = differ context.table folded (before context s.place) (after context s.place) in keep_if (if inverted then not d else d) s
  node_outcomes (capture k name a) dir s = map (captured k s.place) (node_outcomes a dir s)
  node_outcomes (back k icase) dir s = repeat_group context dir icase (slice_get s.groups (k - 1)) s
  node_outcomes (bracket inverted intervals) dir s = one dir (bracket_has inverted intervals) s
  node_outcomes (string_set strings icase) dir s = alternatives dir icase strings s
  node_outcomes (submatch kind first last a) dir s = submatched kind s (node_outcomes a (submatch_direction kind dir) s)
  node_outcomes (loop a first last least most greedy) dir s =
      iterations (λ t. node_outcomes a dir (cleared first last t)) greedy most least s
  node_outcomes (single_loop a least most greedy) dir s = iterations (node_outcomes a dir) greedy most least s
