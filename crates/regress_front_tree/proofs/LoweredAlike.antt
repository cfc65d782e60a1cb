-- A lowered tree is alike its pattern.
use Rattle.std.proofs.Common.{◌≡◌, ℕ, suc, ◌+◌, ◌-◌, Bool, true, false, ◌&&◌, ◌==◌, not, List, [], ◌∷◌, ◌++◌, length, if◌then◌else◌, map, filter, reverse, slice_get, unwrap_or, All, refl, sym, ap, ◌∙◌, arith}
use Rattle.std.specs.List.{flat_map, list_any, list_all}
use Rattle.std.proofs.lemmas.Bool.Decides.{nat_tests}
use Rattle.std.proofs.lemmas.List.{append-nil}
use Rattle.std.proofs.lemmas.List.Elements.{All-nil, All-cons, All-append, All-filter}
use Rattle.std.proofs.lemmas.Grind.{flat_map-append}
use Rattle.regress_meaning.specs.Table.{Table}
use Rattle.regress_meaning.specs.TableParts.{is_code_point}
use Rattle.regress_meaning.specs.Class.{Class, no_string, range, digits, spaces, words, property, sequences, strings, union, intersection, difference, complement, nested, value_of, among}
use Rattle.regress_meaning.specs.Pattern as meaning
use Rattle.regress_meaning.specs.Pattern.{Pattern, Settings}
use Rattle.regress_meaning.specs.Meaning.{State, Direction, Forward, Backward, Context, step, same_all, closed, class_steps, captured, cleared, repeat_group, references, outcomes}
use Rattle.regress_front_tokens.specs.Trees.{sequence_of}
use Rattle.regress_front_nodes.specs.Trees.{Tree, lookaround, atomic, back, string_set, cat_of}
use Rattle.regress_front_nodes.specs.TreeMeaning.{alternatives, node_outcomes}
use Rattle.regress_front_nodes.specs.Alike.{distinct, GoAlike}
use Rattle.regress_front_nodes.specs.TreeMeaning.{direction}
use Rattle.regress_front_nodes.specs.Forms.{cat_made, in_reading_order}
use Rattle.regress_front_tree.specs.Lowering.{class_value, LowersClass, Lowers, LowersAll, of_character, of_any, of_class, of_negated_class, of_class_escape, of_terms, of_arms, of_capture, of_group, of_modified, of_repeated, of_look, of_atomic, of_reference, of_line_start, of_line_end, of_word_boundary, no_pattern, and_next, LowersTerms, no_term, next_term, next_text}
use Rattle.regress_front_nodes.proofs.DistinctLemmas.{changed-alike, submatched-alike, iterated-alike}
use Rattle.regress_front_nodes.proofs.CharacterLemmas.{takes-steps}
use Rattle.regress_front_nodes.proofs.SequenceLemmas.{made-outcomes}
use Rattle.regress_front_tree.proofs.AlikeLemmas.{AllAlike, Stays, term-ahead, term-behind, arms-outcomes, arms-alike}
use Rattle.regress_front_tree.proofs.TextSteps.{text-ahead, text-behind}
use Rattle.regress_front_tree.proofs.StringLemmas.{among-All, each-string, like, like-sized, empty-agrees, no_empty-agrees, arms-of-class}
use Rattle.regress_meaning.proofs.StepLaws.{cleared-inside}

-- what passes holds of what a filter keeps
All-kept : (p : List ℕ → Bool) (P : List ℕ → Type 0) → ((r : List ℕ) → p r ≡ true → P r) → (ss : List (List ℕ)) → All P (filter p ss)
All-kept p P h [] = All-nil P
All-kept p P h (r ∷ ss) = by_test (p r) refl (All-kept p P h ss)
  where
    by_test : (b : Bool) → p r ≡ b → All P (filter p ss) → All P (filter p (r ∷ ss))
    by_test true e rest = rw e (All-cons P r (filter p ss) (h r e) rest)
    by_test false e rest = rw e rest

-- no other string of a class is of one code point
abbrev Other : List ℕ → Type 0
Other r = (length r == 1) ≡ false

kept-others : (ss : List (List ℕ)) → All Other (filter (λ s. not (length s == 1)) ss)
kept-others ss = All-kept (λ s. not (length s == 1)) Other (λ r e. turned (length r == 1) e) ss
  where
    turned : (b : Bool) → not b ≡ true → b ≡ false
    turned false e = refl
    turned true e = absurd (cc)

others-sized : (table : Table) (folded : Bool) (c : Class) → All Other (value_of table folded c).others
unfolding value_of
others-sized table folded no_string = All-nil Other
others-sized table folded (range a b) = All-nil Other
others-sized table folded digits = All-nil Other
others-sized table folded spaces = All-nil Other
others-sized table folded words = All-nil Other
others-sized table folded (property key) = All-nil Other
others-sized table folded (sequences key) = kept-others (unwrap_or (table.sequences key) [])
others-sized table folded (strings ss) = kept-others ss
others-sized table folded (union a b) = All-append Other (value_of table folded a).others (value_of table folded b).others (others-sized table folded a) (others-sized table folded b)
others-sized table folded (intersection a b) = All-filter _ Other (value_of table folded a).others (others-sized table folded a)
others-sized table folded (difference a b) = All-filter _ Other (value_of table folded a).others (others-sized table folded a)
others-sized table folded (complement a) = All-nil Other
others-sized table folded (nested true a) = All-nil Other
others-sized table folded (nested false a) = others-sized table folded a

module _ (w : Context) (valid : All is_code_point w.text) (stays : Stays w valid) where
  -- the arms of a class, one after another
  class-outcomes : (dir : Direction) (e : Settings) (c : Class) (t : Tree) → LowersClass w.table w.unicode e c t → GoAlike w (node_outcomes w t dir) (class_steps w dir e.icase false (class_value w.table w.unicode e c))
  unfolding node_outcomes class_steps
  class-outcomes dir e c t h s inside =
      let v = class_value w.table w.unicode e c in
      let go : Tree → List State = λ u. node_outcomes w u dir s in
      let test : List ℕ → Bool = λ cs. list_any (same_all w.table w.unicode e.icase cs) v.others in
      let last : List Tree = if among v.others [] then string_set ([] ∷ []) e.icase ∷ [] else [] in
      let first : List Tree = if length h.strings == 0 then [] else string_set h.strings e.icase ∷ [] in
      let strings_are : flat_map go first ≡ each-string w valid dir s inside.place (like w valid dir s inside.place e) (like-sized w valid dir s inside.place e) h.strings = first_arm h.strings in
      let characters_are : go h.characters ≡ step w dir 1 (list_all (closed w.table w.unicode e.icase v.singles)) s = takes-steps w valid h.characters (closed w.table w.unicode e.icase v.singles) h.takes dir s in
      let last_is : flat_map go last ≡ step w dir 0 test s = last_arm (among v.others []) refl in
      let whole : go t ≡ each-string w valid dir s inside.place (like w valid dir s inside.place e) (like-sized w valid dir s inside.place e) h.strings ++ (step w dir 1 (list_all (closed w.table w.unicode e.icase v.singles)) s ++ step w dir 0 test s) =
      arms-outcomes w valid h.arms dir s ∙ flat_map-append go first (h.characters ∷ last) ∙ (λ i. strings_are i ++ (characters_are i ++ last_is i)) in
      ap distinct whole
      ∙ arms-of-class w valid dir s inside.place e v h.strings (among-All Other v.others (others-sized w.table (w.unicode && e.icase) c)) h.by_length
    where
      go : Tree → List State
      go u = node_outcomes w u dir s

      first_arm : (ss : List (List ℕ)) → flat_map (λ u. node_outcomes w u dir s) (if length ss == 0 then [] else string_set ss e.icase ∷ []) ≡ alternatives w dir e.icase ss s
      first_arm [] = refl
      first_arm (r ∷ ss) = let some : (suc (length ss) == 0) ≡ false = grind (arith, nat_tests) in rw some (append-nil (alternatives w dir e.icase (r ∷ ss) s))

      last_arm : (b : Bool) → among (class_value w.table w.unicode e c).others [] ≡ b
          → flat_map (λ u. node_outcomes w u dir s) (if b then string_set ([] ∷ []) e.icase ∷ [] else []) ≡ step w dir 0 (λ cs. list_any (same_all w.table w.unicode e.icase cs) (class_value w.table w.unicode e c).others) s
      last_arm true found = append-nil (alternatives w dir e.icase ([] ∷ []) s) ∙ append-nil (step w dir 0 (like w valid dir s inside.place e []) s) ∙ empty-agrees w valid dir s inside.place e (class_value w.table w.unicode e c).others found
      last_arm false none = sym (no_empty-agrees w valid dir s inside.place e (class_value w.table w.unicode e c).others none)

  -- references one after another
  back-one : (b : Bool) (j : ℕ) (e : Settings) (dir : Direction) (s : State) → node_outcomes w (back (j + 1) e.icase) dir s ≡ repeat_group w dir e.icase (slice_get s.groups j) s
  unfolding node_outcomes repeat_group
  back-one b j e dir s = let same : (j + 1) - 1 ≡ j = omega arith in rw same refl

  backs : (ks : List ℕ) (e : Settings) (dir : Direction) (s : State) → node_outcomes w (cat_of (map (λ j. back (j + 1) e.icase) ks)) dir s ≡ references w dir e.icase ks s
  unfolding node_outcomes references
  backs [] e dir s = refl
  backs (j ∷ ks) e dir s = (λ i. flat_map (λ r. backs ks e dir r i) (back-one true j e dir s i))

  references-are : (b : Bool) (e : Settings) (ks : List ℕ) (s : State)
      → node_outcomes w (cat_made (map (λ j. back (j + 1) e.icase) (in_reading_order b ks))) (direction b) s ≡ outcomes w (meaning.reference ks) (direction b) e s
  unfolding outcomes
  references-are false e ks s = made-outcomes w (map (λ j. back (j + 1) e.icase) ks) Forward s ∙ backs ks e Forward s
  references-are true e ks s = made-outcomes w (map (λ j. back (j + 1) e.icase) (reverse ks)) Backward s ∙ backs (reverse ks) e Backward s

  mutual
    unfolding node_outcomes outcomes class_steps

    pub lowered-alike : {b : Bool} {e : Settings} {k l : ℕ} {p : Pattern} {t : Tree} → Lowers w.table w.unicode b e k p t l → GoAlike w (node_outcomes w t (direction b)) (outcomes w p (direction b) e)
    lowered-alike {b} {e} (of_character {c = c} {t = t} h) s inside = ap distinct (takes-steps w valid t _ h (direction b) s)
    lowered-alike {b} {e} (of_any {t = t} h) s inside = ap distinct (takes-steps w valid t _ h (direction b) s)
    lowered-alike {b} {e} (of_class {c = c} {t = t} h) s inside = class-outcomes (direction b) e c t h s inside
    lowered-alike {b} {e} (of_negated_class {t = t} h) s inside = ap distinct (takes-steps w valid t _ h (direction b) s)
    lowered-alike {b} {e} (of_class_escape {c = c} {t = t} h) s inside = class-outcomes (direction b) e c t h s inside
    lowered-alike (of_terms {b = false} {ts = ts} h) s inside = rw (made-outcomes w ts Forward s) (terms-ahead h s inside)
    lowered-alike (of_terms {b = true} {ts = ts} h) s inside = rw (made-outcomes w (reverse ts) Backward s) (terms-behind h s inside)
    lowered-alike {b} {e} (of_arms {ps = ps} {ts = ts} {t = t} h arms) s inside = arms-alike w valid (direction b) e ps ts t (all-alike h) arms s inside
    lowered-alike {b} {e} (of_capture {j = j} {p = p} {t = t} full h) s inside = changed-alike (captured j s.place) (node_outcomes w t (direction b) s) (outcomes w p (direction b) e s) (lowered-alike h s inside)
    lowered-alike (of_group h) s inside = lowered-alike h s inside
    lowered-alike (of_modified h) s inside = lowered-alike h s inside
    lowered-alike {b} {e} (of_repeated {first = first} {last = last} {least = least} {most = most} {greedy = greedy} {p = p} {t = t} h) s inside =
        iterated-alike w (λ r. node_outcomes w t (direction b) (cleared first last r)) (λ r. outcomes w p (direction b) e (cleared first last r)) greedy most least
        (λ r in_text. lowered-alike h (cleared first last r) (cleared-inside w first last r in_text))
        (λ r in_text. stays p (direction b) e (cleared first last r) (cleared-inside w first last r in_text)) s inside
    lowered-alike {b} {e} (of_look {negated = negated} {backward = backward} {p = p} {t = t} h) s inside =
        ap distinct (submatched-alike w (lookaround negated backward) s (node_outcomes w t (direction backward) s) (outcomes w p (direction backward) e s) (lowered-alike h s inside))
    lowered-alike {b} {e} (of_atomic {p = p} {t = t} h) s inside =
        ap distinct (submatched-alike w atomic s (node_outcomes w t (direction b) s) (outcomes w p (direction b) e s) (lowered-alike h s inside))
    lowered-alike {b} {e} (of_reference {ks = ks}) s inside = ap distinct (references-are b e ks s)
    lowered-alike of_line_start s inside = refl
    lowered-alike of_line_end s inside = refl
    lowered-alike of_word_boundary s inside = refl

    all-alike : {b : Bool} {e : Settings} {k l : ℕ} {ps : List Pattern} {ts : List Tree} → LowersAll w.table w.unicode b e k ps ts l → AllAlike w valid (direction b) e ps ts
    all-alike no_pattern = tt
    all-alike (and_next h rest) = (lowered-alike h, all-alike rest)

    terms-ahead : {e : Settings} {k l : ℕ} {ps : List Pattern} {ts : List Tree} → LowersTerms w.table w.unicode false e k ps ts l
        → GoAlike w (node_outcomes w (cat_of ts) Forward) (outcomes w (sequence_of ps) Forward e)
    terms-ahead no_term s inside = refl
    terms-ahead {e} (next_term {p = p} {ps = ps} {t = t} {ts = ts} h rest) s inside = term-ahead w valid stays e p ps t ts (lowered-alike h) (terms-ahead rest) s inside
    terms-ahead {e} (next_text {cs = cs} {ps = ps} {us = us} {ts = ts} pieces rest) s inside = text-ahead w valid stays e cs us pieces ps ts (terms-ahead rest) s inside

    terms-behind : {e : Settings} {k l : ℕ} {ps : List Pattern} {ts : List Tree} → LowersTerms w.table w.unicode true e k ps ts l
        → GoAlike w (node_outcomes w (cat_of (reverse ts)) Backward) (outcomes w (sequence_of ps) Backward e)
    terms-behind no_term s inside = refl
    terms-behind {e} (next_term {p = p} {ps = ps} {t = t} {ts = ts} h rest) s inside = term-behind w valid stays e p ps t ts (lowered-alike h) (terms-behind rest) s inside
    terms-behind {e} (next_text {cs = cs} {ps = ps} {us = us} {ts = ts} pieces rest) s inside = text-behind w valid stays e cs us pieces ps ts (terms-behind rest) s inside
