use Rattle.std.proofs.Common.{◌≡◌, ℕ, ◌+◌, ◌*◌, ◌≤◌, Bool, true, false, ◌&&◌, ◌||◌, List, [], ◌∷◌, length, append-nil, codes, refl, sym, ap, subst, ◌∙◌, arith, zero-add}
use Rattle.std.proofs.Math.Nat.{mul-le-mul_right}
use Rattle.regress_meaning.specs.Table.{Table}
use Rattle.regress_meaning.specs.Text.{count_up}
use Rattle.regress_meaning.specs.Flags.{Options, is_unicode, first_settings, settings_of}
use Rattle.regress_meaning.specs.Pattern as meaning
use Rattle.regress_meaning.specs.Pattern.{Pattern, Settings, names_of}
use Rattle.regress_meaning.specs.Limits.{quantifiers, most_groups}
use Rattle.regress_meaning.specs.Meaning.{State, Forward, Context, with}
use Rattle.regress_meaning.specs.Numbering.{group_numbers, IsNumbered, FitsGroups}
use Rattle.regress_meaning.specs.Points.{HoldsNoStrings}
use Rattle.regress_meaning.specs.Weights.{weight}
use Rattle.regress_meaning.specs.WholeText.{of_text, whole_text}
use Rattle.regress_front_nodes.specs.Trees.{Tree, goal, cat_of, line_start, line_end}
use Rattle.regress_front_nodes.specs.TreeMeaning.{node_outcomes}
use Rattle.regress_front_nodes.specs.Alike.{distinct}
use Rattle.regress_front_nodes.specs.WellFormed.{group_ids, AreNumbered, name_by_number}
use Rattle.regress_front_tree.specs.Lowering.{Lowers, of_terms, of_group, of_modified, of_line_start, of_line_end, no_term, next_term}
use Rattle.regress_front_tree.specs.Lowered.{IsLowered, IsWhole}
use Rattle.regress_front_tree.specs.Parsed.{IsLoweredFrom, IsTreeMade, between_ends}
use Rattle.regress_front_nodes.proofs.OptionLemmas.{option_or-none}
use Rattle.regress_front_nodes.proofs.StepLemmas.{flat_map-self}
use Rattle.regress_front_tree.proofs.wholes.lowered_trees_make_wholes.Goals as goals

-- What is asked of a pattern, for its tree to be as a whole tree of a text has to be.
record Suits (o : Options) (text : List ℕ) (p : Pattern) : Type 0 where
  numbered : IsNumbered p
  few : length (names_of p) ≤ most_groups
  small : weight p ≤ (length (names_of p) + 2) * length text + 6
  groups : length (names_of p) ≤ length text
  loops : quantifiers p ≤ length text
  plain : o.sets ≡ false → HoldsNoStrings p

-- two nodes more than a pattern takes are few for its text
few_nodes : (g m w : ℕ) → g ≤ m → w ≤ (g + 2) * m + 6 → w + 2 ≤ (m + 4) * (m + 4)
few_nodes g m w h k = let most : (g + 2) * m ≤ (m + 2) * m = mul-le-mul_right m (omega (arith, h)) in omega (arith, most, k)

-- what a lowered tree becomes with the end of the whole behind it
whole : {o : Options} {text : List ℕ} {p : Pattern} {t : Tree} {l : ℕ} → Suits o text p → IsLowered (length (names_of p)) 0 p t l
    → IsWhole o text p (cat_of (t ∷ goal ∷ []))
whole {text = text} {p = p} {t = t} {l = l} s a = record {
  well_formed = record {
    one_goal = omega (arith, a.no_goal);
    ended = refl;
    numbered = subst (λ ids. AreNumbered 0 (length (names_of p)) ids) (sym (append-nil (group_ids t)))
        (subst (λ last. AreNumbered 0 last (group_ids t)) (omega (arith, a.counted)) a.numbered);
    lawful = (a.lawful, (tt, tt));
  };
  named = λ k. option_or-none (name_by_number k t) ∙ (ap (λ j. name_by_number j t) (sym (zero-add k)) ∙ a.named k);
  small = λ e. few_nodes (length (names_of p)) (length text) _ s.groups (omega (arith, s.small, a.small (s.plain e)));
  few_loops = omega (arith, a.looped, s.loops);
  few_groups = s.groups;
  plain = (a.plain, (tt, tt));
}

-- the end of the whole changes no outcome
ended : (w : Context) (t : Tree) (s : State) → node_outcomes w (cat_of (t ∷ goal ∷ [])) Forward s ≡ node_outcomes w t Forward s
unfolding node_outcomes
ended w t s = flat_map-self (node_outcomes w t Forward s)

-- the pattern over a whole text suits where the pattern does
suits-whole : (o : Options) (text : List ℕ) (p : Pattern) → Suits o text p → weight p ≤ (length (names_of p) + 2) * length text + 1
    → Suits o text (whole_text p)
suits-whole o text p s small = record {
  numbered = record {
    in_order = append-nil (group_numbers p) ∙ s.numbered.in_order ∙ ap (count_up 0) (sym same);
    fitting = ((tt, tt), (subst (λ n. FitsGroups n p) (sym same) s.numbered.fitting, ((tt, tt), tt)));
  };
  few = omega (arith, same, s.few);
  small = subst (λ n. weight (whole_text p) ≤ (n + 2) * length text + 6) (sym same) (omega (arith, small));
  groups = omega (arith, same, s.groups);
  loops = omega (arith, s.loops);
  plain = λ e. ((tt, tt), (s.plain e, ((tt, tt), tt)));
}
  where
    same : length (names_of (whole_text p)) ≡ length (names_of p)
    same = ap length (append-nil (names_of p))

-- what is switched off is off
off : (b : Bool) → ((b || false) && false) ≡ false
off true = refl
off false = refl

-- the assertions at both ends, and the pattern between them, are lowered one by one
module _ (table : Table) (unicode : Bool) (e : Settings) where
  within : Settings
  within = with (settings_of []) (settings_of (codes "m")) e

  start-lowered : (k : ℕ) → Lowers table unicode false e k (of_text meaning.line_start) (line_start false) k
  unfolding within
  start-lowered k = of_modified (subst (λ b. Lowers table unicode false within k (meaning.sequence meaning.line_start meaning.nothing) (line_start b) k) (off e.multiline)
      (of_terms (next_term of_line_start no_term)))

  end-lowered : (k : ℕ) → Lowers table unicode false e k (of_text meaning.line_end) (line_end false) k
  unfolding within
  end-lowered k = of_modified (subst (λ b. Lowers table unicode false within k (meaning.sequence meaning.line_end meaning.nothing) (line_end b) k) (off e.multiline)
      (of_terms (next_term of_line_end no_term)))

  whole-lowered : {p : Pattern} {t : Tree} {l : ℕ} → Lowers table unicode false e 0 p t l → Lowers table unicode false e 0 (whole_text p) (between_ends t) l
  whole-lowered {l = l} h = of_terms (next_term (start-lowered 0) (next_term (of_group h) (next_term (end-lowered l) no_term)))

module _ (c : goals.After-classes_without_sets_hold_no_strings) (table : Table) (o : Options) (text : List ℕ) (p : Pattern) (t : Tree) (from : IsLoweredFrom table o text p t) where
  suits : Suits o text p
  suits = record {
    numbered = c.spelled_trees_are_numbered.ensures table o text p from.spelled;
    few = from.within.groups;
    small = let small = c.spelled_trees_are_small.ensures.weight table o text p from.spelled in omega (arith, small);
    groups = c.spelled_trees_are_small.ensures.groups table o text p from.spelled;
    loops = c.spelled_trees_are_small.ensures.quantifiers table o text p from.spelled;
    plain = λ e. c.classes_without_sets_hold_no_strings.ensures.trees table o text p e from.spelled;
  }

  -- a tree to which what is made of the pattern is lowered is a tree of that, with the end of the whole behind it
  tree-made : (made : Pattern → Pattern) (u : Tree) (l : ℕ) → Suits o text (made p) → Lowers table (is_unicode o) false (first_settings o) 0 (made p) u l
      → IsTreeMade made table o text p (cat_of (u ∷ goal ∷ []))
  tree-made made u l s lowered = record {
    spelled = from.spelled;
    within = from.within;
    alike = λ searched points at inside. ap distinct (ended (record { text = searched; table = table; unicode = is_unicode o }) u at)
        ∙ c.lowered_trees_are_alike.ensures table (is_unicode o) false (first_settings o) 0 (made p) u l lowered searched points at inside;
    whole = whole s (c.lowered_trees_are_lawful.ensures table (is_unicode o) false (first_settings o) (length (names_of (made p))) 0 (made p) u l lowered
        s.numbered.in_order s.numbered.fitting (omega (arith, s.few)));
  }

pub returns-clause-alone : goals.returns-clause-alone
returns-clause-alone c = λ table o text p t from. tree-made c table o text p t from (λ q. q) t from.opened (suits c table o text p t from) from.lowered

pub returns-clause-between_ends : goals.returns-clause-between_ends
returns-clause-between_ends c = λ table o text p t from.
    tree-made c table o text p t from whole_text (between_ends t) from.opened
    (suits-whole o text p (suits c table o text p t from) (c.spelled_trees_are_small.ensures.weight table o text p from.spelled))
    (whole-lowered table (is_unicode o) (first_settings o) from.lowered)
