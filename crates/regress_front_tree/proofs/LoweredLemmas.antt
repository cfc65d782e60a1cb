-- A lowered tree is lawful, has the groups, the names and the loops of its pattern, and is as small.
use Rattle.std.proofs.Common.{◌≡◌, ℕ, ◌+◌, ◌-◌, ◌<◌, ◌≤◌, Bool, true, false, not, ◌&&◌, ◌==◌, List, [], ◌∷◌, ◌++◌, length, Some, None, map, reverse, refl, sym, ap, ◌∙◌, subst, arith, length-append}
use Rattle.std.proofs.lemmas.List.{length-reverse, reverse-append}
use Rattle.regress_meaning.specs.Text.{count_up}
use Rattle.regress_meaning.specs.Table.{Table}
use Rattle.regress_meaning.specs.Class.{Class, value_of, among}
use Rattle.regress_meaning.specs.Pattern.{Pattern, Settings, names_of}
use Rattle.regress_meaning.specs.Numbering.{group_numbers, FitsGroups}
use Rattle.regress_meaning.specs.Limits.{quantifiers, most_groups}
use Rattle.regress_meaning.specs.Points.{ClassHoldsNoStrings, HoldsNoStrings}
use Rattle.regress_meaning.specs.Weights.{weight}
use Rattle.regress_front_tokens.specs.Trees.{sequence_of, choice_of}
use Rattle.regress_front_nodes.specs.Trees.{Tree, char, byte_set, char_set, any, any_in_line, line_start, line_end, boundary, back, bracket, cat_of}
use Rattle.regress_front_nodes.specs.Sizes.{size}
use Rattle.regress_front_tree.specs.Lowered.{IsLowered}
use Rattle.regress_front_nodes.specs.Characters.{is_character}
use Rattle.regress_front_nodes.specs.Forms.{cat_made, in_reading_order}
use Rattle.regress_front_tree.specs.Lowering.{HasArms, one_arm, two_halves, class_arms, class_value, LowersClass, Lowers, of_character, of_any, of_class, of_negated_class, of_class_escape, of_terms, of_arms, of_capture, of_group, of_modified, of_repeated, of_look, of_atomic, of_reference, of_line_start, of_line_end, of_word_boundary, LowersAll, no_pattern, and_next, LowersTerms, no_term, next_term, next_text}
use Rattle.regress_front_tree.proofs.SameLemmas.{same-push, same-made, same-arms}
use Rattle.regress_front_tree.proofs.GroupLemmas.{Fits, same-fits, Leaf, leaf, cat-fits, back-fits, takes-leaf, no_part-leaf, class-leaves, All-turned, back-leaves, capture-fits}
use Rattle.regress_front_tree.proofs.TextTerms.{text-names, text-plain, text-weight, text-numbered, text-fits, pieces-size}
use Rattle.regress_front_tree.proofs.NumberLemmas.{numbered-from, IsNumberedFrom, sequence-numbered, capture-numbered, choice-names, choice-numbers, choice-quantifiers, choice-numbered}
use Rattle.regress_front_nodes.proofs.NodeLemmas.{same_text-same}

-- how many nodes there are

join-size : (ts us : List Tree) → size (cat_of (ts ++ us)) + 1 ≡ size (cat_of ts) + size (cat_of us)
join-size [] us = omega arith
join-size (t ∷ ts) us = omega (arith, join-size ts us)

turned-size : (b : Bool) (ts : List Tree) → size (cat_of (in_reading_order b ts)) ≡ size (cat_of ts)
turned-size false ts = refl
turned-size true [] = refl
turned-size true (t ∷ ts) = rw (reverse-append (t ∷ []) ts) (omega (arith, join-size (reverse ts) (t ∷ []), turned-size true ts))

made-size : (ts : List Tree) → size (cat_made ts) ≤ size (cat_of ts)
made-size [] = omega arith
made-size (t ∷ []) = omega arith
made-size (t ∷ u ∷ ts) = omega arith

arms-size : {ts : List Tree} {t : Tree} → HasArms ts t → size t + 2 ≡ size (cat_of ts) + length ts
arms-size one_arm = omega arith
arms-size (two_halves {ts} {us} h k) = omega (arith, arms-size h, arms-size k, join-size ts us, length-append ts us)

choice-weight : (p : Pattern) (ps : List Pattern)
    → weight (choice_of (p ∷ ps)) + 2 ≡ weight (sequence_of (p ∷ ps)) + length (p ∷ ps)
choice-weight p [] = omega arith
choice-weight p (q ∷ ps) = omega (arith, choice-weight q ps)

choice-plain : (ps : List Pattern) → HoldsNoStrings (choice_of ps) → HoldsNoStrings (sequence_of ps)
choice-plain [] h = h
choice-plain (p ∷ []) h = (h, tt)
choice-plain (p ∷ q ∷ ps) h = (h.0, choice-plain (q ∷ ps) h.1)

turned-length : {A : Type 0} (b : Bool) (xs : List A) → length (in_reading_order b xs) ≡ length xs
turned-length false xs = refl
turned-length true xs = length-reverse xs

backs-size : (icase : Bool) (js : List ℕ) → size (cat_of (map (λ j. back (j + 1) icase) js)) ≡ length js + 1
backs-size icase [] = refl
backs-size icase (j ∷ js) = omega (arith, backs-size icase js)

-- one character is one node
takes-size : (t : Tree) → is_character t ≡ true → size t ≡ 1
takes-size (char c) e = refl
takes-size (byte_set bs) e = refl
takes-size (char_set cs) e = refl
takes-size any e = refl
takes-size any_in_line e = refl
takes-size (bracket inverted intervals) e = refl
takes-size _ e = absurd (cc)

-- where no string is longer or shorter than one, a class is its characters

no-strings : (strings : List (List ℕ)) → ((s : List ℕ) → among strings s ≡ (not (length s == 0) && among [] s)) → strings ≡ []
no-strings [] members = refl
no-strings (s ∷ ss) members =
    let found : among (s ∷ ss) s ≡ true = rw (same_text-same s) refl in
    let missing : (not (length s == 0) && false) ≡ true = sym (members s) ∙ found in
    absurd (neither (not (length s == 0)) missing)
  where
    neither : (b : Bool) → (b && false) ≡ true → ⊥
    neither true h = absurd (cc)
    neither false h = absurd (cc)

-- the value of a class without strings has none but those of one code point
abbrev HaveNoStrings : Type 0
HaveNoStrings = (table : Table) → (folded : Bool) → (s : Class) → ClassHoldsNoStrings s → (value_of table folded s).others ≡ []

-- A tree has the groups, the names and the loops of a pattern.
abbrev FitsPart : ℕ → ℕ → Pattern → Tree → Type 0
FitsPart n k p t = Fits n k (group_numbers p) (names_of p) (quantifiers p) t

-- how many groups were opened

module _ (table : Table) (unicode : Bool) where
  mutual
    counted : {b : Bool} {e : Settings} {k l : ℕ} {p : Pattern} {t : Tree} → Lowers table unicode b e k p t l
        → k + length (names_of p) ≤ most_groups → l ≡ k + length (names_of p)
    counted (of_character h) few = omega arith
    counted (of_any h) few = omega arith
    counted (of_class h) few = omega arith
    counted (of_negated_class h) few = omega arith
    counted (of_class_escape h) few = omega arith
    counted (of_terms h) few = terms-counted h few
    counted (of_arms {ps = ps} h a) few =
        let e = ap length (choice-names ps) in
        omega (arith, few, e, all-counted h (omega (arith, few, e)))
    counted (of_capture {name = None} full h) few = omega (arith, few, counted h (omega (arith, few)))
    counted (of_capture {name = Some name} full h) few = omega (arith, few, counted h (omega (arith, few)))
    counted (of_group h) few = counted h few
    counted (of_modified h) few = counted h few
    counted (of_repeated h) few = counted h few
    counted (of_look h) few = counted h few
    counted (of_atomic h) few = counted h few
    counted of_reference few = omega arith
    counted of_line_start few = omega arith
    counted of_line_end few = omega arith
    counted of_word_boundary few = omega arith

    all-counted : {b : Bool} {e : Settings} {k l : ℕ} {ps : List Pattern} {ts : List Tree} → LowersAll table unicode b e k ps ts l
        → k + length (names_of (sequence_of ps)) ≤ most_groups → l ≡ k + length (names_of (sequence_of ps))
    all-counted no_pattern few = omega arith
    all-counted (and_next {p = p} {ps = ps} h i) few =
        let both = length-append (names_of p) (names_of (sequence_of ps)) in
        let first = counted h (omega (arith, few, both)) in
        omega (arith, both, first, all-counted i (omega (arith, few, both, first)))

    terms-counted : {b : Bool} {e : Settings} {k l : ℕ} {ps : List Pattern} {ts : List Tree} → LowersTerms table unicode b e k ps ts l
        → k + length (names_of (sequence_of ps)) ≤ most_groups → l ≡ k + length (names_of (sequence_of ps))
    terms-counted no_term few = omega arith
    terms-counted (next_term {p = p} {ps = ps} h i) few =
        let both = length-append (names_of p) (names_of (sequence_of ps)) in
        let first = counted h (omega (arith, few, both)) in
        omega (arith, both, first, terms-counted i (omega (arith, few, both, first)))
    terms-counted (next_text {cs = cs} {ps = ps} pieces i) few =
        let same = ap length (text-names cs ps) in
        omega (arith, same, terms-counted i (omega (arith, few, same)))

  -- the groups, the names and the loops

  class-leaf : {n k : ℕ} {e : Settings} {c : Class} {t : Tree} → LowersClass table unicode e c t → Leaf n k t
  class-leaf {e = e} {c = c} h =
      let has_empty = among (class_value table unicode e c).others [] in
      let characters = takes-leaf h.characters h.takes.alone h.takes.lawful in
      same-fits (same-arms h.arms)
      (class-leaves e.icase h.strings h.characters (length h.strings == 0) has_empty h.by_length.points characters)

  mutual
    fits : {b : Bool} {e : Settings} {n k l : ℕ} {p : Pattern} {t : Tree} → Lowers table unicode b e k p t l
        → IsNumberedFrom n k p → FitsPart n k p t
    fits (of_character {t = t} h) m = takes-leaf t h.alone h.lawful
    fits (of_any {t = t} h) m = takes-leaf t h.alone h.lawful
    fits (of_class h) m = class-leaf h
    fits (of_negated_class {t = t} h) m = takes-leaf t h.alone h.lawful
    fits (of_class_escape h) m = class-leaf h
    fits (of_terms {b = false} {ts = ts} h) m = same-fits (same-made ts) (terms-fits h m).0
    fits (of_terms {b = true} {ts = ts} h) m = same-fits (same-made (reverse ts)) (terms-fits h m).1
    fits {n = n} {k = k} (of_arms {ps = ps} {ts = ts} {t = t} h a) m =
        let terms : Pattern = sequence_of ps in
        let arms : Pattern = choice_of ps in
        let all : FitsPart n k terms (cat_of ts) = all-fits h (choice-numbered ps m) in
        let numbers = subst (λ ns. Fits n k ns (names_of terms) (quantifiers terms) (cat_of ts)) (choice-numbers ps) all in
        let names = subst (λ ns. Fits n k (group_numbers arms) ns (quantifiers terms) (cat_of ts)) (choice-names ps) numbers in
        let loops = subst (λ c. Fits n k (group_numbers arms) (names_of arms) c (cat_of ts)) (choice-quantifiers ps) names in
        same-fits (same-arms a) loops
    fits (of_capture {j = j} {name = None} {p = p} full h) m =
        let (first, inner) = capture-numbered j None p m in
        capture-fits None full first (fits h inner)
    fits (of_capture {j = j} {name = Some name} {p = p} full h) m =
        let (first, inner) = capture-numbered j (Some name) p m in
        capture-fits (Some name) full first (fits h inner)
    fits (of_group h) m = fits h (record { in_order = m.in_order; fitting = m.fitting; few = m.few })
    fits (of_modified h) m = fits h (record { in_order = m.in_order; fitting = m.fitting; few = m.few })
    fits (of_repeated {first = first} {last = last} {t = t} h) m =
        let a = fits h (record { in_order = m.in_order; fitting = m.fitting.3; few = m.few }) in
        record {
          ids = a.ids;
          lawful = (numbered-from (last - first) a.ids m.fitting.1 (omega (arith, m.fitting.0)), m.fitting.2, a.lawful);
          no_goal = a.no_goal;
          looped = ap (λ c. c + 1) a.looped;
          named = a.named;
          none_before = a.none_before;
          plain = a.plain;
        }
    fits (of_look {p = p} {t = t} h) m =
        let a = fits h (record { in_order = m.in_order; fitting = m.fitting; few = m.few }) in
        record {
          ids = a.ids;
          lawful = (numbered-from (length (names_of p)) a.ids m.in_order (counted h m.few), a.lawful);
          no_goal = a.no_goal;
          looped = a.looped;
          named = a.named;
          none_before = a.none_before;
          plain = a.plain;
        }
    fits (of_atomic {p = p} {t = t} h) m =
        let a = fits h (record { in_order = m.in_order; fitting = m.fitting; few = m.few }) in
        record {
          ids = a.ids;
          lawful = (numbered-from (length (names_of p)) a.ids m.in_order (counted h m.few), a.lawful);
          no_goal = a.no_goal;
          looped = a.looped;
          named = a.named;
          none_before = a.none_before;
          plain = a.plain;
        }
    fits {n = n} (of_reference {b = b} {e = e} {ks = ks}) m =
        same-fits (same-made (map (λ j. back (j + 1) e.icase) (in_reading_order b ks)))
        (back-leaves e.icase (in_reading_order b ks) (All-turned (λ j. j < n) b ks m.fitting))
    fits (of_line_start {e = e}) m = leaf (line_start e.multiline) refl tt refl refl (λ i. refl) tt
    fits (of_line_end {e = e}) m = leaf (line_end e.multiline) refl tt refl refl (λ i. refl) tt
    fits (of_word_boundary {e = e} {negated = negated}) m =
        leaf (boundary negated (unicode && e.icase)) refl tt refl refl (λ i. refl) tt

    all-fits : {b : Bool} {e : Settings} {n k l : ℕ} {ps : List Pattern} {ts : List Tree} → LowersAll table unicode b e k ps ts l
        → IsNumberedFrom n k (sequence_of ps) → FitsPart n k (sequence_of ps) (cat_of ts)
    all-fits no_pattern m = no_part-leaf
    all-fits {n = n} {k = k} (and_next {ps = ps} h i) m =
        let parts = sequence-numbered m in
        let e = counted h parts.0.few in
        cat-fits e (fits h parts.0) (all-fits i (subst (λ j. IsNumberedFrom n j (sequence_of ps)) (sym e) parts.1))

    terms-fits : {b : Bool} {e : Settings} {n k l : ℕ} {ps : List Pattern} {ts : List Tree} → LowersTerms table unicode b e k ps ts l
        → IsNumberedFrom n k (sequence_of ps) → FitsPart n k (sequence_of ps) (cat_of ts) × FitsPart n k (sequence_of ps) (cat_of (reverse ts))
    terms-fits no_term m = (no_part-leaf, no_part-leaf)
    terms-fits {n = n} {k = k} (next_term {p = p} {ps = ps} {t = t} {ts = ts} h i) m =
        let parts = sequence-numbered m in
        let e = counted h parts.0.few in
        let a = fits h parts.0 in
        let rest = terms-fits i (subst (λ j. IsNumberedFrom n j (sequence_of ps)) (sym e) parts.1) in (
          cat-fits e a rest.0,
          subst (λ us. FitsPart n k (sequence_of (p ∷ ps)) (cat_of us)) (sym (reverse-append (t ∷ []) ts))
              (same-fits (same-push (reverse ts) t) (back-fits e a rest.1)),
        )
    terms-fits (next_text {cs = cs} {ps = ps} {us = us} {ts = ts} pieces i) m = text-fits cs ps us ts pieces.kinds pieces.lawful (terms-fits i (text-numbered cs ps m))

  -- how many nodes there are

  module _ (values : HaveNoStrings) where
    class-size : {e : Settings} {c : Class} {t : Tree} → LowersClass table unicode e c t → ClassHoldsNoStrings c → size t ≤ 1
    class-size {e = e} {c = c} {t = t} h plain =
        let others : (class_value table unicode e c).others ≡ [] = values table (unicode && e.icase) c plain in
        let members = subst (λ ss. (s : List ℕ) → among h.strings s ≡ (not (length s == 0) && among ss s)) others h.by_length.members in
        let few = subst (λ ss. HasArms (class_arms e.icase h.strings h.characters (among ss [])) t) others h.arms in
        let alone : HasArms (h.characters ∷ []) t =
        subst (λ ss. HasArms (class_arms e.icase ss h.characters false) t) (no-strings h.strings members) few in
        omega (arith, arms-size alone, takes-size h.characters h.takes.alone)

    mutual
      sized : {b : Bool} {e : Settings} {k l : ℕ} {p : Pattern} {t : Tree} → Lowers table unicode b e k p t l
          → HoldsNoStrings p → size t ≤ weight p
      sized (of_character {t = t} h) plain = omega (arith, takes-size t h.alone)
      sized (of_any {t = t} h) plain = omega (arith, takes-size t h.alone)
      sized (of_class h) plain = class-size h plain
      sized (of_negated_class {t = t} h) plain = omega (arith, takes-size t h.alone)
      sized (of_class_escape h) plain = class-size h plain
      sized (of_terms {b = b} {ts = ts} h) plain =
          omega (arith, made-size (in_reading_order b ts), turned-size b ts, terms-sized h plain)
      sized (of_arms {ps = []} {ts = ts} h a) plain = omega (arith, arms-size a, (all-sized h plain).0, (all-sized h plain).1)
      sized (of_arms {ps = p ∷ ps} {ts = ts} h a) plain =
          let rest = all-sized h (choice-plain (p ∷ ps) plain) in
          omega (arith, arms-size a, choice-weight p ps, rest.0, rest.1)
      sized (of_capture full h) plain = omega (arith, sized h plain)
      sized (of_group h) plain = sized h plain
      sized (of_modified h) plain = sized h plain
      sized (of_repeated h) plain = omega (arith, sized h plain)
      sized (of_look h) plain = omega (arith, sized h plain)
      sized (of_atomic h) plain = omega (arith, sized h plain)
      sized (of_reference {b = b} {e = e} {ks = ks}) plain =
          let js = in_reading_order b ks in
          omega (arith, made-size (map (λ j. back (j + 1) e.icase) js), backs-size e.icase js, turned-length b ks)
      sized of_line_start plain = omega arith
      sized of_line_end plain = omega arith
      sized of_word_boundary plain = omega arith

      all-sized : {b : Bool} {e : Settings} {k l : ℕ} {ps : List Pattern} {ts : List Tree} → LowersAll table unicode b e k ps ts l
          → HoldsNoStrings (sequence_of ps) → (size (cat_of ts) ≤ weight (sequence_of ps)) × (length ts ≡ length ps)
      all-sized no_pattern plain = (omega arith, refl)
      all-sized (and_next h i) plain =
          let rest = all-sized i plain.1 in
          (omega (arith, sized h plain.0, rest.0), omega (arith, rest.1))

      terms-sized : {b : Bool} {e : Settings} {k l : ℕ} {ps : List Pattern} {ts : List Tree} → LowersTerms table unicode b e k ps ts l
          → HoldsNoStrings (sequence_of ps) → size (cat_of ts) ≤ weight (sequence_of ps)
      terms-sized no_term plain = omega arith
      terms-sized (next_term h i) plain = omega (arith, sized h plain.0, terms-sized i plain.1)
      terms-sized {e = e} (next_text {cs = cs} {ps = ps} {us = us} {ts = ts} pieces i) plain =
          let own = pieces-size table e.icase unicode cs pieces.points in
          let few : size (cat_of us) ≤ length cs + 1 = rw pieces.are own in
          omega (arith, few, join-size us ts, text-weight cs ps, terms-sized i (text-plain cs ps plain))

pub lowered-law : HaveNoStrings → (table : Table) (unicode backward : Bool) (e : Settings) (n k : ℕ) (p : Pattern) (t : Tree) (l : ℕ)
    → Lowers table unicode backward e k p t l → group_numbers p ≡ count_up k (length (names_of p)) → FitsGroups n p
    → k + length (names_of p) ≤ most_groups → IsLowered n k p t l
lowered-law values table unicode backward e n k p t l h in_order fitting few =
    let last = counted table unicode h few in
    let a = fits table unicode h (record { in_order = in_order; fitting = fitting; few = few }) in
    record {
      counted = last;
      numbered = numbered-from (length (names_of p)) a.ids in_order last;
      lawful = a.lawful;
      no_goal = a.no_goal;
      looped = a.looped;
      small = sized table unicode values h;
      named = a.named;
      none_before = a.none_before;
      plain = a.plain;
    }
