-- A lowered tree spreads no further than its pattern costs.
use Rattle.std.proofs.Common.{◌≡◌, ℕ, ◌+◌, ◌≤◌, Bool, true, false, not, ◌&&◌, ◌==◌, List, [], ◌∷◌, ◌++◌, length, map, filter, reverse, All, if◌then◌else◌, refl, arith, length-append}
use Rattle.std.proofs.lemmas.Bool.{eqb-false}
use Rattle.std.proofs.lemmas.List.{length-reverse, reverse-append}
use Rattle.std.proofs.lemmas.List.Elements.{All-head, All-tail}
use Rattle.std.proofs.lemmas.List.Sums.{sum_by-cons}
use Rattle.regress_meaning.specs.Table.{Table}
use Rattle.regress_meaning.specs.Class.{Class, among}
use Rattle.regress_meaning.specs.Pattern.{Pattern, Settings, character}
use Rattle.regress_front_tokens.specs.Trees.{sequence_of}
use Rattle.regress_front_nodes.specs.Trees.{Tree, char, bytes, byte_set, char_set, any, any_in_line, bracket, back, string_set, cat_of}
use Rattle.regress_front_nodes.specs.Sizes.{size, spread}
use Rattle.regress_front_nodes.specs.Characters.{is_character}
use Rattle.regress_front_nodes.specs.Forms.{cat_made, in_reading_order}
use Rattle.regress_front_costs.specs.Costs.{strings_cost, class_cost, cost}
use Rattle.regress_front_tree.specs.Lowering.{HasArms, one_arm, two_halves, class_value, is_piece, LowersClass, Lowers, of_character, of_any, of_class, of_negated_class, of_class_escape, of_terms, of_arms, of_capture, of_group, of_modified, of_repeated, of_look, of_atomic, of_reference, of_line_start, of_line_end, of_word_boundary, LowersAll, no_pattern, and_next, LowersTerms, no_term, next_term, next_text}
use Rattle.regress_front_rules.proofs.SpreadLemmas.{unrolling-more}
use Rattle.regress_front_costs.proofs.CostSteps.{sequence-cost, choice-cost}
use Rattle.regress_front_costs.proofs.StringCosts.{strings-parts, empty_cost, parted, value-cost}
use Rattle.regress_front_tree.proofs.TextTerms.{pieces-size}

-- ---- parts one after another

join-spread : (ts us : List Tree) → spread (cat_of (ts ++ us)) + 1 ≡ spread (cat_of ts) + spread (cat_of us)
join-spread [] us = omega arith
join-spread (t ∷ ts) us = omega (arith, join-spread ts us)

turned-spread : (b : Bool) (ts : List Tree) → spread (cat_of (in_reading_order b ts)) ≡ spread (cat_of ts)
turned-spread false ts = refl
turned-spread true [] = refl
turned-spread true (t ∷ ts) = rw (reverse-append (t ∷ []) ts) (omega (arith, join-spread (reverse ts) (t ∷ []), turned-spread true ts))

made-spread : (ts : List Tree) → spread (cat_made ts) ≤ spread (cat_of ts)
made-spread [] = omega arith
made-spread (t ∷ []) = omega arith
made-spread (t ∷ u ∷ ts) = omega arith

arms-spread : {ts : List Tree} {t : Tree} → HasArms ts t → spread t + 2 ≡ spread (cat_of ts) + length ts
arms-spread one_arm = omega arith
arms-spread (two_halves {ts} {us} h k) = omega (arith, arms-spread h, arms-spread k, join-spread ts us, length-append ts us)

turned-length : {A : Type 0} (b : Bool) (xs : List A) → length (in_reading_order b xs) ≡ length xs
turned-length false xs = refl
turned-length true xs = length-reverse xs

backs-spread : (icase : Bool) (js : List ℕ) → spread (cat_of (map (λ j. back (j + 1) icase) js)) ≡ length js + 1
backs-spread icase [] = refl
backs-spread icase (j ∷ js) = omega (arith, backs-spread icase js)

-- one character is one node
takes-spread : (t : Tree) → is_character t ≡ true → spread t ≡ 1
takes-spread (char c) e = refl
takes-spread (byte_set bs) e = refl
takes-spread (char_set cs) e = refl
takes-spread any e = refl
takes-spread any_in_line e = refl
takes-spread (bracket inverted intervals) e = refl
takes-spread _ e = absurd (cc)

-- the pieces of a text spread over their nodes alone
piece-spread : (u : Tree) → is_piece u ≡ true → spread u ≡ size u
piece-spread (char c) e = refl
piece-spread (bytes bs) e = refl
piece-spread (byte_set bs) e = refl
piece-spread (char_set cs) e = refl
piece-spread _ e = absurd (cc)

pieces-spread : (us : List Tree) → All (λ u. is_piece u ≡ true) us → spread (cat_of us) ≡ size (cat_of us)
pieces-spread [] kinds = refl
pieces-spread (u ∷ us) kinds =
    let IsPiece : Tree → Type 0 = λ v. is_piece v ≡ true in
    omega (arith, piece-spread u (All-head IsPiece u us kinds), pieces-spread us (All-tail IsPiece u us kinds))

-- ---- classes

-- the arms of a class spread no further than their strings cost
class_arms-spread : (icase : Bool) (ss : List (List ℕ)) (characters : Tree) (none has_empty : Bool) (t : Tree) → spread characters ≡ 1 → (length ss == 0) ≡ none
    → HasArms ((if none then [] else string_set ss icase ∷ []) ++ (characters ∷ (if has_empty then string_set ([] ∷ []) icase ∷ [] else []))) t
    → spread t ≤ strings_cost ss + empty_cost has_empty + 1
class_arms-spread icase ss characters true true t one none arms =
    let alone = sum_by-cons (λ (s : List ℕ). length s) [] [] in
    omega (arith, one, arms-spread arms, alone)
class_arms-spread icase ss characters true false t one none arms = omega (arith, one, arms-spread arms)
class_arms-spread icase ss characters false true t one none arms =
    let alone = sum_by-cons (λ (s : List ℕ). length s) [] [] in
    omega (arith, one, arms-spread arms, alone, strings-parts ss, eqb-false (length ss) 0 none)
class_arms-spread icase ss characters false false t one none arms =
    omega (arith, one, arms-spread arms, strings-parts ss, eqb-false (length ss) 0 none)

module _ (table : Table) (unicode : Bool) where
  class-spread : {e : Settings} {c : Class} {t : Tree} → LowersClass table unicode e c t → spread t ≤ class_cost table c + 1
  class-spread {e = e} {c = c} {t = t} h =
      let others = (class_value table unicode e c).others in
      let own = class_arms-spread e.icase h.strings h.characters (length h.strings == 0) (among others []) t (takes-spread h.characters h.takes.alone) refl h.arms in
      let same : strings_cost h.strings ≡ strings_cost (filter (λ s. not (length s == 0)) others) = h.by_length.often (λ s. length s + 3) in
      omega (arith, own, same, parted others, value-cost table (unicode && e.icase) c)

-- ---- patterns

text-cost : (table : Table) (cs : List ℕ) (ps : List Pattern) → cost table (sequence_of (map character cs ++ ps)) ≡ length cs + cost table (sequence_of ps)
text-cost table [] ps = omega arith
text-cost table (c ∷ cs) ps = omega (arith, text-cost table cs ps)

module _ (table : Table) (unicode : Bool) where
  mutual
    -- a lowered tree spreads no further than its pattern costs
    pub cheap : {b : Bool} {e : Settings} {k l : ℕ} {p : Pattern} {t : Tree} → Lowers table unicode b e k p t l → spread t ≤ cost table p
    cheap (of_character {t = t} h) = omega (arith, takes-spread t h.alone)
    cheap (of_any {t = t} h) = omega (arith, takes-spread t h.alone)
    cheap (of_class h) = class-spread table unicode h
    cheap (of_negated_class {t = t} h) = omega (arith, takes-spread t h.alone)
    cheap (of_class_escape h) = class-spread table unicode h
    cheap (of_terms {b = b} {ts = ts} h) = omega (arith, made-spread (in_reading_order b ts), turned-spread b ts, terms-cheap h)
    cheap (of_arms {ps = []} {ts = ts} h a) = omega (arith, arms-spread a, (all-cheap h).0, (all-cheap h).1)
    cheap (of_arms {ps = p ∷ ps} {ts = ts} h a) =
        let rest = all-cheap h in
        omega (arith, arms-spread a, choice-cost table (p ∷ ps) (omega arith), sequence-cost table (p ∷ ps), rest.0, rest.1)
    cheap (of_capture full h) = omega (arith, cheap h)
    cheap (of_group h) = cheap h
    cheap (of_modified h) = cheap h
    cheap (of_repeated {least = least} {p = p} {t = t} h) =
        let own = cheap h in omega (arith, own, unrolling-more least (spread t) (cost table p) own)
    cheap (of_look h) = omega (arith, cheap h)
    cheap (of_atomic h) = omega (arith, cheap h)
    cheap (of_reference {b = b} {e = e} {ks = ks}) =
        let js = in_reading_order b ks in
        omega (arith, made-spread (map (λ j. back (j + 1) e.icase) js), backs-spread e.icase js, turned-length b ks)
    cheap of_line_start = omega arith
    cheap of_line_end = omega arith
    cheap of_word_boundary = omega arith

    all-cheap : {b : Bool} {e : Settings} {k l : ℕ} {ps : List Pattern} {ts : List Tree} → LowersAll table unicode b e k ps ts l
        → (spread (cat_of ts) ≤ cost table (sequence_of ps)) × (length ts ≡ length ps)
    all-cheap no_pattern = (omega arith, refl)
    all-cheap (and_next h i) =
        let rest = all-cheap i in
        (omega (arith, cheap h, rest.0), omega (arith, rest.1))

    terms-cheap : {b : Bool} {e : Settings} {k l : ℕ} {ps : List Pattern} {ts : List Tree} → LowersTerms table unicode b e k ps ts l
        → spread (cat_of ts) ≤ cost table (sequence_of ps)
    terms-cheap no_term = omega arith
    terms-cheap (next_term h i) = omega (arith, cheap h, terms-cheap i)
    terms-cheap {e = e} (next_text {cs = cs} {ps = ps} {us = us} {ts = ts} pieces i) =
        let own = pieces-size table e.icase unicode cs pieces.points in
        let small : size (cat_of us) ≤ length cs + 1 = rw pieces.are own in
        omega (arith, small, pieces-spread us pieces.kinds, join-spread us ts, text-cost table cs ps, terms-cheap i)
