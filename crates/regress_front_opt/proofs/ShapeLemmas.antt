-- The parts of a `Cat`: what some or all of them pass, and what they become when `Cat`s among them give their parts.
use Rattle.std.proofs.Common.{◌≡◌, ℕ, zero, suc, ◌+◌, ◌<◌, ◌≤◌, Bool, true, false, ◌&&◌, ◌||◌, ◌==◌, List, [], ◌∷◌, ◌++◌, length, map, get_or, take, drop, Vec, Global, vec_len, subst, refl, sym, ap, ◌∙◌, append_assoc, length-append, le_of_suc-le-suc, arith, nat_le, if◌then◌else◌}
use Rattle.std.specs.List.{list_any, list_all}
use Rattle.std.proofs.lemmas.Bool.{false≢true, and_parts, eqb-true}
use Rattle.std.proofs.lemmas.Bool.Decides.{nat_tests}
use Rattle.std.proofs.lemmas.List.{take_more, drop_more, map-append, append-nil, length-map}
use Rattle.regress_meaning.specs.Meaning.{Direction}
use Rattle.regress_front_nodes.specs.declared.node.Node.{Node}
use Rattle.regress_front_nodes.specs.declared.node.Node.TheVariants as N
use Rattle.regress_front_nodes.proofs.TreeLaws.{tree-Cat}
use Rattle.regress_front_nodes.specs.Trees.{Tree, tree, empty, char_set, cat, cat_of, alt, capture, submatch, loop, single_loop}
use Rattle.regress_front_nodes.specs.Forms.{is_empty, is_cat, parts}
use Rattle.regress_front_nodes.specs.Singles.{always_fails}
use Rattle.regress_front_nodes.specs.WellFormed.{group_ids, goals}
use Rattle.regress_front_nodes.proofs.NodeLemmas.{parts-cat_of, is_cat-cat_of}
use Rattle.regress_front_rules.specs.NormalForm.{is_lost_cat, has_no_group, has_loose_part, is_idle, is_idle_loop}
use Rattle.regress_front_rules.specs.Rules as rules
use Rattle.regress_front_rules.specs.Rules.{Reaches, stays, once}
use Rattle.regress_front_opt.specs.Shapes.{is_loose, flattened, room_of, room_of_all, is_plain}
use Rattle.regress_front_opt.specs.Passes.{Advances}
use Rattle.regress_front_rules.specs.Laws.{listed}
use Rattle.regress_front_opt.proofs.PassLemmas.{root-advances, advances-then, advances-reaches}
use Rattle.regress_front_rules.proofs.KeepLemmas.{reaches-then}
use Rattle.regress_front_rules.proofs.PlaceLemmas.{node-listed}
use Rattle.regress_front_rules.proofs.ClauseLemmas.{is-empty, cat-list}

-- ---- some, and all

module _ (p : Tree → Bool) where
  any-append : (ts : List Tree) (t : Tree) → list_any p ts ≡ false → p t ≡ false → list_any p (ts ++ t ∷ []) ≡ false
  any-append [] t h k = rw k refl
  any-append (u ∷ ts) t h k = by_test (p u) h (λ e. any-append ts t e k)
    where
      by_test : (b : Bool) → (b || list_any p ts) ≡ false → (list_any p ts ≡ false → list_any p (ts ++ t ∷ []) ≡ false) → (b || list_any p (ts ++ t ∷ [])) ≡ false
      by_test true e more = absurd (false≢true (sym e))
      by_test false e more = more e

  all-append : (ts : List Tree) (t : Tree) → list_all p ts ≡ true → p t ≡ true → list_all p (ts ++ t ∷ []) ≡ true
  all-append [] t h k = rw k refl
  all-append (u ∷ ts) t h k = let both = and_parts (p u) (list_all p ts) h in rw both.0 (all-append ts t both.1 k)

  -- one more part
  pub any-more : (ns : List Node) (i : ℕ) (d : Node) → i < length ns → list_any p (map tree (take i ns)) ≡ false → p (tree (get_or ns i d)) ≡ false
      → list_any p (map tree (take (i + 1) ns)) ≡ false
  any-more ns i d l h k =
      subst (λ ts. list_any p ts ≡ false) (sym (ap (map tree) (take_more ns i d l) ∙ map-append tree (take i ns) (get_or ns i d ∷ [])))
      (any-append (map tree (take i ns)) (tree (get_or ns i d)) h k)

  pub all-more : (ns : List Node) (i : ℕ) (d : Node) → i < length ns → list_all p (map tree (take i ns)) ≡ true → p (tree (get_or ns i d)) ≡ true
      → list_all p (map tree (take (i + 1) ns)) ≡ true
  all-more ns i d l h k =
      subst (λ ts. list_all p ts ≡ true) (sym (ap (map tree) (take_more ns i d l) ∙ map-append tree (take i ns) (get_or ns i d ∷ [])))
      (all-append (map tree (take i ns)) (tree (get_or ns i d)) h k)

  -- one that decides
  pub any-found : (ns : List Node) (i : ℕ) (d : Node) → i < length ns → p (tree (get_or ns i d)) ≡ true → list_any p (map tree ns) ≡ true
  any-found [] i d l h = absurd (omega arith)
  any-found (n ∷ ns) zero d l h = rw h refl
  any-found (n ∷ ns) (suc i) d l h = by_test (p (tree n)) (any-found ns i d (le_of_suc-le-suc l) h)
    where
      by_test : (b : Bool) → list_any p (map tree ns) ≡ true → (b || list_any p (map tree ns)) ≡ true
      by_test true more = refl
      by_test false more = more

  pub all-missed : (ns : List Node) (i : ℕ) (d : Node) → i < length ns → p (tree (get_or ns i d)) ≡ false → list_all p (map tree ns) ≡ false
  all-missed [] i d l h = absurd (omega arith)
  all-missed (n ∷ ns) zero d l h = rw h refl
  all-missed (n ∷ ns) (suc i) d l h = by_test (p (tree n)) (all-missed ns i d (le_of_suc-le-suc l) h)
    where
      by_test : (b : Bool) → list_all p (map tree ns) ≡ false → (b && list_all p (map tree ns)) ≡ false
      by_test true more = more
      by_test false more = refl

-- ---- neither a group nor the `Goal`

pub plain-parts : (ts : List Tree) → is_plain (cat_of ts) ≡ list_all is_plain ts
plain-parts [] = refl
plain-parts (t ∷ ts) = ap (λ b. is_plain t && b) (plain-parts ts)

pub zero-sum : (m n : ℕ) → ((m == 0) && (n == 0)) ≡ (m + n == 0)
zero-sum m n = grind (arith, nat_tests)

-- how many there are
abbrev found : Tree → ℕ
found t = length (group_ids t) + goals t

both-found : (a b : Tree) → is_plain a ≡ (found a == 0) → is_plain b ≡ (found b == 0) → (is_plain a && is_plain b) ≡ (length (group_ids a ++ group_ids b) + (goals a + goals b) == 0)
both-found a b h k =
    let sum : length (group_ids a ++ group_ids b) + (goals a + goals b) ≡ found a + found b = omega (arith, length-append (group_ids a) (group_ids b)) in
    (λ i. h i && k i) ∙ zero-sum (found a) (found b) ∙ ap (λ n. n == 0) (sym sum)

pub none-found : (n g : ℕ) → (suc n + g == 0) ≡ false
none-found n g = grind (arith, nat_tests)

plain-found : (t : Tree) → is_plain t ≡ (found t == 0)
plain-found (cat a b) = both-found a b (plain-found a) (plain-found b)
plain-found (alt a b) = both-found a b (plain-found a) (plain-found b)
plain-found (capture k name a) = sym (none-found (length (group_ids a)) (goals a))
plain-found (submatch kind first last a) = plain-found a
plain-found (loop a first last least most greedy) = plain-found a
plain-found (single_loop a least most greedy) = plain-found a
plain-found _ = refl

and_moved : (a b c : Bool) → (a && (b && c)) ≡ ((a && b) && c)
and_moved true b c = refl
and_moved false b c = refl

-- a `Cat` that is lost
pub lost-cat : (ts : List Tree) → (list_any always_fails ts && list_all is_plain ts) ≡ is_lost_cat (cat_of ts)
lost-cat ts =
    let t : Tree = cat_of ts in
    let same : list_any always_fails ts ≡ list_any always_fails (parts (cat_of ts)) = ap (list_any always_fails) (sym (parts-cat_of ts)) in
    let none : list_all is_plain ts ≡ (has_no_group (cat_of ts) && (goals (cat_of ts) == 0)) =
    sym (plain-parts ts) ∙ plain-found (cat_of ts) ∙ sym (zero-sum (length (group_ids (cat_of ts))) (goals (cat_of ts))) in
    (λ i. same i && none i) ∙ and_moved (list_any always_fails (parts (cat_of ts))) (has_no_group (cat_of ts)) (goals (cat_of ts) == 0)

pub lost-advances : (dir : Direction) (t : Tree) → listed t ≡ t → is_lost_cat t ≡ true → Advances dir t (char_set [])
lost-advances dir (cat a b) p h = subst (λ u. Advances dir u (char_set [])) p (root-advances (rules.is_lost (a ∷ parts b) (subst (λ u. is_lost_cat u ≡ true) (sym p) h)))
lost-advances dir _ p h = absurd (false≢true h)

-- ---- `Cat`s that give their parts

pub flattened-append : (ts us : List Tree) → flattened (ts ++ us) ≡ flattened ts ++ flattened us
flattened-append [] us = refl
flattened-append (t ∷ ts) us = by_kind (is_cat t) (is_empty t) (flattened-append ts us)
  where
    by_kind : (c e : Bool) → flattened (ts ++ us) ≡ flattened ts ++ flattened us
        → (if c then parts t ++ flattened (ts ++ us) else (if e then flattened (ts ++ us) else t ∷ flattened (ts ++ us)))
        ≡ (if c then parts t ++ flattened ts else (if e then flattened ts else t ∷ flattened ts)) ++ flattened us
    by_kind true e more = ap (λ vs. parts t ++ vs) more ∙ sym (append_assoc (parts t) (flattened ts) (flattened us))
    by_kind false true more = more
    by_kind false false more = ap (λ vs. t ∷ vs) more

pub room-append : (ts us : List Tree) → room_of_all (ts ++ us) ≡ room_of_all ts + room_of_all us
room-append [] us = omega arith
room-append (t ∷ ts) us = omega (arith, room-append ts us)

module _ (dir : Direction) where
  -- a part that is a `Cat` or `Empty`, and the parts behind it
  loose-advances : (before : List Tree) (t : Tree) (behind : List Tree) → listed t ≡ t → is_loose t ≡ true
      → Advances dir (cat_of (before ++ t ∷ behind)) (cat_of (before ++ ((if is_cat t then parts t else []) ++ behind)))
  loose-advances before t behind p h = by_kind (is_cat t) refl h
    where
      by_kind : (c : Bool) → is_cat t ≡ c → (c || is_empty t) ≡ true → Advances dir (cat_of (before ++ t ∷ behind)) (cat_of (before ++ ((if c then parts t else []) ++ behind)))
      by_kind true e k =
          let (us, same) = cat-list t e p in
          let inner : parts t ≡ us = ap parts same ∙ parts-cat_of us in
          rw inner (subst (λ u. Advances dir (cat_of (before ++ u ∷ behind)) (cat_of (before ++ (us ++ behind)))) (sym same) (root-advances (rules.flattens before us behind)))
      by_kind false e k = subst (λ u. Advances dir (cat_of (before ++ u ∷ behind)) (cat_of (before ++ behind))) (sym (is-empty t k)) (root-advances (rules.drops_empty before behind))

  -- all parts, behind others
  flat-reaches : (before : List Tree) (ns : List Node) → Reaches dir (cat_of (before ++ map tree ns)) (cat_of (before ++ flattened (map tree ns)))
  flat-reaches before [] = stays
  flat-reaches before (n ∷ ns) = by_kind (is_cat (tree n)) (is_empty (tree n)) refl refl (λ others. flat-reaches others ns)
    where
      by_kind : (c e : Bool) → is_cat (tree n) ≡ c → is_empty (tree n) ≡ e
          → ((others : List Tree) → Reaches dir (cat_of (others ++ map tree ns)) (cat_of (others ++ flattened (map tree ns))))
          → Reaches dir (cat_of (before ++ tree n ∷ map tree ns))
          (cat_of (before ++ (if c then parts (tree n) ++ flattened (map tree ns) else (if e then flattened (map tree ns) else tree n ∷ flattened (map tree ns)))))
      by_kind true e k l rest =
          let first = loose-advances before (tree n) (map tree ns) (node-listed n) (rw k refl) in
          let others = rw (append_assoc before (parts (tree n)) (map tree ns), append_assoc before (parts (tree n)) (flattened (map tree ns))) at (rest (before ++ parts (tree n))) in
          reaches-then (advances-reaches (rw k at first)) others
      by_kind false true k l rest =
          let first = loose-advances before (tree n) (map tree ns) (node-listed n) (rw (k, l) refl) in
          reaches-then (advances-reaches (rw k at first)) (rest before)
      by_kind false false k l rest =
          rw (append_assoc before (tree n ∷ []) (map tree ns), append_assoc before (tree n ∷ []) (flattened (map tree ns))) at (rest (before ++ tree n ∷ []))

  -- the same, where one of them is a `Cat` or `Empty`
  flat-moves : (before : List Tree) (ns : List Node) → list_any is_loose (map tree ns) ≡ true → Advances dir (cat_of (before ++ map tree ns)) (cat_of (before ++ flattened (map tree ns)))
  flat-moves before [] h = absurd (false≢true h)
  flat-moves before (n ∷ ns) h = by_kind (is_cat (tree n)) (is_empty (tree n)) refl refl h (λ others. flat-reaches others ns) (λ others k. flat-moves others ns k)
    where
      by_kind : (c e : Bool) → is_cat (tree n) ≡ c → is_empty (tree n) ≡ e → ((c || e) || list_any is_loose (map tree ns)) ≡ true
          → ((others : List Tree) → Reaches dir (cat_of (others ++ map tree ns)) (cat_of (others ++ flattened (map tree ns))))
          → ((others : List Tree) → list_any is_loose (map tree ns) ≡ true → Advances dir (cat_of (others ++ map tree ns)) (cat_of (others ++ flattened (map tree ns))))
          → Advances dir (cat_of (before ++ tree n ∷ map tree ns))
          (cat_of (before ++ (if c then parts (tree n) ++ flattened (map tree ns) else (if e then flattened (map tree ns) else tree n ∷ flattened (map tree ns)))))
      by_kind true e k l some rest more =
          let first = loose-advances before (tree n) (map tree ns) (node-listed n) (rw k refl) in
          let others = rw (append_assoc before (parts (tree n)) (map tree ns), append_assoc before (parts (tree n)) (flattened (map tree ns))) at (rest (before ++ parts (tree n))) in
          advances-then (rw k at first) others
      by_kind false true k l some rest more =
          let first = loose-advances before (tree n) (map tree ns) (node-listed n) (rw (k, l) refl) in
          advances-then (rw k at first) (rest before)
      by_kind false false k l some rest more =
          rw (append_assoc before (tree n ∷ []) (map tree ns), append_assoc before (tree n ∷ []) (flattened (map tree ns))) at (more (before ++ tree n ∷ []) some)

  pub flat-advances : (ns : List Node) → list_any is_loose (map tree ns) ≡ true → Advances dir (cat_of (map tree ns)) (cat_of (flattened (map tree ns)))
  flat-advances ns h = flat-moves [] ns h

-- ---- what is no `Cat`, and what is one

pub no_cat-lost : (t : Tree) → is_cat t ≡ false → is_lost_cat t ≡ false
no_cat-lost (cat a b) h = absurd (false≢true (sym h))
no_cat-lost _ h = refl

pub no_cat-loose : (t : Tree) → is_cat t ≡ false → has_loose_part t ≡ false
no_cat-loose (cat a b) h = absurd (false≢true (sym h))
no_cat-loose _ h = refl

pub no_cat-room : (t : Tree) → is_cat t ≡ false → room_of t ≡ 1
no_cat-room t h = rw h refl

pub room-cat : (ts : List Tree) → room_of (cat_of ts) ≡ length ts
room-cat ts = rw (is_cat-cat_of, parts-cat_of) refl

pub room-more : (ns : List Node) (i : ℕ) (d : Node) → i < length ns → room_of_all (map tree (take (i + 1) ns)) ≡ room_of_all (map tree (take i ns)) + room_of (tree (get_or ns i d))
room-more ns i d l =
    let e = ap (map tree) (take_more ns i d l) ∙ map-append tree (take i ns) (get_or ns i d ∷ []) in
    let one = room-append (map tree (take i ns)) (tree (get_or ns i d) ∷ []) in
    ap room_of_all e ∙ omega (arith, one)

-- ---- one part that is moved behind others

pub room-Cat : (n : Node) (ps : Vec Node Global) → n ≡ N.Cat ps → room_of (tree n) ≡ vec_len ps
room-Cat n ps e = ap (λ m. room_of (tree m)) e ∙ ap room_of (tree-Cat ps) ∙ room-cat (map tree ps.items) ∙ length-map _ _ ∙ sym ps.ok.0

pub flattened-Cat : (n : Node) (ps : Vec Node Global) → n ≡ N.Cat ps → flattened (tree n ∷ []) ≡ map tree ps.items
flattened-Cat n ps e =
    ap (λ m. flattened (tree m ∷ [])) e ∙ ap (λ t. flattened (t ∷ [])) (tree-Cat ps) ∙ of_cat (map tree ps.items)
  where
    of_cat : (ts : List Tree) → flattened (cat_of ts ∷ []) ≡ ts
    of_cat ts = rw (is_cat-cat_of, parts-cat_of) (append-nil ts)

pub flattened-other : (t : Tree) → is_cat t ≡ false → is_empty t ≡ false → flattened (t ∷ []) ≡ t ∷ []
flattened-other t h k = rw (h, k) refl

-- one more is moved
pub flattened-more : (ns : List Node) (i : ℕ) (d : Node) → i < length ns → flattened (map tree (take (i + 1) ns)) ≡ flattened (map tree (take i ns)) ++ flattened (tree (get_or ns i d) ∷ [])
flattened-more ns i d l =
    ap flattened (ap (map tree) (take_more ns i d l) ∙ map-append tree (take i ns) (get_or ns i d ∷ [])) ∙ flattened-append (map tree (take i ns)) (tree (get_or ns i d) ∷ [])

pub room-left : (ns : List Node) (i : ℕ) (d : Node) → i < length ns → room_of_all (map tree (drop i ns)) ≡ room_of (tree (get_or ns i d)) + room_of_all (map tree (drop (i + 1) ns))
room-left ns i d l = ap (λ ms. room_of_all (map tree ms)) (drop_more ns i d l)

-- ---- what never takes a character

pub plain-means : (t : Tree) → is_plain t ≡ (has_no_group t && (goals t == 0))
plain-means t = plain-found t ∙ sym (zero-sum (length (group_ids t)) (goals t))

pub idle-parts : (ts : List Tree) → is_idle (cat_of ts) ≡ list_all is_idle ts
idle-parts [] = refl
idle-parts (t ∷ ts) = ap (λ b. is_idle t && b) (idle-parts ts)

-- a loop that is never entered
pub never-idle : (a : Tree) (first last least most : ℕ) (greedy : Bool) → is_idle a ≡ false → most ≡ 0 → is_plain a ≡ is_idle_loop (loop a first last least most greedy)
never-idle a first last least most greedy e none = rw (e, none) (plain-means a)

module _ (dir : Direction) (a : Tree) (first last least most : ℕ) (greedy : Bool) (h : is_idle_loop (loop a first last least most greedy) ≡ true) where
  -- it is repeated over what never takes a character, or never entered
  idle-one : {C : Type 0} → (is_idle a ≡ true → C) → (most ≡ 0 → has_no_group a ≡ true → C) → C
  idle-one {C} idle never = by_test (is_idle a) refl
    where
      by_test : (b : Bool) → is_idle a ≡ b → C
      by_test true e = idle e
      by_test false e =
          let left = and_parts (most == 0) (has_no_group a && (goals a == 0)) (rw e at h) in
          never (eqb-true most 0 left.0) (and_parts (has_no_group a) (goals a == 0) left.1).0

  pub idle-removed : least ≡ 0 → Advances dir (loop a first last least most greedy) empty
  idle-removed e =
      let none : once a least ≡ empty = ap (once a) e in
      idle-one (λ idle. subst (λ u. Advances dir (loop a first last least most greedy) u) none (root-advances (rules.idles idle)))
      (λ never plain. root-advances (rules.skips never plain))

  pub idle-kept : (least ≡ 0 → ⊥) → least ≤ most → Advances dir (loop a first last least most greedy) a
  idle-kept some fits =
      let one : nat_le 1 least ≡ true = grind (arith, nat_tests) in
      let whole : once a least ≡ a = ap (λ b. if b then a else empty) one in
      idle-one (λ idle. subst (λ u. Advances dir (loop a first last least most greedy) u) whole (root-advances (rules.idles idle)))
      (λ never plain. absurd (some (omega (arith, fits, never))))
