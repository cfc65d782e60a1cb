-- Each clause of the normal form has its rule: where a node breaks a clause, a rule makes another tree of it.
use Rattle.std.proofs.Common.{◌≡◌, ℕ, Bool, true, false, not, ◌&&◌, ◌||◌, ◌==◌, List, [], ◌∷◌, ◌++◌, length, nat_lt, All, subst, refl, sym, ap, arith}
use Rattle.std.specs.List.{list_any}
use Rattle.std.proofs.lemmas.Bool.{false≢true, and_parts, ltb-true, eqb-true}
use Rattle.std.proofs.lemmas.List.Elements.{All-head, All-tail}
use Rattle.regress_meaning.specs.TableParts.{is_surrogate}
use Rattle.regress_meaning.specs.Meaning.{Direction}
use Rattle.regress_front_nodes.specs.Trees.{Tree, empty, char, bytes, char_set, cat, no_part, cat_of, alt, capture, submatch, loop, single_loop}
use Rattle.regress_front_nodes.specs.Forms.{is_empty, is_cat, parts}
use Rattle.regress_front_nodes.specs.WellFormed.{goals}
use Rattle.regress_front_nodes.proofs.NodeLemmas.{parts-cat_of}
use Rattle.regress_front_rules.specs.NormalForm.{is_literal, literals_meet, is_short_cat, has_loose_part, has_split_literal, is_loose_char, is_unrollable, is_loop_of_one, is_empty_choice, is_idle, is_idle_loop, has_no_group, is_lost_cat}
use Rattle.regress_front_rules.specs.Rules as rules
use Rattle.regress_front_rules.specs.Rules.{joined, unrolled, RewritesAtRoot}
use Rattle.regress_front_rules.specs.Laws.{listed, IsListed, IsRedex, BrokenNodesAreRedexes, NestsLessThanItsSize}
use Rattle.regress_front_rules.proofs.MeasureLemmas.{some-chars}

-- the first that passes, with those before and behind
record Found (p : Tree → Bool) (ts : List Tree) : Type 0 where
  before : List Tree
  item : Tree
  behind : List Tree
  whole : ts ≡ before ++ item ∷ behind
  passes : p item ≡ true

found : (p : Tree → Bool) (ts : List Tree) → list_any p ts ≡ true → Found p ts
found p [] h = absurd (false≢true h)
found p (t ∷ ts) h = by_test (p t) refl h (found p ts)
  where
    by_test : (b : Bool) → p t ≡ b → (b || list_any p ts) ≡ true → (list_any p ts ≡ true → Found p ts) → Found p (t ∷ ts)
    by_test true e k rest = record { before = []; item = t; behind = ts; whole = refl; passes = e }
    by_test false e k rest =
        let f = rest k in
        record { before = t ∷ f.before; item = f.item; behind = f.behind; whole = ap (λ us. t ∷ us) f.whole; passes = f.passes }

-- two literals side by side, with the parts before and behind
record Meeting (ts : List Tree) : Type 0 where
  before : List Tree
  first : List ℕ
  second : List ℕ
  behind : List Tree
  whole : ts ≡ before ++ bytes first ∷ bytes second ∷ behind

literal-bytes : (t : Tree) → is_literal t ≡ true → (bs : List ℕ) × (t ≡ bytes bs)
literal-bytes (bytes bs) h = (bs, refl)
literal-bytes _ h = absurd (false≢true h)

meeting : (ts : List Tree) → literals_meet ts ≡ true → Meeting ts
meeting [] h = absurd (false≢true h)
meeting (a ∷ []) h = absurd (false≢true h)
meeting (a ∷ b ∷ rest) h = by_test (is_literal a && is_literal b) refl h (meeting (b ∷ rest))
  where
    by_test : (x : Bool) → (is_literal a && is_literal b) ≡ x → (x || literals_meet (b ∷ rest)) ≡ true → (literals_meet (b ∷ rest) ≡ true → Meeting (b ∷ rest)) → Meeting (a ∷ b ∷ rest)
    by_test true e k more =
        let both = and_parts (is_literal a) (is_literal b) e in
        let (xs, ea) = literal-bytes a both.0 in
        let (ys, eb) = literal-bytes b both.1 in
        record { before = []; first = xs; second = ys; behind = rest; whole = λ i. ea i ∷ eb i ∷ rest }
    by_test false e k more =
        let m = more k in
        record { before = a ∷ m.before; first = m.first; second = m.second; behind = m.behind; whole = ap (λ us. a ∷ us) m.whole }

pub cat-list : (t : Tree) → is_cat t ≡ true → listed t ≡ t → (us : List Tree) × (t ≡ cat_of us)
cat-list (cat a b) h p = (a ∷ parts b, sym p)
cat-list no_part h p = ([], refl)
cat-list _ h p = absurd (false≢true h)

pub is-empty : (t : Tree) → is_empty t ≡ true → t ≡ empty
is-empty empty h = refl
is-empty _ h = absurd (false≢true h)

item-listed : (before : List Tree) (t : Tree) (behind : List Tree) → All IsListed (before ++ t ∷ behind) → IsListed t
item-listed [] t behind h = All-head IsListed t behind h
item-listed (u ∷ before) t behind h = item-listed before t behind (All-tail IsListed u (before ++ t ∷ behind) h)

module _ (dir : Direction) where
  short-redex : (ts : List Tree) → is_short_cat (cat_of ts) ≡ true → IsRedex dir (cat_of ts)
  short-redex [] h = (empty, rules.is_no_part)
  short-redex (t ∷ []) h = (t, rules.is_one_part)
  short-redex (t ∷ u ∷ ts) h =
      let e : length (parts (cat_of (t ∷ u ∷ ts))) ≡ length (t ∷ u ∷ ts) = ap length (parts-cat_of (t ∷ u ∷ ts)) in
      let few = ltb-true (length (parts (cat_of (t ∷ u ∷ ts)))) 2 h in
      absurd (omega (arith, few, e))

  loose-redex : (ts : List Tree) → All IsListed ts → list_any (λ u. is_cat u || is_empty u) ts ≡ true → IsRedex dir (cat_of ts)
  loose-redex ts all h =
      let f = found (λ u. is_cat u || is_empty u) ts h in
      let p : IsListed f.item = item-listed f.before f.item f.behind (rw f.whole at all) in
      rw f.whole (by_kind f (is_cat f.item) refl p f.passes)
    where
      by_kind : (f : Found (λ u. is_cat u || is_empty u) ts) → (b : Bool) → is_cat f.item ≡ b → IsListed f.item → (b || is_empty f.item) ≡ true → IsRedex dir (cat_of (f.before ++ f.item ∷ f.behind))
      by_kind f true e p k =
          let (us, same) = cat-list f.item e p in
          rw same (cat_of (f.before ++ (us ++ f.behind)), rules.flattens f.before us f.behind)
      by_kind f false e p k = rw (is-empty f.item k) (cat_of (f.before ++ f.behind), rules.drops_empty f.before f.behind)

  split-redex : (ts : List Tree) → literals_meet ts ≡ true → IsRedex dir (cat_of ts)
  split-redex ts h =
      let m = meeting ts h in
      rw m.whole (cat_of (m.before ++ bytes (joined dir m.first m.second) ∷ m.behind), rules.joins m.before m.behind m.first m.second)

  -- a `Cat` of fewer than two parts
  pub short_cat : (t : Tree) → IsListed t → is_short_cat t ≡ true → IsRedex dir t
  short_cat t p h =
      let (ts, e) = cat-list t (and_parts (is_cat t) (nat_lt (length (parts t)) 2) h).0 p in
      rw e (short-redex ts (rw e at h))

  -- a `Cat` with a `Cat` or `Empty` among its parts
  pub loose_part : (t : Tree) → IsListed t → All IsListed (parts t) → has_loose_part t ≡ true → IsRedex dir t
  loose_part (cat a b) p all h = subst (IsRedex dir) p (loose-redex (a ∷ parts b) all h)
  loose_part _ p all h = absurd (false≢true h)

  -- a `Cat` with two literals side by side
  pub split_literal : (t : Tree) → IsListed t → has_split_literal t ≡ true → IsRedex dir t
  split_literal (cat a b) p h = subst (IsRedex dir) p (split-redex (a ∷ parts b) h)
  split_literal _ p h = absurd (false≢true h)

  -- a character that a literal can hold
  pub loose_char : (t : Tree) → is_loose_char t ≡ true → IsRedex dir t
  loose_char (char c) h = (_, rules.spells (turned (is_surrogate c) h))
    where
      turned : (b : Bool) → not b ≡ true → b ≡ false
      turned false e = refl
      turned true e = absurd (false≢true e)
  loose_char _ h = absurd (false≢true h)

  -- a loop that is to be unrolled
  pub unrollable_loop : (t : Tree) → is_unrollable t ≡ true → IsRedex dir t
  unrollable_loop (loop a first last least most greedy) h = (unrolled a first last least most greedy, rules.unrolls h)
  unrollable_loop _ h = absurd (false≢true h)

  -- a loop over what takes one character
  pub loop_of_one : (t : Tree) → is_loop_of_one t ≡ true → IsRedex dir t
  loop_of_one (loop a first last least most greedy) h = (single_loop a least most greedy, rules.loops_one h)
  loop_of_one _ h = absurd (false≢true h)

  -- an `Alt` of two `Empty`s
  pub empty_choice : (t : Tree) → is_empty_choice t ≡ true → IsRedex dir t
  empty_choice (alt a b) h =
      let both = and_parts (is_empty a) (is_empty b) h in
      rw (is-empty a both.0, is-empty b both.1) (empty, rules.is_empty_choice)
  empty_choice _ h = absurd (false≢true h)

  -- a loop over what never takes a character, or that is never entered
  pub idle_loop : (t : Tree) → is_idle_loop t ≡ true → IsRedex dir t
  idle_loop (loop a first last least most greedy) h = by_test (is_idle a) refl
    where
      by_test : (b : Bool) → is_idle a ≡ b → IsRedex dir (loop a first last least most greedy)
      by_test true e = (_, rules.idles e)
      by_test false e =
          let left = and_parts (most == 0) (has_no_group a && (goals a == 0)) (rw e at h) in
          (empty, rules.skips (eqb-true most 0 left.0) (and_parts (has_no_group a) (goals a == 0) left.1).0)
  idle_loop _ h = absurd (false≢true h)

  -- a `Cat` that always fails
  pub lost_cat : (t : Tree) → IsListed t → is_lost_cat t ≡ true → IsRedex dir t
  lost_cat (cat a b) p h = subst (IsRedex dir) p (char_set [], rules.is_lost (a ∷ parts b) (subst (λ u. is_lost_cat u ≡ true) (sym p) h))
  lost_cat _ p h = absurd (false≢true h)

-- each clause has its rule
pub nodes-redexes : (dir : Direction) → BrokenNodesAreRedexes dir
nodes-redexes dir = record {
  short_cat = short_cat dir;
  loose_part = loose_part dir;
  split_literal = split_literal dir;
  loose_char = loose_char dir;
  unrollable_loop = unrollable_loop dir;
  loop_of_one = loop_of_one dir;
  empty_choice = empty_choice dir;
  idle_loop = idle_loop dir;
  lost_cat = lost_cat dir;
}

-- A tree nests less deep than it has nodes, so what is small enough to be copied is not too deep to be copied.
pub nesting-size : NestsLessThanItsSize
nesting-size n (bytes bs) h = some-chars bs h.0 h.1
nesting-size n (cat a b) h = omega (arith, nesting-size n a h.0, nesting-size n b h.1)
nesting-size n (alt a b) h = omega (arith, nesting-size n a h.0, nesting-size n b h.1)
nesting-size n (capture k name a) h = omega (arith, nesting-size n a h.1)
nesting-size n (submatch kind first last a) h = omega (arith, nesting-size n a h.1)
nesting-size n (loop a first last least most greedy) h = omega (arith, nesting-size n a h.2)
nesting-size n (single_loop a least most greedy) h = omega (arith, nesting-size n a h.2)
nesting-size n _ h = omega arith
