-- Each tree reaches one in normal form: where a node breaks a clause a rule applies, and each rule lowers the weight.
use Rattle.std.proofs.Common.{◌≡◌, ℕ, zero, suc, ◌<◌, ◌⊎◌, Bool, true, false, List, [], ◌∷◌, ◌++◌, All, subst, refl, sym, ap, inl, inr, arith, append_assoc, nat_le, if◌then◌else◌}
use Rattle.std.proofs.lemmas.Bool.{false≢true, and_parts}
use Rattle.std.proofs.lemmas.List.Elements.{All-nil, All-cons, All-append}
use Rattle.regress_meaning.specs.Meaning.{Direction}
use Rattle.regress_front_nodes.specs.Trees.{Tree, empty, bytes, cat, no_part, cat_of, alt, capture, submatch, loop, single_loop}
use Rattle.regress_front_nodes.specs.TreeMeaning.{submatch_direction}
use Rattle.regress_front_nodes.specs.Forms.{is_cat, parts}
use Rattle.regress_front_nodes.specs.WellFormed.{AreLawful}
use Rattle.regress_front_nodes.specs.Characters.{is_character}
use Rattle.regress_front_nodes.proofs.NodeLemmas.{is_cat-cat_of}
use Rattle.regress_front_rules.specs.NormalForm.{nodes_below, Nowhere, is_short_cat, has_loose_part, has_split_literal, is_loose_char, is_unrollable, is_loop_of_one, is_empty_choice, is_lost_cat, IsNormal, is_idle_loop}
use Rattle.regress_front_rules.specs.Rules as rules
use Rattle.regress_front_rules.specs.Rules.{joined, copies, RewritesAtRoot, flattens, drops_empty, is_one_part, is_no_part, joins, spells, lists, is_lost, unrolls, loops_one, Rewrites, there, in_part, in_first, in_second, in_capture, in_submatch, in_loop, in_single_loop, Reaches, stays, and_then, idles, skips, shares}
use Rattle.regress_front_rules.specs.Words.{is_of_words}
use Rattle.regress_front_rules.specs.Weight.{weight}
use Rattle.regress_front_rules.specs.Laws.{IsListed, AreListed, IsRedex, NormalFormsAreReached}
use Rattle.regress_front_rules.proofs.ClauseLemmas.{short_cat, loose_part, split_literal, loose_char, unrollable_loop, loop_of_one, empty_choice, lost_cat, idle_loop}
use Rattle.regress_front_rules.proofs.WordLemmas.{cat-words}
use Rattle.regress_front_rules.proofs.RewriteLemmas.{all-right}

-- ---- parts stay lists

-- the parts of a `Cat`, as a `Cat`
parts-listed : (t : Tree) → AreListed t → is_cat t ≡ true → cat_of (parts t) ≡ t
parts-listed (cat a b) l h = ap (cat a) (parts-listed b l.1 l.2)
parts-listed no_part l h = refl
parts-listed _ l h = absurd (false≢true h)

pub one-listed : (t : Tree) → AreListed t → IsListed t
one-listed (cat a b) l = ap (cat a) (parts-listed b l.1 l.2)
one-listed _ l = refl

all-listed : (t : Tree) → AreListed t → All IsListed (parts t)
all-listed (cat a b) l = All-cons IsListed a (parts b) (one-listed a l.0) (all-listed b l.1)
all-listed _ l = All-nil IsListed

listed-append : (us vs : List Tree) → AreListed (cat_of us) → AreListed (cat_of vs) → AreListed (cat_of (us ++ vs))
listed-append [] vs h k = k
listed-append (u ∷ us) vs h k = (h.0, listed-append us vs h.1 k, is_cat-cat_of (us ++ vs))

listed-apart : (us vs : List Tree) → AreListed (cat_of (us ++ vs)) → AreListed (cat_of us) × AreListed (cat_of vs)
listed-apart [] vs h = (tt, h)
listed-apart (u ∷ us) vs h = let (a, b) = listed-apart us vs h.1 in ((h.0, a, is_cat-cat_of us), b)

listed-copies : (k : ℕ) (a : Tree) (rest : List Tree) → AreListed a → AreListed (cat_of rest) → AreListed (cat_of (copies k a rest))
listed-copies zero a rest h r = r
listed-copies (suc k) a rest h r = (h, listed-copies k a rest h r, is_cat-cat_of (copies k a rest))

listed-character : (t : Tree) → is_character t ≡ true → AreListed t
listed-character (cat a b) h = absurd (false≢true h)
listed-character (alt a b) h = absurd (false≢true h)
listed-character (capture k name a) h = absurd (false≢true h)
listed-character (submatch kind first last a) h = absurd (false≢true h)
listed-character (loop a first last least most greedy) h = absurd (false≢true h)
listed-character (single_loop a least most greedy) h = absurd (false≢true h)
listed-character _ h = tt

words-listed : (t : Tree) → is_of_words t ≡ true → AreListed t
words-listed empty h = tt
words-listed (bytes bs) h = tt
words-listed (cat a b) h = let p = cat-words a b h in (words-listed a p.0, words-listed b p.1, p.2)
words-listed no_part h = tt
words-listed (alt a b) h = let p = and_parts (is_of_words a) (is_of_words b) h in (words-listed a p.0, words-listed b p.1)
words-listed _ h = absurd (false≢true h)

root-listed : {dir : Direction} {t u : Tree} → RewritesAtRoot dir t u → AreListed t → AreListed u
root-listed (flattens ts us vs) l = let (a, b) = listed-apart ts (cat_of us ∷ vs) l in listed-append ts (us ++ vs) a (listed-append us vs b.0 b.1)
root-listed (drops_empty ts vs) l = let (a, b) = listed-apart ts (empty ∷ vs) l in listed-append ts vs a b.1
root-listed is_one_part l = l.0
root-listed is_no_part l = tt
root-listed {dir} (joins ts vs xs ys) l =
    let (a, b) = listed-apart ts (bytes xs ∷ bytes ys ∷ vs) l in
    listed-append ts (bytes (joined dir xs ys) ∷ vs) a (tt, b.1.1, is_cat-cat_of vs)
root-listed (spells e) l = tt
root-listed (lists {t = t} k takes) l = listed-character t takes.alone
root-listed rules.is_empty_choice l = tt
root-listed (is_lost ts e) l = tt
root-listed (unrolls {a} {first} {last} {least} {most} {greedy} e) l = listed-copies least a _ l (l, tt, refl)
root-listed (loops_one e) l = l
root-listed (idles {a} {first} {last} {least} e) l = once-listed (nat_le 1 least)
  where
    once-listed : (b : Bool) → AreListed (if b then a else empty)
    once-listed true = l
    once-listed false = tt
root-listed (skips e h) l = tt
root-listed (shares {u = u} e h k alike lawful larger lighter) l = words-listed u k

-- a rule somewhere leaves each `Cat` a list of parts
pub rewrites-listed : {dir : Direction} {t u : Tree} → Rewrites dir t u → AreListed t → AreListed u
rewrites-listed (there h) l = root-listed h l
rewrites-listed (in_part {a = a} {b = b} ts vs h) l =
    let (before, behind) = listed-apart ts (a ∷ vs) l in
    listed-append ts (b ∷ vs) before (rewrites-listed h behind.0, behind.1, behind.2)
rewrites-listed (in_first h) l = (rewrites-listed h l.0, l.1)
rewrites-listed (in_second h) l = (l.0, rewrites-listed h l.1)
rewrites-listed (in_capture h) l = rewrites-listed h l
rewrites-listed (in_submatch h) l = rewrites-listed h l
rewrites-listed (in_loop h) l = rewrites-listed h l
rewrites-listed (in_single_loop h) l = rewrites-listed h l

-- ---- where a clause is broken

-- a rule somewhere makes another tree of it
abbrev Moves : Direction → Tree → Type 0
Moves dir t = (u : Tree) × Rewrites dir t u

module _ (test : Tree → Bool) (redex : (dir : Direction) (t : Tree) → AreListed t → test t ≡ true → IsRedex dir t) where
  abbrev Fails : Tree → Type 0
  Fails u = test u ≡ false

  -- The test is false, or a rule applies: in the tree and below it, and, of further parts of a `Cat`, in them and below.
  record Searched (t : Tree) : Type 0 where
    node : (dir : Direction) → Nowhere test t ⊎ Moves dir t
    further : is_cat t ≡ true → (dir : Direction) (before : List Tree) → All Fails (nodes_below t) ⊎ Moves dir (cat_of (before ++ parts t))

  at : (t : Tree) → AreListed t → (dir : Direction) → All Fails (nodes_below t) ⊎ Moves dir t → Nowhere test t ⊎ Moves dir t
  at t l dir below = by_test (test t) refl
    where
      by_test : (b : Bool) → test t ≡ b → Nowhere test t ⊎ Moves dir t
      by_test true e = let (u, h) = redex dir t l e in inr (u, there h)
      by_test false e = elim below [ inl all ↦ inl (All-cons Fails t (nodes_below t) e all) | inr more ↦ inr more ]

  -- what is no `Cat` has no further parts
  alone : (t : Tree) → (is_cat t ≡ true → ⊥) → ((dir : Direction) → Nowhere test t ⊎ Moves dir t) → Searched t
  alone t no_cat here = record { node = here; further = λ h. absurd (no_cat h) }

  -- what holds one tree
  holding : (t a : Tree) → AreListed t → (is_cat t ≡ true → ⊥) → nodes_below t ≡ a ∷ nodes_below a → ((dir : Direction) → Nowhere test a ⊎ Moves dir t) → Searched t
  holding t a l no_cat below here = alone t no_cat (λ dir. at t l dir (subst (λ us. All Fails us ⊎ Moves dir t) (sym below) (here dir)))

  -- a part and further parts
  of_cat : (a b : Tree) → AreListed (cat a b) → Searched a → Searched b → Searched (cat a b)
  of_cat a b l first rest = record {
    node = λ dir. at (cat a b) l dir (subst (λ u. All Fails (nodes_below (cat a b)) ⊎ Moves dir u) (parts-listed (cat a b) l refl) (by_parts dir []));
    further = λ h dir before. by_parts dir before;
  }
    where
      by_parts : (dir : Direction) (before : List Tree) → All Fails (nodes_below (cat a b)) ⊎ Moves dir (cat_of (before ++ a ∷ parts b))
      by_parts dir before =
          elim (first.node dir) [
            | inr (u, h) ↦ inr (cat_of (before ++ u ∷ parts b), in_part before (parts b) h)
            | inl here ↦ elim (rest.further l.2 dir (before ++ a ∷ [])) [
              | inl behind ↦ inl (All-append Fails (a ∷ nodes_below a) (nodes_below b) here behind)
              | inr more ↦ inr (subst (λ us. Moves dir (cat_of us)) (append_assoc before (a ∷ []) (parts b)) more)
            ]
          ]

  -- two arms
  of_alt : (a b : Tree) → AreListed (alt a b) → Searched a → Searched b → Searched (alt a b)
  of_alt a b l first second = alone (alt a b) false≢true (λ dir. at (alt a b) l dir (either dir))
    where
      either : (dir : Direction) → All Fails (nodes_below (alt a b)) ⊎ Moves dir (alt a b)
      either dir =
          elim (first.node dir) [
            | inr (u, h) ↦ inr (alt u b, in_first h)
            | inl here ↦ elim (second.node dir) [
              | inr (u, h) ↦ inr (alt a u, in_second h)
              | inl behind ↦ inl (All-append Fails (a ∷ nodes_below a) (b ∷ nodes_below b) here behind)
            ]
          ]

  searched : (t : Tree) → AreListed t → Searched t
  searched (cat a b) l = of_cat a b l (searched a l.0) (searched b l.1)
  searched no_part l = record { node = λ dir. at no_part l dir (inl (All-nil Fails)); further = λ h dir before. inl (All-nil Fails) }
  searched (alt a b) l = of_alt a b l (searched a l.0) (searched b l.1)
  searched (capture k name a) l =
      holding (capture k name a) a l false≢true refl (λ dir. elim ((searched a l).node dir) [ inl all ↦ inl all | inr (u, h) ↦ inr (capture k name u, in_capture h) ])
  searched (submatch kind first last a) l =
      holding (submatch kind first last a) a l false≢true refl (λ dir. elim ((searched a l).node (submatch_direction kind dir)) [ inl all ↦ inl all | inr (u, h) ↦ inr (submatch kind first last u, in_submatch h) ])
  searched (loop a first last least most greedy) l =
      holding (loop a first last least most greedy) a l false≢true refl (λ dir. elim ((searched a l).node dir) [ inl all ↦ inl all | inr (u, h) ↦ inr (loop u first last least most greedy, in_loop h) ])
  searched (single_loop a least most greedy) l =
      holding (single_loop a least most greedy) a l false≢true refl (λ dir. elim ((searched a l).node dir) [ inl all ↦ inl all | inr (u, h) ↦ inr (single_loop u least most greedy, in_single_loop h) ])
  searched t l = alone t false≢true (λ dir. at t l dir (inl (All-nil Fails)))

  -- the test is false everywhere, or a rule applies somewhere
  pub search_below : (dir : Direction) (t : Tree) → AreListed t → Nowhere test t ⊎ Moves dir t
  search_below dir t l = (searched t l).node dir

-- all of these, or the other
and_also : {A B M : Type 0} → A ⊎ M → (A → B ⊎ M) → B ⊎ M
and_also (inl a) f = f a
and_also (inr m) f = inr m

-- A tree is in normal form, or a rule applies somewhere.
pub normal-or-moves : (dir : Direction) (t : Tree) → AreListed t → IsNormal t ⊎ Moves dir t
normal-or-moves dir t l =
    and_also (search_below is_short_cat (λ d u p h. short_cat d u (one-listed u p) h) dir t l) (λ no_short_cat.
    and_also (search_below has_loose_part (λ d u p h. loose_part d u (one-listed u p) (all-listed u p) h) dir t l) (λ no_loose_part.
    and_also (search_below has_split_literal (λ d u p h. split_literal d u (one-listed u p) h) dir t l) (λ no_split_literal.
    and_also (search_below is_loose_char (λ d u p h. loose_char d u h) dir t l) (λ no_loose_char.
    and_also (search_below is_unrollable (λ d u p h. unrollable_loop d u h) dir t l) (λ no_unrollable_loop.
    and_also (search_below is_loop_of_one (λ d u p h. loop_of_one d u h) dir t l) (λ no_loop_of_one.
    and_also (search_below is_empty_choice (λ d u p h. empty_choice d u h) dir t l) (λ no_empty_choice.
    and_also (search_below is_idle_loop (λ d u p h. idle_loop d u h) dir t l) (λ no_idle_loop.
    and_also (search_below is_lost_cat (λ d u p h. lost_cat d u (one-listed u p) h) dir t l) (λ no_lost_cat.
    inl (record {
      no_short_cat = no_short_cat;
      no_loose_part = no_loose_part;
      no_split_literal = no_split_literal;
      no_loose_char = no_loose_char;
      no_unrollable_loop = no_unrollable_loop;
      no_loop_of_one = no_loop_of_one;
      no_empty_choice = no_empty_choice;
      no_idle_loop = no_idle_loop;
      no_lost_cat = no_lost_cat;
    }))))))))))

reached-within : (k : ℕ) (dir : Direction) (n : ℕ) (t : Tree) → AreLawful n t → AreListed t → weight t < k → (u : Tree) × Reaches dir t u × IsNormal u
reached-within zero dir n t lawful l small = absurd (omega arith)
reached-within (suc k) dir n t lawful l small =
    elim (normal-or-moves dir t l) [
      | inl normal ↦ (t, stays, normal)
      | inr (u, h) ↦
          let right = all-right dir n t u h lawful in
          let rest = reached-within k dir n u right.1 (rewrites-listed h l) (omega (arith, small, right.2)) in
          (rest.0, and_then h rest.1, rest.2)
    ]

pub normal-reached : NormalFormsAreReached
normal-reached dir n t lawful l = reached-within (suc (weight t)) dir n t lawful l (omega arith)
