-- What a loop of the parser has read so far, and what is still to come.
use Rattle.std.proofs.Common.{◌≡◌, ℕ, ◌+◌, ◌≤◌, List, [], ◌∷◌, ◌++◌, length, max, Option, Some, None, option_map, refl, sym, ap, ◌∙◌, length-append, arith}
use Rattle.regress_meaning.specs.Pattern.{Pattern, names_of, nothing, sequence, choice}
use Rattle.regress_meaning.specs.Limits.{depth, quantifiers}
use Rattle.regress_meaning.specs.Reading.{Front, joined_by}
use Rattle.regress_front_tokens.specs.Trees.{sequence_of, choice_of}
use Rattle.regress_front_syntax.specs.Parsing.{Place, Leads, Grows, front_to}
use Rattle.regress_front_syntax.proofs.AnswerLemmas.{Within, Leads_refl, Leads_trans}

-- some trees, and then one more
pub before : (Pattern → Pattern → Pattern) → List Pattern → Pattern → Pattern
before join [] p = p
before join (q ∷ qs) p = join q (before join qs p)

before-push : (join : Pattern → Pattern → Pattern) (qs : List Pattern) (q p : Pattern) → before join (qs ++ q ∷ []) p ≡ before join qs (join q p)
unfolding before
before-push join [] q p = refl
before-push join (r ∷ qs) q p = ap (join r) (before-push join qs q p)

pub sequence_of-before : (qs : List Pattern) → sequence_of qs ≡ before sequence qs nothing
unfolding before
sequence_of-before [] = refl
sequence_of-before (q ∷ qs) = ap (sequence q) (sequence_of-before qs)

pub choice_of-before : (qs : List Pattern) (p : Pattern) → choice_of (qs ++ p ∷ []) ≡ before choice qs p
unfolding before
choice_of-before [] p = refl
choice_of-before (q ∷ []) p = refl
choice_of-before (q ∷ r ∷ qs) p = ap (choice q) (choice_of-before (r ∷ qs) p)

-- what joining two trees keeps: the groups of both, the greater depth, the quantifiers of both
pub record Joins (join : Pattern → Pattern → Pattern) : Type 0 where
  pub names : (p q : Pattern) → names_of (join p q) ≡ names_of p ++ names_of q
  pub deep : (p q : Pattern) → depth (join p q) ≡ max (depth p) (depth q)
  pub loops : (p q : Pattern) → quantifiers (join p q) ≡ quantifiers p + quantifiers q

pub sequence_joins : Joins sequence
sequence_joins = record { names = λ p q. refl; deep = λ p q. refl; loops = λ p q. refl }

pub choice_joins : Joins choice
choice_joins = record { names = λ p q. refl; deep = λ p q. refl; loops = λ p q. refl }

deeper_before : (join : Pattern → Pattern → Pattern) → Joins join → (qs : List Pattern) (p : Pattern) → depth p ≤ depth (before join qs p)
unfolding before
deeper_before join joins [] p = omega arith
deeper_before join joins (q ∷ qs) p =
    let inner = deeper_before join joins qs p in
    let outer = joins.deep q (before join qs p) in
    omega arith

-- one tree read behind another
grows-joined : (join : Pattern → Pattern → Pattern) → Joins join → {a b c d : Place} (p q : Pattern) → Grows a b p → c.nesting ≡ a.nesting → c.opened ≡ b.opened → c.repeated ≡ b.repeated → Leads b c → Grows c d q → Grows a d (join p q)
grows-joined join joins {a} {b} {c} {d} p q x level same repeated leads y =
    let names = ap length (joins.names p q) ∙ length-append (names_of p) (names_of q) in
    let deep = joins.deep p q in
    let loops = joins.loops p q in
    record {
      counted = (let first = x.counted in let second = y.counted in omega arith);
      deep = (let first = x.deep in let second = y.deep in omega arith);
      loops = (let first = x.loops in let second = y.loops in omega arith);
      leads = Leads_trans x.leads (Leads_trans leads y.leads);
    }

module _ (join : Pattern → Pattern → Pattern) where
  -- a front behind the trees read so far
  abbrev with_before : List Pattern → Front → Front
  with_before qs f = record { tree = before join qs f.tree; opened = f.opened; rest = f.rest }

  -- So far these trees were read from here to now, and what is read from here on is these and what is read from now on.
  pub record LoopState (read : List ℕ → ℕ → Option Front) (here now : Place) (qs : List Pattern) : Type 0 where
    pub level : now.nesting ≡ here.nesting
    pub whole : read here.text here.opened ≡ option_map (with_before qs) (read now.text now.opened)
    pub grows : (there : Place) (p : Pattern) → Grows now there p → Grows here there (before join qs p)
    pub loops : (p : Pattern) → now.repeated + quantifiers p ≡ here.repeated + quantifiers (before join qs p)
    pub leads : Leads here now

  pub loop_begins : (read : List ℕ → ℕ → Option Front) (here : Place) → LoopState read here here []
  unfolding before
  loop_begins read here = record { level = refl; whole = same (read here.text here.opened); grows = λ there p g. g; loops = λ p. refl; leads = Leads_refl here }
    where
      same : (o : Option Front) → o ≡ option_map (with_before []) o
      same None = refl
      same (Some f) = refl

  module _ (joins : Joins join) where
    -- what is refused now is refused here
    pub loop-within : (read : List ℕ → ℕ → Option Front) {here now : Place} {qs : List Pattern} → LoopState read here now qs → Within here now (read here.text here.opened) (read now.text now.opened)
    loop-within read {here} {now} {qs} s = record { fronts = λ f e. found (read now.text now.opened) f (sym s.whole ∙ e); leads = s.leads }
      where
        found : (o : Option Front) (f : Front) → option_map (with_before qs) o ≡ Some f → (g : Front) × (o ≡ Some g) × (now.nesting + depth g.tree ≤ here.nesting + depth f.tree) × (g.opened ≤ f.opened) × (now.repeated + quantifiers g.tree ≤ here.repeated + quantifiers f.tree)
        found None f e = absurd (cc)
        found (Some g) f e =
            let same : with_before qs g ≡ f = cc in
            let deep : depth (before join qs g.tree) ≡ depth f.tree = ap (λ x. depth x.tree) same in
            let opened : g.opened ≡ f.opened = ap (λ x. x.opened) same in
            let level = s.level in
            let deeper = deeper_before join joins qs g.tree in
            let loops = s.loops g.tree in
            let counted : quantifiers (before join qs g.tree) ≡ quantifiers f.tree = ap (λ x. quantifiers x.tree) same in
            (g, refl, omega arith, omega arith, omega arith)

    -- one more tree was read up to there, and the loop goes on behind it
    pub loop_goes_on : (read : List ℕ → ℕ → Option Front) {here now there next : Place} {qs : List Pattern} (q : Pattern) → LoopState read here now qs
        → Grows now there q → read now.text now.opened ≡ option_map (joined_by join (front_to there q)) (read next.text next.opened)
        → next.nesting ≡ now.nesting → next.opened ≡ there.opened → next.repeated ≡ there.repeated → Leads there next → LoopState read here next (qs ++ q ∷ [])
    loop_goes_on read {here} {now} {there} {next} {qs} q s grows e level same repeated leads = record {
      level = level ∙ s.level;
      whole = s.whole ∙ ap (option_map (with_before qs)) e ∙ both (read next.text next.opened);
      grows = λ place p more. rw (before-push join qs q p) (s.grows place (join q p) (grows-joined join joins q p grows level same repeated leads more));
      loops = λ p. rw (before-push join qs q p) (let further = s.loops (join q p) in let both = joins.loops q p in let first = grows.loops in omega arith);
      leads = Leads_trans s.leads (Leads_trans grows.leads leads);
    }
      where
        both : (o : Option Front) → option_map (with_before qs) (option_map (joined_by join (front_to there q)) o) ≡ option_map (with_before (qs ++ q ∷ [])) o
        both None = refl
        both (Some g) = ap (λ p. Some (record { tree = p; opened = g.opened; rest = g.rest })) (sym (before-push join qs q g.tree))

    -- the last tree was read up to there
    pub loop_ends : (read : List ℕ → ℕ → Option Front) {here now there : Place} {qs : List Pattern} (q : Pattern) → LoopState read here now qs
        → Grows now there q → read now.text now.opened ≡ Some (front_to there q)
        → (read here.text here.opened ≡ Some (front_to there (before join qs q))) × Grows here there (before join qs q)
    loop_ends read {here} {now} {there} {qs} q s grows e = (s.whole ∙ ap (option_map (with_before qs)) e, s.grows there q grows)
