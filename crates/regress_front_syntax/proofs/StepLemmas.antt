-- How a disjunction, an alternative and the contents of parentheses are read from their parts.
use Rattle.std.proofs.Common.{◌≡◌, ℕ, ◌+◌, ◌≤◌, Bool, true, false, ◌==◌, List, drop, Option, Some, None, option_and_then, option_map, refl, sym, ap, ◌∙◌, arith}
use Rattle.regress_meaning.specs.Text.{is_at}
use Rattle.regress_meaning.specs.Pattern.{Pattern, nothing, sequence, choice}
use Rattle.regress_meaning.specs.Tokens.{Mode, guard}
use Rattle.regress_meaning.specs.Grammar.{ends_alternative}
use Rattle.regress_meaning.specs.Limits.{depth, quantifiers, greatest_depth}
use Rattle.regress_meaning.specs.Reading.{Front, joined_by, alternatives_if, alternatives, terms, closed, disjunction_at, alternative_at, term_at, ReadsBySteps}
use Rattle.regress_front_syntax.specs.Parsing.{Place, Grows, front_to, contents_of}
use Rattle.regress_front_syntax.proofs.AnswerLemmas.{at, Within, Leads_refl, Leads_trans, Leads_drop}
use Rattle.regress_front_syntax.proofs.LoopLemmas.{Joins, sequence_joins, choice_joins}

-- a front with nothing in it
pub nothing-grows : (here : Place) → here.nesting ≤ greatest_depth → Grows here here nothing
nothing-grows here shallow = record { counted = omega arith; deep = omega arith; loops = omega arith; leads = Leads_refl here }

module _ (m : Mode) (steps : (t : List ℕ) (k : ℕ) → ReadsBySteps m t k) where
  module _ (now there : Place) (p : Pattern) (e : alternative_at m now.text now.opened ≡ Some (front_to there p)) where
    pub arm-goes_on : is_at (λ c. c == 0x7C) there.text ≡ true
        → disjunction_at m now.text now.opened ≡ option_map (joined_by choice (front_to there p)) (disjunction_at m (drop 1 there.text) there.opened)
    unfolding alternatives alternatives_if
    arm-goes_on bar = (steps now.text now.opened).disjunction ∙ ap (option_and_then (alternatives (disjunction_at m))) e ∙ rw bar refl

    pub arm-ends : is_at (λ c. c == 0x7C) there.text ≡ false → disjunction_at m now.text now.opened ≡ Some (front_to there p)
    unfolding alternatives alternatives_if
    arm-ends bar = (steps now.text now.opened).disjunction ∙ ap (option_and_then (alternatives (disjunction_at m))) e ∙ rw bar refl

  -- a front joined with what is read behind it is no smaller than it
  joined-larger : (join : Pattern → Pattern → Pattern) → Joins join → (g : Front) (o : Option Front) (f : Front) → ((r : Front) → o ≡ Some r → g.opened ≤ r.opened)
      → option_map (joined_by join g) o ≡ Some f → (depth g.tree ≤ depth f.tree) × (g.opened ≤ f.opened) × (quantifiers g.tree ≤ quantifiers f.tree)
  joined-larger join joins g None f forward e = absurd (cc)
  joined-larger join joins g (Some r) f forward e =
      let same : joined_by join g r ≡ f = cc in
      let deep : depth (join g.tree r.tree) ≡ depth f.tree = ap (λ x. depth x.tree) same in
      let both = joins.deep g.tree r.tree in
      let loops : quantifiers (join g.tree r.tree) ≡ quantifiers f.tree = ap (λ x. quantifiers x.tree) same in
      let sum = joins.loops g.tree r.tree in
      let opened : r.opened ≡ f.opened = ap (λ x. x.opened) same in
      let further = forward r refl in
      (omega arith, omega arith, omega arith)

  alternatives-larger : (bar : Bool) (g f : Front) → alternatives_if bar (disjunction_at m) g ≡ Some f → (depth g.tree ≤ depth f.tree) × (g.opened ≤ f.opened) × (quantifiers g.tree ≤ quantifiers f.tree)
  unfolding alternatives_if
  alternatives-larger true g f e =
      joined-larger choice choice_joins g (disjunction_at m (drop 1 g.rest) g.opened) f (λ r h. let counted = ((steps (drop 1 g.rest) g.opened).disjunction_forward r h).0 in omega arith) e
  alternatives-larger false g f e = let same : g ≡ f = cc in rw (← same) (omega arith, omega arith, omega arith)

  -- what is read of a disjunction has its first alternative within
  pub arm-within : (now : Place) → Within now now (disjunction_at m now.text now.opened) (alternative_at m now.text now.opened)
  unfolding alternatives
  arm-within now = record { fronts = λ f e. first (alternative_at m now.text now.opened) f (sym (steps now.text now.opened).disjunction ∙ e); leads = Leads_refl now }
    where
      first : (o : Option Front) (f : Front) → option_and_then (alternatives (disjunction_at m)) o ≡ Some f
          → (g : Front) × (o ≡ Some g) × (now.nesting + depth g.tree ≤ now.nesting + depth f.tree) × (g.opened ≤ f.opened) × (now.repeated + quantifiers g.tree ≤ now.repeated + quantifiers f.tree)
      first None f e = absurd (cc)
      first (Some g) f e = let (deep, opened, loops) = alternatives-larger (is_at (λ c. c == 0x7C) g.rest) g f e in (g, refl, omega arith, opened, omega arith)

  -- what is read of an alternative that goes on has its first term within
  pub term-within : (now : Place) → ends_alternative now.text ≡ false → Within now now (alternative_at m now.text now.opened) (term_at m now.text now.opened)
  unfolding terms
  term-within now goes_on = record { fronts = λ f e. first (term_at m now.text now.opened) f (sym ((steps now.text now.opened).alternative ∙ rw goes_on refl) ∙ e); leads = Leads_refl now }
    where
      first : (o : Option Front) (f : Front) → option_and_then (terms (alternative_at m)) o ≡ Some f
          → (g : Front) × (o ≡ Some g) × (now.nesting + depth g.tree ≤ now.nesting + depth f.tree) × (g.opened ≤ f.opened) × (now.repeated + quantifiers g.tree ≤ now.repeated + quantifiers f.tree)
      first None f e = absurd (cc)
      first (Some g) f e =
          let (deep, opened, loops) = joined-larger sequence sequence_joins g (alternative_at m g.rest g.opened) f (λ r h. let counted = ((steps g.rest g.opened).alternative_forward r h).0 in omega arith) e in
          (g, refl, omega arith, opened, omega arith)

  module _ (now there : Place) (p : Pattern) (goes_on : ends_alternative now.text ≡ false) (e : term_at m now.text now.opened ≡ Some (front_to there p)) where
    pub term-goes_on : alternative_at m now.text now.opened ≡ option_map (joined_by sequence (front_to there p)) (alternative_at m there.text there.opened)
    unfolding terms
    term-goes_on = (steps now.text now.opened).alternative ∙ rw (goes_on, e) refl

  pub alternative-ends : (now : Place) → ends_alternative now.text ≡ true → alternative_at m now.text now.opened ≡ Some (front_to now nothing)
  alternative-ends now ends = (steps now.text now.opened).alternative ∙ rw ends refl

-- contents are read up to their closing parenthesis
pub contents-closed : (o : Option Front) (there : Place) (p : Pattern) → o ≡ Some (front_to there p) → is_at (λ c. c == 0x29) there.text ≡ true
    → contents_of o ≡ Some (record { tree = p; opened = there.opened; rest = drop 1 there.text })
unfolding closed
contents-closed o there p e h = rw (e, h) refl

pub contents-open : (o : Option Front) (there : Place) (p : Pattern) → o ≡ Some (front_to there p) → is_at (λ c. c == 0x29) there.text ≡ false → contents_of o ≡ None
unfolding closed
contents-open o there p e h = rw (e, h) refl

pub contents-within : (here : Place) (o : Option Front) → Within here here (contents_of o) o
unfolding closed
contents-within here o = record { fronts = λ f e. found o f e; leads = Leads_refl here }
  where
    kept : (b : Bool) (h f : Front) → guard b (Some h) ≡ Some f → h ≡ f
    kept true h f e = cc
    kept false h f e = absurd (cc)

    found : (o : Option Front) (f : Front) → contents_of o ≡ Some f → (g : Front) × (o ≡ Some g) × (here.nesting + depth g.tree ≤ here.nesting + depth f.tree) × (g.opened ≤ f.opened) × (here.repeated + quantifiers g.tree ≤ here.repeated + quantifiers f.tree)
    found None f e = absurd (cc)
    found (Some g) f e =
        let same = kept (is_at (λ c. c == 0x29) g.rest) _ f e in
        let deep : depth g.tree ≡ depth f.tree = ap (λ x. depth x.tree) same in
        let opened : g.opened ≡ f.opened = ap (λ x. x.opened) same in
        let loops : quantifiers g.tree ≡ quantifiers f.tree = ap (λ x. quantifiers x.tree) same in
        (g, refl, omega arith, omega arith, omega arith)

-- behind a closing parenthesis
pub closed-grows : (here there next : Place) (p : Pattern) → Grows here there p → next.nesting ≡ there.nesting → next.opened ≡ there.opened → next.repeated ≡ there.repeated → next.text ≡ drop 1 there.text → Grows here next p
closed-grows here there next p grows nesting opened repeated text =
    let place : next ≡ at there.nesting there.opened there.repeated (drop 1 there.text) = λ i. record { nesting = nesting i; opened = opened i; repeated = repeated i; text = text i } in
    rw place (record { counted = grows.counted; deep = grows.deep; loops = grows.loops; leads = Leads_trans grows.leads (Leads_drop there.nesting there.opened there.repeated there.text) })

-- what is read up to a closing parenthesis opens as many groups
pub contents-opened : (k : ℕ) (o : Option Front) → ((f : Front) → o ≡ Some f → k ≤ f.opened) → (f : Front) → contents_of o ≡ Some f → k ≤ f.opened
unfolding closed
contents-opened k None forward f e = absurd (cc)
contents-opened k (Some g) forward f e = kept (is_at (λ c. c == 0x29) g.rest) _ e (forward g refl)
  where
    kept : (b : Bool) (h : Front) → guard b (Some h) ≡ Some f → k ≤ h.opened → k ≤ f.opened
    kept true h e l = let same : h ≡ f = cc in rw (← same) l
    kept false h e l = absurd (cc)
