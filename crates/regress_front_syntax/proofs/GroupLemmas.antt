-- What is answered for a tree in parentheses, by what its opening is and by its contents.
use Rattle.std.proofs.Common.{◌≡◌, ℕ, suc, ◌+◌, ◌≤◌, Bool, true, false, not, List, length, Option, Some, None, option_and_then, Err, refl, sym, ap, ◌∙◌, arith, option_map}
use Rattle.regress_meaning.specs.Pattern.{Pattern, names_of, capture}
use Rattle.regress_meaning.specs.Tokens.{Mode}
use Rattle.regress_meaning.specs.Limits.{depth, quantifiers, most_groups}
use Rattle.regress_meaning.specs.Reading.{Front, quantified, read_term, disjunction_at, ReadsBySteps}
use Rattle.regress_meaning.specs.Reading as meaning
use Rattle.regress_front_core.specs.declared.error.Error.{Error}
use Rattle.regress_front_core.specs.declared.error.Error.TheVariants.{Syntax as SyntaxError, TooDeep, TooManyGroups, TooManyLoops, TooLarge, OutOfMemory}
use Rattle.regress_front_syntax.specs.declared.group.Opening.{Opening}
use Rattle.regress_front_syntax.specs.declared.group.Opening.TheVariants.{Capture, Group, Atomic, Modified, Lookahead, Lookbehind}
use Rattle.regress_front_tokens.specs.Words.{code_points_of}
use Rattle.regress_front_syntax.specs.Openings.{opening_view, enclosed, is_lookbehind, may_repeat, finish, opened_by, IsOpening}
use Rattle.regress_front_syntax.specs.Parsing.{Place, Leads, Grows, front_to, IsRefusal, contents_of}
use Rattle.regress_front_syntax.proofs.AnswerLemmas.{at, Within, Keeps, quantified-keeps, Some-keeps, wrapped, quantified-contents, closed-alone, Leads_trans}
use Rattle.regress_front_syntax.proofs.StepLemmas.{contents-opened}

-- what is read of an opening that can't be
pub opening-refused : (m : Mode) (read : List ℕ → ℕ → Option Front) (k : ℕ) (here : Place) (o : meaning.Opening) (e : Error) (r : List ℕ) → IsOpening o (Err e) r → IsRefusal here (read_term m read k o) e
unfolding read_term
opening-refused m read k here o (SyntaxError message) r none = rw none refl
opening-refused m read k here o OutOfMemory r h = tt
opening-refused m read k here o TooDeep r h = absurd h
opening-refused m read k here o TooManyGroups r h = absurd h
opening-refused m read k here o TooManyLoops r h = absurd h
opening-refused m read k here o TooLarge r h = absurd h

-- What a tree around contents adds: one level, so many groups, no quantifier.
pub record Wraps (wrap : Pattern → Pattern) (k l : ℕ) : Type 0 where
  pub deep : (p : Pattern) → depth (wrap p) ≡ depth p + 1
  pub names : (p : Pattern) → l + length (names_of p) ≡ k + length (names_of (wrap p))
  pub loops : (p : Pattern) → quantifiers (wrap p) ≡ quantifiers p

capture-wraps : (k : ℕ) (name : Option (List ℕ)) → Wraps (capture k name) k (suc k)
capture-wraps k None = record { deep = λ p. refl; names = λ p. omega arith; loops = λ p. refl }
capture-wraps k (Some name) = record { deep = λ p. refl; names = λ p. omega arith; loops = λ p. refl }

enclosed-wraps : (o : Opening) (k : ℕ) → Wraps (enclosed o k) k (opened_by o k)
enclosed-wraps (Capture name) k = capture-wraps k (option_map code_points_of name)
enclosed-wraps Group k = record { deep = λ p. refl; names = λ p. refl; loops = λ p. refl }
enclosed-wraps Atomic k = record { deep = λ p. refl; names = λ p. refl; loops = λ p. refl }
enclosed-wraps (Modified on off) k = record { deep = λ p. refl; names = λ p. refl; loops = λ p. refl }
enclosed-wraps (Lookahead negated) k = record { deep = λ p. refl; names = λ p. refl; loops = λ p. refl }
enclosed-wraps (Lookbehind negated) k = record { deep = λ p. refl; names = λ p. refl; loops = λ p. refl }

pub opened_by-most : (o : Opening) (k : ℕ) → opened_by o k ≤ suc k
opened_by-most (Capture name) k = omega arith
opened_by-most Group k = omega arith
opened_by-most Atomic k = omega arith
opened_by-most (Modified on off) k = omega arith
opened_by-most (Lookahead negated) k = omega arith
opened_by-most (Lookbehind negated) k = omega arith

finish-keeps : (alone allowed : Bool) (k : ℕ) → Keeps (finish alone allowed k)
finish-keeps true allowed k = Some-keeps
finish-keeps false allowed k = quantified-keeps allowed k

module _ (m : Mode) where
  enclosed-read : (read : List ℕ → ℕ → Option Front) (k : ℕ) (o : Opening) (t : List ℕ)
      → read_term m read k (opening_view o t) ≡ option_and_then (λ (f : Front). finish (is_lookbehind o) (may_repeat m.unicode o) k (wrapped (enclosed o k) f)) (contents_of (read t (opened_by o k)))
  unfolding read_term
  enclosed-read read k (Capture None) t = quantified-contents true k (capture k None) (read t (suc k))
  enclosed-read read k (Capture (Some name)) t = quantified-contents true k (capture k (Some (code_points_of name))) (read t (suc k))
  enclosed-read read k Group t = quantified-contents true k (enclosed Group k) (read t k)
  enclosed-read read k Atomic t = quantified-contents true k (enclosed Atomic k) (read t k)
  enclosed-read read k (Modified on off) t = quantified-contents true k (enclosed (Modified on off) k) (read t k)
  enclosed-read read k (Lookahead negated) t = quantified-contents (not m.unicode) k (enclosed (Lookahead negated) k) (read t k)
  enclosed-read read k (Lookbehind negated) t = closed-alone (enclosed (Lookbehind negated) k) (read t k)

-- what is read of a tree in parentheses has its contents within
wrapped-within : (here there : Place) (k l : ℕ) (end : Front → Option Front) (wrap : Pattern → Pattern) (o read : Option Front)
    → read ≡ option_and_then (λ (f : Front). end (wrapped wrap f)) o → Keeps end → Wraps wrap k l
    → there.nesting ≡ suc here.nesting → there.repeated ≡ here.repeated → Leads here there → Within here there read o
wrapped-within here there k l end wrap o read e keeps wraps deeper same leads = record { fronts = λ f found. by_contents o f (sym e ∙ found); leads = leads }
  where
    by_contents : (o : Option Front) (f : Front) → option_and_then (λ (f : Front). end (wrapped wrap f)) o ≡ Some f
        → (g : Front) × (o ≡ Some g) × (there.nesting + depth g.tree ≤ here.nesting + depth f.tree) × (g.opened ≤ f.opened) × (there.repeated + quantifiers g.tree ≤ here.repeated + quantifiers f.tree)
    by_contents None f h = absurd (cc)
    by_contents (Some g) f h =
        let (opened, deep, loops) = keeps.kept (wrapped wrap g) f h in
        let around = wraps.deep g.tree in
        let kept = wraps.loops g.tree in
        (g, refl, omega arith, omega arith, omega arith)

-- a group that was opened at one place, whose contents begin at another
module _ (m : Mode) (read_opening : meaning.Opening) (o : Opening) (n k r : ℕ) (t u : List ℕ) (is : read_opening ≡ opening_view o u)
    (leads : Leads (at n k r t) (at (suc n) (opened_by o k) r u)) where
  abbrev whole : Option Front
  whole = read_term m (disjunction_at m) k read_opening

  abbrev inner : Option Front
  inner = contents_of (disjunction_at m u (opened_by o k))

  read-whole : whole ≡ option_and_then (λ (f : Front). finish (is_lookbehind o) (may_repeat m.unicode o) k (wrapped (enclosed o k) f)) inner
  read-whole = ap (read_term m (disjunction_at m) k) is ∙ enclosed-read m (disjunction_at m) k o u

  pub group-within : Within (at n k r t) (at (suc n) (opened_by o k) r u) whole inner
  group-within = wrapped-within (at n k r t) (at (suc n) (opened_by o k) r u) k (opened_by o k) (finish (is_lookbehind o) (may_repeat m.unicode o) k) (enclosed o k) inner whole
      read-whole (finish-keeps (is_lookbehind o) (may_repeat m.unicode o) k) (enclosed-wraps o k) refl refl leads

  -- one group too many
  pub group-full : ReadsBySteps m u (opened_by o k) → opened_by o k ≡ suc k → k ≡ most_groups → IsRefusal (at n k r t) whole TooManyGroups
  group-full steps more full = (
    (λ f e. let (g, found, deep, opened, repeated) = group-within.fronts f e in
        let further = contents-opened (opened_by o k) (disjunction_at m u (opened_by o k)) (λ h read. let counted = (steps.disjunction_forward h read).0 in omega arith) g found in
        omega arith),
    (let grouped = leads.grouped in omega arith),
  )

  module _ (end : Place) (p : Pattern) (found : inner ≡ Some (front_to end p)) where
    -- what is read of the whole, up to the quantifier
    pub group-found : whole ≡ finish (is_lookbehind o) (may_repeat m.unicode o) k (front_to end (enclosed o k p))
    group-found = read-whole ∙ ap (option_and_then (λ (f : Front). finish (is_lookbehind o) (may_repeat m.unicode o) k (wrapped (enclosed o k) f))) found

    pub group-grows : Grows (at (suc n) (opened_by o k) r u) end p → end.nesting ≡ suc n → Grows (at n k r t) (at n end.opened end.repeated end.text) (enclosed o k p)
    group-grows grows level =
        let wraps = enclosed-wraps o k in
        record {
          counted = (let counted = grows.counted in let names = wraps.names p in omega arith);
          deep = (let deeper = grows.deep in let deep = wraps.deep p in omega arith);
          loops = (let looped = grows.loops in let loops = wraps.loops p in omega arith);
          leads = (let further = Leads_trans leads grows.leads in record { nested = (let nested = further.nested in omega arith); grouped = further.grouped; looped = further.looped });
        }
