-- What the quantifier behind a front says, and what is answered for a tree with one.
use Rattle.std.proofs.lemmas.Bool.Decides.{nat_tests}
use Rattle.std.specs.Prelude.{if◌then◌else◌}
use Rattle.std.proofs.Common.{◌≡◌, ℕ, suc, ◌<◌, ◌≤◌, Bool, true, false, ◌&&◌, nat_le, List, length, drop, Option, Some, None, option_map, Err, refl, sym, ap, ◌∙◌, length-drop, arith}
use Rattle.regress_meaning.specs.Text.{is_at}
use Rattle.regress_meaning.specs.Pattern.{Pattern, repeated}
use Rattle.regress_meaning.specs.Tokens.{Mode, Bounds, bounds_at, guard}
use Rattle.regress_meaning.specs.Grammar.{greedy_at, after_mark}
use Rattle.regress_meaning.specs.Laws.{LeavesLess}
use Rattle.regress_meaning.specs.Limits.{depth, quantifiers, opens_nesting, opens_group, opens_quantifier, most_quantifiers}
use Rattle.regress_meaning.specs.Reading.{Front, bounded, quantified}
use Rattle.regress_front_core.specs.declared.error.Error.{Error}
use Rattle.regress_front_core.specs.declared.error.Error.TheVariants.{Syntax as SyntaxError, TooDeep, TooManyGroups, TooManyLoops, TooLarge, OutOfMemory}
use Rattle.regress_front_tokens.specs.declared.cursor.Cursor.{Cursor}
use Rattle.regress_front_core.specs.declared.quantifier.Quantifier.{Quantifier}
use Rattle.regress_front_tokens.specs.Cursors.{unread, SameText}
use Rattle.regress_front_core.specs.Quantifiers.{most}
use Rattle.regress_front_tokens.specs.Words.{quantifier_at, quantifier_view}
use Rattle.regress_front_syntax.specs.Parsing.{Place, Grows, IsRefusal, IsQuantifier, ReadsQuantifier, PassesQuantifiers, with_quantifier, front_to}
use Rattle.regress_front_syntax.proofs.AnswerLemmas.{at, Leads_refl, Leads_trans, quantified-none}
use Rattle.regress_front_syntax.proofs.MarkLemmas.{quantifier-mark, count-further, count-beyond}

-- bounds with the mark behind them
abbrev with_mark : Option (Bounds × List ℕ) → Option ((Bounds × Bool) × List ℕ)
with_mark o = option_map {U = (Bounds × Bool) × List ℕ} (λ (b, r). ((b, greedy_at r), after_mark r)) o

-- no quantifier stands here
none-bounds : (o : Option (Bounds × List ℕ)) → with_mark o ≡ None → o ≡ None
none-bounds None e = refl
none-bounds (Some x) e = absurd (cc)

pub no_quantifier : (allowed : Bool) (n k r : ℕ) (t u : List ℕ) → quantifier_at t ≡ None → u ≡ t → ReadsQuantifier allowed (at n k r t) (at n k r u) None
no_quantifier allowed n k r t u e same = rw same (record {
  repeats = λ l f ends. quantified-none allowed l f (ap bounds_at ends ∙ none-bounds (bounds_at t) e) ∙ (λ i. Some (record { tree = f.tree; opened = f.opened; rest = ends i }));
  counted = λ l f. omega arith;
  opened = refl;
  leads = Leads_refl (at n k r t);
})

-- a quantifier stands here
module _ (t u : List ℕ) (q : Quantifier) (e : quantifier_at t ≡ Some (quantifier_view q, u)) where
  found : (allowed : Bool) (k : ℕ) (f : Front) → f.rest ≡ t
      → quantified allowed k f ≡ guard (allowed && nat_le q.min (most q)) (Some (record { tree = repeated f.tree k f.opened q.min (most q) q.greedy; opened = f.opened; rest = u }))
  unfolding quantified bounded
  found allowed k f ends = ap (bounded allowed k f) (ap bounds_at ends) ∙ go (bounds_at t) e
    where
      go : (o : Option (Bounds × List ℕ)) → with_mark o ≡ Some (quantifier_view q, u)
          → bounded allowed k f o ≡ guard (allowed && nat_le q.min (most q)) (Some (record { tree = repeated f.tree k f.opened q.min (most q) q.greedy; opened = f.opened; rest = u }))
      go None h = absurd (cc)
      go (Some (b, s)) h =
          let same : ◌≡◌ {A = (Bounds × Bool) × List ℕ} ((b, greedy_at s), after_mark s) (quantifier_view q, u) = cc in
          let bounds : b ≡ record { least = q.min; most = most q } = ap (λ (x : (Bounds × Bool) × List ℕ). x.0.0) same in
          let greedy : greedy_at s ≡ q.greedy = ap (λ (x : (Bounds × Bool) × List ℕ). x.0.1) same in
          let rest : after_mark s ≡ u = ap (λ (x : (Bounds × Bool) × List ℕ). x.1) same in
          rw (bounds, rest, greedy) refl

  pub not_allowed : (k : ℕ) (f : Front) → f.rest ≡ t → quantified false k f ≡ None
  not_allowed k f ends = found false k f ends

  pub out_of_order : (k : ℕ) (f : Front) → most q < q.min → f.rest ≡ t → quantified true k f ≡ None
  out_of_order k f wrong ends = let falls : nat_le q.min (most q) ≡ false = grind (arith, nat_tests) in found true k f ends ∙ rw falls refl

  pub in_order : (k : ℕ) (f : Front) → q.min ≤ most q → f.rest ≡ t
      → quantified true k f ≡ Some (record { tree = repeated f.tree k f.opened q.min (most q) q.greedy; opened = f.opened; rest = u })
  in_order k f right ends = let holds : nat_le q.min (most q) ≡ true = grind (arith, nat_tests) in found true k f ends ∙ rw holds refl

  stands : (o : Option (Bounds × List ℕ)) → o ≡ bounds_at t → with_mark o ≡ Some (quantifier_view q, u) → is_at opens_quantifier t ≡ true
  stands None same h = absurd (cc)
  stands (Some x) same h = quantifier-mark t x (sym same)

  pub quantifier-stands : is_at opens_quantifier t ≡ true
  quantifier-stands = stands (bounds_at t) refl e

  -- it leaves less of the text
  pub quantifier-less : (m : Mode) → LeavesLess m t → length u < length t
  quantifier-less m less = go (bounds_at t) refl e
    where
      shorter : (s : List ℕ) → length (after_mark s) ≤ length s
      shorter s = by_mark (greedy_at s)
        where
          by_mark : (b : Bool) → length (if b then s else drop 1 s) ≤ length s
          by_mark true = omega arith
          by_mark false = omega (arith, length-drop 1 s)

      go : (o : Option (Bounds × List ℕ)) → o ≡ bounds_at t → with_mark o ≡ Some (quantifier_view q, u) → length u < length t
      go None same h = absurd (cc)
      go (Some (b, s)) same h =
          let last : ◌≡◌ {A = (Bounds × Bool) × List ℕ} ((b, greedy_at s), after_mark s) (quantifier_view q, u) = cc in
          let rest : after_mark s ≡ u = ap (λ (x : (Bounds × Bool) × List ℕ). x.1) last in
          omega (arith, less.bounds b s (sym same), shorter s, ap length rest)

-- a quantifier was read by a cursor
module _ (a b : Cursor) (same : SameText a b) (q : Quantifier) (e : quantifier_at (unread a) ≡ Some (quantifier_view q, unread b)) (less : length (unread b) < length (unread a)) where
  pub quantifier-read : (n k r s : ℕ) → s ≡ suc r → q.min ≤ most q → ReadsQuantifier true (at n k r (unread a)) (at n k s (unread b)) (Some q)
  quantifier-read n k r s more right = record {
    repeats = λ l f ends. in_order (unread a) (unread b) q e l f right ends;
    counted = λ l f. omega arith;
    opened = refl;
    leads =
        let nesting = count-further a b same opens_nesting (omega arith) in
        let groups = count-further a b same opens_group (omega arith) in
        let loops = count-beyond a b same opens_quantifier less (quantifier-stands (unread a) (unread b) q e) in
        record { nested = omega arith; grouped = omega arith; looped = omega arith };
  }

  pub quantifiers-full : (n k r : ℕ) → r ≡ most_quantifiers → q.min ≤ most q → PassesQuantifiers true (at n k r (unread a))
  quantifiers-full n k r full right = record {
    full = full;
    repeats = λ l f g ends read.
        let given : ◌≡◌ {A = Option Front} (Some (record { tree = repeated f.tree l f.opened q.min (most q) q.greedy; opened = f.opened; rest = unread b })) (Some g) = sym (in_order (unread a) (unread b) q e l f right ends) ∙ read in
        counted g given;
    stands = (let loops = count-beyond a b same opens_quantifier less (quantifier-stands (unread a) (unread b) q e) in omega arith);
  }
    where
      counted : {h : Front} (g : Front) → ◌≡◌ {A = Option Front} (Some h) (Some g) → quantifiers g.tree ≡ quantifiers h.tree
      counted {h} g e = let same : h ≡ g = cc in ap (λ x. quantifiers x.tree) (sym same)

-- what is answered for a tree and its quantifier
pub repetition-answer : (allowed : Bool) (opened : ℕ) (here there next : Place) (p s : Pattern) (q : Option Quantifier) → ReadsQuantifier allowed there next q → Grows here there p → s ≡ with_quantifier q opened (front_to there p)
    → (quantified allowed opened (front_to there p) ≡ Some (front_to next s)) × Grows here next s
repetition-answer allowed opened here there next p s q reads grows same = (
  reads.repeats opened (front_to there p) refl ∙ (λ i. Some (record { tree = sym same i; opened = sym reads.opened i; rest = next.text })),
  record {
    counted = (let names = with-names q in let kept = reads.opened in let counted = grows.counted in let tree = ap (λ x. length (Rattle.regress_meaning.specs.Pattern.names_of x)) same in omega arith);
    deep = (let deep = with-depth q in let whole = grows.deep in let tree = ap depth same in omega arith);
    loops = (let counted = reads.counted opened (front_to there p) in let loops = grows.loops in let tree = ap quantifiers same in omega arith);
    leads = Leads_trans grows.leads reads.leads;
  },
)
  where
    with-names : (q : Option Quantifier) → length (Rattle.regress_meaning.specs.Pattern.names_of (with_quantifier q opened (front_to there p))) ≡ length (Rattle.regress_meaning.specs.Pattern.names_of p)
    with-names None = refl
    with-names (Some q) = refl

    with-depth : (q : Option Quantifier) → depth (with_quantifier q opened (front_to there p)) ≡ depth p
    with-depth None = refl
    with-depth (Some q) = refl

-- what is refused at the quantifier is refused for the whole
pub repetition-refused : (allowed : Bool) (opened : ℕ) (here there next : Place) (p : Pattern) (e : Error) → IsQuantifier allowed there next (Err e) → Grows here there p → IsRefusal here (quantified allowed opened (front_to there p)) e
repetition-refused allowed opened here there next p (SyntaxError text) none grows = none opened (front_to there p) refl
repetition-refused allowed opened here there next p TooManyLoops passes grows = (
  (λ f e. let more = passes.repeats opened (front_to there p) f refl e in let loops = grows.loops in let full = passes.full in omega arith),
  (let looped = grows.leads.looped in let stands = passes.stands in let full = passes.full in omega arith),
)
repetition-refused allowed opened here there next p TooDeep r grows = absurd r
repetition-refused allowed opened here there next p TooManyGroups r grows = absurd r
repetition-refused allowed opened here there next p TooLarge r grows = absurd r
repetition-refused allowed opened here there next p OutOfMemory r grows = absurd r
