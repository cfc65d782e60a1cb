-- Characters that pass a test, one by one.
use Rattle.std.specs.Prelude.{MatchOption}
use Rattle.std.proofs.Common.{◌≡◌, ℕ, zero, suc, ◌+◌, ◌-◌, ◌<◌, ◌≤◌, Bool, true, false, List, inl, inr, Option, Some, None, if◌then◌else◌, option_and_then, refl, sym, ap, ap₂, ◌∙◌, subst, arith}
use Rattle.regress_meaning.specs.Meaning.{Direction, Forward}
use Rattle.regress_meaning.specs.Inputs.{Input}
use Rattle.regress_meaning.specs.Steps.{passed}
use Rattle.regress_engine_input.specs.Views.{View, CanRead, AreOfKind, input_of}
use Rattle.regress_engine_matchers.proofs.ViewLemmas.{view_reads}
use Rattle.std.proofs.lemmas.Bool.{cases_lt}
use Rattle.regress_meaning.specs.Text.{holds}
use Rattle.regress_front_bytes.specs.ByteSets.{members}
use Rattle.regress_engine_insn.specs.Instructions.{Instruction, Program}
use Rattle.regress_engine_insn.proofs.BitmapLemmas.{holds-members}
use Rattle.regress_engine_runs.specs.States.{Marks}
use Rattle.regress_engine_runs.specs.Runs.{advance, after_times, as_far}
use Rattle.regress_engine_singles.specs.declared.taken.Taken.{Taken}
use Rattle.regress_engine_singles.specs.Passing.{scan_while, after, IsBegun, IsTaken}

module _ (input : Input) (passes : ℕ → Bool) (dir : Direction) where
  pub far-goes : (left o q : ℕ) → 0 < left → Some q ≡ passed passes (input.next dir o) → scan_while input passes dir (left - 1) q ≡ scan_while input passes dir left o
  unfolding scan_while
  far-goes zero o q some e = absurd (omega (arith, some))
  far-goes (suc n) o q some e =
      let same : suc n - 1 ≡ n = omega arith in
      ap (λ m. scan_while input passes dir m q) same ∙ ap (λ (x : Option ℕ). elim x [ None ↦ o | Some q ↦ scan_while input passes dir n q ]) e

  pub far-stops : (left o : ℕ) → 0 < left → None ≡ passed passes (input.next dir o) → o ≡ scan_while input passes dir left o
  unfolding scan_while
  far-stops zero o some e = absurd (omega (arith, some))
  far-stops (suc n) o some e = ap (λ (x : Option ℕ). elim x [ None ↦ o | Some q ↦ scan_while input passes dir n q ]) e

  pub far-all : (left o : ℕ) → left ≤ 0 → o ≡ scan_while input passes dir left o
  unfolding scan_while
  far-all zero o none = refl
  far-all (suc n) o none = absurd (omega (arith, none))

-- what leads where all lead, stopped
module _ (input : Input) (passes : ℕ → Bool) (dir : Direction) (left times o p : ℕ) where
  pub far-stopped : scan_while input passes dir left o ≡ scan_while input passes dir times p → 0 < left → None ≡ passed passes (input.next dir o) → (q : ℕ) → q ≡ o → q ≡ scan_while input passes dir times p
  far-stopped rest some e q same = same ∙ far-stops input passes dir left o some e ∙ rest

  pub far-ended : scan_while input passes dir left o ≡ scan_while input passes dir times p → left ≤ 0 → (q : ℕ) → q ≡ o → q ≡ scan_while input passes dir times p
  far-ended rest none q same = same ∙ far-all input passes dir left o none ∙ rest

  pub far-led : scan_while input passes dir left o ≡ scan_while input passes dir times p → 0 < left → (q : ℕ) → Some q ≡ passed passes (input.next dir o)
      → scan_while input passes dir (left - 1) q ≡ scan_while input passes dir times p
  far-led rest some q e = far-goes input passes dir left o q some e ∙ rest

-- those that were counted
module _ (input : Input) (passes : ℕ → Bool) (dir : Direction) where
  abbrev one_more : ℕ → Option ℕ
  one_more o = passed passes (input.next dir o)

  pub after-none : (n o p : ℕ) → n ≤ 0 → p ≡ o → after input passes dir n o ≡ Some p
  unfolding after
  after-none zero o p none same = ap Some (sym same)
  after-none (suc n) o p none same = absurd (omega (arith, none))

  after-one : (n o p q : ℕ) → after input passes dir n o ≡ Some p → Some q ≡ one_more p → after input passes dir (suc n) o ≡ Some q
  unfolding after
  after-one zero o p q e one = let same : o ≡ p = cc in ap (option_and_then (after input passes dir 0)) (ap one_more same ∙ sym one)
  after-one (suc n) o p q e one = by_found (one_more o) (λ r f. after-one n r p q f one) e
    where
      by_found : (x : Option ℕ) → ((r : ℕ) → after input passes dir n r ≡ Some p → after input passes dir (suc n) r ≡ Some q) → option_and_then (after input passes dir n) x ≡ Some p
          → option_and_then (after input passes dir (suc n)) x ≡ Some q
      by_found None rest f = absurd (cc f)
      by_found (Some r) rest f = rest r f

  -- one more
  pub after-next : (left more o p q : ℕ) → after input passes dir (more - left) o ≡ Some p → Some q ≡ passed passes (input.next dir p) → 0 < left → left ≤ more
      → after input passes dir (more - (left - 1)) o ≡ Some q
  after-next left more o p q e one some within =
      let next : suc (more - left) ≡ more - (left - 1) = omega (arith, some, within) in
      subst (λ n. after input passes dir n o ≡ Some q) next (after-one (more - left) o p q e one)

  -- as many as there are where each is one unit
  after-each : (n o : ℕ) → ((k : ℕ) → o ≤ k → k < o + n → Some (suc k) ≡ passed passes (input.next dir k)) → after input passes dir n o ≡ Some (o + n)
  unfolding after
  after-each zero o each = ap Some (omega arith)
  after-each (suc n) o each =
      ap (option_and_then (after input passes dir n)) (sym (each o (omega arith) (omega arith))) ∙ after-each n (suc o) (λ k from less. each k (omega (arith, from)) (omega (arith, less))) ∙ ap Some (omega arith)

  -- so some are taken, and then one more
  pub begun-each : (more o past : ℕ) → o < past → past - o ≤ more + 1 → ((k : ℕ) → o ≤ k → k < past → Some (suc k) ≡ passed passes (input.next dir k))
      → IsBegun (after input passes dir) (λ q. passed passes (input.next dir q)) more o (past - 1 - o) (past - 1) past
  begun-each more o past some within each =
      let end : o + (past - 1 - o) ≡ past - 1 = omega (arith, some) in
      let last : suc (past - 1) ≡ past = omega (arith, some) in
      record {
        behind = after-each (past - 1 - o) o (λ k from less. each k from (omega (arith, less, end))) ∙ ap Some end;
        one = ap Some (sym last) ∙ each (past - 1) (omega (arith, some)) (omega (arith, some));
        within = omega (arith, within);
      }

  -- or one alone
  pub begun-one : (more o past : ℕ) → Some past ≡ passed passes (input.next dir o) → IsBegun (after input passes dir) (λ q. passed passes (input.next dir q)) more o 0 o past
  begun-one more o past one = record { behind = after-none 0 o o (omega arith) refl; one = one; within = omega arith }

-- behind what passes may be read on
pub reads-on : (v : View) → AreOfKind v.kind v.units → (passes : ℕ → Bool) (dir : Direction) (o q : ℕ) → CanRead v o → Some q ≡ passed passes ((input_of v).next dir o) → CanRead v q
reads-on v all passes dir o q can e = by_read ((input_of v).next dir o) refl e
  where
    by_read : (x : Option (ℕ × ℕ)) → (input_of v).next dir o ≡ x → Some q ≡ passed passes x → CanRead v q
    by_read None h f = absurd (cc)
    by_read (Some (c, p)) h f = by_test (passes c) f
      where
        by_test : (b : Bool) → Some q ≡ (if b then Some p else None) → CanRead v q
        by_test true g = let same : p ≡ q = cc in subst (CanRead v) same ((view_reads v all).on dir o (c, p) can h).0
        by_test false g = absurd (cc)

-- and behind what was counted
pub after-reads : (v : View) → AreOfKind v.kind v.units → (passes : ℕ → Bool) (dir : Direction) (n o q : ℕ) → CanRead v o → after (input_of v) passes dir n o ≡ Some q → CanRead v q
unfolding after
after-reads v all passes dir zero o q can e = let same : o ≡ q = cc in subst (CanRead v) same can
after-reads v all passes dir (suc n) o q can e =
    by_found (passed passes ((input_of v).next dir o)) refl e (λ r f g. after-reads v all passes dir n r q (reads-on v all passes dir o r can (sym f)) g)
  where
    by_found : (x : Option ℕ) → passed passes ((input_of v).next dir o) ≡ x → option_and_then (after (input_of v) passes dir n) x ≡ Some q
        → ((r : ℕ) → passed passes ((input_of v).next dir o) ≡ Some r → after (input_of v) passes dir n r ≡ Some q → CanRead v q) → CanRead v q
    by_found None h f on = absurd (cc f)
    by_found (Some r) h f on = on r h f

-- what is left behind those that are one unit each leads where all lead, and may be read on
module _ (v : View) (all : AreOfKind v.kind v.units) (passes : ℕ → Bool) where
  far-each : (m n o : ℕ) → m ≤ n → ((k : ℕ) → o ≤ k → k < o + m → Some (suc k) ≡ passed passes ((input_of v).next Forward k))
      → scan_while (input_of v) passes Forward (n - m) (o + m) ≡ scan_while (input_of v) passes Forward n o
  far-each zero n o most each =
      let none : n - 0 ≡ n = omega arith in let same : o + 0 ≡ o = omega arith in rw (none, same) refl
  far-each (suc m) n o most each =
      let left : n - suc m ≡ n - 1 - m = omega arith in
      let past : o + suc m ≡ suc o + m = omega arith in
      ap₂ (scan_while (input_of v) passes Forward) left past
      ∙ far-each m (n - 1) (suc o) (omega (arith, most)) (λ k from less. each k (omega (arith, from)) (omega (arith, less)))
      ∙ far-goes (input_of v) passes Forward n o (suc o) (omega (arith, most)) (each o (omega arith) (omega arith))

  pub far-past : (n o q : ℕ) → CanRead v o → o ≤ q → q - o ≤ n → ((k : ℕ) → o ≤ k → k < q → Some (suc k) ≡ passed passes ((input_of v).next Forward k))
      → (scan_while (input_of v) passes Forward (n - (q - o)) q ≡ scan_while (input_of v) passes Forward n o) × CanRead v q
  far-past n o q can low most each =
      let end : o + (q - o) ≡ q = omega (arith, low) in
      let upto : (k : ℕ) → o ≤ k → k < o + (q - o) → Some (suc k) ≡ passed passes ((input_of v).next Forward k) = λ k from less. each k from (omega (arith, less, end)) in (
        ap (scan_while (input_of v) passes Forward (n - (q - o))) (sym end) ∙ far-each (q - o) n o most upto,
        after-reads v all passes Forward (q - o) o q can (after-each (input_of v) passes Forward (q - o) o upto ∙ ap Some end),
      )

-- a test of bytes under 0x80, and the list of those that pass
pub by-members : (f : ℕ → Bool) → ((c : ℕ) → 0x80 ≤ c → f c ≡ false) → (found : Option (ℕ × ℕ)) → passed f found ≡ passed (holds (members f)) found
by-members f low None = refl
by-members f low (Some (c, o)) = ap (λ b. if b then Some o else None) (sym (holds-members f (λ d held. elim (cases_lt d 256) [ inl small ↦ small | inr large ↦ absurd (cc (sym held ∙ low d (omega (arith, large)))) ]) c))

-- An instruction that takes what passes a test goes as far as the test passes.
module _ (program : Program) (input : Input) (passes : ℕ → Bool) (i : Instruction) (dir : Direction) (groups : List Marks)
    (same : (o : ℕ) → passed passes (input.next dir o) ≡ advance program input i dir groups o) where
  pub far-taken : (n o : ℕ) → scan_while input passes dir n o ≡ as_far program input n i dir groups o
  unfolding scan_while as_far
  far-taken zero o = refl
  far-taken (suc n) o = ap (λ (x : Option ℕ). elim x [ None ↦ o | Some q ↦ scan_while input passes dir n q ]) (same o) ∙ by_found (advance program input i dir groups o) (λ q. far-taken n q)
    where
      left : Option ℕ → ℕ
      left x = elim x [ None ↦ o | Some q ↦ scan_while input passes dir n q ]

      right : Option ℕ → ℕ
      right x = elim x [ None ↦ o | Some q ↦ as_far program input n i dir groups q ]

      by_found : (x : Option ℕ) → ((q : ℕ) → scan_while input passes dir n q ≡ as_far program input n i dir groups q) → left x ≡ right x
      by_found None rest = refl
      by_found (Some q) rest = rest q

  after-taken : (n o : ℕ) → after input passes dir n o ≡ after_times program input n i dir groups o
  unfolding after after_times
  after-taken zero o = refl
  after-taken (suc n) o = ap (option_and_then (after input passes dir n)) (same o) ∙ by_found (advance program input i dir groups o) (λ q. after-taken n q)
    where
      by_found : (x : Option ℕ) → ((q : ℕ) → after input passes dir n q ≡ after_times program input n i dir groups q)
          → option_and_then (after input passes dir n) x ≡ option_and_then (λ q. after_times program input n i dir groups q) x
      by_found None rest = refl
      by_found (Some q) rest = rest q

  -- and as often
  pub count-taken : (more o before last past : ℕ) → IsTaken (after input passes dir) (λ q. passed passes (input.next dir q)) more o before last past
      → IsTaken (λ n q. after_times program input n i dir groups q) (advance program input i dir groups) more o before last past
  count-taken more o before last past taken = record {
    behind = sym (after-taken before o) ∙ taken.behind;
    one = sym (same last) ∙ taken.one;
    within = taken.within;
    stops = λ fewer. taken.stops fewer ∙ same past;
  }

  pub option-taken : (more o : ℕ) (r : Option Taken)
      → MatchOption r (None ≡ passed passes (input.next dir o)) (λ t. IsTaken (after input passes dir) (λ q. passed passes (input.next dir q)) more o t.before t.last t.past)
      → MatchOption r (None ≡ advance program input i dir groups o)
      (λ t. IsTaken (λ n q. after_times program input n i dir groups q) (advance program input i dir groups) more o t.before t.last t.past)
  option-taken more o None none = none ∙ same o
  option-taken more o (Some t) taken = count-taken more o t.before t.last t.past taken
