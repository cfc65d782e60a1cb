-- Programs that begin with one character and then a loop of a class, from whose exits no match can be reached.
use Rattle.std.specs.Prelude.{reverse}
use Rattle.std.proofs.Common.{◌≡◌, ℕ, zero, suc, ◌+◌, ◌-◌, ◌≤◌, true, List, [], ◌∷◌, All, Option, Some, None, refl, sym, ap, ◌∙◌, subst, arith}
use Rattle.std.proofs.lemmas.List.{reverse-reverse}
use Rattle.std.proofs.lemmas.List.Elements.{All-cons, All-head, All-tail, All-weaker}
use Rattle.regress_meaning.specs.Meaning.{Forward}
use Rattle.regress_meaning.specs.Inputs.{Input}
use Rattle.regress_engine_input.specs.Views.{View, AreOfKind, input_of, reading_of}
use Rattle.regress_engine_insn.specs.Instructions.{Instruction, Program, Stands}
use Rattle.regress_engine_insn.specs.Instructions as code
use Rattle.regress_engine_insn.proofs.StringLemmas.{All-reverse}
use Rattle.regress_engine_runs.specs.States.{Marks}
use Rattle.regress_engine_runs.specs.Runs.{advance, after_times, as_far, given_back, one_by_one}
use Rattle.regress_engine_runs.specs.Meets.{IsAtPlace}
use Rattle.regress_engine_runs.specs.UndoStack.{at_each}
use Rattle.regress_engine_search.specs.Answering.{FindsOn}
use Rattle.regress_engine_search.specs.Search.{Suits}
use Rattle.regress_engine_search.proofs.GivenBack.{given-back}
use Rattle.regress_engine_search.proofs.PlaceLemmas.{moves, next-place}
use Rattle.regress_engine_analysis.specs.Planned.{is_class}
use Rattle.regress_engine_singles.specs.Failing.{Fail, IsDead}
use Rattle.regress_engine_singles.specs.Passed.{PassesOver}
use Rattle.regress_engine_singles.specs.Sparing.{IsDeadBefore}
use Rattle.regress_engine_singles.specs.Taking.{takes_one}
use Rattle.regress_engine_singles.proofs.Chains.{TakesAt, given-taken}
use Rattle.regress_engine_singles.proofs.DeadLemmas.{ways-dead}
use Rattle.regress_engine_singles.proofs.Failures.{fail-each}
use Rattle.regress_engine_singles.proofs.LeadingLemmas.{class-any, class-next, class-takes, fails-on}
use Rattle.regress_engine_leading.specs.Exits.{ComesTo, Ends, IsLoop, Stops, TakesFirst}

-- a class takes one character
pub class-one : (j : Instruction) → is_class j ≡ true → takes_one j ≡ true
class-one (code.ascii_bracket cs) is = refl
class-one (code.bracket k) is = refl
class-one _ is = absurd (grind arith)

module _ (program : Program) (v : View) (all : AreOfKind v.kind v.units) (suits : Suits program v) (at most far : ℕ) (j : Instruction) (loop : IsLoop program at most j) (stops : Stops program v j far) where
  abbrev input : Input
  input = input_of v

  abbrev taken : List Marks → ℕ → Option ℕ
  taken groups o = advance program input j Forward groups o

  abbrev Dead : ℕ → Type 0
  Dead o = IsDead program input Forward (at + 2) o

  abbrev EndsWith : List Marks → ℕ → ℕ → Type 0
  EndsWith groups m o = (as_far program input m j Forward groups o ≡ far) × All Dead (one_by_one program input m j Forward groups o)

  -- where the loop stops it ends after any number of iterations
  there : (groups : List Marks) (o : ℕ) → o ≡ far → None ≡ taken groups o
  there groups o e = stops groups ∙ ap (taken groups) (sym e)

  -- more iterations come no further
  one_more : (groups : List Marks) (m o : ℕ) → EndsWith groups m o → EndsWith groups (suc m) o
  unfolding as_far one_by_one
  one_more groups zero o (e, dead) =
      let none = there groups o e in (
        subst (λ (x : Option ℕ). elim x [ None ↦ o | Some q ↦ q ] ≡ far) none e,
        subst (λ (x : Option ℕ). All Dead (o ∷ elim x [ None ↦ [] | Some q ↦ q ∷ [] ])) none dead,
      )
  one_more groups (suc m) o (e, dead) = by_found (taken groups o) refl e dead (one_more groups m)
    where
      by_found : (x : Option ℕ) → taken groups o ≡ x → elim x [ None ↦ o | Some q ↦ as_far program input m j Forward groups q ] ≡ far
          → All Dead (o ∷ elim x [ None ↦ [] | Some q ↦ one_by_one program input m j Forward groups q ])
          → ((q : ℕ) → EndsWith groups m q → EndsWith groups (suc m) q)
          → (elim x [ None ↦ o | Some q ↦ as_far program input (suc m) j Forward groups q ] ≡ far)
          × All Dead (o ∷ elim x [ None ↦ [] | Some q ↦ one_by_one program input (suc m) j Forward groups q ])
      by_found None f g ends rest = (g, ends)
      by_found (Some q) f g ends rest =
          let (far_on, ends_on) = rest q (g, All-tail Dead o (one_by_one program input m j Forward groups q) ends) in
          (far_on, All-cons Dead o (one_by_one program input (suc m) j Forward groups q) (All-head Dead o (one_by_one program input m j Forward groups q) ends) ends_on)

  more : (groups : List Marks) (k m o : ℕ) → EndsWith groups m o → EndsWith groups (k + m) o
  more groups zero m o ends = let e : m ≡ 0 + m = omega arith in subst (λ n. EndsWith groups n o) e ends
  more groups (suc k) m o ends =
      let e : suc (k + m) ≡ suc k + m = omega arith in
      subst (λ n. EndsWith groups n o) e (one_more groups (k + m) o (more groups k m o ends))

  as_many : (groups : List Marks) (m o : ℕ) → m ≤ most → EndsWith groups m o → EndsWith groups most o
  as_many groups m o less ends =
      let e : most - m + m ≡ most = omega (arith, less) in
      subst (λ n. EndsWith groups n o) e (more groups (most - m) m o ends)

  -- the loop leads nowhere from where it comes to there
  loop-fails : (o : ℕ) → IsAtPlace (reading_of v) o → Ends program v at j far most o → IsDead program input Forward at o
  unfolding after_times
  loop-fails o place ends =
      let before : Stands program (at + 2 - 1) j = subst (λ a. Stands program a j) (let e : at + 1 ≡ at + 2 - 1 = omega arith in e) loop.body in
      ways-dead program input Forward at o 0 most true j loop.here loop.body (λ loops groups.
      let os : List ℕ = one_by_one program input most j Forward groups o in
      let given = given-back v all program suits Forward groups (at + 2) j most o (j, before, class-takes j loop.class, place, omega arith) before in
      let same : most - 0 ≡ most = omega arith in
      subst (λ n. Fail program input Forward (at_each program input (at + 2) loops groups (given_back input Forward o (as_far program input n j Forward groups o)))) (sym same)
      (subst (λ (xs : List ℕ). Fail program input Forward (at_each program input (at + 2) loops groups xs)) (sym given)
      (fail-each program input Forward (at + 2) loops groups (reverse os) (All-reverse Dead os (ends groups).1))))

  module _ (lead : TakesFirst program v 0 at) where
    -- from one offset on nothing is found up to where the loop stops
    abbrev Passes : ℕ → Type 0
    Passes o = (o ≤ far) × IsAtPlace (reading_of v) far × ((offset : ℕ) → FindsOn program input offset o → FindsOn program input offset far)

    passes-here : (o : ℕ) → IsAtPlace (reading_of v) o → o ≡ far → Passes o
    passes-here o place e = (omega (arith, e), subst (IsAtPlace (reading_of v)) e place, λ offset on. subst (FindsOn program input offset) e on)

    passes-next : (o c q : ℕ) → input.next Forward o ≡ Some (c, q) → IsAtPlace (reading_of v) q → Ends program v at j far most q → Passes q → Passes o
    passes-next o c q next place ends (low, inside, on) =
        let past = moves v Forward o c q next in
        (omega (arith, low, past), inside, λ offset finds. on offset (fails-on program v all offset o c q (lead o c q next (loop-fails q place ends)) next finds))

    passes : (m o : ℕ) → m ≤ most → IsAtPlace (reading_of v) o → Ends program v at j far m o → Passes o
    unfolding as_far one_by_one
    passes zero o less place ends = passes-here o place (ends []).0
    passes (suc m) o less place ends = by_found (taken [] o) refl (ends []).0 (passes m)
      where
        by_found : (x : Option ℕ) → taken [] o ≡ x → elim x [ None ↦ o | Some q ↦ as_far program input m j Forward [] q ] ≡ far
            → ((q : ℕ) → m ≤ most → IsAtPlace (reading_of v) q → Ends program v at j far m q → Passes q) → Passes o
        by_found None e f rest = passes-here o place f
        by_found (Some q) e f rest =
            let (c, next) = class-next program v j loop.class [] o q e in
            let inside = next-place v all Forward o c q place next in
            let fewer : m ≤ most = omega (arith, less) in
            let on : Ends program v at j far m q = λ groups.
            let is : taken groups o ≡ Some q = class-any program v j loop.class groups [] o ∙ e in (
              subst (λ (x : Option ℕ). elim x [ None ↦ o | Some q ↦ as_far program input m j Forward groups q ] ≡ far) is (ends groups).0,
              All-tail Dead o (one_by_one program input m j Forward groups q)
                  (subst (λ (x : Option ℕ). All Dead (o ∷ elim x [ None ↦ [] | Some q ↦ one_by_one program input m j Forward groups q ])) is (ends groups).1),
            ) in
            passes-next o c q next inside (λ groups. as_many groups m q fewer (on groups)) (rest q fewer inside on)

    -- From where the program takes one character before the loop nothing is found up to there.
    pub passes-over : (start c near : ℕ) → IsAtPlace (reading_of v) start → input.next Forward start ≡ Some (c, near) → Ends program v at j far most near
        → PassesOver program v start far
    passes-over start c near place next ends =
        let inside = next-place v all Forward start c near place next in
        let on = passes-next start c near next inside ends (passes most near (omega arith) inside ends) in
        let low = (passes most near (omega arith) inside ends).0 in
        let past = moves v Forward start c near next in
        record {
          on = on.2;
          place = on.1;
          further = omega (arith, low, past);
        }

-- where the class takes something no match can be reached from behind the loop, and none can where it stops
pub possessive-ends : (program : Program) (v : View) → AreOfKind v.kind v.units → Suits program v → (at most near far : ℕ) (j : Instruction) → IsLoop program at most j → IsAtPlace (reading_of v) near
    → IsDeadBefore program v j (at + 2) → IsDead program (input_of v) Forward (at + 2) far → ComesTo program v j most near far → Ends program v at j far most near
possessive-ends program v all suits at most near far j loop place apart behind comes groups =
    let before : Stands program (at + 2 - 1) j = subst (λ a. Stands program a j) (let e : at + 1 ≡ at + 2 - 1 = omega arith in e) loop.body in
    let os : List ℕ = one_by_one program (input_of v) most j Forward groups near in
    let (less, back, takes) = given-taken program v all suits (at + 2) j before groups most near (j, before, class-takes j loop.class, place, omega arith) in
    let dead : All Dead (far ∷ less) = All-cons Dead far less behind
    (All-weaker (TakesAt program v j groups) Dead (λ p (inside, (q, taken)). apart groups p q inside taken) less takes) in
    let first : as_far program (input_of v) most j Forward groups near ∷ less ≡ far ∷ less = ap (λ x. x ∷ less) (comes groups) in
    let turned : reverse os ≡ far ∷ less = back ∙ first in
    (comes groups, subst (All Dead) (ap reverse (sym turned) ∙ reverse-reverse os) (All-reverse Dead (far ∷ less) dead))
  where
    Dead : ℕ → Type 0
    Dead o = IsDead program (input_of v) Forward (at + 2) o
