-- Programs that ask for a word and then for the same once more: from where another unit stands ahead of what may follow it no run has an answer.
use Rattle.std.specs.Prelude.{slice_set, slice_get, get_or, reverse}
use Rattle.std.proofs.Common.{◌≡◌, ◌≢◌, ℕ, zero, suc, ◌+◌, ◌-◌, ◌<◌, ◌≤◌, true, false, List, [], ◌∷◌, ◌++◌, length, All, Option, Some, None, refl, sym, ap, ◌∙◌, subst, arith, get_or-set_same, length-set}
use Rattle.std.proofs.lemmas.List.{length-replicate}
use Rattle.std.proofs.lemmas.List.Elements.{All-cons, All-head, All-nil, All-tail, All-weaker}
use Rattle.regress_meaning.specs.Meaning.{Forward}
use Rattle.regress_meaning.specs.Inputs.{Input}
use Rattle.regress_meaning.specs.Steps.{repeated}
use Rattle.regress_engine_input.specs.Views.{View, AreOfKind, input_of, reading_of}
use Rattle.regress_engine_insn.specs.Instructions.{Instruction, Program, Stands}
use Rattle.regress_engine_insn.specs.Instructions as code
use Rattle.regress_engine_insn.proofs.StringLemmas.{All-reverse}
use Rattle.regress_engine_runs.specs.States.{Marks, Whole, unset, range_of, begun, ended, first_state}
use Rattle.regress_engine_runs.specs.Runs.{advance, after_times, as_far, given_back, moved_to, one_by_one, successors}
use Rattle.regress_engine_runs.specs.Meets.{IsAtPlace}
use Rattle.regress_engine_runs.specs.UndoStack.{at_each, whole}
use Rattle.regress_engine_search.specs.Ready.{IsBody, is_simple}
use Rattle.regress_engine_search.specs.Search.{Suits}
use Rattle.regress_engine_search.proofs.GivenBack.{given-back}
use Rattle.regress_engine_search.proofs.InsnLemmas.{simple-plain, simple-successors, single-successors}
use Rattle.regress_engine_search.proofs.PlaceLemmas.{moves, next-place}
use Rattle.regress_engine_search.proofs.SearchLemmas.{search-on}
use Rattle.regress_engine_analysis.specs.Planned.{is_class}
use Rattle.regress_engine_singles.specs.Failing.{Fail, failed, steps}
use Rattle.regress_engine_singles.specs.Passed.{PassesOver}
use Rattle.regress_engine_singles.specs.Sparing.{IsDeadBefore}
use Rattle.regress_engine_singles.proofs.Chains.{TakesAt, given-taken}
use Rattle.regress_engine_singles.proofs.Failures.{fail-both, fail-none}
use Rattle.regress_engine_singles.proofs.LeadingLemmas.{class-next, class-simple, class-takes}
use Rattle.regress_engine_advance.proofs.ReferenceLemmas.{other-reference}
use Rattle.regress_engine_leading.specs.Exits.{ComesTo}
use Rattle.regress_engine_leading.specs.Repeating.{AllDiffer, Differs, IsRepeating}

-- ---- states with groups that are known

module _ (program : Program) (input : Input) where
  abbrev Gone : List Whole → Type 0
  Gone ss = Fail program input Forward ss

  -- what changes nothing but the offset fails, where what it leads to does
  step-gone : (at o : ℕ) (i : Instruction) → Stands program at i → is_simple i ≡ true → (loops : List (ℕ × ℕ)) (groups : List Marks)
      → ((q : ℕ) → advance program input i Forward groups o ≡ Some q → Gone (whole (suc at) q loops groups ∷ [])) → Gone (whole at o loops groups ∷ [])
  step-gone at o i here simple loops groups behind =
      steps here (simple-plain i simple)
      (subst (λ (ss : List Whole). Fail program input Forward (ss ++ [])) (sym (simple-successors program input i Forward s simple)) (by_found (advance program input i Forward groups o) refl))
    where
      s : Whole
      s = whole at o loops groups

      by_found : (x : Option ℕ) → advance program input i Forward groups o ≡ x → Fail program input Forward (moved_to s x ++ [])
      by_found None e = failed
      by_found (Some q) e = behind q e

  -- states fail each of which does
  each-gone : (at : ℕ) (loops : List (ℕ × ℕ)) (groups : List Marks) (os : List ℕ) → All (λ o. Gone (whole at o loops groups ∷ [])) os → Gone (at_each program input at loops groups os)
  each-gone at loops groups [] all = failed
  each-gone at loops groups (o ∷ os) all =
      fail-both program input (All-head (λ p. Gone (whole at p loops groups ∷ [])) o os all) (at_each program input at loops groups os)
      (each-gone at loops groups os (All-tail (λ p. Gone (whole at p loops groups ∷ [])) o os all))

  -- a greedy one-character loop fails, where all its exits do
  loop-gone : (at o most : ℕ) (i : Instruction) → Stands program at (code.single_loop 0 most true) → Stands program (at + 1) i → (loops : List (ℕ × ℕ)) (groups : List Marks)
      → Gone (at_each program input (at + 2) loops groups (given_back input Forward o (as_far program input most i Forward groups o))) → Gone (whole at o loops groups ∷ [])
  unfolding after_times
  loop-gone at o most i here body loops groups exits =
      let two : at + 2 ≡ suc (suc at) = omega arith in
      let same : most - 0 ≡ most = omega arith in
      let os : List ℕ = given_back input Forward o (as_far program input (most - 0) i Forward groups o) in
      let left : successors program input (code.single_loop 0 most true) Forward (whole at o loops groups) ≡ at_each program input (at + 2) loops groups os =
      single-successors program input Forward (whole at o loops groups) 0 most true i body ∙ ap (λ a. at_each program input a loops groups os) (sym two) in
      steps here refl (subst (λ (ss : List Whole). Fail program input Forward (ss ++ [])) (sym left)
      (fail-both program input
      (subst (λ n. Fail program input Forward (at_each program input (at + 2) loops groups (given_back input Forward o (as_far program input n i Forward groups o)))) (sym same) exits)
      [] failed))

-- as far as a class goes is not behind where it begins
far-low : (program : Program) (v : View) (j : Instruction) → is_class j ≡ true → (groups : List Marks) (m o : ℕ) → o ≤ as_far program (input_of v) m j Forward groups o
unfolding as_far
far-low program v j class groups zero o = omega arith
far-low program v j class groups (suc m) o = by_found (advance program (input_of v) j Forward groups o) refl (far-low program v j class groups m)
  where
    by_found : (x : Option ℕ) → advance program (input_of v) j Forward groups o ≡ x → ((q : ℕ) → q ≤ as_far program (input_of v) m j Forward groups q)
        → o ≤ elim x [ None ↦ o | Some q ↦ as_far program (input_of v) m j Forward groups q ]
    by_found None e rest = omega arith
    by_found (Some q) e rest =
        let (c, next) = class-next program v j class groups o q e in
        let past = moves v Forward o c q next in
        let low = rest q in
        omega (arith, past, low)

-- ---- exits with another unit ahead

-- At a place come to by a class, with so many iterations left: where other units stand ahead of all exits from there on, they do of all.
pub record IsDiffering (program : Program) (v : View) (class : Instruction) (start most near left exit : ℕ) : Type 0 where
  pub place : IsAtPlace (reading_of v) exit
  pub all : (groups : List Marks) → AllDiffer program v class start left groups exit → AllDiffer program v class start most groups near

module _ (program : Program) (v : View) where
  pub differing-here : (class : Instruction) (start most near : ℕ) → IsAtPlace (reading_of v) near → IsDiffering program v class start most near most near
  differing-here class start most near place = record { place = place; all = λ groups differ. differ }

  -- no iteration is left, or the class takes nothing more
  pub differing-last : (class : Instruction) (start most near left exit : ℕ) → left ≡ 0 → slice_get v.units start ≢ slice_get v.units exit → IsDiffering program v class start most near left exit
      → (groups : List Marks) → AllDiffer program v class start most groups near
  unfolding one_by_one
  differing-last class start most near left exit none other d groups =
      d.all groups (subst (λ n. AllDiffer program v class start n groups exit) (sym none) (All-cons (Differs v start) exit [] (d.place, other) (All-nil (Differs v start))))

  pub differing-none : (class : Instruction) (start most near left exit : ℕ) → ((groups : List Marks) → None ≡ advance program (input_of v) class Forward groups exit)
      → slice_get v.units start ≢ slice_get v.units exit → IsDiffering program v class start most near left exit → (groups : List Marks) → AllDiffer program v class start most groups near
  unfolding one_by_one
  differing-none class start most near left exit stops other d groups = d.all groups (alone left)
    where
      one : All (Differs v start) (exit ∷ [])
      one = All-cons (Differs v start) exit [] (d.place, other) (All-nil (Differs v start))

      alone : (m : ℕ) → AllDiffer program v class start m groups exit
      alone zero = one
      alone (suc m) =
          subst (λ (x : Option ℕ). All (Differs v start) (exit ∷ elim x [ None ↦ [] | Some q ↦ one_by_one program (input_of v) m class Forward groups q ])) (stops groups) one

  -- the class goes on
  pub differing-on : AreOfKind v.kind v.units → (class : Instruction) → is_class class ≡ true → (start most near left less exit q : ℕ) → suc less ≡ left → slice_get v.units start ≢ slice_get v.units exit
      → ((groups : List Marks) → advance program (input_of v) class Forward groups exit ≡ Some q) → IsDiffering program v class start most near left exit → IsDiffering program v class start most near less q
  unfolding one_by_one
  differing-on all class is start most near left less exit q more other takes d =
      let (c, next) = class-next program v class is [] exit q (takes []) in
      record {
        place = next-place v all Forward exit c q d.place next;
        all = λ groups differ. d.all groups
            (subst (λ n. AllDiffer program v class start n groups exit) more
            (subst (λ (x : Option ℕ). All (Differs v start) (exit ∷ elim x [ None ↦ [] | Some p ↦ one_by_one program (input_of v) less class Forward groups p ])) (sym (takes groups))
            (All-cons (Differs v start) exit (one_by_one program (input_of v) less class Forward groups q) (d.place, other) differ)));
      }

  -- where a class takes a character, all is so behind that
  pub differs-behind : (second other : Instruction) (start between far behind : ℕ) → ((groups : List Marks) → Some behind ≡ advance program (input_of v) second Forward groups far) → IsAtPlace (reading_of v) behind
      → ((groups : List Marks) → AllDiffer program v other start between groups behind)
      → (q : ℕ) (groups : List Marks) → advance program (input_of v) second Forward groups far ≡ Some q → IsAtPlace (reading_of v) q × AllDiffer program v other start between groups q
  differs-behind second other start between far behind takes place differ q groups found =
      let is : Some behind ≡ Some q = takes groups ∙ found in
      let same : behind ≡ q = ap (λ (x : Option ℕ). elim x [ None ↦ 0 | Some y ↦ y ]) is in
      subst (λ p. IsAtPlace (reading_of v) p × AllDiffer program v other start between groups p) same (place, differ groups)

-- ---- the same word once more

module _ (program : Program) (v : View) (all : AreOfKind v.kind v.units) (suits : Suits program v) (k word between : ℕ) (shape : IsRepeating program k word between)
    (i j second other : Instruction) (first_at : Stands program 2 i) (body_at : Stands program 4 j) (second_at : Stands program 6 second) (other_at : Stands program 8 other)
    (start near far : ℕ) (place : IsAtPlace (reading_of v) start) (takes : (groups : List Marks) → advance program (input_of v) i Forward groups start ≡ Some near)
    (comes : ComesTo program v j word near far) (far_place : IsAtPlace (reading_of v) far) (apart : IsDeadBefore program v j 5)
    (differ : (q : ℕ) (groups : List Marks) → advance program (input_of v) second Forward groups far ≡ Some q → IsAtPlace (reading_of v) q × AllDiffer program v other start between groups q) where
  abbrev input : Input
  input = input_of v

  abbrev loops : List (ℕ × ℕ)
  loops = (first_state program start).loops

  abbrev none : List Marks
  none = (first_state program start).groups

  -- the group begins, and ends
  abbrev one : List Marks
  one = slice_set none k (begun Forward start (get_or none k unset))

  abbrev both : List Marks
  both = slice_set one k (ended Forward far (get_or one k unset))

  -- it took the word
  took : range_of (get_or both k unset) ≡ Some (start, far)
  took =
      let known : k < program.groups = suits.closed 9 (code.back k false) shape.refers in
      let size : length none ≡ program.groups = length-replicate program.groups unset in
      let sized = length-set none k (begun Forward start (get_or none k unset)) in
      let first : get_or one k unset ≡ begun Forward start (get_or none k unset) = get_or-set_same none k (begun Forward start (get_or none k unset)) unset (omega (arith, known, size)) in
      let last : get_or both k unset ≡ ended Forward far (get_or one k unset) = get_or-set_same one k (ended Forward far (get_or one k unset)) unset (omega (arith, known, size, sized)) in
      ap range_of last ∙ ap (λ m. range_of (ended Forward far m)) first

  some : start < far
  some =
      let (c, next) = class-next program v i (shape.first i first_at) [] start near (takes []) in
      let past = moves v Forward start c near next in
      let low : near ≤ far = subst (λ x. near ≤ x) (comes []) (far-low program v j (shape.body j body_at) [] word near) in
      omega (arith, past, low)

  near-place : IsAtPlace (reading_of v) near
  near-place = let (c, next) = class-next program v i (shape.first i first_at) [] start near (takes []) in next-place v all Forward start c near place next

  refers-gone : (e : ℕ) → Differs v start e → Gone program input (whole 9 e loops both ∷ [])
  refers-gone e (inside, apart) = step-gone program input 9 e (code.back k false) shape.refers refl loops both (λ q found.
      let not : None ≡ repeated input Forward false (Some (start, far)) e = other-reference v all start far e some place far_place inside apart in
      let here : repeated input Forward false (range_of (get_or both k unset)) e ≡ Some q = found in
      let no : None ≡ Some q = not ∙ ap (λ r. repeated input Forward false r e) (sym took) ∙ here in
      absurd (cc no))

  between-gone : Gone program input (whole 6 far loops both ∷ [])
  between-gone = step-gone program input 6 far second second_at (class-simple second (shape.second second second_at)) loops both (λ q found.
      let (inside, differs) = differ q both found in
      let os : List ℕ = one_by_one program input between other Forward both q in
      let given : given_back input Forward q (as_far program input between other Forward both q) ≡ reverse os =
      given-back v all program suits Forward both 9 other between q (other, other_at, class-takes other (shape.other other other_at), inside, omega arith) other_at in
      loop-gone program input 7 q between other shape.again other_at loops both
      (subst (λ (xs : List ℕ). Gone program input (at_each program input 9 loops both xs)) (sym given)
      (each-gone program input 9 loops both (reverse os)
      (All-reverse (λ e. Gone program input (whole 9 e loops both ∷ [])) os
      (All-weaker (Differs v start) (λ e. Gone program input (whole 9 e loops both ∷ [])) refers-gone os differs)))))

  word-gone : Gone program input (whole 3 near loops one ∷ [])
  word-gone =
      let body : IsBody program v 5 near = (j, body_at, class-takes j (shape.body j body_at), near-place, omega arith) in
      let (less, back, takes) = given-taken program v all suits 5 j body_at one word near body in
      let given : given_back input Forward near (as_far program input word j Forward one near) ≡ far ∷ less =
      given-back v all program suits Forward one 5 j word near body body_at ∙ back ∙ ap (λ x. x ∷ less) (comes one) in
      let ended_gone : Gone program input (whole 5 far loops one ∷ []) = steps shape.ends refl between-gone in
      loop-gone program input 3 near word j shape.loop body_at loops one
      (subst (λ (xs : List ℕ). Gone program input (at_each program input 5 loops one xs)) (sym given)
      (each-gone program input 5 loops one (far ∷ less)
      (All-cons (λ e. Gone program input (whole 5 e loops one ∷ [])) far less ended_gone
      (All-weaker (TakesAt program v j one) (λ e. Gone program input (whole 5 e loops one ∷ [])) (λ p (inside, (q, taken)). apart one p q inside taken loops one) less takes))))

  -- from the place on a run has no answer, where a word begins there
  pub repeats-gone : Stands program 0 (code.boundary false false) → ((groups : List Marks) → advance program input (code.boundary false false) Forward groups start ≡ Some start)
      → Gone program input (first_state program start ∷ [])
  repeats-gone edge_at edge = step-gone program input 0 start (code.boundary false false) edge_at refl loops none (λ p at_edge.
      let here : start ≡ p = same-found start p (advance program input (code.boundary false false) Forward none start) (edge none) at_edge in
      subst (λ x. Gone program input (whole 1 x loops none ∷ [])) here
      (steps shape.begins refl (step-gone program input 2 start i first_at (class-simple i (shape.first i first_at)) loops one (λ q found.
      let same : near ≡ q = same-found near q (advance program input i Forward one start) (takes one) found in
      subst (λ x. Gone program input (whole 3 x loops one ∷ [])) same word-gone))))
    where
      same-found : (a b : ℕ) (x : Option ℕ) → x ≡ Some a → x ≡ Some b → a ≡ b
      same-found a b x e f = ap (λ (y : Option ℕ). elim y [ None ↦ 0 | Some z ↦ z ]) (sym e ∙ f)

  -- so the search goes on behind the first character of the word
  pub passes-repeated : Stands program 0 (code.boundary false false) → ((groups : List Marks) → advance program input (code.boundary false false) Forward groups start ≡ Some start)
      → PassesOver program v start near
  passes-repeated edge_at edge =
      let (c, next) = class-next program v i (shape.first i first_at) [] start near (takes []) in
      record {
        on = λ offset finds. search-on program v all offset start c near [] finds (fail-none program input (repeats-gone edge_at edge)) next;
        place = near-place;
        further = moves v Forward start c near next;
      }
