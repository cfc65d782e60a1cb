use Rattle.std.proofs.lemmas.List.{map-append}
use Rattle.std.proofs.lemmas.Result.{IfOk-weaker, err_from_is_err_and}
use Rattle.std.proofs.Common.{◌≡◌, suc, ◌+◌, [], ◌∷◌, length, drop, map, Some, refl, sym, ap, subst, ◌∙◌, length-drop, arith}
use Rattle.regress_meaning.specs.Pattern.{sequence, choice, nothing}
use Rattle.regress_meaning.specs.Reading.{disjunction_at, alternative_at, read_term, parenthesis_opening}
use Rattle.regress_front_tokens.specs.Cursors.{unread}
use Rattle.regress_front_tokens.specs.Escapes.{mode_view}
use Rattle.regress_front_tokens.specs.declared.syntax.Syntax.TheVariants.{Alternative}
use Rattle.regress_front_tokens.specs.Trees.{tree, trees_of, choice_of}
use Rattle.regress_front_tokens.specs.Ranges.{in_turn, opens, parts_of}
use Rattle.regress_front_syntax.specs.Openings.{opened_by}
use Rattle.regress_front_syntax.specs.Parsing.{Place, Grows, IsRefusal, front_to, place, place_behind, contents_of}
use Rattle.regress_front_tokens.proofs.TreeLaws.{tree-Alternative, tree-Disjunction}
use Rattle.regress_front_tokens.proofs.RangeLemmas.{in_turn-push, opens-Disjunction}
use Rattle.regress_front_syntax.proofs.RangeSteps.{arm-opened}
use Rattle.regress_front_syntax.proofs.AnswerLemmas.{at, answer_same, refused_within, Leads_refl, Leads_drop}
use Rattle.regress_front_syntax.proofs.LoopLemmas.{sequence_of-before, choice_of-before, sequence_joins, choice_joins, loop_begins, loop-within, loop_goes_on, loop_ends}
use Rattle.regress_front_syntax.proofs.StepLemmas.{nothing-grows, arm-goes_on, arm-ends, arm-within, term-within, term-goes_on, alternative-ends, contents-closed, contents-open, contents-within, closed-grows}
use Rattle.regress_front_syntax.proofs.MarkLemmas.{Leads_inside}
use Rattle.regress_front_syntax.proofs.GroupLemmas.{opening-refused, opened_by-most, group-within, group-full, group-found, group-grows}
use Rattle.regress_front_syntax.proofs.TermLemmas.{answer_behind, mark-stands, parenthesis-read}
use Rattle.regress_front_syntax.proofs.parser.Parser.+parser.Goals as goal

-- the contents of parentheses

pub contents-returns-in_err-contents-clause-answer : goal.contents-returns-in_err-contents-clause-answer
contents-returns-in_err-contents-clause-answer t c =
    let m = mode_view c.args.mode.now in
    let p = err_from_is_err_and c.from_residual.result c.from_residual.ensures.1 in
    rw (p.1, p.2) (refused_within c.in_err-contents.field-0.0 (contents-within (place (c.args.nesting + 1) c.args.self.now) (disjunction_at m (unread c.args.self.now.cursor) c.args.self.now.groups)) c.in_err-contents.ensures.answer)

pub contents-returns-then-not-eat-clause-answer : goal.contents-returns-then-not-eat-clause-answer
contents-returns-then-not-eat-clause-answer t c =
    let m = mode_view c.args.mode.now in
    let (read, grows) = c.in_ok-contents.ensures.answer in
    contents-open (disjunction_at m (unread c.args.self.now.cursor) c.args.self.now.groups) (place (c.args.nesting + 1) c.disjunction.new.self) _ read (sym c.if-not-eat.ensures.found)

pub contents-returns-clause-answer : goal.contents-returns-clause-answer
contents-returns-clause-answer t c =
    let m = mode_view c.args.mode.now in
    let (read, grows) = c.in_ok-contents.ensures.answer in
    let there = place (c.args.nesting + 1) c.disjunction.new.self in (
      contents-closed (disjunction_at m (unread c.args.self.now.cursor) c.args.self.now.groups) there _ read (sym c.if-not-eat.ensures.found)
          ∙ (λ i. Some (record { tree = tree c.in_ok-contents.contents.value; opened = c.disjunction.new.self.groups; rest = sym c.if-not-eat.ensures.read i })),
      closed-grows (place (c.args.nesting + 1) c.args.self.now) there _ _ grows refl refl refl c.if-not-eat.ensures.read,
    )

-- alternatives

pub alternative-loop-self-init : goal.alternative-loop-self-init
alternative-loop-self-init t c = record {
  progress = omega arith;
  state = rw c.new-terms.ensures.items (loop_begins sequence (alternative_at (mode_view c.args.mode.now)) (place c.args.nesting c.args.self.now));
  ranges = ap (λ ts. in_turn (parts_of ts) c.args.self.now.groups) c.new-terms.ensures.items;
}

pub alternative-loop-self-preserved : goal.alternative-loop-self-preserved
alternative-loop-self-preserved t c =
    let less = rw c.in-Ok.is at c.term.ensures.progress in
    record {
      progress = omega (arith, c.loop-self.invariant.progress, less);
      state =
          let m = mode_view c.args.mode.now in
          let (read, grows) = rw c.in-Ok.is at c.term.ensures.answer in
          let now = place c.args.nesting c.loop-self.self in
          let there = place c.args.nesting c.term.new.self in
          let goes_on = sym c.loop-self-test.ensures in
          let state = loop_goes_on sequence sequence_joins (alternative_at m) (tree c.in-Ok.term) c.loop-self.invariant.state grows
          (term-goes_on m (c.reading_goes_by_steps.ensures m c.requires.coherent) now there (tree c.in-Ok.term) goes_on read) refl refl refl (Leads_refl there) in
          rw c.in_ok-push-in-Ok.ensures.trees state;
      ranges =
          let k = c.args.self.now.groups in
          ap (λ fs. in_turn fs k) c.in_ok-push-in-Ok.ensures.parts
          ∙ in_turn-push (parts_of c.loop-self.terms.items) (opens c.in-Ok.term) k c.loop-self.self.groups c.term.new.self.groups
          c.loop-self.invariant.ranges (rw c.in-Ok.is at c.term.ensures.ranges);
    }

pub alternative-loop-self-smaller : goal.alternative-loop-self-smaller
alternative-loop-self-smaller t c = let less = rw c.in-Ok.is at c.term.ensures.progress in omega (arith, less)

pub alternative-returns-in-Err-clause-answer : goal.alternative-returns-in-Err-clause-answer
alternative-returns-in-Err-clause-answer t c =
    let m = mode_view c.args.mode.now in
    let goes_on = sym c.loop-self-test.ensures in
    let e = c.in-Err.error in
    refused_within e (loop-within sequence sequence_joins (alternative_at m) c.loop-self.invariant.state)
    (refused_within e (term-within m (c.reading_goes_by_steps.ensures m c.requires.coherent) (place c.args.nesting c.loop-self.self) goes_on)
    (rw c.in-Err.is at c.term.ensures.answer))

pub alternative-returns-clause-answer : goal.alternative-returns-clause-answer
alternative-returns-clause-answer t c =
    let m = mode_view c.args.mode.now in
    let now = place c.args.nesting c.loop-self.self in
    let ends = sym c.loop-self-test.ensures in
    let made = tree-Alternative c.loop-self.terms ∙ sequence_of-before (trees_of c.loop-self.terms.items) in
    rw made (loop_ends sequence sequence_joins (alternative_at m) nothing c.loop-self.invariant.state (nothing-grows now c.requires.shallow)
    (alternative-ends m (c.reading_goes_by_steps.ensures m c.requires.coherent) now ends))

pub alternative-returns-clause-ranges : goal.alternative-returns-clause-ranges
alternative-returns-clause-ranges t c = c.loop-self.invariant.ranges

-- disjunctions

pub disjunction-loop-arms-init : goal.disjunction-loop-arms-init
disjunction-loop-arms-init t c = record {
  progress = omega arith;
  state = rw c.new-arms.ensures.items (loop_begins choice (disjunction_at (mode_view c.args.mode.now)) (place c.args.nesting c.args.self.now));
  ranges = ap (λ ss. in_turn (map opens ss) c.args.self.now.groups) c.new-arms.ensures.items;
}

pub disjunction-loop-arms-preserved : goal.disjunction-loop-arms-preserved
disjunction-loop-arms-preserved t c = record {
  progress = omega (arith, c.loop-arms.invariant.progress, c.in_ok-terms.ensures.progress, ap length c.if-not-eat.ensures.read, length-drop 1 (unread c.alternative.new.self.cursor));
  state =
      let m = mode_view c.args.mode.now in
      let (read, grows) = c.in_ok-terms.ensures.answer in
      let now = place c.args.nesting c.loop-arms.self in
      let there = place c.args.nesting c.alternative.new.self in
      let bar = sym c.if-not-eat.ensures.found in
      let next = at c.args.nesting c.alternative.new.self.groups c.alternative.new.self.loops (drop 1 (unread c.alternative.new.self.cursor)) in
      let state = loop_goes_on choice choice_joins (disjunction_at m) {next = next} (tree (Alternative c.in_ok-terms.terms)) c.loop-arms.invariant.state grows
      (arm-goes_on m (c.reading_goes_by_steps.ensures m c.requires.coherent) now there (tree (Alternative c.in_ok-terms.terms)) read bar) refl refl refl
      (Leads_drop c.args.nesting c.alternative.new.self.groups c.alternative.new.self.loops (unread c.alternative.new.self.cursor)) in
      rw (c.if-not-eat.ensures.read, c.in_ok-push_alternative.ensures, map-append) state;
  ranges = arm-opened c.loop-arms.arms.items c.push_alternative.new.arms.items c.in_ok-terms.terms c.args.self.now.groups c.loop-arms.self.groups c.alternative.new.self.groups
      c.in_ok-push_alternative.ensures c.loop-arms.invariant.ranges c.in_ok-terms.ensures.ranges;
}

pub disjunction-returns-in_err-terms-clause-answer : goal.disjunction-returns-in_err-terms-clause-answer
disjunction-returns-in_err-terms-clause-answer t c =
    let m = mode_view c.args.mode.now in
    let p = err_from_is_err_and c.from_residual.result c.from_residual.ensures.1 in
    rw (p.1, p.2) (refused_within c.in_err-terms.field-0.0 (loop-within choice choice_joins (disjunction_at m) c.loop-arms.invariant.state)
    (refused_within c.in_err-terms.field-0.0 (arm-within m (c.reading_goes_by_steps.ensures m c.requires.coherent) (place c.args.nesting c.loop-arms.self))
    c.in_err-terms.ensures.answer))

pub disjunction-returns-clause-answer : goal.disjunction-returns-clause-answer
disjunction-returns-clause-answer t c =
    let m = mode_view c.args.mode.now in
    let (read, grows) = c.in_ok-terms.ensures.answer in
    let now = place c.args.nesting c.loop-arms.self in
    let there = place c.args.nesting c.alternative.new.self in
    let made = tree-Disjunction c.push_alternative.new.arms
    ∙ ap choice_of (ap (map tree) c.in_ok-push_alternative.ensures ∙ map-append tree c.loop-arms.arms.items (Alternative c.in_ok-terms.terms ∷ []))
    ∙ choice_of-before (map tree c.loop-arms.arms.items) (tree (Alternative c.in_ok-terms.terms)) in
    rw (c.in_ok-boxed_disjunction.ensures, made, c.if-not-eat.ensures.read) (loop_ends choice choice_joins (disjunction_at m) (tree (Alternative c.in_ok-terms.terms)) c.loop-arms.invariant.state grows
    (arm-ends m (c.reading_goes_by_steps.ensures m c.requires.coherent) now there (tree (Alternative c.in_ok-terms.terms)) read (sym c.if-not-eat.ensures.found)))

pub disjunction-returns-clause-ranges : goal.disjunction-returns-clause-ranges
disjunction-returns-clause-ranges t c =
    let k = c.args.self.now.groups in
    ap (λ s. opens s k) c.in_ok-boxed_disjunction.ensures ∙ ap (λ f. f k) (opens-Disjunction c.push_alternative.new.arms)
    ∙ arm-opened c.loop-arms.arms.items c.push_alternative.new.arms.items c.in_ok-terms.terms k c.loop-arms.self.groups c.alternative.new.self.groups
    c.in_ok-push_alternative.ensures c.loop-arms.invariant.ranges c.in_ok-terms.ensures.ranges

-- terms

pub term-returns-then-eat-clause-answer : goal.term-returns-then-eat-clause-answer
term-returns-then-eat-clause-answer t c =
    let m = mode_view c.args.mode.now in
    let k = c.args.self.now.groups in
    let text = unread c.args.self.now.cursor in
    let mark = sym c.if-eat.ensures.found in
    answer_behind 0x28 c.args.nesting k c.args.self.now.loops text (unread c.eat.new.self) (place c.args.nesting c.group.new.self)
    (read_term m (disjunction_at m) k (parenthesis_opening m (unread c.eat.new.self))) _ c.group.result
    (mark-stands m k text 0x28 mark ∙ ap (λ u. 0x28 ∷ u) (sym c.if-eat.ensures.read))
    (parenthesis-read m k text mark ∙ ap (λ u. read_term m (disjunction_at m) k (parenthesis_opening m u)) (sym c.if-eat.ensures.read))
    c.group.ensures.answer

-- groups

pub group-returns-in_err-opening-clause-answer : goal.group-returns-in_err-opening-clause-answer
group-returns-in_err-opening-clause-answer t c =
    let m = mode_view c.args.mode.now in
    let p = err_from_is_err_and c.from_residual.result c.from_residual.ensures.1 in
    rw (p.1, p.2) (opening-refused m (disjunction_at m) c.args.self.now.groups (place_behind 0x28 c.args.nesting c.args.self.now) (parenthesis_opening m (unread c.args.self.now.cursor)) c.in_err-opening.field-0.0 _ c.in_err-opening.ensures.read)

pub group-returns-in_err-open-clause-answer : goal.group-returns-in_err-open-clause-answer
group-returns-in_err-open-clause-answer t c =
    let m = mode_view c.args.mode.now in
    let o = c.in_ok-opening.opening in
    let n = c.args.nesting in
    let k = c.args.self.now.groups in
    let r = c.args.self.now.loops in
    let text = 0x28 ∷ unread c.args.self.now.cursor in
    let u = unread c.read_opening.new.cursor in
    let leads = Leads_inside c.args.self.now.cursor c.read_opening.new.cursor c.in_ok-opening.ensures.kept n k (opened_by o k) r (opened_by-most o k) c.in_ok-opening.ensures.progress in
    let p = err_from_is_err_and c.from_residual-in_err-open.result c.from_residual-in_err-open.ensures.1 in
    let full = c.in_err-open.ensures.full in
    rw (p.1, p.2, full.0) (group-full m (parenthesis_opening m (unread c.args.self.now.cursor)) o n k r text u c.in_ok-opening.ensures.read leads
    (c.reading_goes_by_steps.ensures m c.requires.coherent u (opened_by o k)) full.1 full.2)

pub group-returns-in_err-contents-clause-answer : goal.group-returns-in_err-contents-clause-answer
group-returns-in_err-contents-clause-answer t c =
    let m = mode_view c.args.mode.now in
    let o = c.in_ok-opening.opening in
    let n = c.args.nesting in
    let k = c.args.self.now.groups in
    let r = c.args.self.now.loops in
    let text = 0x28 ∷ unread c.args.self.now.cursor in
    let u = unread c.read_opening.new.cursor in
    let leads = Leads_inside c.args.self.now.cursor c.read_opening.new.cursor c.in_ok-opening.ensures.kept n k (opened_by o k) r (opened_by-most o k) c.in_ok-opening.ensures.progress in
    let one : n + 1 ≡ suc n = omega arith in
    let inside : place (n + 1) c.open.new.self ≡ at (suc n) (opened_by o k) r u =
    λ i. record { nesting = one i; opened = c.in_ok-open.ensures.opened i; repeated = c.open.ensures.kept.1 i; text = c.open.ensures.kept.0 i } in
    let p = err_from_is_err_and c.from_residual-in_err-contents.result c.from_residual-in_err-contents.ensures.1 in
    let e = c.in_err-contents.field-0.0 in
    rw (p.1, p.2) (refused_within e (group-within m (parenthesis_opening m (unread c.args.self.now.cursor)) o n k r text u c.in_ok-opening.ensures.read leads)
    (subst (λ (h : Place). IsRefusal h (contents_of (disjunction_at m h.text h.opened)) e) inside c.in_err-contents.ensures.answer))

pub group-returns-clause-answer : goal.group-returns-clause-answer
group-returns-clause-answer t c =
    let m = mode_view c.args.mode.now in
    let o = c.in_ok-opening.opening in
    let n = c.args.nesting in
    let k = c.args.self.now.groups in
    let r = c.args.self.now.loops in
    let text = 0x28 ∷ unread c.args.self.now.cursor in
    let u = unread c.read_opening.new.cursor in
    let leads = Leads_inside c.args.self.now.cursor c.read_opening.new.cursor c.in_ok-opening.ensures.kept n k (opened_by o k) r (opened_by-most o k) c.in_ok-opening.ensures.progress in
    let one : n + 1 ≡ suc n = omega arith in
    let inside : place (n + 1) c.open.new.self ≡ at (suc n) (opened_by o k) r u =
    λ i. record { nesting = one i; opened = c.in_ok-open.ensures.opened i; repeated = c.open.ensures.kept.1 i; text = c.open.ensures.kept.0 i } in
    let end = place (n + 1) c.contents.new.self in
    let p = tree c.in_ok-contents.contents.value in
    let (found, grows) = subst (λ (h : Place). (contents_of (disjunction_at m h.text h.opened) ≡ Some (front_to end p)) × Grows h end p) inside c.in_ok-contents.ensures.answer in
    let whole = group-found m (parenthesis_opening m (unread c.args.self.now.cursor)) o n k r text u c.in_ok-opening.ensures.read leads end p found in
    let grown = group-grows m (parenthesis_opening m (unread c.args.self.now.cursor)) o n k r text u c.in_ok-opening.ensures.read leads end p found grows one in
    answer_same (place_behind 0x28 n c.args.self.now) (place n c.close.new.self) _ _ c.close.result whole
    (c.close.ensures.answer n (place_behind 0x28 n c.args.self.now) grown)

pub group-returns-clause-ranges : goal.group-returns-clause-ranges
group-returns-clause-ranges t c =
    let inner = ap (opens c.in_ok-contents.contents.value) (sym c.in_ok-open.ensures.opened) ∙ c.in_ok-contents.ensures.ranges in
    IfOk-weaker c.close.result _ _ (λ s whole. whole inner) c.close.ensures.ranges
