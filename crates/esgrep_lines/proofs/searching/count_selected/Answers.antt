use Rattle.std.proofs.Common.{rules, ◌≡◌, ◌<◌, ◌≤◌, ◌+◌, ◌-◌, true, ℕ, refl, length, sym, ap, subst, ◌∙◌, length-append, arith}
use native.Mathlib.Numerals.{unary_clauses}
use Rattle.std.specs.Prelude.{nat_lt}
use Rattle.std.proofs.lemmas.Bool.{lt-ltb, not-false}
use Rattle.std.proofs.lemmas.List.Elements.{All-nil}
use Rattle.esgrep_rows.specs.Lines.{byte_of, lines, body}
use Rattle.esgrep_rows.specs.Found.{but_for}
use Rattle.esgrep_rows.specs.Rows.{is_selected}
use Rattle.esgrep_lines.specs.Output.{count_from}
use Rattle.esgrep_lines.specs.GivenUp.{IsBehind}
use Rattle.esgrep_lines.proofs.CountLemmas.{one-at-most, count-step, may-and, empty-text, count-over_text, count-over_most}
use Rattle.esgrep_lines.proofs.PassingLemmas.{count-passed}
use Rattle.esgrep_lines.proofs.GivenUpLemmas.{noted-low, noted-before, noted-given, behind-none, behind-line, behind-passed, behind-cut, line-begins}
use Rattle.esgrep_lines.proofs.searching.count_selected.Goals as goal
use Rattle.esgrep_lines.proofs.searching.count_selected.Goals.{then-loop-count-test+else-not-is_empty, else-loop-count-test}

pub loop-count-init : goal.loop-count-init
loop-count-init g c = record {
  text = search rules;
  few = omega arith;
  place = omega arith;
  low = rw c.requires.none (All-nil (λ at. at < 0));
  behind = behind-none c.args.options.now.ending c.args.text.now;
  given = rw c.requires.none (All-nil _);
  counted = λ template seen finds tells. simp unary_clauses (omega arith);
}

pub loop-count-preserved : goal.loop-count-preserved
loop-count-preserved g c =
    let o = c.args.options.now in
    let count = c.loop-count.count in
    let start = c.loop-count.start in
    let selected = c.in_ok-selected.selected in
    let first = c.first_line.result.0.now in
    let behind = c.first_line.result.1.now in
    let end = byte_of o.ending in
    let passed = c.pass.result.0.now in
    let further = c.pass.result.1.now in
    let one = one-at-most selected in
    let to = c.from-count.ensures in
    let before = c.loop-count.invariant in
    let below : count < c.args.most = c.loop-count-test.true in
    let old = c.loop-count.given_up.items in
    let new = c.is_selected.new.given_up.items in
    let noted = c.is_selected.ensures.noted in
    let MayGiveUp : Type 0 = g.F.Finder.gives_up c.args.finder.now (body o.ending first) in
    let later : start < start + (length first + length passed) = omega (arith, c.first_line.ensures.some) in
    record {
      text = search rules;
      few = omega (arith, one, to, below);
      place = omega (arith, ap length c.first_line.ensures.whole, length-append first behind, ap length c.pass.ensures.whole, length-append passed further, before.place);
      low = noted-low MayGiveUp start (start + (length first + length passed)) old new later before.low noted;
      behind = subst (λ (at : ℕ). IsBehind o.ending c.args.text.now at further) (omega arith)
          (behind-passed o.ending c.args.text.now behind further (start + length first) (length passed)
          (behind-line o.ending c.args.text.now c.loop-count.rest.now first behind start before.behind c.first_line.ensures.first)
          (behind-cut o.ending behind passed further c.pass.ensures.lines));
      given = noted-given (g.F.Finder.gives_up c.args.finder.now) o.ending c.args.text.now start first old new before.given
          (line-begins o.ending c.args.text.now c.loop-count.rest.now first behind start before.behind c.first_line.ensures.first) noted;
      counted = λ template seen finds tells.
          let none = c.pass.ensures.unselected template seen finds in
          let at : start + (length first + length passed) ≡ start + length first + length passed = omega arith in
          ap (λ s. count + c.from-count.result + count_from o seen (c.args.most - (count + c.from-count.result)) s (lines end further)) at
          ∙ ap (λ n. count + c.from-count.result + n)
          (count-passed o seen end (c.args.most - (count + c.from-count.result)) (start + length first) behind passed further c.pass.ensures.lines none)
          ∙ count-step o seen c.args.most count (count + c.from-count.result) start first (lines (byte_of o.ending) behind) selected
          (may-and (nat_lt count c.args.most) selected (is_selected o seen start first) (lt-ltb count c.args.most below)
          (c.in_ok-selected.ensures.selected template seen finds (tells start later)))
          (ap (λ n. count + n) to)
          ∙ ap (λ ls. count + count_from o seen (c.args.most - count) start ls) (sym c.first_line.ensures.first)
          ∙ before.counted template seen finds (noted-before MayGiveUp seen start (start + (length first + length passed)) old new (omega (arith, later)) noted tells);
    }

pub returns-clause-count : goal.returns-clause-count
returns-clause-count g c = λ template find finds.
    let o = c.args.options.now in
    let seen = but_for c.loop-count.given_up.items find in
    let counted = c.loop-count.invariant.counted template seen finds (λ at below. refl) in
    elim c.loop-count-test.branch [
      | then-loop-count-test+else-not-is_empty w ↦
          let told : w.is_empty.result ≡ true = first_of (search (rules, not-false), grind arith) in
          let none = empty-text c.loop-count.rest.now w.is_empty.result w.is_empty.ensures told in
          count-over_text o seen (byte_of o.ending) c.args.most c.loop-count.count c.loop-count.start c.loop-count.rest.now _ none counted
      | else-loop-count-test w ↦
          let full : c.args.most ≤ c.loop-count.count = w.loop-count-test.false in
          count-over_most o seen c.args.most c.loop-count.count c.loop-count.start _ _ full counted
    ]

-- a line's search was the last where memory was refused
pub returns-in_err-selected-clause-given : goal.returns-in_err-selected-clause-given
returns-in_err-selected-clause-given g c =
    let o = c.args.options.now in
    noted-given (g.F.Finder.gives_up c.args.finder.now) o.ending c.args.text.now c.loop-count.start c.first_line.result.0.now c.loop-count.given_up.items c.is_selected.new.given_up.items
    c.loop-count.invariant.given
    (line-begins o.ending c.args.text.now c.loop-count.rest.now c.first_line.result.0.now c.first_line.result.1.now c.loop-count.start c.loop-count.invariant.behind c.first_line.ensures.first)
    c.is_selected.ensures.noted
