use Rattle.std.proofs.Common.{rules, ◌≡◌, ℕ, ◌<◌, ◌≤◌, ◌+◌, ◌-◌, true, refl, List, length, subst, sym, ap, ap₂, ◌∙◌, string_bytes, length-append, arith}
use Rattle.std.specs.Prelude.{nat_lt}
use Rattle.std.proofs.lemmas.Bool.{not-false}
use Rattle.std.proofs.lemmas.Bool.Decides.{nat_tests}
use Rattle.std.specs.Int.{from_bool}
use Rattle.std.specs.Io.KnownBytes.{Appends, append_known}
use Rattle.esgrep_rows.specs.Lines as line_words
use Rattle.esgrep_rows.specs.Found.{Seen, but_for}
use Rattle.esgrep_rows.specs.Lines.{byte_of, lines, numbered, body}
use Rattle.esgrep_rows.specs.Rows.{rows}
use Rattle.esgrep_rows.specs.Views.{template_text}
use Rattle.esgrep_rows.specs.Values.{progress_of}
use Rattle.esgrep_lines.specs.Output.{count_from}
use Rattle.esgrep_lines.specs.Putting.{put_out, written, IsBeginning}
use Rattle.esgrep_lines.specs.GivenUp.{IsBehind, TellsBefore}
use Rattle.esgrep_lines.proofs.CountLemmas.{one-at-most, count-step, empty-text, count-over_text, count-over_most, count-selected}
use Rattle.esgrep_lines.proofs.RowsLemmas.{IsPut-step, IsPut-left, IsPut-front, IsPut-all, IsPut-unwritten, may-select, row-step, rows-over_text, rows-over_most}
use Rattle.esgrep_lines.proofs.GivenUpLemmas.{noted-low, noted-before, noted-given, behind-line, behind-passed, line-begins}
use Rattle.esgrep_lines.proofs.searching.put_rows.Goals as goal
use Rattle.esgrep_lines.proofs.searching.put_rows.Goals.{then-loop-rest-test+else-progress-gt0, then-count-rows, else-count-rows, else-loop-rest-test}

pub returns-in_err-selected-clause-refused : goal.returns-in_err-selected-clause-refused
returns-in_err-selected-clause-refused g c = λ find finds e.
    let new = c.push_step.new.given_up.items in
    IsPut-front _ _ _ _ _ _ _ _ _ (c.loop-rest.invariant.put (but_for new find) finds
    (noted-before _ (but_for new find) c.loop-rest.start c.loop-rest.start c.loop-rest.given_up.items new (omega arith) c.push_step.ensures.noted (λ at below. refl)))

pub returns-in_err-selected-clause-given : goal.returns-in_err-selected-clause-given
returns-in_err-selected-clause-given g c =
    noted-given (g.F.Finder.gives_up c.args.finder.now) c.args.rows.options.ending c.args.text.now c.loop-rest.start c.first_line.result.0.now c.loop-rest.given_up.items c.push_step.new.given_up.items
    c.loop-rest.invariant.given
    (line-begins c.args.rows.options.ending c.args.text.now c.loop-rest.rest.now c.first_line.result.0.now c.first_line.result.1.now c.loop-rest.start c.loop-rest.invariant.behind c.first_line.ensures.first)
    c.push_step.ensures.noted

pub returns-in_err-put-clause-given : goal.returns-in_err-put-clause-given
returns-in_err-put-clause-given g c =
    noted-given (g.F.Finder.gives_up c.args.finder.now) c.args.rows.options.ending c.args.text.now c.loop-rest.start c.first_line.result.0.now c.loop-rest.given_up.items c.push_step.new.given_up.items
    c.loop-rest.invariant.given
    (line-begins c.args.rows.options.ending c.args.text.now c.loop-rest.rest.now c.first_line.result.0.now c.first_line.result.1.now c.loop-rest.start c.loop-rest.invariant.behind c.first_line.ensures.first)
    c.push_step.ensures.noted

pub returns-in_err-put-clause-unwritten : goal.returns-in_err-put-clause-unwritten
returns-in_err-put-clause-unwritten g c = λ find finds e.
    let o = c.args.rows.options in
    let end = byte_of o.ending in
    let count = c.loop-rest.count in
    let left : ℕ = o.most - count in
    let selected = c.in_ok-selected.selected in
    let first = c.first_line.result.0.now in
    let new = c.push_step.new.given_up.items in
    let seen = but_for new find in
    let more : List line_words.Line = numbered (c.loop-rest.number + 1) (c.loop-rest.start + length first) (lines end c.first_line.result.1.now) in
    let step = row-step o seen c.args.rows.name.now end o.most count (count + from_bool selected) c.loop-rest.number c.loop-rest.start c.loop-rest.rest.now first c.first_line.result.1.now
    (string_bytes c.push_step.new.row) (string_bytes c.clear.new.self) selected (progress_of c.loop-rest.progress) (progress_of c.push_step.new.progress)
    c.first_line.ensures.first c.clear.ensures.bytes refl
    (c.in_ok-selected.ensures.pushed seen finds refl left more (may-select o.most count (nat_lt count o.most) refl)) in
    let tells = noted-before _ seen c.loop-rest.start c.loop-rest.start c.loop-rest.given_up.items new (omega arith) c.push_step.ensures.noted (λ at below. refl) in
    IsPut-unwritten _ _ _ (written g.W.Write.contents c.put.new.self) _ _ _ _ _ _ _ more (string_bytes c.push_step.new.row) _ (c.loop-rest.invariant.put seen finds tells) step
    (subst (λ (row : List ℕ). IsBeginning (written g.W.Write.contents c.put.new.self) (append_known (put_out g.W.Write.contents c.loop-rest.output) row)) c.as_bytes.ensures.value c.in_err-put.ensures.err)

pub loop-rest-preserved : goal.loop-rest-preserved
loop-rest-preserved g c =
    let o = c.args.rows.options in
    let end = byte_of o.ending in
    let count = c.loop-rest.count in
    let left : ℕ = o.most - count in
    let selected = c.in_ok-selected.selected in
    let first = c.first_line.result.0.now in
    let behind = c.first_line.result.1.now in
    let one = one-at-most selected in
    let to = c.from-count.ensures in
    let some = c.first_line.ensures.some in
    let before = c.loop-rest.invariant in
    let more : List line_words.Line = numbered (c.loop-rest.number + 1) (c.loop-rest.start + length first) (lines end behind) in
    let passed = c.pass_over-passed.ensures in
    let skipped = c.pass_over-passed.result in
    let next : ℕ = count + c.from-count.result in
    let number : c.loop-rest.number + (1 + skipped.lines) ≡ c.loop-rest.number + 1 + skipped.lines = omega arith in
    let start : c.loop-rest.start + (length first + skipped.bytes) ≡ c.loop-rest.start + length first + skipped.bytes = omega arith in
    let old = c.loop-rest.given_up.items in
    let new = c.push_step.new.given_up.items in
    let noted = c.push_step.ensures.noted in
    let bound : ℕ = c.loop-rest.start + (length first + skipped.bytes) in
    let MayGiveUp : Type 0 = g.F.Finder.gives_up c.args.finder.now (body o.ending first) in
    let later : c.loop-rest.start < bound = omega (arith, some) in
    let back : (seen : Seen) → TellsBefore seen new bound → TellsBefore seen old c.loop-rest.start =
    λ seen tells. noted-before MayGiveUp seen c.loop-rest.start bound old new (omega (arith, later)) noted tells in
    record {
      text = search rules;
      place = omega (arith, ap length c.first_line.ensures.whole, length-append first behind, passed.size, before.place);
      number = omega (arith, some, passed.count, before.number);
      few = omega (arith, some, one, to, before.few);
      held = passed.few;
      low = noted-low MayGiveUp c.loop-rest.start bound old new later before.low noted;
      behind = subst (λ (at : ℕ). IsBehind o.ending c.args.text.now at skipped.rest.now) (sym start)
          (behind-passed o.ending c.args.text.now behind skipped.rest.now (c.loop-rest.start + length first) skipped.bytes
          (behind-line o.ending c.args.text.now c.loop-rest.rest.now first behind c.loop-rest.start before.behind c.first_line.ensures.first) passed.lines);
      given = noted-given (g.F.Finder.gives_up c.args.finder.now) o.ending c.args.text.now c.loop-rest.start first old new before.given
          (line-begins o.ending c.args.text.now c.loop-rest.rest.now first behind c.loop-rest.start before.behind c.first_line.ensures.first) noted;
      sound = c.in_ok-put.ensures.failure;
      put = λ seen finds tells.
          let step = row-step o seen c.args.rows.name.now end o.most count (count + c.from-count.result) c.loop-rest.number c.loop-rest.start c.loop-rest.rest.now first behind
          (string_bytes c.push_step.new.row) (string_bytes c.clear.new.self) selected (progress_of c.loop-rest.progress) (progress_of c.push_step.new.progress)
          c.first_line.ensures.first c.clear.ensures.bytes (ap (λ n. count + n) to)
          (c.in_ok-selected.ensures.pushed seen finds (tells c.loop-rest.start later) left more (may-select o.most count (nat_lt count o.most) refl)) in
          let over = ap₂ (λ n s. rows o seen c.args.rows.name.now (o.most - next) (progress_of c.pass_over-passed.new.progress) (numbered n s (lines end skipped.rest.now))) number start
          ∙ passed.rows (template_text c.args.shown.now) seen finds c.args.rows.name.now (o.most - next) (c.loop-rest.number + 1) (c.loop-rest.start + length first) in
          IsPut-left _ _ _ _ _ _ _ _ _ _ _ over (IsPut-step _ _ _ _ _ _ _ _ _ _ _ more (string_bytes c.push_step.new.row) _ (before.put seen finds (back seen tells)) step
          (subst (λ (row : List ℕ). Appends (put_out g.W.Write.contents c.loop-rest.output) (put_out g.W.Write.contents c.put.new.self) row) c.as_bytes.ensures.value c.in_ok-put.ensures.ok));
      counted = λ seen finds tells.
          ap (λ s. next + count_from o seen (o.most - next) s (lines end skipped.rest.now)) start
          ∙ ap (λ n. next + n) (passed.counted (template_text c.args.shown.now) seen finds (o.most - next) (c.loop-rest.start + length first))
          ∙ count-step o seen o.most count (count + c.from-count.result) c.loop-rest.start first (lines end behind) selected
          (c.in_ok-selected.ensures.selected seen finds (tells c.loop-rest.start later)) (ap (λ n. count + n) to)
          ∙ ap (λ ls. count + count_from o seen left c.loop-rest.start ls) (sym c.first_line.ensures.first)
          ∙ before.counted seen finds (back seen tells);
    }

pub returns-clause-put : goal.returns-clause-put
returns-clause-put g c = λ find finds.
    let o = c.args.rows.options in
    let seen = but_for c.loop-rest.given_up.items find in
    let name = c.args.rows.name.now in
    let put = c.loop-rest.invariant.put (but_for c.loop-rest.given_up.items find) finds (λ at below. refl) in
    elim c.loop-rest-test.branch [
      | then-loop-rest-test+else-progress-gt0 w ↦
          let over : (o.most ≤ c.loop-rest.count) × (c.loop-rest.progress.behind ≡ 0) =
          elim w.if-count-rows.branch [ then-count-rows v ↦ absurd (first_of (cc, grind arith)) | else-count-rows v ↦ (v.if-count-rows.false, first_of (search rules, grind (arith, nat_tests))) ] in
          IsPut-all _ _ _ _ _ _ _ _ _ put (rows-over_most o seen name o.most c.loop-rest.count (progress_of c.loop-rest.progress) _ over.0 over.1)
      | else-loop-rest-test w ↦
          let told : c.is_empty.result ≡ true = first_of (search (rules, not-false), grind arith) in
          let none = empty-text c.loop-rest.rest.now c.is_empty.result c.is_empty.ensures told in
          IsPut-all _ _ _ _ _ _ _ _ _ put
          (rows-over_text o seen name (byte_of o.ending) (o.most - c.loop-rest.count) c.loop-rest.number c.loop-rest.start c.loop-rest.rest.now (progress_of c.loop-rest.progress) none)
    ]

pub returns-clause-count : goal.returns-clause-count
returns-clause-count g c = λ find finds.
    let o = c.args.rows.options in
    let seen = but_for c.loop-rest.given_up.items find in
    let counted = c.loop-rest.invariant.counted (but_for c.loop-rest.given_up.items find) finds (λ at below. refl) in
    elim c.loop-rest-test.branch [
      | then-loop-rest-test+else-progress-gt0 w ↦
          let full : o.most ≤ c.loop-rest.count =
          elim w.if-count-rows.branch [ then-count-rows v ↦ absurd (first_of (cc, grind arith)) | else-count-rows v ↦ v.if-count-rows.false ] in
          count-over_most o seen o.most c.loop-rest.count c.loop-rest.start _ _ full counted ∙ count-selected o seen c.args.text.now
      | else-loop-rest-test w ↦
          let told : c.is_empty.result ≡ true = first_of (search (rules, not-false), grind arith) in
          let none = empty-text c.loop-rest.rest.now c.is_empty.result c.is_empty.ensures told in
          count-over_text o seen (byte_of o.ending) o.most c.loop-rest.count c.loop-rest.start c.loop-rest.rest.now _ none counted ∙ count-selected o seen c.args.text.now
    ]
