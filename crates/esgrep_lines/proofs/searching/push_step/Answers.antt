use Rattle.std.proofs.Common.{◌≡◌, ◌&&◌, false, sym, ◌∙◌, string_bytes}
use Rattle.std.specs.Prelude.{nat_lt}
use Rattle.std.proofs.lemmas.Bool.{lt-ltb, le-ltb}
use Rattle.esgrep_rows.specs.Views.{template_text}
use Rattle.esgrep_rows.specs.Values.{line_of, progress_of}
use Rattle.esgrep_rows.specs.Rows as row_words
use Rattle.esgrep_rows.specs.Rows.{found_at_line}
use Rattle.esgrep_lines.proofs.StepLemmas.{step-selected, step-behind, step-held, not-may, not-is}
use Rattle.esgrep_lines.proofs.searching.push_step.Goals as goal
use Rattle.esgrep_lines.proofs.searching.push_step.Goals.{else-may_select-via-then-may_select+in_ok-select+else-branch, else-may_select-via-else-may_select, then-progress-gt0+in_ok-push_near, else-progress-gt0+in_ok-hold}

pub returns-then-branch-clause-pushed : goal.returns-then-branch-clause-pushed
returns-then-branch-clause-pushed g c = λ seen finds tells most more may.
    step-selected c.args.rows.options seen c.args.rows.name.now most (progress_of c.args.progress.now) (progress_of c.follow.new.self) (line_of c.args.line) more
    (string_bytes c.args.row.now) (string_bytes c.push_before.new.row) (string_bytes c.push_selected.new.row)
    (may ∙ c.if-may_select.true) (sym (c.in_ok-select.ensures.selected (template_text c.args.shown.now) seen finds tells) ∙ c.if-branch.true)
    c.in_ok-push_before.ensures (c.in_ok-push_selected.ensures (found_at_line c.args.rows.options seen c.args.line.start c.args.line.text.now)
    (λ puts. rw c.deref.ensures.value (c.in_ok-select.ensures.found puts (template_text c.args.shown.now) seen finds c.if-branch.true))) c.follow.ensures.value

pub returns-clause-pushed : goal.returns-clause-pushed
returns-clause-pushed g c = λ seen finds tells most more may.
    let is = row_words.is_selected c.args.rows.options seen c.args.line.start c.args.line.text.now in
    let none : (nat_lt 0 most && is) ≡ false = elim c.else-may_select.branch [
      | else-may_select-via-then-may_select+in_ok-select+else-branch w ↦
          not-is (nat_lt 0 most) is w.in_ok-select.field-0 (w.in_ok-select.ensures.selected (template_text c.args.shown.now) seen finds (rw w.given_up-is at tells)) w.if-branch.false
      | else-may_select-via-else-may_select w ↦ not-may (nat_lt 0 most) is c.args.may_select may w.if-may_select.false
    ] in
    elim c.if-progress-gt0.branch [
      | then-progress-gt0+in_ok-push_near w ↦
          rw (w.row-is, w.progress-is) (step-behind c.args.rows.options seen c.args.rows.name.now most (progress_of c.args.progress.now) (progress_of w.follow-then-progress-gt0.new.self) (line_of c.args.line) more
          (string_bytes c.args.row.now) (string_bytes w.push_near.new.row) none (lt-ltb 0 c.args.progress.now.behind w.if-progress-gt0.true)
          w.in_ok-push_near.ensures w.follow-then-progress-gt0.ensures.value)
      | else-progress-gt0+in_ok-hold w ↦
          rw (w.row-is, w.progress-is) (step-held c.args.rows.options seen c.args.rows.name.now most (progress_of c.args.progress.now) (progress_of w.hold.new.self) (line_of c.args.line) more
          (string_bytes c.args.row.now) none (le-ltb 0 c.args.progress.now.behind w.if-progress-gt0.false) w.in_ok-hold.ensures.value)
    ]
