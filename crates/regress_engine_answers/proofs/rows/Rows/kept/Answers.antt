use Rattle.std.specs.Global.{Vec}
use Rattle.std.proofs.Common.{ℕ, Option, None, length, get_or, sym, ap, arith, ◌∙◌}
use Rattle.std.proofs.lemmas.Option.{slice_get-get_or}
use Rattle.regress_engine_answers.specs.AnswerTables.{in_row}
use Rattle.regress_engine_answers.proofs.RowLemmas.{item-past, row-past}
use Rattle.regress_engine_answers.proofs.rows.Rows.kept.Goals as goal
use Rattle.regress_engine_answers.proofs.rows.Rows.kept.Goals.{else-row-len-via-then-row-len+else-index-len, else-row-len-via-else-row-len}

pub returns-else-row-len : goal.returns-else-row-len
returns-else-row-len c = elim c.else-row-len.branch [
  | else-row-len-via-then-row-len+else-index-len w ↦
      let within = w.if-row-len.true in
      let past = w.if-index-len.false in
      let row = w.index.result.now in
      sym (ap (λ x. in_row x c.args.index) (slice_get-get_or c.args.self.now.rows.items c.args.row row (omega (arith, within)))
      ∙ ap (λ (y : Vec (Option ℕ)). get_or y.items c.args.index None) (sym w.index.ensures)
      ∙ item-past row.items c.args.index (omega (arith, past)))
  | else-row-len-via-else-row-len w ↦ let past = w.if-row-len.false in sym (row-past c.args.self.now.rows.items c.args.row c.args.index (omega (arith, past)))
]
