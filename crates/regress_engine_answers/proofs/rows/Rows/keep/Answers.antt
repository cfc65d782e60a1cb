use Rattle.std.specs.Global.{Vec}
use Rattle.std.specs.Vec.{vec_len, with_item}
use Rattle.std.specs.Prelude.{slice_get}
use Rattle.std.proofs.Common.{◌≡◌, ℕ, ◌+◌, ◌-◌, ◌<◌, ◌++◌, List, Option, None, length, get_or, replicate, take, refl, sym, ap, ap₂, ◌∙◌, arith}
use Rattle.std.proofs.lemmas.Option.{slice_get-get_or}
use Rattle.regress_engine_answers.specs.AnswerTables.{in_row}
use Rattle.regress_engine_answers.proofs.RowLemmas.{item-resized, rows-kept}
use Rattle.regress_engine_answers.proofs.rows.Rows.keep.Goals as goal
use Rattle.regress_engine_answers.proofs.rows.Rows.keep.Goals.{then-len-index+in_ok-resize, else-len-index}

pub returns-clause-kept : goal.returns-clause-kept
returns-clause-kept c =
    let rows = c.args.self.now.rows.items in
    let k = c.args.row in
    let row : Vec (Option ℕ) = c.index_mut-kept.result.now in
    let within : k < length rows = c.requires.row in
    let before : (n : ℕ) → get_or row.items n None ≡ in_row (slice_get rows k) n = λ n.
    ap (λ (y : Vec (Option ℕ)). get_or y.items n None) c.index_mut-kept.ensures.value ∙ sym (ap (λ x. in_row x n) (slice_get-get_or rows k row within)) in
    elim c.if-len-index.branch [
      | then-len-index+in_ok-resize w ↦
          let new : Vec (Option ℕ) = w.resize.new.self in
          let short = w.if-len-index.true in
          let size = c.len.ensures in
          let is : new.items ≡ take (c.args.index + 1) row.items ++ replicate ((c.args.index + 1) - vec_len row) None = w.in_ok-resize.ensures.items in
          let long = w.in_ok-resize.ensures.len in
          rows-kept rows k c.args.index c.args.offset (with_item c.if-len-index.kept c.args.index c.args.offset) c.if-len-index.kept.items within
          (let same = ap (λ (y : Vec (Option ℕ)). length y.items) w.kept-is in omega (arith, same, long)) refl
          (λ n. ap (λ (y : Vec (Option ℕ)). get_or y.items n None) w.kept-is ∙ ap (λ xs. get_or xs n None) is ∙ item-resized row.items (c.args.index + 1) ((c.args.index + 1) - vec_len row) n (omega (arith, short, size)) ∙ before n)
      | else-len-index w ↦
          let there = w.if-len-index.false in
          let size = c.len.ensures in
          rows-kept rows k c.args.index c.args.offset (with_item c.if-len-index.kept c.args.index c.args.offset) c.if-len-index.kept.items within
          (let same = ap (λ (y : Vec (Option ℕ)). length y.items) w.kept-is in omega (arith, same, there, size)) refl
          (λ n. ap (λ (y : Vec (Option ℕ)). get_or y.items n None) w.kept-is ∙ before n)
    ]
