use Rattle.std.proofs.Common.{ℕ, List, sym, ◌∙◌, subst}
use Rattle.regress_front_bytes.specs.declared.bitmaps.ByteBitmap.{ByteBitmap}
use Rattle.regress_engine_analysis.specs.Planned.{IsSo, known_of}
use Rattle.regress_engine_analysis.specs.Shared.{shared}
use Rattle.regress_engine_analysis.proofs.ways.add_ways.Goals as goal

pub loop-at-preserved : goal.loop-at-preserved
loop-at-preserved c =
    let same = c.loop-at.invariant.same in
    record {
      same = c.in_ok-add_table.ensures.first ∙ same;
      known = λ program is so.
          subst (λ (sets : List ByteBitmap). (k : ℕ) → IsSo program sets c.add_table.new.tables.items k (known_of (shared c.add_table.new.facts) k)) same
          (c.in_ok-add_table.ensures.known program is
          (subst (λ (sets : List ByteBitmap). (k : ℕ) → IsSo program sets c.loop-at.tables.items k (known_of (shared c.loop-at.facts) k)) (sym same)
          (c.loop-at.invariant.known program is so)));
    }
