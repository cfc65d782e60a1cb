use Rattle.std.proofs.Common.{◌≡◌, ℕ, List, Bool, ap, ap₂, ◌∙◌, ◌++◌, ◌∷◌, []}
use Rattle.std.proofs.lemmas.Result.{IfOk-weaker}
use Rattle.regress_front_tables.specs.TableViews.{table}
use Rattle.regress_front_sets.specs.Intervals.{ends_of}
use Rattle.regress_front_sets.specs.declared.interval.Interval.{Interval}
use Rattle.regress_meaning.specs.Text.{holds}
use Rattle.regress_front_bytes.specs.ByteSets.{members}
use Rattle.regress_front_bytes.specs.Bitmaps.{ascii_bitmap_contains}
use Rattle.regress_front_nodes.specs.TreeMeaning.{bracket_has}
use Rattle.regress_engine_code.specs.Written.{Written, written}
use Rattle.regress_engine_code.proofs.EmitLemmas.{AddsTree-bracket, AddsTree-ascii_bracket}
use Rattle.regress_engine_code.proofs.emitter.Emitter.bracket.Goals as goal

pub returns-in-Some-clause-added : goal.returns-in-Some-clause-added
returns-in-Some-clause-added c =
    let contents = c.args.contents.now in
    let intervals = ends_of contents.cps.intervals.items in
    let cs = members (ascii_bitmap_contains c.in-Some.bitmap) in
    let same : (x : ℕ) → holds cs x ≡ bracket_has contents.invert intervals x = rw c.in-Some.is at c.ascii_bitmap.ensures in
    IfOk-weaker c.push.result _ _
    (λ _ told backward. AddsTree-ascii_bracket c.args.self.now.units (table c.args.self.now.tables.now) c.args.self.now.unicode backward contents.invert intervals cs
    (written c.args.code.now) (written c.push.new.self) same told)
    c.push.ensures.ok

pub returns-clause-added : goal.returns-clause-added
returns-clause-added c =
    let contents = c.args.contents.now in
    let w = written c.args.code.now in
    IfOk-weaker c.push-2.result _ _
    (λ _ told backward. AddsTree-bracket c.args.self.now.units (table c.args.self.now.tables.now) c.args.self.now.unicode backward contents.invert (ends_of contents.cps.intervals.items)
    c.in_ok-index.index w (written c.add_bracket.new.self) (written c.push-2.new.self) c.in_ok-index.ensures.index
    (c.in_ok-index.ensures.added ∙ ap (λ (x : Bool × List (ℕ × ℕ)). let v : Written = record w { brackets = w.brackets ++ x ∷ [] } in v) (ap₂ (λ (b : Bool) (is : List Interval). (b, ends_of is)) c.in_ok-copy.ensures.0 c.in_ok-copy.ensures.1)) told)
    c.push-2.ensures.ok
