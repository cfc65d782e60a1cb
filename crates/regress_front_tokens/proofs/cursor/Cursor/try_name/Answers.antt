use Rattle.std.proofs.Common.{refl, sym, ap, ◌∙◌, chars}
use Rattle.std.proofs.lemmas.Str.{chars-nil}
use Rattle.regress_meaning.proofs.NameLemmas.{begins-continues}
use Rattle.regress_front_tables.specs.TableViews.{parts, table}
use Rattle.regress_front_tokens.proofs.NameLemmas.{name_at-first, name_at-no_point, name_at-other, behind-point, behind-no_point, behind-other, behind-end, name_pushed}
use Rattle.regress_front_tokens.proofs.ModeLemmas.{any_mode}
use Rattle.regress_front_tokens.proofs.cursor.Cursor.try_name.Goals.{in_default-via-in-Some+else-begins_name, in_default-via-in_default, in_default-name_point-via-in-Some-name_point+else-continues_name, in_default-name_point-via-in_default-name_point}
use Rattle.regress_front_tokens.proofs.cursor.Cursor.try_name.Goals as goal

pub returns-in_default-clause-read : goal.returns-in_default-clause-read
returns-in_default-clause-read c = elim c.in_default.branch [
  | in_default-via-in-Some+else-begins_name w ↦ (name_at-other _ _ _ _ w.in-Some.ensures.read (sym w.begins_name.ensures ∙ w.if-begins_name.false), refl)
  | in_default-via-in_default w ↦ (name_at-no_point _ _ w.in_default.ensures.read.0, refl)
]

pub loop-ahead-init : goal.loop-ahead-init
loop-ahead-init c = record {
  read =
      let begins = sym c.begins_name.ensures ∙ c.if-begins_name.true in
      let none = ap chars c.new-name.ensures.bytes ∙ chars-nil in
      let first = name_pushed (parts c.args.tables.now) c.args.tables.now.lawful _ _ c.in-Some.point c.in_ok-push_point-in-Some.ensures (begins-continues (table c.args.tables.now) c.in-Some.point begins) in
      rw (first, none) (name_at-first _ _ _ _ c.in-Some.ensures.read begins);
  kept = c.in-Some.ensures.kept;
}

pub loop-ahead-smaller : goal.loop-ahead-smaller
loop-ahead-smaller c = (c.reading_leaves_less.ensures any_mode _).name_point _ _ (rw c.loop-ahead-test.ensures.read at c.in-Some-name_point.ensures.read)

pub loop-ahead-preserved : goal.loop-ahead-preserved
loop-ahead-preserved c = record {
  read =
      rw (name_pushed (parts c.args.tables.now) c.args.tables.now.lawful _ _ c.in-Some-name_point.point c.in_ok-push_point-in-Some-name_point.ensures (sym c.continues_name.ensures ∙ c.if-continues_name.true))
      (c.loop-ahead.invariant.read
      ∙ behind-point c.reading_leaves_less.ensures _ _ _ _ _ c.loop-ahead-test.ensures.found (rw c.loop-ahead-test.ensures.read at c.in-Some-name_point.ensures.read) (sym c.continues_name.ensures ∙ c.if-continues_name.true));
  kept = c.in-Some-name_point.ensures.kept ∙ c.loop-ahead-test.ensures.kept ∙ c.loop-ahead.invariant.kept;
}

pub returns-in_default-name_point-clause-read : goal.returns-in_default-name_point-clause-read
returns-in_default-name_point-clause-read c = elim c.in_default-name_point.branch [
  | in_default-name_point-via-in-Some-name_point+else-continues_name w ↦ (
    c.loop-ahead.invariant.read
        ∙ behind-other c.reading_leaves_less.ensures _ _ _ _ _ c.loop-ahead-test.ensures.found (rw c.loop-ahead-test.ensures.read at w.in-Some-name_point.ensures.read) (sym w.continues_name.ensures ∙ w.if-continues_name.false),
    refl,
  )
  | in_default-name_point-via-in_default-name_point w ↦ (
    c.loop-ahead.invariant.read
        ∙ behind-no_point c.reading_leaves_less.ensures _ _ _ c.loop-ahead-test.ensures.found (rw c.loop-ahead-test.ensures.read at w.in_default-name_point.ensures.read.0),
    refl,
  )
]

pub returns-clause-read : goal.returns-clause-read
returns-clause-read c =
    rw c.loop-ahead-test.ensures.read (c.loop-ahead.invariant.read ∙ behind-end c.reading_leaves_less.ensures _ _ _ c.loop-ahead-test.ensures.found)
