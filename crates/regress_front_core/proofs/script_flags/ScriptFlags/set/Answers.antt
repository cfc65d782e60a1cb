use Rattle.std.proofs.Math.Bool.{or-false, or-true}
use Rattle.std.proofs.lemmas.List.Folds.{list_any-append}
use Rattle.regress_front_core.proofs.script_flags.ScriptFlags.set.Goals as goal
use Rattle.regress_front_core.proofs.script_flags.ScriptFlags.set.Goals.{in-d, in-g, in-i, in-m, in-s, in-u, in-v, in-y}

pub returns-clause-set : goal.returns-clause-set
returns-clause-set c = λ before is.
    elim c.match-letter.branch [
      | in-d w ↦ simp (w.self-is, w.replace-was_set.ensures.after, is, w.in-d.is, list_any-append, or-false, or-true)
      | in-g w ↦ simp (w.self-is, w.replace-was_set-in-g.ensures.after, is, w.in-g.is, list_any-append, or-false, or-true)
      | in-i w ↦ simp (w.self-is, w.replace-was_set-in-i.ensures.after, is, w.in-i.is, list_any-append, or-false, or-true)
      | in-m w ↦ simp (w.self-is, w.replace-was_set-in-m.ensures.after, is, w.in-m.is, list_any-append, or-false, or-true)
      | in-s w ↦ simp (w.self-is, w.replace-was_set-in-s.ensures.after, is, w.in-s.is, list_any-append, or-false, or-true)
      | in-u w ↦ simp (w.self-is, w.replace-was_set-in-u.ensures.after, is, w.in-u.is, list_any-append, or-false, or-true)
      | in-v w ↦ simp (w.self-is, w.replace-was_set-in-v.ensures.after, is, w.in-v.is, list_any-append, or-false, or-true)
      | in-y w ↦ simp (w.self-is, w.replace-was_set-in-y.ensures.after, is, w.in-y.is, list_any-append, or-false, or-true)
    ]
