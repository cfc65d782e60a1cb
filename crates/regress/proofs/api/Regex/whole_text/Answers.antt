use Rattle.regress_front_bytes.proofs.TextLemmas.{chars-code_points}
use Rattle.regress.proofs.api.Regex.whole_text.Goals as goal

pub whole_text-requires : goal.whole_text-requires
whole_text-requires c = rw (c.deref.ensures.value, c.in_ok-points.ensures) (chars-code_points c.args.pattern.now c.utf8.pattern)

pub returns-clause-accepted : goal.returns-clause-accepted
returns-clause-accepted c = rw (← c.in_ok-points.ensures, ← c.deref.ensures.value) c.in_ok-compiled.ensures.accepted
