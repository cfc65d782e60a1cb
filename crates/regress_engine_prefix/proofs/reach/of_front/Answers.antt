use Rattle.std.proofs.Common.{sym, ap, ◌∙◌, slice_get}
use Rattle.regress_engine_prefix.proofs.ReachLemmas.{Reaches-unknown, Reaches-bytes}
use Rattle.regress_engine_prefix.proofs.reach.of_front.Goals as goal

pub returns-in-Some : goal.returns-in-Some
returns-in-Some c = λ t told. Reaches-bytes c.args.bytes c.in-Some.byte.now t (sym (c.in-Some.ensures.value ∙ ap (λ xs. slice_get xs 0) c.deref.ensures.value)) told

pub returns : goal.returns
returns c = λ t told. Reaches-unknown t
