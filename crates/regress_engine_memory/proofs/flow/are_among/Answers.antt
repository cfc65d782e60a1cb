use Rattle.std.proofs.Common.{drop, length, sym, ◌∙◌}
use Rattle.std.proofs.lemmas.Bool.Decides.{Decides-eqb}
use Rattle.std.proofs.lemmas.Slice.Eq.{starts_is}
use Rattle.regress_engine_memory.proofs.ClassLemmas.{front-among}
use Rattle.regress_engine_memory.proofs.flow.are_among.Goals as goal

pub returns-then-starts_with : goal.returns-then-starts_with
returns-then-starts_with c =
    let some = c.args.some.now in
    let others = c.args.others.now in
    c.if-starts_with.true
    ∙ sym (front-among others some (drop (length some) others) ((starts_is Decides-eqb others some _ c.starts_with.ensures.value).0 c.if-starts_with.true))
