use Rattle.std.proofs.Common.{chars, map-id, rules, sym, ap, ◌∙◌}
use Rattle.std.proofs.iter.runs.Made.{took}
use Rattle.std.proofs.lemmas.Iterator.{YieldsList-from_chars, YieldsList-from_map, items_from_drains}
use Rattle.std.proofs.lemmas.Iterator.Consumers.{YieldsList-at}
use Rattle.regress_front_core.specs.FlagWords.{flags_of}
use Rattle.regress_front_core.proofs.flags.FlagsFromRefStr.from.Goals as goal

pub returns : goal.returns
returns c =
    let (run, from, whole, is) = c.new.ensures in
    let text = c.args.text.now in
    let drained = took run in
    let items = items_from_drains run.items (drained.0, drained.1, λ _. drained.2 whole) (YieldsList-at from
    (YieldsList-from_map _ (λ x. x) (YieldsList-from_chars text c.utf8.text (cc)) c.map.ensures.closure (λ x r q k. search rules))) in
    is ∙ ap flags_of (sym (map-id run.items) ∙ items ∙ map-id (chars text))
