use Rattle.std.proofs.Common.{◌≡◌, length}
use Rattle.std.proofs.lemmas.List.Elements.{All-weaker}
use Rattle.regress_meaning.specs.Meaning.{Context, outcomes}
use Rattle.regress_meaning.specs.Laws.{IsInside}
use Rattle.regress_front_tree.proofs.LoweredAlike.{lowered-alike}
use Rattle.regress_front_tree.proofs.alike.lowered_trees_are_alike.Goals as goal

pub returns : goal.returns
returns c table unicode backward e k p t l h text valid =
    let context : Context = record { text = text; table = table; unicode = unicode } in
    lowered-alike context valid
    (λ q dir f s inside. All-weaker (λ r. IsInside text r × (length r.groups ≡ length s.groups)) (IsInside text) (λ r both. both.0) (outcomes context q dir f s) (c.outcomes_stay_inside.ensures context q dir f s inside)) h
