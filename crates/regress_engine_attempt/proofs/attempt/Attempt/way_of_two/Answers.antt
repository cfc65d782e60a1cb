use Rattle.std.proofs.Common.{rules, ◌≡◌, ◌<◌, true, Some, sym, subst}
use Rattle.regress_engine_singles.specs.Leads.{lead_ahead}
use Rattle.regress_engine_attempt.specs.Attempts.{world}
use Rattle.regress_engine_trying.specs.Trying.{IsWayIn}
use Rattle.regress_engine_attempt.proofs.TabledLemmas.{way-told}
use Rattle.regress_engine_attempt.proofs.attempt.Attempt.way_of_two.Goals as goal

pub returns-in-Some : goal.returns-in-Some
returns-in-Some g c =
    let w = world g.Input.InputIndexer.view c.args.self.now in
    let small : c.in-Some.byte < 256 = search rules in
    let ahead : Some c.in-Some.byte ≡ lead_ahead w.view c.args.offset = search rules in
    subst (λ b. IsWayIn w b c.args.offset c.args.at c.way_from.result) (sym c.if-forward.true)
    (subst (IsWayIn w true c.args.offset c.args.at) (sym c.way_from.ensures)
    (way-told c.args.self.now.program.now w.view (g.met.Input.InputIndexer.are_of_kind c.args.self.now.input) c.requires.suits c.args.offset c.in-Some.byte small ahead c.args.at))

pub returns : goal.returns
returns g c =
    subst (λ b. IsWayIn (world g.Input.InputIndexer.view c.args.self.now) b c.args.offset c.args.at c.way_behind.result) (sym c.if-forward.false) c.way_behind.ensures
