use Rattle.std.proofs.Common.{ℕ, List, Option, Some, map, option_map, sym, ap, ◌∙◌, refl, arith}
use Rattle.std.proofs.lemmas.List.{map-set, set_past, length-map}
use Rattle.regress_meaning.specs.Meaning.{State}
use Rattle.regress_evaluator.specs.PlaceViews.{ends}
use Rattle.regress_evaluator.proofs.state.State.capture.Goals as goal

pub returns-in-Some : goal.returns-in-Some
returns-in-Some c =
    let groups = c.args.self.now.groups.items in
    let at : List (Option (ℕ × ℕ)) → State = λ gs. record { place = c.args.self.now.place; groups = gs } in
    ap at (map-set (option_map ends) groups c.from.result (Some (record { start = c.min-start.result; end = c.max-end.result }))
    ∙ rw (c.from.ensures, c.min-start.ensures, c.max-end.ensures) refl)

pub returns-in_default : goal.returns-in_default
returns-in_default c =
    let groups = c.args.self.now.groups.items in
    let at : List (Option (ℕ × ℕ)) → State = λ gs. record { place = c.args.self.now.place; groups = gs } in
    ap at (sym (set_past (map (option_map ends) groups) c.args.group _
    (omega (arith, length-map groups (option_map ends), c.from.ensures, c.in_default.ensures.item))))
