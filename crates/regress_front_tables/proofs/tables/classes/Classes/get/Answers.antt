use Rattle.std.proofs.Common.{◌≡◌, ◌-◌, ◌<◌, [], length, get_or, Some, unwrap_or, sym, ap, ◌∙◌, arith}
use Rattle.std.proofs.lemmas.List.{get_or-map}
use Rattle.regress_front_tables.specs.Classes.{members_of, list_numbered}
use Rattle.regress_front_tables.specs.Pages.{number_at}
use Rattle.regress_front_tables.proofs.SharedLemmas.{list_numbered-none, list_numbered-some}
use Rattle.regress_front_tables.proofs.tables.classes.Classes.get.Goals.{in_default-via-in-Some+else-number-gt0, in_default-via-in_default}
use Rattle.regress_front_tables.proofs.tables.classes.Classes.get.Goals as goal

pub returns-in-Some : goal.returns-in-Some
returns-in-Some c =
    let lists = c.args.self.now.lists in
    let k = c.in-Some.number in
    let number : unwrap_or (number_at c.args.self.now.numbers c.args.to) 0 ≡ k = ap (λ o. unwrap_or o 0) (sym c.get.ensures ∙ c.in-Some.is) in
    let within : k - 1 < length lists.items = omega (arith, c.args.self.now.numbered c.args.to, number, c.if-number-gt0.true, lists.ok.0) in
    let there : get_or (members_of lists.items) (k - 1) [] ≡ c.index.result.now.items =
    get_or-map (λ v. v.items) lists.items (k - 1) c.index.result.now [] within ∙ ap (λ v. v.items) (sym c.index.ensures) in
    ap Some (c.as_slice.ensures.value ∙ sym there)
    ∙ sym (ap (list_numbered (members_of lists.items)) number ∙ list_numbered-some (members_of lists.items) k c.if-number-gt0.true)

pub returns-in_default : goal.returns-in_default
returns-in_default c =
    let classes = c.args.self.now in
    elim c.in_default.branch [
      | in_default-via-in-Some+else-number-gt0 w ↦
          let number : unwrap_or (number_at classes.numbers c.args.to) 0 ≡ w.in-Some.number = ap (λ o. unwrap_or o 0) (sym c.get.ensures ∙ w.in-Some.is) in
          sym (list_numbered-none (members_of classes.lists.items) _ (omega (arith, number, w.if-number-gt0.false)))
      | in_default-via-in_default w ↦
          sym (list_numbered-none (members_of classes.lists.items) _ (ap (λ o. unwrap_or o 0) (sym c.get.ensures ∙ w.in_default.is)))
    ]
