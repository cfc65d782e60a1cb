use Rattle.std.proofs.Common.{◌≡◌, Bool, true, ◌&&◌, sym, ap, ◌∙◌}
use Rattle.regress_meaning.specs.Class.{Strings, value_of}
use Rattle.regress_front_sets.specs.Sets.{in_set}
use Rattle.regress_front_tables.specs.TableViews.{table}
use Rattle.regress_front_tokens.specs.Trees.{class_view}
use Rattle.regress_meaning.specs.Meaning.{closed}
use Rattle.regress_front_tree.specs.Lowering.{class_value}
use Rattle.regress_front_tree.proofs.BracketLemmas.{takes-bracket}
use Rattle.regress_front_nodes.proofs.TreeLaws.{tree-Bracket}
use Rattle.regress_front_tree.proofs.brackets.negated_class_node.Goals as goal
use Rattle.regress_front_tree.proofs.brackets.negated_class_node.Goals.{then-unicode, else-unicode}

pub returns : goal.returns
returns c = λ e is.
    let tables = table c.args.tables.now in
    let folded : c.if-unicode.class_value ≡ (c.args.unicode && e.icase) = elim c.if-unicode.branch [
      | then-unicode w ↦ w.class_value-is ∙ sym is ∙ ap (λ (b : Bool). b && e.icase) (sym w.if-unicode.true)
      | else-unicode w ↦ w.class_value-is ∙ w.if-unicode.false ∙ ap (λ (b : Bool). b && e.icase) (sym w.if-unicode.false)
    ] in
    let value = c.in_ok-value.ensures ∙ ap (λ (b : Bool). value_of tables b (class_view c.args.class.now)) folded in
    let members : in_set c.in_ok-members.members ≡ closed tables c.args.unicode e.icase (class_value tables c.args.unicode e (class_view c.args.class.now)).singles =
    c.in_ok-members.ensures e is ∙ ap (λ (v : Strings). closed tables c.args.unicode e.icase v.singles) value in
    rw tree-Bracket (takes-bracket true c.in_ok-members.members _ members)
