use Rattle.std.proofs.Common.{◌≡◌, ℕ, Bool, false, ◌&&◌, [], List, All, map, sym, ap, subst, ◌∙◌}
use Rattle.std.specs.Box.{boxed_slice_items}
use Rattle.std.proofs.lemmas.Result.{IfOk-weaker}
use Rattle.regress_meaning.specs.TableParts.{is_code_point}
use Rattle.regress_meaning.specs.Class.{Strings, value_of, among}
use Rattle.regress_front_sets.specs.Intervals.{ends_of}
use Rattle.regress_front_sets.specs.Sets.{in_set}
use Rattle.regress_front_tables.specs.TableViews.{table}
use Rattle.regress_front_tokens.specs.Trees.{class_view}
use Rattle.regress_front_nodes.specs.Trees.{Tree, tree, bracket}
use Rattle.regress_meaning.specs.Meaning.{closed}
use Rattle.regress_front_tree.specs.Lowering.{HasArms, AreByLength, class_value, class_arms}
use Rattle.regress_front_class_values.specs.ClassValues.{lists}
use Rattle.regress_front_tree.proofs.BracketLemmas.{takes-bracket}
use Rattle.regress_front_class_values.proofs.ClassValueLemmas.{value-points}
use Rattle.regress_front_nodes.proofs.TreeLaws.{tree-Bracket}
use Rattle.regress_front_tree.proofs.brackets.class_node.Goals as goal
use Rattle.regress_front_tree.proofs.brackets.class_node.Goals.{then-unicode, else-unicode}

pub by_length-requires : goal.by_length-requires
by_length-requires c =
    subst (All (All is_code_point)) (sym (ap (λ (v : Strings). v.others) c.in_ok-value.ensures))
    (value-points c.args.tables.now c.if-unicode.class_value (class_view c.args.class.now) c.requires)

pub returns : goal.returns
returns c = λ e is.
    let tables = table c.args.tables.now in
    let cps = c.in_ok-cps.cps in
    let folded : c.if-unicode.class_value ≡ (c.args.unicode && e.icase) = elim c.if-unicode.branch [
      | then-unicode w ↦ w.class_value-is ∙ sym is ∙ ap (λ (b : Bool). b && e.icase) (sym w.if-unicode.true)
      | else-unicode w ↦ w.class_value-is ∙ w.if-unicode.false ∙ ap (λ (b : Bool). b && e.icase) (sym w.if-unicode.false)
    ] in
    let value = c.in_ok-value.ensures ∙ ap (λ (b : Bool). value_of tables b (class_view c.args.class.now)) folded in
    let members : in_set cps ≡ closed tables c.args.unicode e.icase (class_value tables c.args.unicode e (class_view c.args.class.now)).singles =
    c.in_ok-cps.ensures e is ∙ ap (λ (v : Strings). closed tables c.args.unicode e.icase v.singles) value in
    let others : lists c.in_ok-value.value.strings.items ≡ (class_value tables c.args.unicode e (class_view c.args.class.now)).others = ap (λ (v : Strings). v.others) value in
    let strings = map boxed_slice_items c.in_ok-strings.strings.items in
    let characters = bracket false (ends_of cps.intervals.items) in
    let has_empty = c.has_empty-has_empty.ensures ∙ ap (λ ss. among (lists ss) []) c.deref.ensures.value ∙ ap (λ (ss : List (List ℕ)). among ss []) others in
    let arms : map tree c.in_ok-arms.arms.items ≡ class_arms e.icase strings characters (among (class_value tables c.args.unicode e (class_view c.args.class.now)).others []) =
    c.in_ok-arms.ensures
    ∙ ap (λ (t : Tree). class_arms c.args.icase strings t c.has_empty-has_empty.result) (tree-Bracket (record { invert = false; cps = cps }))
    ∙ (λ i. class_arms (sym is i) strings characters (has_empty i)) in
    IfOk-weaker c.alternatives.result _ _ (λ node has. record {
      strings = strings;
      characters = characters;
      by_length = subst (AreByLength strings) others c.in_ok-strings.ensures;
      takes = takes-bracket false cps _ members;
      arms = subst (λ (ts : List Tree). HasArms ts (tree node)) arms has;
    })
    c.alternatives.ensures
